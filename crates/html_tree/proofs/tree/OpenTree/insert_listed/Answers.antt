use Rattle.std.proofs.Common.{◌+◌, length, ◌∙◌, subst, sym, refl, arith}
use Rattle.html_tree.proofs.Kept.{formatting-opens}
use Rattle.html_tree.specs.Targets.{target_steps}
use Rattle.std.proofs.lemmas.Result.{err_from_is_err_and}
use Rattle.html_arena.specs.declared.data.NewNode.TheVariants.{Element}
use Rattle.html_arena.specs.declared.data.Origin.TheVariants.{Token}
use Rattle.html_arena.specs.declared.arena.ArenaError.TheVariants.{OutOfMemory}
use Rattle.html_tree.specs.Inserting.{IsLack, IsRefused, with_new, with_open}
use Rattle.html_tree.specs.declared.groups.Target.TheVariants as target
use Rattle.html_tree.specs.Targets.{place_for}
use Rattle.html_tree.proofs.Listed.{enlisted-counted, enlisted-exact, enlisted-steps}
use Rattle.html_tree.proofs.OpenTags.{always-err, reopened-one}
use Rattle.html_names.specs.Names.{tag_of}
use Rattle.html_tree.proofs.Seating.{formatting-plain}
use Rattle.html_tree.proofs.Standing.{plain-seat}
use Rattle.html_tree.proofs.tree.OpenTree.insert_listed.Goals as goal

pub open_new-requires-clause-seat : goal.open_new-requires-clause-seat
open_new-requires-clause-seat c = plain-seat c.args.self.now (tag_of c.args.name) (target.Current c.args.foster) (formatting-plain (tag_of c.args.name) c.requires.formatting)

pub returns-in_err-enlist-clause-cause : goal.returns-in_err-enlist-clause-cause
returns-in_err-enlist-clause-cause c =
    let p = err_from_is_err_and c.from_residual-in_err-enlist.result c.from_residual-in_err-enlist.ensures.1 in
    rw p.1 (subst (λ e. IsRefused c.args.self.now (Element c.args.name c.args.attrs (Token c.args.token)) e) (sym (p.2 ∙ c.in_err-enlist.ensures.cause)) (subst (λ r. IsLack r OutOfMemory) (sym c.in_ok-node.ensures.within) refl))

pub returns-clause-exact : goal.returns-clause-exact
returns-clause-exact c = enlisted-exact c.args.self.now c.open_new.new.self c.enlist.new.self c.in_ok-node.node (length c.args.self.now.tree.labels) (with_open c.args.self.now) (with_new c.args.self.now.tree (place_for c.args.self.now (target.Current c.args.foster)) (Element c.args.name c.args.attrs (Token c.args.token))) (c.args.token + 1) c.in_ok-node.ensures.exact c.in_ok-node.ensures.id c.in_ok-enlist.ensures.exact

pub returns-clause-steps : goal.returns-clause-steps
returns-clause-steps c =
    let s = enlisted-steps c.args.self.now c.open_new.new.self c.enlist.new.self c.in_ok-node.node (length c.args.self.now.tree.labels) (with_open c.args.self.now) (with_new c.args.self.now.tree (place_for c.args.self.now (target.Current c.args.foster)) (Element c.args.name c.args.attrs (Token c.args.token))) (c.args.token + 1) c.in_ok-node.ensures.exact c.in_ok-node.ensures.id (length c.args.self.now.stack + 4) c.in_ok-enlist.ensures.steps (let g = c.in_ok-node.ensures.steps in omega (arith, g)) in
    omega (arith, s)

pub returns-in_err-enlist-clause-refused : goal.returns-in_err-enlist-clause-refused
returns-in_err-enlist-clause-refused c =
    always-err c.from_residual-in_err-enlist.result (reopened-one c.args.self.now c.enlist.new.self (tag_of c.args.name) c.requires.formatting (c.enlist.ensures.tags ∙ c.in_ok-node.ensures.tags))

pub open_new-requires-clause-name : goal.open_new-requires-clause-name
open_new-requires-clause-name c = formatting-opens (tag_of c.args.name) c.requires.formatting

pub returns-clause-counted : goal.returns-clause-counted
returns-clause-counted c =
    enlisted-counted c.args.self.now c.open_new.new.self c.enlist.new.self c.in_ok-node.node (length c.args.self.now.tree.labels) (with_open c.args.self.now) (with_new c.args.self.now.tree (place_for c.args.self.now (target.Current c.args.foster)) (Element c.args.name c.args.attrs (Token c.args.token))) (c.args.token + 1) c.in_ok-node.ensures.exact c.in_ok-node.ensures.id
    (target_steps c.args.self.now.tree c.args.self.now.stack (target.Current c.args.foster) + 3) c.in_ok-enlist.ensures.counted c.in_ok-node.ensures.counted
