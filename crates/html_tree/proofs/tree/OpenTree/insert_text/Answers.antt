use Rattle.std.proofs.Common.{◌+◌, ◌<◌, length, ap, subst, refl, sym, arith}
use Rattle.html_tree.proofs.Blanks.{blank-new}
use Rattle.html_arena.specs.Tree.{Tree}
use Rattle.html_arena.specs.declared.data.NewNode.TheVariants.{Text}
use Rattle.html_tree.specs.declared.groups.Target.TheVariants as target
use Rattle.html_tree.specs.States.{State, state_of}
use Rattle.html_tree.specs.Targets.{place_at}
use Rattle.html_tree.proofs.Inserted.{new-under_way, placed-same, placed-keeps, placed-counted, placed-steps}
use Rattle.html_tree.specs.Texts.{IsFree}
use Rattle.html_tree.proofs.Texted.{new-free, text-own}
use Rattle.html_tree.proofs.Kept.{same-under_way}
use Rattle.html_tree.proofs.OpenTags.{kept-tags}
use Rattle.html_tree.proofs.SearchEnds.{ends-labels, ends-made}
use Rattle.html_tree.proofs.Standing.{plain-seat, seats-as, seats-new}
use Rattle.html_names.specs.declared.tag.Tag.TheVariants as tag
use Rattle.html_tree.proofs.tree.OpenTree.insert_text.Goals as goal

pub put_new-requires-clause-head_in : goal.put_new-requires-clause-head_in
put_new-requires-clause-head_in c = λ x e. (c.self.invariant.0.head x e).0

pub invariant_of-self : goal.invariant_of-self
invariant_of-self c = (
  same-under_way c.self.inside.stack c.self.inside.stack c.self.inside.list c.self.inside.list c.self.inside.arena c.put_new.new.arena c.self.inside.tokens c.self.inside.head c.self.inside.form c.self.inside.detached
      (ap (λ (v : Tree). v.labels) c.in_err-node.ensures.same) refl (c.put_new.ensures.keeps c.self.inside.list c.self.invariant.0.is_open) c.self.invariant.0,
  ends-labels c.self.inside.stack c.self.inside.p_ends.items c.self.inside.arena c.put_new.new.arena c.self.invariant.1 (ap (λ (v : Tree). v.labels) c.in_err-node.ensures.same),
  seats-as c.self.inside.arena c.put_new.new.arena c.self.inside.stack (ap (λ (v : Tree). v.labels) c.in_err-node.ensures.same) (ap (λ (v : Tree). v.parents) c.in_err-node.ensures.same) c.self.invariant.2,
)

pub invariant_of-self-2 : goal.invariant_of-self-2
invariant_of-self-2 c = (
  new-under_way c.self.inside.stack c.self.inside.list c.self.inside.arena c.put_new.new.arena (place_at c.self.inside.arena c.self.inside.stack c.self.inside.head (target.Current c.args.foster)) Text (length c.self.inside.stack + 3) c.self.inside.tokens c.self.inside.tokens c.self.inside.head c.self.inside.form c.self.inside.detached c.self.inside.stack refl c.in_ok-node.ensures.new (c.put_new.ensures.keeps c.self.inside.list c.self.invariant.0.is_open)
      (λ i e. text-own c.self.inside.tokens i e) (omega arith) c.self.invariant.0,
  ends-made c.self.inside.stack c.self.inside.p_ends.items c.self.inside.arena c.put_new.new.arena _ _ _ c.self.invariant.1 c.self.invariant.0.is_open.stack_in c.in_ok-node.ensures.new,
  seats-new c.self.inside.stack c.self.inside.list c.self.inside.arena c.put_new.new.arena (target.Current c.args.foster) Text (length c.self.inside.stack + 3) c.self.inside.tokens c.self.inside.head c.self.inside.form c.self.inside.detached c.in_ok-node.ensures.new c.put_new.ensures.well_formed.1 c.self.invariant.0 (subst (λ (a : State). 0 < length a.stack) (sym c.self.view_is) c.requires.opened) (plain-seat (state_of c.self.inside.stack c.self.inside.list c.self.inside.arena c.self.inside.tokens c.self.inside.head c.self.inside.form c.self.inside.detached) tag.Other (target.Current c.args.foster) refl) c.self.invariant.2,
)

pub returns-clause-exact : goal.returns-clause-exact
returns-clause-exact c = placed-same c.args.self.now c.self.inside.stack c.self.inside.list c.self.inside.arena c.put_new.new.arena (target.Current c.args.foster) Text (length c.self.inside.stack + 3) c.self.inside.tokens c.self.inside.tokens c.self.inside.head c.self.inside.form c.self.inside.detached c.self.view_is c.in_ok-node.ensures.new

pub returns-clause-steps : goal.returns-clause-steps
returns-clause-steps c = placed-steps c.args.self.now c.self.inside.stack c.self.inside.list c.self.inside.arena c.put_new.new.arena (target.Current c.args.foster) Text (length c.self.inside.stack + 3) c.self.inside.tokens c.self.inside.tokens c.self.inside.head c.self.inside.form c.self.inside.detached c.self.view_is c.in_ok-node.ensures.new (omega arith)

pub returns-clause-counted : goal.returns-clause-counted
returns-clause-counted c = placed-counted c.args.self.now c.self.inside.stack c.self.inside.list c.self.inside.arena c.put_new.new.arena (target.Current c.args.foster) Text (length c.self.inside.stack + 3) c.self.inside.tokens c.self.inside.tokens c.self.inside.head c.self.inside.form c.self.inside.detached c.self.view_is c.in_ok-node.ensures.new c.in_ok-node.ensures.steps

pub returns-clause-keeps : goal.returns-clause-keeps
returns-clause-keeps c = placed-keeps c.args.self.now c.self.inside.stack c.self.inside.list c.self.inside.arena c.put_new.new.arena (target.Current c.args.foster) Text (length c.self.inside.stack + 3) c.self.inside.tokens c.self.inside.tokens c.self.inside.head c.self.inside.form c.self.inside.detached c.self.view_is c.in_ok-node.ensures.new refl (blank-new c.self.inside.arena c.put_new.new.arena (place_at c.self.inside.arena c.self.inside.stack c.self.inside.head (target.Current c.args.foster)) Text (length c.self.inside.stack + 3) c.in_ok-node.ensures.new).childless (subst (λ (a : State). 0 < length a.stack) (sym c.self.view_is) c.requires.opened) (omega arith) c.self.invariant.0

pub returns-clause-free : goal.returns-clause-free
returns-clause-free c =
    subst (λ x. IsFree (state_of c.self.inside.stack c.self.inside.list c.put_new.new.arena c.self.inside.tokens c.self.inside.head c.self.inside.form c.self.inside.detached) x) (sym c.in_ok-node.ensures.id)
    (new-free c.self.inside.stack c.self.inside.list c.self.inside.arena c.put_new.new.arena c.self.inside.tokens (length c.self.inside.stack + 3) c.self.inside.head c.self.inside.form c.self.inside.detached c.args.foster c.self.invariant.0 c.forest.ensures.well_formed (subst (λ (a : State). 0 < length a.stack) (sym c.self.view_is) c.requires.opened) c.in_ok-node.ensures.new)

pub returns-clause-tags : goal.returns-clause-tags
returns-clause-tags c = kept-tags c.args.self.now _ c.self.inside.stack c.self.inside.list c.self.inside.arena c.self.inside.tokens c.self.inside.head c.self.inside.form c.self.inside.detached c.self.view_is c.self.invariant.0 (returns-clause-keeps c) refl
