use Rattle.std.proofs.Common.{◌+◌, ◌≤◌, length, ap, subst, refl, sym, ◌∙◌, arith}
use Rattle.html_tree.proofs.Blanks.{blank-new}
use Rattle.html_tree.specs.Proper.{is_foreign_root}
use Rattle.html_arena.specs.Data.{tag_in}
use Rattle.html_arena.specs.Make.{label_for}
use Rattle.html_arena.specs.Tree.{Tree, tag_at}
use Rattle.html_arena.specs.Weight.{weight}
use Rattle.html_arena.specs.declared.data.NewNode.TheVariants.{Element}
use Rattle.html_tree.specs.Inserting.{IsFor}
use Rattle.html_tree.specs.Since.{Grown}
use Rattle.html_tree.specs.States.{State, state_of}
use Rattle.html_tree.specs.Targets.{CanTarget, place_at}
use Rattle.html_tree.proofs.Inserted.{element-tag, new-under_way, own-most, placed-exact, placed-grown, placed-keeps, placed-counted, placed-steps}
use Rattle.html_tree.proofs.Kept.{same-under_way}
use Rattle.html_tree.proofs.OpenTags.{kept-tags}
use Rattle.html_tree.proofs.SearchEnds.{ends-labels, ends-made}
use Rattle.html_tree.proofs.Standing.{plain-seat, seats-as, seats-new}
use Rattle.html_tree.specs.Seats.{is_part}
use Rattle.html_tree.proofs.tree.OpenTree.closed_new.Goals as goal

pub put_new-requires-clause-head_in : goal.put_new-requires-clause-head_in
put_new-requires-clause-head_in c = λ x e. (c.self.invariant.0.head x e).0

pub invariant_of-self : goal.invariant_of-self
invariant_of-self c = (
  same-under_way c.self.inside.stack c.self.inside.stack c.self.inside.list c.self.inside.list c.self.inside.arena c.put_new.new.arena c.self.inside.tokens c.self.inside.head c.self.inside.form c.self.inside.detached
      (ap (λ (v : Tree). v.labels) c.in_err-node.ensures.same) refl (c.put_new.ensures.keeps c.self.inside.list c.self.invariant.0.is_open) c.self.invariant.0,
  ends-labels c.self.inside.stack c.self.inside.p_ends.items c.self.inside.arena c.put_new.new.arena c.self.invariant.1 (ap (λ (v : Tree). v.labels) c.in_err-node.ensures.same),
  seats-as c.self.inside.arena c.put_new.new.arena c.self.inside.stack (ap (λ (v : Tree). v.labels) c.in_err-node.ensures.same) (ap (λ (v : Tree). v.parents) c.in_err-node.ensures.same) c.self.invariant.2,
)

pub invariant_of-self-2 : goal.invariant_of-self-2
invariant_of-self-2 c = (
  new-under_way c.self.inside.stack c.self.inside.list c.self.inside.arena c.put_new.new.arena (place_at c.self.inside.arena c.self.inside.stack c.self.inside.head c.args.target) (Element c.args.name c.args.attrs c.args.origin) (length c.self.inside.stack + 3) c.self.inside.tokens c.args.next c.self.inside.head c.self.inside.form c.self.inside.detached c.self.inside.stack refl c.in_ok-node.ensures.new (c.put_new.ensures.keeps c.self.inside.list c.self.invariant.0.is_open)
      (own-most c.self.inside.arena c.args.name c.args.attrs c.args.origin c.self.inside.tokens c.args.next (subst (λ (a : State). IsFor c.args.origin a.tokens c.args.next) (sym c.self.view_is) c.requires.own)) (subst (λ (a : State). a.tokens ≤ c.args.next) (sym c.self.view_is) c.requires.next) c.self.invariant.0,
  ends-made c.self.inside.stack c.self.inside.p_ends.items c.self.inside.arena c.put_new.new.arena _ _ _ c.self.invariant.1 c.self.invariant.0.is_open.stack_in c.in_ok-node.ensures.new,
  seats-new c.self.inside.stack c.self.inside.list c.self.inside.arena c.put_new.new.arena c.args.target (Element c.args.name c.args.attrs c.args.origin) (length c.self.inside.stack + 3) c.self.inside.tokens c.self.inside.head c.self.inside.form c.self.inside.detached c.in_ok-node.ensures.new c.put_new.ensures.well_formed.1 c.self.invariant.0
      (subst (λ (a : State). CanTarget a.stack c.args.target) (sym c.self.view_is) c.requires.target) (plain-seat (state_of c.self.inside.stack c.self.inside.list c.self.inside.arena c.self.inside.tokens c.self.inside.head c.self.inside.form c.self.inside.detached) (tag_in (label_for c.self.inside.arena (Element c.args.name c.args.attrs c.args.origin))) c.args.target (ap is_part (element-tag c.self.inside.arena c.args.name c.args.attrs c.args.origin) ∙ c.requires.part)) c.self.invariant.2,
)

pub returns-clause-exact : goal.returns-clause-exact
returns-clause-exact c = placed-exact c.args.self.now c.self.inside.stack c.self.inside.list c.self.inside.arena c.put_new.new.arena c.args.target (Element c.args.name c.args.attrs c.args.origin) (length c.self.inside.stack + 3) c.self.inside.tokens c.args.next c.self.inside.head c.self.inside.form c.self.inside.detached c.self.view_is c.in_ok-node.ensures.new

pub returns-clause-steps : goal.returns-clause-steps
returns-clause-steps c = placed-steps c.args.self.now c.self.inside.stack c.self.inside.list c.self.inside.arena c.put_new.new.arena c.args.target (Element c.args.name c.args.attrs c.args.origin) (length c.self.inside.stack + 3) c.self.inside.tokens c.args.next c.self.inside.head c.self.inside.form c.self.inside.detached c.self.view_is c.in_ok-node.ensures.new (omega arith)

pub returns-clause-counted : goal.returns-clause-counted
returns-clause-counted c = placed-counted c.args.self.now c.self.inside.stack c.self.inside.list c.self.inside.arena c.put_new.new.arena c.args.target (Element c.args.name c.args.attrs c.args.origin) (length c.self.inside.stack + 3) c.self.inside.tokens c.args.next c.self.inside.head c.self.inside.form c.self.inside.detached c.self.view_is c.in_ok-node.ensures.new c.in_ok-node.ensures.steps

pub returns-clause-keeps : goal.returns-clause-keeps
returns-clause-keeps c = placed-keeps c.args.self.now c.self.inside.stack c.self.inside.list c.self.inside.arena c.put_new.new.arena c.args.target (Element c.args.name c.args.attrs c.args.origin) (length c.self.inside.stack + 3) c.self.inside.tokens c.args.next c.self.inside.head c.self.inside.form c.self.inside.detached c.self.view_is c.in_ok-node.ensures.new (ap is_foreign_root (element-tag c.self.inside.arena c.args.name c.args.attrs c.args.origin) ∙ c.requires.name) (blank-new c.self.inside.arena c.put_new.new.arena (place_at c.self.inside.arena c.self.inside.stack c.self.inside.head c.args.target) (Element c.args.name c.args.attrs c.args.origin) (length c.self.inside.stack + 3) c.in_ok-node.ensures.new).childless (subst (λ (a : State). CanTarget a.stack c.args.target) (sym c.self.view_is) c.requires.target) (subst (λ (a : State). a.tokens ≤ c.args.next) (sym c.self.view_is) c.requires.next) c.self.invariant.0

pub returns-clause-grown : goal.returns-clause-grown
returns-clause-grown c =
    subst (λ (a : State). Grown 2 0 0 (weight (label_for a.tree (Element c.args.name c.args.attrs c.args.origin))) c.args.self.now (state_of c.self.inside.stack c.self.inside.list c.put_new.new.arena (c.args.next) c.self.inside.head c.self.inside.form c.self.inside.detached)) c.self.view_is (placed-grown c.args.self.now c.self.inside.stack c.self.inside.list c.self.inside.arena c.put_new.new.arena c.args.target (Element c.args.name c.args.attrs c.args.origin) (length c.self.inside.stack + 3) c.self.inside.tokens c.args.next c.self.inside.head c.self.inside.form c.self.inside.detached c.self.view_is c.in_ok-node.ensures.new)

pub returns-clause-tag : goal.returns-clause-tag
returns-clause-tag c =
    let longer = c.in_ok-node.ensures.new.laws.longer in
    let id = c.in_ok-node.ensures.id in (
      omega (arith, longer, id),
      ap (λ x. tag_at c.put_new.new.arena x) id ∙ ap tag_in c.in_ok-node.ensures.new.laws.label_is ∙ element-tag c.self.inside.arena c.args.name c.args.attrs c.args.origin,
    )

pub returns-clause-tags : goal.returns-clause-tags
returns-clause-tags c = kept-tags c.args.self.now _ c.self.inside.stack c.self.inside.list c.self.inside.arena c.self.inside.tokens c.self.inside.head c.self.inside.form c.self.inside.detached c.self.view_is c.self.invariant.0 (returns-clause-keeps c) refl
