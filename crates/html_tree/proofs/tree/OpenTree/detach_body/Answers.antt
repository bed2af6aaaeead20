use Rattle.std.proofs.Common.{◌≡◌, ◌∙◌, ap, arith, sym, subst, true, ℕ}
use Rattle.html_names.specs.declared.tag.Tag.TheVariants as tag
use Rattle.html_arena.specs.Tree.{Tree, more, named, parent_of}
use Rattle.std.specs.Prelude.{Some, slice_index}
use Rattle.html_tree.specs.States.{State, state_of}
use Rattle.html_tree.proofs.Kept.{charged-under_way}
use Rattle.html_tree.proofs.Merged.{apart-charged, detached-held, detached-limits, detached-one, detached-since, detached-under_way, detached-steps}
use Rattle.html_tree.proofs.SearchEnds.{ends-labels}
use Rattle.html_tree.proofs.Standing.{seats-as, seats-unlinked}
use Rattle.html_tree.proofs.tree.OpenTree.detach_body.Goals as goal

pub invariant_of-self : goal.invariant_of-self
invariant_of-self c = (
  detached-under_way c.self.inside.stack c.self.inside.list c.at-body.new.arena c.detach.new.self c.self.inside.tokens c.at-body.result c.self.inside.head c.self.inside.form c.self.inside.detached c.detach.ensures.unlinked
      (c.kept_by_edits.ensures.unlinked c.self.inside.stack c.self.inside.list c.at-body.new.arena c.detach.new.self c.at-body.result c.detach.ensures.unlinked (c.at-body.ensures.keeps c.self.inside.list c.self.invariant.0.is_open))
      (subst (λ (v : Tree). named v tag.Body c.at-body.result ≡ true) (sym c.at-body.ensures.steps)
      (subst (λ (x : ℕ). named c.self.inside.arena tag.Body x ≡ true) (sym c.at-body.ensures.node) (subst (λ (a : State). named a.tree tag.Body (slice_index a.stack 1) ≡ true) (sym c.self.view_is) c.requires.body)))
      ((charged-under_way c.self.inside.stack c.self.inside.list c.self.inside.arena c.at-body.new.arena c.self.inside.tokens _ c.self.inside.head c.self.inside.form c.self.inside.detached c.at-body.ensures.steps (c.at-body.ensures.keeps c.self.inside.list c.self.invariant.0.is_open) c.self.invariant.0).is_open.stack_in c.at-body.result c.at-body.ensures.member)
      (charged-under_way c.self.inside.stack c.self.inside.list c.self.inside.arena c.at-body.new.arena c.self.inside.tokens _ c.self.inside.head c.self.inside.form c.self.inside.detached c.at-body.ensures.steps (c.at-body.ensures.keeps c.self.inside.list c.self.invariant.0.is_open) c.self.invariant.0),
  ends-labels c.self.inside.stack c.self.inside.p_ends.items c.self.inside.arena c.detach.new.self c.self.invariant.1 (c.detach.ensures.unlinked.same_labels ∙ ap (λ (v : Tree). v.labels) c.at-body.ensures.steps),
  seats-unlinked c.at-body.new.arena c.detach.new.self c.self.inside.stack c.at-body.result c.detach.ensures.unlinked (seats-as c.self.inside.arena c.at-body.new.arena c.self.inside.stack (ap (λ (v : Tree). v.labels) c.at-body.ensures.steps) (ap (λ (v : Tree). v.parents) c.at-body.ensures.steps) c.self.invariant.2),
)

pub returns-clause-apart : goal.returns-clause-apart
returns-clause-apart c =
    apart-charged c.args.self.now (state_of c.self.inside.stack c.self.inside.list c.detach.new.self c.self.inside.tokens c.self.inside.head c.self.inside.form (Some c.at-body.result)) c.self.inside.stack c.self.inside.list c.self.inside.arena c.at-body.new.arena c.self.inside.tokens _ c.self.inside.head c.self.inside.form c.self.inside.detached c.self.view_is c.at-body.ensures.steps
    (detached-since c.self.inside.stack c.self.inside.list c.at-body.new.arena c.detach.new.self c.self.inside.tokens c.at-body.result c.self.inside.head c.self.inside.form c.self.inside.detached c.detach.ensures.unlinked
    ((c.at-body.ensures.keeps c.self.inside.list c.self.invariant.0.is_open).elements c.at-body.result c.at-body.ensures.member)
    (ap (λ (a : State). a.detached) c.self.view_is ∙ c.requires.once)
    (detached-steps c.at-body.new.arena c.detach.new.self c.at-body.result (parent_of c.at-body.new.arena c.at-body.result) c.detach.ensures.detached))

pub returns-clause-counted : goal.returns-clause-counted
returns-clause-counted c =
    subst (λ (a : State). c.detach.new.self.steps ≡ more a.steps 2) c.self.view_is
    (let one : c.at-body.new.arena.steps ≡ more c.self.inside.arena.steps 1 = ap (λ (v : Tree). v.steps) c.at-body.ensures.steps in
    let two = detached-one c.at-body.new.arena c.detach.new.self c.at-body.result (parent_of c.at-body.new.arena c.at-body.result) c.detach.ensures.detached in
    omega (arith, one, two))

pub returns-clause-same_labels : goal.returns-clause-same_labels
returns-clause-same_labels c = c.detach.ensures.unlinked.same_labels ∙ ap (λ (v : Tree). v.labels) c.at-body.ensures.steps ∙ ap (λ (a : State). a.tree.labels) c.self.view_is

pub returns-clause-same_limits : goal.returns-clause-same_limits
returns-clause-same_limits c =
    detached-limits c.at-body.new.arena c.detach.new.self c.at-body.result (parent_of c.at-body.new.arena c.at-body.result) c.detach.ensures.detached
    ∙ ap (λ (v : Tree). v.limits) c.at-body.ensures.steps ∙ ap (λ (a : State). a.tree.limits) c.self.view_is

pub returns-clause-same_held : goal.returns-clause-same_held
returns-clause-same_held c =
    detached-held c.at-body.new.arena c.detach.new.self c.at-body.result (parent_of c.at-body.new.arena c.at-body.result) c.detach.ensures.detached
    ∙ ap (λ (v : Tree). v.held) c.at-body.ensures.steps ∙ ap (λ (a : State). a.tree.held) c.self.view_is
