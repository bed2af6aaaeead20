use Rattle.std.proofs.Common.{◌≡◌, false, ◌∙◌, ap, subst, sym}
use Rattle.html_arena.specs.Siblings.{first_of, is_in}
use Rattle.html_tree.proofs.Closings.{removed-exact, removed-grown, removed-keeps, removed-steps, removed-under_way}
use Rattle.html_tree.proofs.OpenTags.{removed-lighter}
use Rattle.html_tree.proofs.SearchEnds.{ends-removed}
use Rattle.html_arena.specs.Tree.{Tree}
use Rattle.html_tree.proofs.Seating.{removed-seated}
use Rattle.html_tree.specs.States.{State, state_of}
use Rattle.html_tree.proofs.Standing.{seats-as}
use Rattle.html_tree.specs.Seats.{AreSeated}
use Rattle.html_tree.specs.OpenTags.{open_tags}
use Rattle.html_tree.proofs.tree.OpenTree.remove_open.Goals as goal

off : (c : goal.After-remove) → is_in c.args.node (first_of c.self.inside.stack) ≡ false
off c = ap (λ v. is_in c.args.node (first_of v)) (sym c.as_slice.ensures) ∙ sym c.is_first.ensures ∙ c.if-not-is_first.true

pub invariant_of-self : goal.invariant_of-self
invariant_of-self c = (
  removed-under_way c.args.self.now c.self.inside.stack c.remove.new.self c.self.inside.list c.self.inside.arena c.remove.new.arena c.self.inside.tokens c.args.node c.self.inside.head c.self.inside.form c.self.inside.detached c.self.view_is c.remove.ensures.stack c.remove.ensures.tree (off c) (c.remove.ensures.keeps c.self.inside.list c.self.invariant.0.is_open) c.self.invariant.0,
  ends-removed c.self.inside.stack c.remove.new.self c.self.inside.p_ends.items c.forget_end.new.ends.items c.self.inside.arena c.remove.new.arena c.args.node (off c) c.remove.ensures.stack (ap (λ (v : Tree). v.labels) c.remove.ensures.tree) c.forget_end.ensures.items c.self.invariant.1,
  record {
    open_elements = removed-seated c.args.self.now (state_of c.remove.new.self c.self.inside.list c.remove.new.arena c.self.inside.tokens c.self.inside.head c.self.inside.form c.self.inside.detached) c.args.node
        (removed-exact c.args.self.now c.self.inside.stack c.remove.new.self c.self.inside.list c.self.inside.arena c.remove.new.arena c.self.inside.tokens c.args.node c.self.inside.head c.self.inside.form c.self.inside.detached c.self.view_is c.remove.ensures.stack c.remove.ensures.tree (off c))
        c.requires.plain (subst (λ (a : State). AreSeated (open_tags a)) c.self.view_is c.self.invariant.2.open_elements);
    parts = (seats-as c.self.inside.arena c.remove.new.arena c.self.inside.stack (ap (λ (v : Tree). v.labels) c.remove.ensures.tree) (ap (λ (v : Tree). v.parents) c.remove.ensures.tree) c.self.invariant.2).parts;
    templates = (seats-as c.self.inside.arena c.remove.new.arena c.self.inside.stack (ap (λ (v : Tree). v.labels) c.remove.ensures.tree) (ap (λ (v : Tree). v.parents) c.remove.ensures.tree) c.self.invariant.2).templates;
  },
)

pub returns-then-not-is_first-clause-exact : goal.returns-then-not-is_first-clause-exact
returns-then-not-is_first-clause-exact c = removed-exact c.args.self.now c.self.inside.stack c.remove.new.self c.self.inside.list c.self.inside.arena c.remove.new.arena c.self.inside.tokens c.args.node c.self.inside.head c.self.inside.form c.self.inside.detached c.self.view_is c.remove.ensures.stack c.remove.ensures.tree (off c)

pub returns-then-not-is_first-clause-steps : goal.returns-then-not-is_first-clause-steps
returns-then-not-is_first-clause-steps c = removed-steps c.args.self.now c.self.inside.stack c.remove.new.self c.self.inside.list c.self.inside.arena c.remove.new.arena c.self.inside.tokens c.args.node c.self.inside.head c.self.inside.form c.self.inside.detached c.self.view_is c.remove.ensures.stack c.remove.ensures.tree (off c)

pub returns-then-not-is_first-clause-keeps : goal.returns-then-not-is_first-clause-keeps
returns-then-not-is_first-clause-keeps c = removed-keeps c.args.self.now c.self.inside.stack c.remove.new.self c.self.inside.list c.self.inside.arena c.remove.new.arena c.self.inside.tokens c.args.node c.self.inside.head c.self.inside.form c.self.inside.detached c.self.view_is c.remove.ensures.stack c.remove.ensures.tree (off c)

pub returns-then-not-is_first-clause-grown : goal.returns-then-not-is_first-clause-grown
returns-then-not-is_first-clause-grown c = removed-grown c.args.self.now c.self.inside.stack c.remove.new.self c.self.inside.list c.self.inside.arena c.remove.new.arena c.self.inside.tokens c.args.node c.self.inside.head c.self.inside.form c.self.inside.detached c.self.view_is c.remove.ensures.stack c.remove.ensures.tree (off c)

pub returns-then-not-is_first-clause-lighter : goal.returns-then-not-is_first-clause-lighter
returns-then-not-is_first-clause-lighter c = removed-lighter c.args.self.now _ c.args.node (returns-then-not-is_first-clause-exact c)
