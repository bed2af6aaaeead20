use Rattle.std.proofs.Common.{◌≡◌, Bool, true, false, not, Option, Some, None, refl, sym, ◌∙◌, ap, ℕ}
use Rattle.html_names.specs.declared.sets.Scope.TheVariants as scope
use Rattle.html_names.specs.declared.tag.Tag.TheVariants as tag
use Rattle.html_tree.specs.declared.groups.Group.TheVariants as group
use Rattle.html_tree.specs.declared.groups.Stop.TheVariants as stop
use Rattle.html_tree.specs.Searching.{found}
use Rattle.html_tree.specs.States.{State}
use Rattle.html_tree.proofs.SearchEnds.{ends-in, finds-p, lacks-p}
use Rattle.html_tree.proofs.tree.OpenTree.lacks_p.Goals as goal

pub is_last_p-requires : goal.is_last_p-requires
is_last_p-requires c = ends-in c.self.inside.stack c.as_slice.result.now c.self.inside.arena (c.as_slice.ensures.value ∙ c.self.invariant.1) c.self.invariant.0.is_open.stack_in

not-true : (b : Bool) → not b ≡ true → b ≡ false
not-true true h = sym h
not-true false h = refl

not-false : (b : Bool) → not b ≡ false → b ≡ true
not-false true h = refl
not-false false h = sym h

none-some : (o : Option ℕ) (i : ℕ) → o ≡ None → o ≡ Some i → ⊥
none-some o i e f = absurd (let k : None ≡ Some i = sym e ∙ f in cc)

pub returns-then-not-is_empty-clause-none : goal.returns-then-not-is_empty-clause-none
returns-then-not-is_empty-clause-none c = λ h.
    ap (λ (a : State). found a (group.Named tag.P) (stop.EndOf scope.Button)) (sym c.self.view_is)
    ∙ lacks-p c.self.inside.stack c.as_slice.result.now c.self.inside.arena (c.as_slice.ensures.value ∙ c.self.invariant.1) c.self.invariant.0.first (c.is_empty.ensures.no c.if-not-is_empty.true)
    (sym c.is_last_p.ensures ∙ not-true c.is_last_p.result h)

pub returns-then-not-is_empty-clause-only : goal.returns-then-not-is_empty-clause-only
returns-then-not-is_empty-clause-only c = λ h n.
    (let k = finds-p c.self.inside.stack c.as_slice.result.now c.self.inside.arena (c.as_slice.ensures.value ∙ c.self.invariant.1) c.self.invariant.0.first (c.is_empty.ensures.no c.if-not-is_empty.true)
    (sym c.is_last_p.ensures ∙ not-false c.is_last_p.result h) in
    absurd (none-some (found c.args.self.now (group.Named tag.P) (stop.EndOf scope.Button)) k.0 n (ap (λ (a : State). found a (group.Named tag.P) (stop.EndOf scope.Button)) (sym c.self.view_is) ∙ k.1)))
