use Rattle.std.proofs.Common.{◌∷◌, ◌∙◌, ap, arith, length, subst, sym}
use Rattle.html_arena.specs.declared.walk.Event.{Event}
use Rattle.html_arena.specs.Steps.{rest}
use Rattle.html_arena.specs.Walking.{IsUnderWay}
use Rattle.html_arena.proofs.UnderWay.{goes_on}
use Rattle.html_arena.proofs.walk.WalkIterator.next.Goals as goal

pub step_from-following-requires : goal.step_from-following-requires
step_from-following-requires c =
    (goes_on _ _ _ c.self.inside.at c.self.invariant (sym c.is_leave_of.ensures ∙ c.if-is_leave_of.false)).inside

pub invariant_of-self : goal.invariant_of-self
invariant_of-self c =
    subst (λ (e : Event). IsUnderWay c.self.inside.arena.now c.self.inside.show c.self.inside.root e) (sym c.step_from-following.ensures)
    (goes_on _ _ _ c.self.inside.at c.self.invariant (sym c.is_leave_of.ensures ∙ c.if-is_leave_of.false)).later

pub returns-clause-steps : goal.returns-clause-steps
returns-clause-steps c =
    sym c.self.view_is
    ∙ (goes_on _ _ _ c.self.inside.at c.self.invariant (sym c.is_leave_of.ensures ∙ c.if-is_leave_of.false)).split
    ∙ ap (λ (e : Event). c.self.inside.at ∷ rest c.self.inside.show c.self.inside.arena.now c.self.inside.root e) (sym c.step_from-following.ensures)

pub returns-clause-goes : goal.returns-clause-goes
returns-clause-goes c =
    let fewer = ap length (returns-clause-steps c) in
    record { on = λ h. (tt, tt, omega arith); keeps = tt; rests = λ h. tt }
