use Rattle.std.proofs.Common.{ap}
use Rattle.html_parser.specs.declared.error.ParseError.TheVariants.{StepBudget}
use Rattle.html_parser.proofs.stages.Stages.check_steps.Goals as goal

pub returns-then-is_spent-clause-cause : goal.returns-then-is_spent-clause-cause
returns-then-is_spent-clause-cause c = λ limit finished bytes text d.
    (ap StepBudget (c.next_place-at.ensures limit finished bytes text d), c.is_spent.ensures.spent c.if-is_spent.true)
