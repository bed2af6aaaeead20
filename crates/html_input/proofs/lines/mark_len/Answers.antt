use Rattle.std.proofs.Common.{ap, subst, ◌∙◌}
use Rattle.html_input.specs.Count.{BeginsWithMark}
use Rattle.html_input.specs.Decode.{scalar_values}
use Rattle.html_input.proofs.Steps.{scalar_values-none}
use Rattle.html_input.proofs.Walking.{starts_value}
use Rattle.html_input.proofs.lines.mark_len.Goals as goal

pub returns-else-c-eq65279-clause-none : goal.returns-else-c-eq65279-clause-none
returns-else-c-eq65279-clause-none c = λ _ mark.
    c.if-c-eq65279.false (subst BeginsWithMark (starts_value c.args.bytes.now c.in-Some.c c.in-Some.len c.in-Some.ensures.some) mark)

pub returns-in-None-clause-none : goal.returns-in-None-clause-none
returns-in-None-clause-none c = λ _ mark. subst BeginsWithMark (ap scalar_values c.in-None.ensures.none ∙ scalar_values-none) mark
