use Rattle.std.proofs.Common.{◌≡◌, ap, ◌∙◌, false, arith}
use Rattle.std.specs.Prelude.{◌==◌}
use Rattle.std.proofs.lemmas.Bool.Decides.{nat_tests}
use Rattle.html_input.specs.Decode.{scalar_values, starts_with_line_feed}
use Rattle.html_input.proofs.Steps.{scalar_values-none}
use Rattle.html_input.proofs.Walking.{starts_value}
use Rattle.html_input.proofs.lines.feed_len.Goals as goal

pub returns-else-c-eq10-clause-none : goal.returns-else-c-eq10-clause-none
returns-else-c-eq10-clause-none c = λ _.
    let other = c.if-c-eq10.false in
    let no : c.in-Some.c == 10 ≡ false = grind (arith, nat_tests) in
    ap starts_with_line_feed (starts_value c.args.bytes.now c.in-Some.c c.in-Some.len c.in-Some.ensures.some) ∙ no

pub returns-in-None-clause-none : goal.returns-in-None-clause-none
returns-in-None-clause-none c = λ _. ap (λ t. starts_with_line_feed (scalar_values t)) c.in-None.ensures.none ∙ ap starts_with_line_feed scalar_values-none
