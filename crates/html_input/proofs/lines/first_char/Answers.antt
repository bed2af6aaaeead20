use Rattle.std.proofs.Common.{sym, ◌∙◌}
use Rattle.html_input.proofs.Walking.{first_is}
use Rattle.html_input.proofs.lines.first_char.Goals as goal

pub returns-in-Some : goal.returns-in-Some
returns-in-Some c = record { first = first_is c.args.text.now _ c.in-Some.c c.len_utf8.result c.utf8.text (sym c.chars.ensures.rest ∙ c.in-Some.ensures.steps.0) c.len_utf8.ensures.value }
