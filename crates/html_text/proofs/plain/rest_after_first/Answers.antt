use Rattle.std.proofs.Common.{◌++◌, ◌∙◌, ap, encode_utf8, sym}
use Rattle.html_text.proofs.PlainTexts.{cut-first}
use Rattle.html_text.proofs.plain.rest_after_first.Goals as goal

pub returns-in-Some : goal.returns-in-Some
returns-in-Some c =
    cut-first c.args.text.now c.as_str.result.now c.in-Some.field-0 c.utf8.text
    (sym c.chars-chars.ensures.rest ∙ c.in-Some.ensures.steps.0 ∙ ap (λ bs. encode_utf8 c.in-Some.field-0 ++ bs) (sym c.as_str.ensures))
