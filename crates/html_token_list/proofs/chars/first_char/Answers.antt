use Rattle.std.proofs.Common.{◌++◌, sym, ap, ◌∙◌}
use Rattle.std.specs.Char.{encode_utf8}
use Rattle.std.proofs.lemmas.Str.{chars_past_char}
use Rattle.html_token_list.proofs.chars.first_char.Goals as goal

pub returns-clause-some : goal.returns-clause-some
returns-clause-some c =
    chars_past_char c.args.text.now c.as_str.result.now c.in_ok-c.c c.utf8.text
    (sym c.chars-chars.ensures.rest ∙ c.in_ok-c.ensures.steps.0 ∙ ap (λ bs. encode_utf8 c.in_ok-c.c ++ bs) (sym c.as_str.ensures))
