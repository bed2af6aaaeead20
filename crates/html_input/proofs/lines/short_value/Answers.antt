use Rattle.std.proofs.Common.{◌≡◌, ℕ, List, length, drop, sym, ap, subst, ◌∙◌, arith}
use Rattle.std.proofs.lemmas.Bool.Decides.{nat_tests}
use Rattle.std.specs.Prelude.{unwrap_or}
use Rattle.std.specs.Str.{IsValidUpTo}
use Rattle.std.specs.Str.Lossy.{utf8_error_len}
use Rattle.html_input.specs.Starts.{IsFirst, StartsShort}
use Rattle.html_input.proofs.Walking.{first_front, starts_char, starts_ill}
use Rattle.html_input.proofs.lines.short_value.Goals as goal

pub returns-in-Ok : goal.returns-in-Ok
returns-in-Ok c = record { starts = starts_char c.args.bytes.now _ _ (subst (λ t. IsFirst t c.first_char.result.0 c.first_char.result.1) c.in-Ok.ensures.cases.0 c.first_char.ensures.first) }

pub returns-then-is_empty : goal.returns-then-is_empty
returns-then-is_empty c =
    let bytes : List ℕ = c.args.bytes.now in
    let len = c.split_at.ensures.front_len in
    let empty = c.if-is_empty.ensures in
    let none : c.valid_up_to.result ≡ 0 = grind (arith, nat_tests) in
    let stop : IsValidUpTo bytes 0 = subst (IsValidUpTo bytes) (sym c.valid_up_to.ensures ∙ none) c.in-Err.ensures.cases.1 in
    let fault : utf8_error_len bytes ≡ c.error_len.result = ap (λ j. utf8_error_len (drop j bytes)) (sym none ∙ c.valid_up_to.ensures) ∙ sym c.in-Err.ensures.fault ∙ sym c.error_len.ensures in
    record { starts = subst (StartsShort bytes 0xFFFD) (ap (λ o. unwrap_or o (length bytes)) fault ∙ sym c.unwrap_or-len.ensures) (starts_ill bytes c.requires.some stop) }

pub returns-else-is_empty : goal.returns-else-is_empty
returns-else-is_empty c =
    let first = c.first_char-else-is_empty.result in
    let front = c.from_utf8_unchecked.ensures ∙ c.split_at.ensures.front in
    record {
      starts = starts_char c.args.bytes.now first.0 first.1 (first_front c.valid_up_to.result c.args.bytes.now first.0 first.1
          (subst (λ t. IsFirst t first.0 first.1) front c.first_char-else-is_empty.ensures.first));
    }
