-- The hexadecimal digits of a code point that are left.
use Rattle.std.proofs.Common.{◌≡◌, ℕ, ◌-◌, List, length, take, drop, sym, ap, subst, ◌∙◌}
use Rattle.std.proofs.lemmas.List.{take_rest}
use Rattle.html_device.specs.Codes.{code_digits, code_text, leading_zeros}

pub digits_left : (c : ℕ) (d : List ℕ) (n : ℕ) → d ≡ code_digits c → n ≡ leading_zeros c → code_text c ≡ take (6 - n) (drop n d)
unfolding code_text
digits_left c d n e f =
    let six : length d ≡ 6 = ap length e in
    sym (subst (λ k. take (k - n) (drop n d) ≡ drop n d) six (take_rest d n) ∙ ap (λ l. drop n l) e ∙ ap (λ k. drop k (code_digits c)) f)
