-- So many spaces, put one piece after another.
use Rattle.std.proofs.Common.{◌≡◌, ℕ, ◌+◌, ◌-◌, ◌≤◌, ◌++◌, List, min, replicate, take, sym, ap, ◌∙◌, arith}
use Rattle.std.proofs.lemmas.List.{replicate-append-replicate, take-replicate}

abbrev pub blanks : ℕ → List ℕ
blanks n = replicate n 32

pub blanks_more : (done now : ℕ) → blanks (done + now) ≡ blanks done ++ blanks now
blanks_more done now = sym (replicate-append-replicate done now 32)

pub blanks_all : (count done now left : ℕ) → count ≡ done + left → now ≤ left → blanks count ≡ blanks done ++ (blanks now ++ blanks (left - now))
blanks_all count done now left e h =
    let k : count ≡ done + (now + (left - now)) = omega arith in
    ap blanks k ∙ blanks_more done (now + (left - now)) ∙ ap (λ l. blanks done ++ l) (blanks_more now (left - now))

pub some_blanks : (n now : ℕ) → now ≤ n → take now (blanks n) ≡ blanks now
some_blanks n now h = take-replicate now n 32 h

pub least : (now left : ℕ) → now ≡ min left 256 → now ≤ left
least now left e = omega arith
