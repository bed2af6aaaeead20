-- The text of a node after more tokens.
use Rattle.std.proofs.Common.{ℕ, ◌≡◌, ◌==◌, Bool, true, false, List, [], ◌∷◌, ◌++◌, length, replicate, cond, map, refl, sym, ap, ◌∙◌, arith, append_assoc, inl, inr}
use Rattle.std.proofs.lemmas.Bool.{cases_Bool, cond-false, not-true, and_parts}
use Rattle.html_ledger.specs.declared.symbol.Symbol.{Symbol}
use Rattle.html_ledger.specs.declared.fate.Fate.{Fate}
use Rattle.html_ledger.specs.declared.fate.Fate.TheVariants.{Text}
use Rattle.html_ledger.specs.Symbols.{chars_of}
use Rattle.std.specs.List.{list_all}
use Rattle.html_tokens.specs.Cut.{null_replaced}
use Rattle.html_ledger.specs.Flags.{is_not_null}
use Rattle.html_ledger.specs.Texts.{code_point, is_text_in, text_of}

pub text_of-append : (node : ℕ) (ts us : List Symbol) (fs gs : List Fate) → length fs ≡ length ts → text_of node (ts ++ us) (fs ++ gs) ≡ text_of node ts fs ++ text_of node us gs
text_of-append node [] us [] gs e = refl
text_of-append node [] us (f ∷ fs) gs e = absurd (omega arith)
text_of-append node (t ∷ ts) us [] gs e = absurd (omega arith)
text_of-append node (t ∷ ts) us (f ∷ fs) gs e =
    let same : length fs ≡ length ts = omega arith in
    ap (λ cs. cond (is_text_in node f) (code_point t) [] ++ cs) (text_of-append node ts us fs gs same)
    ∙ sym (append_assoc (cond (is_text_in node f) (code_point t) []) (text_of node ts fs) (text_of node us gs))

cons-or-not : (b : Bool) (c : ℕ) (cs : List ℕ) → cond b (c ∷ []) [] ++ cond b cs [] ≡ cond b (c ∷ cs) []
cons-or-not true c cs = refl
cons-or-not false c cs = refl

-- in HTML content each code point of a text is its own
kept : (c : ℕ) → is_not_null c ≡ true → null_replaced c ≡ c
kept c e = cond-false (c == 0) 65533 c (not-true (c == 0) e)

pub text_of-run : (node d : ℕ) (cs : List ℕ) → text_of node (chars_of cs) (replicate (length cs) (Text d)) ≡ cond (d == node) (map null_replaced cs) []
text_of-run node d [] = elim (cases_Bool (d == node)) [ inl e ↦ rw e refl | inr e ↦ rw e refl ]
text_of-run node d (c ∷ cs) = ap (λ ds. cond (d == node) (null_replaced c ∷ []) [] ++ ds) (text_of-run node d cs) ∙ cons-or-not (d == node) (null_replaced c) (map null_replaced cs)

pub none-replaced : (cs : List ℕ) → list_all is_not_null cs ≡ true → map null_replaced cs ≡ cs
none-replaced [] n = refl
none-replaced (c ∷ cs) n =
    let p = and_parts (is_not_null c) (list_all is_not_null cs) n in
    ap (λ x. x ∷ map null_replaced cs) (kept c p.0) ∙ ap (λ xs. c ∷ xs) (none-replaced cs p.1)
