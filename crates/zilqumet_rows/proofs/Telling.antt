-- Tokens with their fates: what one more says.
use Rattle.std.proofs.Common.{◌≡◌, ◌≢◌, ℕ, ◌+◌, ◌<◌, ◌≤◌, List, [], ◌∷◌, ◌++◌, Bool, true, false, Option, Some, None, inl, inr, length, drop, get_or, min, refl, sym, ◌∙◌, ap, subst, arith, append_assoc, append-nil}
use Rattle.std.specs.Prelude.{IfSome, is_some, slice_get, slice_set}
use Rattle.html_token_list.specs.Shown.{shown}
use Rattle.html_token_list.specs.declared.lent.TokenRef.{TokenRef}
use Rattle.std.proofs.lemmas.List.{get_or-set_same, get_or-set_other, length-append, drop_at, drop_all}
use Rattle.std.proofs.Math.Nat.{min-eq_left}
use Rattle.std.proofs.lemmas.Option.{get_or_from_slice_get, slice_get_read}
use Rattle.html_arena.proofs.Siblings.{cases_eqb}
use Rattle.html_ledger.specs.declared.fate.Fate.{Fate}
use Rattle.html_tokens.specs.declared.token.Token.{Token}
use Rattle.zilqumet_rows.specs.Entries.{AreTokens, IsToken, entries}
use Rattle.zilqumet_rows.specs.declared.ledger.ZqToken.{ZqToken}

below : (i n : ℕ) → i ≢ n → i < n + 1 → i < n
below i n apart h = omega (arith, apart, h)

within : (i n m : ℕ) → i < n → n < m → i < m
within i n m h k = omega (arith, h, k)

pub entries-none : (ts : List Token) → entries ts [] ≡ []
entries-none [] = refl
entries-none (t ∷ ts) = refl

-- the element after the first ones
pub slice_get_after : {A : Type 0} (done rest : List A) (x : A) → slice_get (done ++ x ∷ rest) (length done) ≡ Some x
slice_get_after [] rest x = refl
slice_get_after (y ∷ done) rest x = slice_get_after done rest x

pub slice_get_at : {A : Type 0} (all done rest later : List A) (x : A) (n : ℕ) → all ≡ done ++ rest → rest ≡ x ∷ later → length done ≡ n → slice_get all n ≡ Some x
slice_get_at all done rest later x n e f l =
    let whole : all ≡ done ++ x ∷ later = e ∙ ap (λ r. done ++ r) f in
    subst (λ k. slice_get all k ≡ Some x) l (ap (λ a. slice_get a (length done)) whole ∙ slice_get_after done later x)

-- where there is a next one, it is the first
pub gone_past : (r : Option (TokenRef × Fate)) (before after : List (Token × Fate)) → is_some r ≡ true → IfSome r (λ e. before ≡ (shown e.0, e.1) ∷ after)
    → (e : Token × Fate) × (before ≡ e ∷ after)
gone_past (Some x) before after there first = ((shown x.0, x.1), first)
gone_past None before after there first = absurd (false_is_true there)
  where
    false_is_true : ◌≡◌ {A = Bool} false true → ⊥
    false_is_true e = cc

-- one more is gone past
pub one_more : {A : Type 0} (all done rest later : List A) (x : A) → all ≡ done ++ rest → rest ≡ x ∷ later → all ≡ (done ++ x ∷ []) ++ later
one_more all done rest later x e f = e ∙ ap (λ l. done ++ l) f ∙ sym (append_assoc done (x ∷ []) later)

plus_one : (n m : ℕ) → n ≡ m → n + 1 ≡ m + 1
plus_one n m e = ap (λ k. k + 1) e

pub longer : {A : Type 0} (done : List A) (x : A) (n : ℕ) → length done ≡ n → length (done ++ x ∷ []) ≡ n + 1
longer done x n e = length-append done (x ∷ []) ∙ plus_one (length done) n e

-- so many were gone past, or all
pub passed_all : {A : Type 0} (all done rest : List A) (n count : ℕ) → all ≡ done ++ rest → length done ≡ n → n ≡ count → rest ≡ drop count all
passed_all all done rest n count e l is = sym (ap (λ a. drop count a) e ∙ drop_at done rest count (l ∙ is))

pub passed_out : {A : Type 0} (all done rest : List A) (n count : ℕ) → all ≡ done ++ rest → length done ≡ n → n ≤ count → rest ≡ [] → [] ≡ drop count all
passed_out all done rest n count e l few none =
    let whole : all ≡ done = e ∙ ap (λ r. done ++ r) none ∙ append-nil done in
    sym (drop_all count all (subst (λ k. k ≤ count) (sym (ap length whole ∙ l)) few))

-- a token is written behind the first
pub more_tokens : (es : List (Token × Fate)) (count : ℕ) (rows : List ZqToken) (r : ZqToken) → count < length rows → AreTokens es count rows
    → {e : Token × Fate} → IsToken e.0 e.1 r → slice_get es count ≡ Some e → AreTokens es (count + 1) (slice_set rows count r)
more_tokens es count rows r h old {e} is there i at q k asked found = elim (cases_eqb i count) [
  | inl both ↦
      let same_place : i ≡ count = both.1 in
      let got : get_or (slice_set rows count r) count r ≡ q = subst (λ j. get_or (slice_set rows count r) j r ≡ q) same_place (get_or_from_slice_get (slice_set rows count r) i q r found) in
      let same : r ≡ q = sym (get_or-set_same rows count r r h) ∙ got in
      let of_entry : ◌≡◌ {A = Option (Token × Fate)} (Some e) (Some at) = sym there ∙ subst (λ j. slice_get es j ≡ Some at) same_place asked in
      subst (λ a. IsToken a.0 a.1 q) (some_entry e at of_entry) (subst (λ x. IsToken e.0 e.1 x) same is)
  | inr both ↦
      let apart : i ≢ count = both.1 in
      let got : get_or (slice_set rows count r) i q ≡ q = get_or_from_slice_get (slice_set rows count r) i q q found in
      let was : q ≡ get_or rows i q = sym got ∙ get_or-set_other rows count i r q apart in
      old i at q (below i count apart k) asked (slice_get_read rows (length rows) i q refl (within i count (length rows) (below i count apart k) h) was)
]
  where
    some_entry : (a b : Token × Fate) → ◌≡◌ {A = Option (Token × Fate)} (Some a) (Some b) → a ≡ b
    some_entry a b e = cc

pub kept_by_min : (n r : ℕ) → r ≡ min n 18446744073709551615 → n < 18446744073709551616 → r ≡ n
kept_by_min n r is few = is ∙ min-eq_left (omega (arith, few))
