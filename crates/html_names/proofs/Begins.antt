-- A text begins with an ASCII text where its code points do.
use Rattle.std.proofs.Common.{◌≡◌, ℕ, Bool, true, false, ◌==◌, List, [], ◌∷◌, ◌⊎◌, inl, inr, refl, sym, ◌∙◌, ap, ◌&&◌, ◌++◌}
use Rattle.std.specs.Str.{chars, encode_utf8_all, IsUtf8}
use Rattle.std.proofs.lemmas.Bool.Decides.{Decides-eqb}
use Rattle.std.proofs.lemmas.Str.{chars-append, encodes-chars, encodes-append}
use Rattle.html_names.specs.Names.{begins_with}
use Rattle.html_names.proofs.Cases.{cases_bool, and_first, and_rest}

-- what is left of a text that begins so
pub begun : (p xs : List ℕ) → begins_with p xs ≡ true → (rest : List ℕ) × (xs ≡ p ++ rest)
begun [] xs h = (xs, refl)
begun (c ∷ cs) [] h = absurd cc
begun (c ∷ cs) (d ∷ ds) h =
    let e : c ≡ d = (Decides-eqb c d).0 (and_first _ _ h) in
    let (rest, r) = begun cs ds (and_rest _ _ h) in
    (rest, ap (λ x. x ∷ ds) (sym e) ∙ ap (λ l. c ∷ l) r)

same_itself : (c : ℕ) → (c == c) ≡ true
same_itself c = (Decides-eqb c c).1 refl

pub begins : (p rest : List ℕ) → begins_with p (p ++ rest) ≡ true
begins [] rest = refl
begins (c ∷ cs) rest = rw (same_itself c) (begins cs rest)

-- of the bytes and of the code points, where the front is its own code points
pub begins_chars : (p bs : List ℕ) → IsUtf8 p → chars p ≡ p → encode_utf8_all p ≡ p → IsUtf8 bs → begins_with p bs ≡ begins_with p (chars bs)
begins_chars p bs up cp ep u = elim (cases_bool (begins_with p bs)) [
  | inl h ↦
      let (rest, r) = begun p bs h in
      let split : chars bs ≡ p ++ chars rest = ap chars r ∙ chars-append p rest up ∙ ap (λ l. l ++ chars rest) cp in
      h ∙ sym (ap (begins_with p) split ∙ begins p (chars rest))
  | inr h ↦ elim (cases_bool (begins_with p (chars bs))) [
    | inl k ↦
        let (rest, r) = begun p (chars bs) k in
        let whole : bs ≡ p ++ encode_utf8_all rest = sym (encodes-chars bs u) ∙ ap encode_utf8_all r ∙ encodes-append p rest ∙ ap (λ l. l ++ encode_utf8_all rest) ep in
        ap (begins_with p) whole ∙ begins p (encode_utf8_all rest) ∙ sym k
    | inr k ↦ h ∙ sym k
  ]
]
