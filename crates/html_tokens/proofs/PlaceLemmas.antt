-- Names and their places.
use Rattle.std.proofs.Common.{◌≡◌, ℕ, suc, ◌≤◌, List, [], ◌∷◌, ◌++◌, length, take, Bool, true, false, ◌||◌, cond, Option, Some, None, refl, ap, sym, ◌∙◌, inl, inr}
use Rattle.std.proofs.lemmas.List.{take-append-le}
use Rattle.std.proofs.lemmas.Bool.{false≢true}
use Rattle.std.proofs.lemmas.Slice.Eq.{bytes_eq-Decides}
use Rattle.std.specs.BTreeMap.{BTreeMap, get_by_text}
use Rattle.std.specs.Map.{update}
use Rattle.std.specs.Option.{is_some}
use Rattle.std.specs.Str.{bytes_eq, chars, encode_utf8_all}
use Rattle.std.specs.Prelude.{String}
use Rattle.html_charref.proofs.LongestLemmas.{bool_cases}
use Rattle.html_tokens.proofs.ComparisonLemmas.{comparisons_last, comparisons_push}
use Rattle.html_tokens.specs.Places.{few, AreFirst, AreFound}
use Rattle.html_tokens.specs.Tag.{has_name}
use Rattle.html_tokens.specs.declared.attributes.Attr.{Attr}

or_right : (b : Bool) → (b || true) ≡ true
or_right true = refl
or_right false = refl

or_none : (b : Bool) → (b || false) ≡ b
or_none true = refl
or_none false = refl

or_assoc : (a b c : Bool) → (a || (b || c)) ≡ ((a || b) || c)
or_assoc true b c = refl
or_assoc false b c = refl

has_name-append : (name : List ℕ) (xs ys : List Attr) → has_name name (xs ++ ys) ≡ (has_name name xs || has_name name ys)
has_name-append name [] ys = refl
has_name-append name (x ∷ xs) ys = ap (λ (b : Bool). bytes_eq x.name name || b) (has_name-append name xs ys) ∙ or_assoc (bytes_eq x.name name) (has_name name xs) (has_name name ys)

has_name-push : (name : List ℕ) (attrs : List Attr) (a : Attr) → has_name name (attrs ++ a ∷ []) ≡ (has_name name attrs || bytes_eq a.name name)
has_name-push name attrs a = has_name-append name attrs (a ∷ []) ∙ ap (λ (b : Bool). has_name name attrs || b) (or_none (bytes_eq a.name name))

kept : (b t : Bool) (o : Option ℕ) (place : ℕ) → (b || is_some o) ≡ true → (b || is_some (cond t (Some place) o)) ≡ true
kept b true o place h = or_right b
kept b false o place h = h

pub found_more : {Y : Type 0} (attrs : List Attr) (a : Attr) (place : ℕ) (bs : List ℕ) (old new : BTreeMap (String Y) ℕ) → few ≤ length attrs → bs ≡ encode_utf8_all a.name →
    ((cs : List ℕ) → get_by_text new cs ≡ update bytes_eq (get_by_text old) bs (Some place) cs) → AreFound attrs old → AreFound (attrs ++ a ∷ []) new
found_more attrs a place bs old new h e u found name there =
    let cs = encode_utf8_all name in
    rw (take-append-le few attrs (a ∷ []) h, u cs) (elim (bool_cases (bytes_eq a.name name)) [
      | inl t ↦
          let same : a.name ≡ name = (bytes_eq-Decides a.name name).0 t in
          let here : bytes_eq bs cs ≡ true = (bytes_eq-Decides bs cs).1 (e ∙ ap encode_utf8_all same) in
          rw here (or_right (has_name name (take few attrs)))
      | inr f ↦
          let before : has_name name attrs ≡ true = sym (has_name-push name attrs a ∙ rw f (or_none (has_name name attrs))) ∙ there in
          kept (has_name name (take few attrs)) (bytes_eq bs cs) (get_by_text old cs) place (found name before)
    ])

-- a name more that has its place
pub found_still : {Y : Type 0} (attrs : List Attr) (place : ℕ) (bs : List ℕ) (old new : BTreeMap (String Y) ℕ) →
    ((cs : List ℕ) → get_by_text new cs ≡ update bytes_eq (get_by_text old) bs (Some place) cs) → AreFound attrs old → AreFound attrs new
found_still attrs place bs old new u found name there =
    let cs = encode_utf8_all name in
    rw (u cs) (kept (has_name name (take few attrs)) (bytes_eq bs cs) (get_by_text old cs) place (found name there))

pub not_found : {Y : Type 0} (name : List ℕ) (attrs : List Attr) (places : BTreeMap (String Y) ℕ) → AreFound attrs places → has_name name (take few attrs) ≡ false → get_by_text places (encode_utf8_all name) ≡ None → has_name name attrs ≡ false
not_found name attrs places found n g = elim (bool_cases (has_name name attrs)) [
  | inl t ↦ absurd (false≢true (sym (rw (n, g) refl) ∙ found name t))
  | inr f ↦ f
]

or_either : (b e : Bool) → (b || e) ≡ true → e ≡ false → b ≡ true
or_either true e h f = refl
or_either false e h f = absurd (false≢true (sym f ∙ h))

take_front : (name : List ℕ) (n : ℕ) (attrs : List Attr) (a : Attr) → n ≤ length attrs → has_name name (take n (attrs ++ a ∷ [])) ≡ false → has_name name (take n attrs) ≡ false
take_front name n attrs a fit h = ap (has_name name) (sym (take-append-le n attrs (a ∷ []) fit)) ∙ h

-- a new name that has the place after all the others
pub first_more : {Y : Type 0} (attrs : List Attr) (a : Attr) (place : ℕ) (bs : List ℕ) (old new : BTreeMap (String Y) ℕ) → few ≤ length attrs → bs ≡ encode_utf8_all a.name → chars bs ≡ a.name →
    has_name a.name attrs ≡ false → place ≡ length attrs → ((cs : List ℕ) → get_by_text new cs ≡ update bytes_eq (get_by_text old) bs (Some place) cs) → AreFirst attrs old → AreFirst (attrs ++ a ∷ []) new
first_more attrs a place bs old new h e t none p u first name i s g there nowhere =
    let cs = encode_utf8_all name in
    elim (bool_cases (bytes_eq a.name name)) [
      | inl y ↦
          let same : a.name ≡ name = (bytes_eq-Decides a.name name).0 y in
          let here : bytes_eq bs cs ≡ true = (bytes_eq-Decides bs cs).1 (e ∙ ap encode_utf8_all same) in
          let at : place ≡ i = some_is (sym (ap (λ (b : Bool). cond b (Some place) (get_by_text old cs)) here) ∙ sym (u cs) ∙ g) in
          comparisons_last name attrs a (ap (λ (n : List ℕ). has_name n attrs) (sym same) ∙ none) ∙ ap suc (sym p ∙ at)
      | inr f ↦
          let other : bytes_eq bs cs ≡ false = elim (bool_cases (bytes_eq bs cs)) [
            | inl y ↦ absurd (false≢true (sym f ∙ (bytes_eq-Decides a.name name).1 (sym t ∙ ap chars ((bytes_eq-Decides bs cs).0 y) ∙ s)))
            | inr n ↦ n
          ] in
          let before : has_name name attrs ≡ true = or_either (has_name name attrs) (bytes_eq a.name name) (sym (has_name-push name attrs a) ∙ there) f in
          let place_before : get_by_text old cs ≡ Some i = sym (ap (λ (b : Bool). cond b (Some place) (get_by_text old cs)) other) ∙ sym (u cs) ∙ g in
          comparisons_push name attrs a before ∙ first name i s place_before before (take_front name few attrs a h nowhere)
    ]
  where
    some_is : {m n : ℕ} → Some m ≡ Some n → m ≡ n
    some_is {m} {n} q = ap (λ (o : Option ℕ). from o) q
      where
        from : Option ℕ → ℕ
        from None = 0
        from (Some k) = k

-- a name that is not there has the place after all the others
pub first_still : {Y : Type 0} (attrs : List Attr) (a : List ℕ) (place : ℕ) (bs : List ℕ) (old new : BTreeMap (String Y) ℕ) → bs ≡ encode_utf8_all a → chars bs ≡ a → has_name a attrs ≡ false →
    ((cs : List ℕ) → get_by_text new cs ≡ update bytes_eq (get_by_text old) bs (Some place) cs) → AreFirst attrs old → AreFirst attrs new
first_still attrs a place bs old new e t none u first name i s g there nowhere =
    let cs = encode_utf8_all name in
    let other : bytes_eq bs cs ≡ false = elim (bool_cases (bytes_eq bs cs)) [
      | inl y ↦ absurd (false≢true (sym none ∙ ap (λ (n : List ℕ). has_name n attrs) (sym t ∙ ap chars ((bytes_eq-Decides bs cs).0 y) ∙ s) ∙ there))
      | inr n ↦ n
    ] in
    first name i s (sym (ap (λ (b : Bool). cond b (Some place) (get_by_text old cs)) other) ∙ sym (u cs) ∙ g) there nowhere
