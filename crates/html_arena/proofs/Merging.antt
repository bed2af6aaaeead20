-- Attributes that are looked for and added one by one.
use Rattle.std.proofs.Common.{◌≡◌, ℕ, ◌+◌, ◌<◌, Bool, true, false, cond, not, List, [], ◌∷◌, ◌++◌, inl, inr, length, get_or, drop, refl, ◌∙◌, ap, arith, add-one, drop-cons}
use Rattle.std.specs.Prelude.{filter}
use Rattle.std.specs.Str.{bytes_eq}
use Rattle.std.proofs.lemmas.List.Sums.{sum_by-append}
use Rattle.html_tokens.specs.declared.attributes.Attr.{Attr}
use Rattle.html_arena.specs.Merge.{has_name, lacking}
use Rattle.html_arena.specs.Weight.{attr_weight, attrs_weight}
use Rattle.html_arena.proofs.Siblings.{cases_bool}

pub has_name-here : (name : List ℕ) (attrs : List Attr) (i : ℕ) (a : Attr) → i < length attrs → a ≡ get_or attrs i a → bytes_eq a.name name ≡ true → has_name name (drop i attrs) ≡ true
has_name-here name attrs i a b e h =
    ap (has_name name) (drop-cons attrs i a b) ∙ rw (← e, h) refl

pub has_name-later : (name : List ℕ) (attrs : List Attr) (i : ℕ) (a : Attr) → i < length attrs → a ≡ get_or attrs i a → bytes_eq a.name name ≡ false → has_name name (drop i attrs) ≡ has_name name (drop (i + 1) attrs)
has_name-later name attrs i a b e h =
    ap (has_name name) (drop-cons attrs i a b) ∙ rw (← e, h, add-one) refl

filter-push : (p : Attr → Bool) (xs : List Attr) (a : Attr) → filter p (xs ++ a ∷ []) ≡ filter p xs ++ cond (p a) (a ∷ []) []
filter-push p [] a = elim (cases_bool (p a)) [ inl e ↦ rw e refl | inr e ↦ rw e refl ]
filter-push p (x ∷ xs) a = elim (cases_bool (p x)) [
  | inl e ↦ rw (e, filter-push p xs a) refl
  | inr e ↦ rw (e, filter-push p xs a) refl
]

-- one more of the later attributes
pub lacking-push : (own later : List Attr) (a : Attr) → lacking own (later ++ a ∷ []) ≡ lacking own later ++ cond (has_name a.name own) [] (a ∷ [])
lacking-push own later a = filter-push (λ b. not (has_name b.name own)) later a ∙ elim (cases_bool (has_name a.name own)) [ inl e ↦ rw e refl | inr e ↦ rw e refl ]

pub sum-append : (xs ys : List Attr) → attrs_weight (xs ++ ys) ≡ attrs_weight xs + attrs_weight ys
sum-append xs ys = sum_by-append attr_weight xs ys

pub lacking-weight : (own later : List Attr) (a : Attr) → attrs_weight (lacking own (later ++ a ∷ [])) ≡ attrs_weight (lacking own later) + cond (has_name a.name own) 0 (attr_weight a)
lacking-weight own later a =
    ap attrs_weight (lacking-push own later a) ∙ sum-append (lacking own later) (cond (has_name a.name own) [] (a ∷ []))
    ∙ ap (λ n. attrs_weight (lacking own later) + n) (elim (cases_bool (has_name a.name own)) [ inl e ↦ rw e refl | inr e ↦ rw e (omega arith) ])
