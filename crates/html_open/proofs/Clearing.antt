-- What is taken off with the last element that passes.
use Rattle.std.proofs.Common.{◌≡◌, ℕ, ◌-◌, ◌*◌, Bool, true, false, List, [], ◌∷◌, length, take, drop, Option, Some, None, inl, inr, refl, sym, ◌∙◌, ap, arith}
use Rattle.std.specs.List.{list_any}
use Rattle.html_open.specs.declared.entry.Entry.{Entry}
use Rattle.html_open.specs.declared.entry.Entry.TheVariants.{Marker, Node}
use Rattle.html_open.specs.Entries.{cleared, is_marker, nodes_of}
use Rattle.html_open.specs.Lists.{above, below, index_or_first, last_index, looked}
use Rattle.html_open.proofs.Lists.{cases, below-at, last_index-any, looked-none, looked-some, none-above, not_any}
use Rattle.html_open.proofs.Keeps.{split-last}
use Rattle.html_open.proofs.Popping.{drop-front}

none-below : {X : Type 0} (p : X → Bool) (xs : List X) → list_any p xs ≡ false → below p xs ≡ []
none-below p [] h = refl
none-below p (x ∷ xs) h = elim (cases (p x)) [
  | inl f ↦ absurd (let g : list_any p (x ∷ xs) ≡ true = rw f refl in cc)
  | inr f ↦ (let g : list_any p xs ≡ false = rw f at h in rw g refl)
]

pub kept-is : {X : Type 0} (p : X → Bool) (xs : List X) (o : Option ℕ) → o ≡ last_index p xs → take (index_or_first o) xs ≡ below p xs
kept-is p xs None h = sym (none-below p xs (not_any p xs (sym h)))
kept-is p xs (Some i) h = sym (below-at p xs i (sym h))

pub twice-looked : {X : Type 0} (p : X → Bool) (xs : List X) (o : Option ℕ) (n : ℕ) → n ≡ length xs → o ≡ last_index p xs → 2 * (n - index_or_first o) ≡ 2 * looked p xs
twice-looked p xs None n e h = (let k = looked-none p xs (sym h) in omega (arith, k))
twice-looked p xs (Some i) n e h = (let k = looked-some p xs i (sym h) in omega (arith, k.0))

marker-of : (e : Entry) → is_marker e ≡ true → e ≡ Marker
marker-of Marker h = refl
marker-of (Node x) h = absurd cc

pub cleared-is : (xs : List Entry) (o : Option ℕ) → o ≡ last_index is_marker xs → nodes_of (drop (index_or_first o) xs) ≡ cleared xs
cleared-is xs None h = ap nodes_of (sym (none-above is_marker xs (not_any is_marker xs (sym h))))
cleared-is xs (Some i) h =
    let a = last_index-any is_marker xs i (sym h) in
    let r = split-last is_marker xs a.0 in
    let d : drop i xs ≡ Marker ∷ above is_marker xs =
    ap (λ n. drop n xs) (sym a.1) ∙ ap (drop (length (below is_marker xs))) r.1 ∙ drop-front (below is_marker xs) (r.0 ∷ above is_marker xs) ∙ ap (λ e. e ∷ above is_marker xs) (marker-of r.0 r.2) in
    ap nodes_of d
