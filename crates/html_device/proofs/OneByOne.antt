-- The bytes of what is passed over one by one.
use Rattle.std.proofs.Common.{◌≡◌, ℕ, suc, ◌+◌, ◌<◌, ◌≤◌, List, [], ◌∷◌, ◌++◌, length, get_or, take, drop, sym, ap, ◌∙◌, add-one, append-nil, take-append-drop, drop_of_length-le}
use Rattle.std.specs.List.{flat_map}
use Rattle.std.proofs.Math.Seq.{take-suc, drop-cons}
use Rattle.std.proofs.lemmas.List.Concat.{flat_map-append}

module _ {X : Type 0} (f : X → List ℕ) (xs : List X) (i : ℕ) where
  pub one_more : (d : X) (piece : List ℕ) → i < length xs → piece ≡ f (get_or xs i d) → flat_map f (take (i + 1) xs) ≡ flat_map f (take i xs) ++ piece
  one_more d piece h e =
      ap (flat_map f) (rw add-one (take-suc xs i d h))
      ∙ flat_map-append f (take i xs) (get_or xs i d ∷ [])
      ∙ ap (λ l. flat_map f (take i xs) ++ l) (append-nil (f (get_or xs i d)) ∙ sym e)

  pub from_one : (d : X) (piece : List ℕ) → i < length xs → piece ≡ f (get_or xs i d) → flat_map f xs ≡ flat_map f (take i xs) ++ (piece ++ flat_map f (drop (suc i) xs))
  from_one d piece h e =
      let later = drop (suc i) xs in
      let split : xs ≡ take i xs ++ (get_or xs i d ∷ later) = sym (take-append-drop i xs) ∙ ap (λ l. take i xs ++ l) (drop-cons xs i d h) in
      ap (flat_map f) split ∙ flat_map-append f (take i xs) (get_or xs i d ∷ later) ∙ ap (λ l. flat_map f (take i xs) ++ (l ++ flat_map f later)) (sym e)

  pub all_of : length xs ≤ i → flat_map f xs ≡ flat_map f (take i xs)
  all_of h = ap (flat_map f) (sym (take-append-drop i xs) ∙ ap (λ l. take i xs ++ l) (drop_of_length-le xs h) ∙ append-nil (take i xs))
