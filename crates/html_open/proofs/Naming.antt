-- The last entry of a name after the last marker, by the last entry that has the name or is a marker.
use Rattle.std.proofs.Common.{◌≡◌, ℕ, true, false, ◌||◌, List, [], ◌∷◌, get_or, Some, None, inl, inr, refl, sym, ◌∙◌, ap}
use Rattle.std.specs.List.{list_any}
use Rattle.html_names.specs.declared.tag.Tag.{Tag}
use Rattle.html_arena.specs.Tree.{Tree, named}
use Rattle.html_open.specs.declared.entry.Entry.{Entry}
use Rattle.html_open.specs.declared.entry.Entry.TheVariants.{Marker, Node}
use Rattle.html_open.specs.Entries.{entry_named, is_marker, last_named, named_or_marker, node_in}
use Rattle.html_open.specs.Lists.{last_index, last_where}
use Rattle.html_open.proofs.Lists.{cases, last_where-at, none-above, not_any}

module _ (t : Tree) (g : Tag) where
  -- the name is among the entries after the marker, if the last of both kinds has it
  any-either : (xs : List Entry) → list_any (named_or_marker t g) xs ≡ (list_any is_marker xs || list_any (entry_named t g) xs)
  any-either [] = refl
  any-either (Marker ∷ xs) = refl
  any-either (Node x ∷ xs) = elim (cases (named t g x)) [
    | inl a ↦ elim (cases (list_any is_marker xs)) [ inl b ↦ rw (a, b) refl | inr b ↦ rw (a, b) refl ]
    | inr a ↦ rw a (any-either xs)
  ]

  last_where-none : (xs : List Entry) → list_any (named_or_marker t g) xs ≡ false → last_where (named_or_marker t g) xs ≡ None
  last_where-none [] h = refl
  last_where-none (x ∷ xs) h = elim (cases (named_or_marker t g x)) [
    | inl a ↦ absurd (let k : list_any (named_or_marker t g) (x ∷ xs) ≡ true = rw a refl in cc)
    | inr a ↦ (let k : list_any (named_or_marker t g) xs ≡ false = rw a at h in rw (k, a) refl)
  ]

  -- without a marker the last of the name is the last of both
  plain : (xs : List Entry) → list_any is_marker xs ≡ false → last_named t g xs ≡ node_in (last_where (named_or_marker t g) xs)
      → node_in (last_where (entry_named t g) xs) ≡ node_in (last_where (named_or_marker t g) xs)
  plain xs n ih = ap (λ v. node_in (last_where (entry_named t g) v)) (sym (none-above is_marker xs n)) ∙ ih

  pub named-is : (xs : List Entry) → last_named t g xs ≡ node_in (last_where (named_or_marker t g) xs)
  named-is [] = refl
  named-is (Marker ∷ xs) = elim (cases (list_any is_marker xs)) [
    | inl m ↦ (let a : list_any (named_or_marker t g) xs ≡ true = any-either xs ∙ rw m refl in rw (m, a) (named-is xs))
    | inr m ↦ elim (cases (list_any (named_or_marker t g) xs)) [
      | inl a ↦ rw (m, a) (plain xs m (named-is xs))
      | inr a ↦ rw (m, a) (plain xs m (named-is xs) ∙ ap node_in (last_where-none xs a))
    ]
  ]
  named-is (Node x ∷ xs) = elim (cases (list_any is_marker xs)) [
    | inl m ↦ (let a : list_any (named_or_marker t g) xs ≡ true = any-either xs ∙ rw m refl in rw (m, a) (named-is xs))
    | inr m ↦
        let b : list_any (named_or_marker t g) xs ≡ list_any (entry_named t g) xs = any-either xs ∙ rw m refl in
        elim (cases (list_any (entry_named t g) xs)) [
          | inl a ↦ rw (m, a, b ∙ a) (plain xs m (named-is xs))
          | inr a ↦ rw (m, a, b ∙ a) refl
        ]
  ]

  pub named-none : (xs : List Entry) → last_index (named_or_marker t g) xs ≡ None → last_named t g xs ≡ None
  named-none xs h = named-is xs ∙ ap node_in (last_where-none xs (not_any (named_or_marker t g) xs h))

  pub named-some : (xs : List Entry) (i : ℕ) (d : Entry) → last_index (named_or_marker t g) xs ≡ Some i → last_named t g xs ≡ node_in (Some (get_or xs i d))
  named-some xs i d h = named-is xs ∙ ap node_in (last_where-at (named_or_marker t g) xs i d h)
