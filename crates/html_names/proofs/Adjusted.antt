-- What the tables make of a name: of its bytes and of its code points, in ASCII, and how it is read back.
use Rattle.std.proofs.Common.{◌≡◌, ℕ, Bool, true, false, List, [], ◌∷◌, Option, Some, None, refl, sym, ◌∙◌, ap, ◌&&◌, inl, inr, if◌then◌else◌}
use Rattle.std.specs.Prelude.{IfSome, option_map}
use Rattle.std.specs.Str.{bytes_eq, chars, encode_utf8_all, IsUtf8, all_scalars}
use lib.Utf8.{scalars}
use Rattle.std.proofs.lemmas.Slice.Eq.{bytes_eq-Decides}
use Rattle.std.proofs.lemmas.Str.{chars_from_encodes, encodes-chars, chars-encodes}
use Rattle.html_names.specs.declared.foreign.Space.{Space}
use Rattle.html_names.specs.declared.foreign.Space.TheVariants as space
use Rattle.html_names.specs.Foreign.{written, lowered, as_is, as_read, expanded, adjusted_in, adjusted_name, adjusted_attr, expanded_attr, found_or, svg_names, svg_attrs, math_attrs, qualified_attrs}
use Rattle.html_names.proofs.Cases.{cases_bool, and_first, and_rest}
use Rattle.html_names.proofs.Known.{is_ascii, encodes-ascii}

-- a text of ASCII is its own code points
abbrev is_text : List ℕ → Bool
is_text p = is_ascii p && scalars p

chars_text : (p : List ℕ) → is_text p ≡ true → chars p ≡ p
chars_text p h = ap chars (sym (encodes-ascii p (and_first _ _ h))) ∙ chars-encodes p (and_rest _ _ h)

pub same_text : (p bs : List ℕ) → is_ascii p ≡ true → IsUtf8 bs → bytes_eq bs p ≡ bytes_eq (chars bs) p
same_text p bs h u = elim (cases_bool (bytes_eq bs p)) [
  | inl e ↦
      let here : bs ≡ p = (bytes_eq-Decides bs p).0 e in
      let own : p ≡ chars bs = chars_from_encodes p bs u (encodes-ascii p h ∙ sym here) in
      e ∙ sym ((bytes_eq-Decides (chars bs) p).1 (sym own))
  | inr e ↦ elim (cases_bool (bytes_eq (chars bs) p)) [
    | inl k ↦
        let there : chars bs ≡ p = (bytes_eq-Decides (chars bs) p).0 k in
        let whole : bs ≡ p = sym (encodes-chars bs u) ∙ ap encode_utf8_all there ∙ encodes-ascii p h in
        (bytes_eq-Decides bs p).1 whole ∙ sym k
    | inr k ↦ e ∙ sym k
  ]
]

choice : (a b : Bool) (x y z : Option (List ℕ)) → a ≡ b → y ≡ z → (if a then x else y) ≡ (if b then x else z)
choice a b x y z h k = ap (λ t. if t then x else y) h ∙ ap (λ w. if b then x else w) k

some_of : {T : Type 0} (f : T → List ℕ) (r : Option T) → option_map (λ x. chars (f x)) r ≡ option_map chars (option_map f r)
some_of f (Some x) = refl
some_of f None = refl

if_some_of : {T : Type 0} (f : T → List ℕ) (P : List ℕ → Type 0) (r : Option T) → IfSome (option_map f r) P → IfSome r (λ x. P (f x))
if_some_of f P (Some x) h = h
if_some_of f P None h = h

if_some_along : (P : List ℕ → Type 0) (a b : Option (List ℕ)) → a ≡ b → IfSome b P → IfSome a P
if_some_along P a b e h = rw e h

module _ (reads writes back : List ℕ → List ℕ) where
  abbrev is_row : List ℕ → Bool
  is_row r = is_text (reads r) && (is_text (writes r) && bytes_eq (back (writes r)) (reads r))

  abbrev are_rows : List (List ℕ) → Bool
  are_rows [] = true
  are_rows (r ∷ rows) = is_row r && are_rows rows

  written-chars : (bs : List ℕ) (rows : List (List ℕ)) → are_rows rows ≡ true → IsUtf8 bs → written reads writes bs rows ≡ written reads writes (chars bs) rows
  written-chars bs [] h u = refl
  written-chars bs (r ∷ rows) h u =
      let same = same_text (reads r) bs (and_first _ _ (and_first _ _ (and_first _ _ h))) u in
      choice _ _ (Some (writes r)) _ _ same (written-chars bs rows (and_rest _ _ h) u)

  written-text : (name : List ℕ) (rows : List (List ℕ)) → are_rows rows ≡ true → option_map chars (written reads writes name rows) ≡ written reads writes name rows
  written-text name [] h = refl
  written-text name (r ∷ rows) h = elim (cases_bool (bytes_eq name (reads r))) [
    | inl e ↦ rw e (ap Some (chars_text (writes r) (and_first _ _ (and_rest _ _ (and_first _ _ h)))))
    | inr e ↦ rw e (written-text name rows (and_rest _ _ h))
  ]

  written-back : (name : List ℕ) (rows : List (List ℕ)) → are_rows rows ≡ true → IfSome (written reads writes name rows) (λ w. back w ≡ name)
  written-back name [] h = tt
  written-back name (r ∷ rows) h = elim (cases_bool (bytes_eq name (reads r))) [
    | inl e ↦ rw e ((bytes_eq-Decides (back (writes r)) (reads r)).0 (and_rest _ _ (and_rest _ _ (and_first _ _ h))) ∙ sym ((bytes_eq-Decides name (reads r)).0 e))
    | inr e ↦ rw e (written-back name rows (and_rest _ _ h))
  ]

names_rows : are_rows lowered as_is lowered svg_names ≡ true
names_rows = refl

svg_rows : are_rows lowered as_is as_read svg_attrs ≡ true
svg_rows = refl

math_rows : are_rows lowered as_is as_read math_attrs ≡ true
math_rows = refl

qualified_rows : are_rows as_is expanded as_read qualified_attrs ≡ true
qualified_rows = refl

name-chars : (s : Space) (bs : List ℕ) → IsUtf8 bs → adjusted_name s bs ≡ adjusted_name s (chars bs)
name-chars space.Html bs u = refl
name-chars space.Svg bs u = written-chars lowered as_is lowered bs svg_names names_rows u
name-chars space.Math bs u = refl

name-text : (s : Space) (name : List ℕ) → option_map chars (adjusted_name s name) ≡ adjusted_name s name
name-text space.Html name = refl
name-text space.Svg name = written-text lowered as_is lowered name svg_names names_rows
name-text space.Math name = refl

-- an adjusted name is the name but for its capitals
pub name-back : (s : Space) (name : List ℕ) → IfSome (adjusted_name s name) (λ w. lowered w ≡ name)
name-back space.Html name = tt
name-back space.Svg name = written-back lowered as_is lowered name svg_names names_rows
name-back space.Math name = tt

pub name-code_points : {T : Type 0} (f : T → List ℕ) (r : Option T) (s : Space) (bs : List ℕ) → IsUtf8 bs → option_map f r ≡ adjusted_name s bs → option_map (λ x. chars (f x)) r ≡ adjusted_name s (chars bs)
name-code_points f r s bs u e = some_of f r ∙ ap (option_map chars) e ∙ name-text s bs ∙ name-chars s bs u

pub name-read_back : {T : Type 0} (f : T → List ℕ) (r : Option T) (s : Space) (bs : List ℕ) → option_map f r ≡ adjusted_name s bs → IfSome r (λ x. lowered (f x) ≡ bs)
name-read_back f r s bs e = if_some_of f (λ w. lowered w ≡ bs) r (if_some_along (λ w. lowered w ≡ bs) _ _ e (name-back s bs))

found_or-map : (f : List ℕ → List ℕ) (a b : Option (List ℕ)) → option_map f a ≡ a → option_map f b ≡ b → option_map f (found_or a b) ≡ found_or a b
found_or-map f (Some x) b h k = h
found_or-map f None b h k = k

found_or-if : (P : List ℕ → Type 0) (a b : Option (List ℕ)) → IfSome a P → IfSome b P → IfSome (found_or a b) P
found_or-if P (Some x) b h k = h
found_or-if P None b h k = k

both : (a b c d : Option (List ℕ)) → a ≡ c → b ≡ d → found_or a b ≡ found_or c d
both a b c d h k = rw (h, k) refl

expanded-chars : (bs : List ℕ) → IsUtf8 bs → expanded_attr bs ≡ expanded_attr (chars bs)
expanded-chars bs u = written-chars as_is expanded as_read bs qualified_attrs qualified_rows u

attr-chars : (s : Space) (bs : List ℕ) → IsUtf8 bs → adjusted_attr s bs ≡ adjusted_attr s (chars bs)
attr-chars space.Html bs u = refl
attr-chars space.Svg bs u = both _ _ _ _ (written-chars lowered as_is as_read bs svg_attrs svg_rows u) (expanded-chars bs u)
attr-chars space.Math bs u = both _ _ _ _ (written-chars lowered as_is as_read bs math_attrs math_rows u) (expanded-chars bs u)

attr-text : (s : Space) (name : List ℕ) → option_map chars (adjusted_attr s name) ≡ adjusted_attr s name
attr-text space.Html name = refl
attr-text space.Svg name = found_or-map chars _ _ (written-text lowered as_is as_read name svg_attrs svg_rows) (written-text as_is expanded as_read name qualified_attrs qualified_rows)
attr-text space.Math name = found_or-map chars _ _ (written-text lowered as_is as_read name math_attrs math_rows) (written-text as_is expanded as_read name qualified_attrs qualified_rows)

-- an adjusted name is the name but for its capitals and its colon
pub attr-back : (s : Space) (name : List ℕ) → IfSome (adjusted_attr s name) (λ w. as_read w ≡ name)
attr-back space.Html name = tt
attr-back space.Svg name = found_or-if (λ w. as_read w ≡ name) _ _ (written-back lowered as_is as_read name svg_attrs svg_rows) (written-back as_is expanded as_read name qualified_attrs qualified_rows)
attr-back space.Math name = found_or-if (λ w. as_read w ≡ name) _ _ (written-back lowered as_is as_read name math_attrs math_rows) (written-back as_is expanded as_read name qualified_attrs qualified_rows)

pub attr-code_points : {T : Type 0} (f : T → List ℕ) (r : Option T) (s : Space) (bs : List ℕ) → IsUtf8 bs → option_map f r ≡ adjusted_attr s bs → option_map (λ x. chars (f x)) r ≡ adjusted_attr s (chars bs)
attr-code_points f r s bs u e = some_of f r ∙ ap (option_map chars) e ∙ attr-text s bs ∙ attr-chars s bs u

pub attr-read_back : {T : Type 0} (f : T → List ℕ) (r : Option T) (s : Space) (bs : List ℕ) → option_map f r ≡ adjusted_attr s bs → IfSome r (λ x. as_read (f x) ≡ bs)
attr-read_back f r s bs e = if_some_of f (λ w. as_read w ≡ bs) r (if_some_along (λ w. as_read w ≡ bs) _ _ e (attr-back s bs))
