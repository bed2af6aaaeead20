-- How long adjusted names are, and what adjusted attributes weigh.
use Rattle.std.proofs.Common.{ℕ, ◌+◌, ◌≡◌, ◌≤◌, true, false, List, [], ◌∷◌, length, length-append, map, Option, Some, None, refl, sym, ap, ◌∙◌, arith}
use Rattle.std.specs.Prelude.{IfSome, unwrap_or}
use Rattle.std.specs.Char.{to_ascii_lowercase}
use Rattle.std.proofs.lemmas.Bool.{false≢true}
use Rattle.html_names.specs.declared.foreign.Space.{Space}
use Rattle.html_names.specs.declared.foreign.Space.TheVariants as space
use Rattle.html_names.specs.declared.tag.Tag.{Tag}
use Rattle.html_names.specs.declared.tag.Tag.TheVariants as tag
use Rattle.html_names.specs.Foreign.{adjusted_attr, adjusted_name, is_html_space, prefix_of, read_char, space_of}
use Rattle.html_names.specs.Sets.{is_formatting}
use Rattle.html_names.proofs.Adjusted.{attr-back, name-back}
use Rattle.html_tokens.specs.declared.attributes.Attr.{Attr}
use Rattle.html_construction.specs.Tokens.{foreign_attrs, foreign_name}

length-of-map : (f : ℕ → ℕ) (xs : List ℕ) → length (map f xs) ≡ length xs
length-of-map f [] = refl
length-of-map f (x ∷ xs) = (let e = length-of-map f xs in omega (arith, e))

-- what is read back as a name is as long
back-long : (f : ℕ → ℕ) (o : Option (List ℕ)) (name : List ℕ) → IfSome o (λ w. map f w ≡ name) → length (unwrap_or o name) ≡ length name
back-long f None name h = refl
back-long f (Some w) name h = sym (length-of-map f w) ∙ ap (λ cs. length cs) h

pub name-long : (s : Space) (name : List ℕ) → length (unwrap_or (adjusted_name s name) name) ≡ length name
name-long s name = back-long to_ascii_lowercase (adjusted_name s name) name (name-back s name)

pub attr-long : (s : Space) (name : List ℕ) → length (unwrap_or (adjusted_attr s name) name) ≡ length name
attr-long s name = back-long read_char (adjusted_attr s name) name (attr-back s name)

prefix-short : (s : Space) → length (prefix_of s) ≤ 5
prefix-short space.Html = omega arith
prefix-short space.Svg = omega arith
prefix-short space.Math = omega arith

pub foreign_name-long : (s : Space) (name : List ℕ) → length (foreign_name s name) ≤ length name + 5
foreign_name-long s name =
    let a = length-append (prefix_of s) (unwrap_or (adjusted_name s name) name) in
    let b = prefix-short s in
    let c = name-long s name in
    omega (arith, a, b, c)

-- there are as many
pub foreign_attrs-count : (s : Space) (xs : List Attr) → length (foreign_attrs s xs) ≡ length xs
foreign_attrs-count s [] = refl
foreign_attrs-count s (a ∷ xs) = (let e = foreign_attrs-count s xs in omega (arith, e))

-- a formatting element is one of HTML
pub formatting-html : (g : Tag) (s : Space) → is_formatting g ≡ true → space_of g ≡ s → is_html_space s ≡ false → ⊥
formatting-html g s f e n = inside g f (ap is_html_space e ∙ n)
  where
    inside : (g : Tag) → is_formatting g ≡ true → is_html_space (space_of g) ≡ false → ⊥
    inside tag.A a b = absurd (false≢true (sym b))
    inside tag.B a b = absurd (false≢true (sym b))
    inside tag.Big a b = absurd (false≢true (sym b))
    inside tag.Code a b = absurd (false≢true (sym b))
    inside tag.Em a b = absurd (false≢true (sym b))
    inside tag.Font a b = absurd (false≢true (sym b))
    inside tag.I a b = absurd (false≢true (sym b))
    inside tag.Nobr a b = absurd (false≢true (sym b))
    inside tag.S a b = absurd (false≢true (sym b))
    inside tag.Small a b = absurd (false≢true (sym b))
    inside tag.Strike a b = absurd (false≢true (sym b))
    inside tag.Strong a b = absurd (false≢true (sym b))
    inside tag.Tt a b = absurd (false≢true (sym b))
    inside tag.U a b = absurd (false≢true (sym b))
    inside _ a b = absurd (false≢true a)
