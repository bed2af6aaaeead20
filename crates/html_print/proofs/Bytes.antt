-- The bytes of lines.
use Rattle.std.proofs.Common.{◌≡◌, Bool, Bor, map, ℕ, zero, suc, ◌*◌, true, List, [], ◌∷◌, ◌++◌, replicate, refl, sym, ap, ◌∙◌, append_assoc}
use Rattle.std.specs.Prelude.{codes}
use Rattle.std.specs.Str.{encode_utf8_all}
use Rattle.std.specs.List.{flat_map}
use Rattle.std.proofs.lemmas.List.Folds.{flat_map-map}
use Rattle.std.proofs.lemmas.Str.{encodes-append}
use Rattle.html_tokens.specs.declared.attributes.Attr.{Attr}
use Rattle.html_page.proofs.Ascii.{is_ascii}
use Rattle.html_page.proofs.Tagged.{ascii_only, ascii_then}
use Rattle.html_print.specs.Lines.{line, ids, quoted_ids, shown_attribute}
use Rattle.html_print.specs.Order.{printed_name}

pub text_then : (x x' rest rest' : List ℕ) → x' ≡ encode_utf8_all x → encode_utf8_all rest ≡ rest' → encode_utf8_all (x ++ rest) ≡ x' ++ rest'
text_then x x' rest rest' e f = encodes-append x rest ∙ ap (λ l. l ++ encode_utf8_all rest) (sym e) ∙ ap (λ l. x' ++ l) f

pub literal_then : (a rest rest' : List ℕ) → is_ascii a ≡ true → encode_utf8_all rest ≡ rest' → encode_utf8_all (a ++ rest) ≡ a ++ rest'
literal_then a rest rest' h f = ascii_then a rest h ∙ ap (λ l. a ++ l) f

blanks_ascii : (n : ℕ) → is_ascii (replicate n 32) ≡ true
blanks_ascii zero = refl
blanks_ascii (suc n) = blanks_ascii n

-- the bytes of a line
pub line_bytes : (depth : ℕ) (s s' : List ℕ) → encode_utf8_all s ≡ s' → encode_utf8_all (line depth s) ≡ line depth s'
line_bytes depth s s' e =
    literal_then (codes "| ") (replicate (2 * depth) 32 ++ (s ++ 10 ∷ [])) (replicate (2 * depth) 32 ++ (s' ++ 10 ∷ [])) refl
    (literal_then (replicate (2 * depth) 32) (s ++ 10 ∷ []) (s' ++ 10 ∷ []) (blanks_ascii (2 * depth)) (text_then s s' (10 ∷ []) (10 ∷ []) (sym e) (ascii_only (10 ∷ []) refl)))

-- a text between two that are ASCII
pub between_bytes : (a x b x' : List ℕ) → is_ascii a ≡ true → is_ascii b ≡ true → x' ≡ encode_utf8_all x → encode_utf8_all (a ++ (x ++ b)) ≡ a ++ (x' ++ b)
between_bytes a x b x' h k e = literal_then a (x ++ b) (x' ++ b) h (text_then x x' b b e (ascii_only b k))

pub attribute_bytes : (foreign : Bool) (a : Attr) (n v : List ℕ) → n ≡ encode_utf8_all (printed_name foreign a.name) → v ≡ encode_utf8_all a.value
    → encode_utf8_all (shown_attribute foreign a) ≡ n ++ (codes "=\"" ++ (v ++ codes "\""))
attribute_bytes foreign a n v e f =
    text_then (printed_name foreign a.name) n (codes "=\"" ++ (a.value ++ codes "\"")) (codes "=\"" ++ (v ++ codes "\"")) e
    (between_bytes (codes "=\"") a.value (codes "\"") v refl refl f)

module _ (n p s n' : List ℕ) (e : n' ≡ encode_utf8_all n) where
  pub plain_doctype : ids p s ≡ [] → encode_utf8_all (codes "<!DOCTYPE " ++ (n ++ (ids p s ++ codes ">"))) ≡ codes "<!DOCTYPE " ++ (n' ++ codes ">")
  plain_doctype h =
      ap (λ i. encode_utf8_all (codes "<!DOCTYPE " ++ (n ++ (i ++ codes ">")))) h ∙ between_bytes (codes "<!DOCTYPE ") n (codes ">") n' refl refl e

  pub full_doctype : ids p s ≡ quoted_ids p s → (p' s' : List ℕ) → p' ≡ encode_utf8_all p → s' ≡ encode_utf8_all s
      → encode_utf8_all (codes "<!DOCTYPE " ++ (n ++ (ids p s ++ codes ">"))) ≡ codes "<!DOCTYPE " ++ (n' ++ (codes " \"" ++ (p' ++ (codes "\" \"" ++ (s' ++ codes "\">")))))
  full_doctype h p' s' f g =
      let regroup : quoted_ids p s ++ codes ">" ≡ codes " \"" ++ (p ++ (codes "\" \"" ++ (s ++ codes "\">"))) = ends p s in
      ap (λ i. encode_utf8_all (codes "<!DOCTYPE " ++ (n ++ (i ++ codes ">")))) h
      ∙ ap (λ i. encode_utf8_all (codes "<!DOCTYPE " ++ (n ++ i))) regroup
      ∙ literal_then (codes "<!DOCTYPE ") _ _ refl (text_then n n' _ _ e (literal_then (codes " \"") _ _ refl (text_then p p' _ _ f (between_bytes (codes "\" \"") s (codes "\">") s' refl refl g))))
    where
      ends : (p s : List ℕ) → quoted_ids p s ++ codes ">" ≡ codes " \"" ++ (p ++ (codes "\" \"" ++ (s ++ codes "\">")))
      ends p s = ap (λ l. codes " \"" ++ l) (append_assoc p (codes "\" \"" ++ (s ++ codes "\"")) (codes ">") ∙ ap (λ l. p ++ (codes "\" \"" ++ l)) (append_assoc s (codes "\"") (codes ">")))

-- the bytes of pieces
pub pieces_bytes : {X : Type 0} (f : X → List ℕ) (xs : List X) → encode_utf8_all (flat_map f xs) ≡ flat_map (λ x. encode_utf8_all (f x)) xs
pieces_bytes f [] = refl
pieces_bytes f (x ∷ xs) = encodes-append (f x) (flat_map f xs) ∙ ap (λ l. encode_utf8_all (f x) ++ l) (pieces_bytes f xs)

-- the bytes of an attribute's line, and of those of attributes
abbrev pub attribute_line : ℕ → Bool → Bor Attr → List ℕ
attribute_line depth foreign a = encode_utf8_all (line depth (shown_attribute foreign a.now))

pub attribute_lines : (depth : ℕ) (foreign : Bool) (attrs : List (Bor Attr))
    → encode_utf8_all (flat_map (λ a. line depth (shown_attribute foreign a)) (map (λ (a : Bor Attr). a.now) attrs)) ≡ flat_map (attribute_line depth foreign) attrs
attribute_lines depth foreign attrs =
    ap encode_utf8_all (flat_map-map (λ a. line depth (shown_attribute foreign a)) (λ (a : Bor Attr). a.now) attrs)
    ∙ pieces_bytes (λ (a : Bor Attr). line depth (shown_attribute foreign a.now)) attrs

pub line_between : (depth : ℕ) (a x b x' : List ℕ) → is_ascii a ≡ true → is_ascii b ≡ true → x' ≡ encode_utf8_all x → encode_utf8_all (line depth (a ++ (x ++ b))) ≡ line depth (a ++ (x' ++ b))
line_between depth a x b x' h k e = line_bytes depth (a ++ (x ++ b)) (a ++ (x' ++ b)) (between_bytes a x b x' h k e)
