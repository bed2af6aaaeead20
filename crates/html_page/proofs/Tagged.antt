-- The bytes of tags, cut as they are written.
use Rattle.std.proofs.Common.{◌≡◌, ℕ, Bool, true, List, [], ◌∷◌, ◌++◌, take, drop, get_or, length, refl, sym, ◌∙◌, ap, append_assoc, append-nil, take-append-drop, drop_of_length-le, add-one, suc, ◌<◌, ◌≤◌, ◌+◌}
use Rattle.std.specs.Prelude.{codes}
use Rattle.std.specs.Str.{encode_utf8_all}
use Rattle.std.specs.List.{flat_map}
use Rattle.std.proofs.lemmas.List.Concat.{flat_map-append}
use Rattle.std.proofs.Math.Seq.{take-suc, drop-cons}
use Rattle.std.proofs.lemmas.Str.{encodes-append, encodes-IsAscii}
use Rattle.html_tokens.specs.declared.attributes.Attr.{Attr}
use Rattle.html_page.specs.declared.profile.Profile.{Profile}
use Rattle.html_page.specs.Html.{attribute, attribute_name, is_foreign_name, start_tag, written_name, escaped_in_value}
use Rattle.html_page.proofs.Ascii.{is_ascii, ascii_from}

pub ascii_only : (m : List ℕ) → is_ascii m ≡ true → encode_utf8_all m ≡ m
ascii_only m h = encodes-IsAscii m (ascii_from m h)

pub ascii_then : (m xs : List ℕ) → is_ascii m ≡ true → encode_utf8_all (m ++ xs) ≡ m ++ encode_utf8_all xs
ascii_then m xs h = encodes-append m xs ∙ ap (λ l. l ++ encode_utf8_all xs) (ascii_only m h)

-- a text between two that are ASCII
pub between : (a b x x' : List ℕ) → is_ascii a ≡ true → is_ascii b ≡ true → x' ≡ encode_utf8_all x → encode_utf8_all (a ++ (x ++ b)) ≡ a ++ (x' ++ b)
between a b x x' h k e = ascii_then a (x ++ b) h ∙ ap (λ l. a ++ l) (encodes-append x b ∙ ap (λ l. l ++ encode_utf8_all b) (sym e) ∙ ap (λ l. x' ++ l) (ascii_only b k))

-- two texts, each after one that is ASCII, and one more
pub between_two : (a b d x y x' y' : List ℕ) → is_ascii a ≡ true → is_ascii b ≡ true → is_ascii d ≡ true → x' ≡ encode_utf8_all x → y' ≡ encode_utf8_all y
    → encode_utf8_all (a ++ (x ++ (b ++ (y ++ d)))) ≡ (a ++ (x' ++ b)) ++ (y' ++ d)
between_two a b d x y x' y' h k l e f =
    ascii_then a (x ++ (b ++ (y ++ d))) h
    ∙ ap (λ v. a ++ v) (
    encodes-append x (b ++ (y ++ d))
    ∙ ap (λ v. v ++ encode_utf8_all (b ++ (y ++ d))) (sym e)
    ∙ ap (λ v. x' ++ v) (ascii_then b (y ++ d) k ∙ ap (λ v. b ++ v) (encodes-append y d ∙ ap (λ v. v ++ encode_utf8_all d) (sym f) ∙ ap (λ v. y' ++ v) (ascii_only d l)))
    )
    ∙ simp append_assoc

pub attribute_cut : (p : Profile) (f : Bool) (a : Attr) (n v : List ℕ) → n ≡ encode_utf8_all (attribute_name f a.name) → v ≡ encode_utf8_all (flat_map (escaped_in_value p) a.value)
    → encode_utf8_all (attribute p f a) ≡ (codes " " ++ (n ++ codes "=\"")) ++ (v ++ codes "\"")
attribute_cut p f a n v e g = between_two (codes " ") (codes "=\"") (codes "\"") (attribute_name f a.name) (flat_map (escaped_in_value p) a.value) n v refl refl refl e g

pub start_tag_cut : (p : Profile) (f : Bool) (name : List ℕ) (attrs : List Attr) (n v : List ℕ) → is_foreign_name name ≡ f → n ≡ encode_utf8_all (written_name f name) → v ≡ encode_utf8_all (flat_map (attribute p f) attrs)
    → encode_utf8_all (start_tag p name attrs) ≡ (codes "<" ++ (n ++ [])) ++ (v ++ codes ">")
start_tag_cut p f name attrs n v i e g =
    ap (λ b. encode_utf8_all (codes "<" ++ (written_name b name ++ (flat_map (attribute p b) attrs ++ codes ">")))) i
    ∙ between_two (codes "<") [] (codes ">") (written_name f name) (flat_map (attribute p f) attrs) n v refl refl refl e g

regroup : (a b c d e : List ℕ) → a ++ ((b ++ (c ++ d)) ++ e) ≡ (a ++ b) ++ (c ++ (d ++ e))
regroup a b c d e = simp append_assoc

take_all : {A : Type 0} (xs : List A) (i : ℕ) → length xs ≤ i → take i xs ≡ xs
take_all xs i h = sym (append-nil (take i xs)) ∙ ap (λ l. take i xs ++ l) (sym (drop_of_length-le xs h)) ∙ take-append-drop i xs

module _ (p : Profile) (f : Bool) (name : List ℕ) (attrs : List Attr) (foreign : is_foreign_name name ≡ f) (i : ℕ) where
  -- what is written once the first i attributes are
  abbrev pub opened : List ℕ
  opened = (codes "<" ++ (encode_utf8_all (written_name f name) ++ [])) ++ encode_utf8_all (flat_map (attribute p f) (take i attrs))

  pub opened_more : (a : Attr) → i < length attrs → a ≡ get_or attrs i a
      → (codes "<" ++ (encode_utf8_all (written_name f name) ++ [])) ++ encode_utf8_all (flat_map (attribute p f) (take (i + 1) attrs)) ≡ opened ++ encode_utf8_all (attribute p f a)
  opened_more a h e =
      ap (λ l. (codes "<" ++ (encode_utf8_all (written_name f name) ++ [])) ++ l) (
      ap (λ l. encode_utf8_all (flat_map (attribute p f) l)) (rw add-one (take-suc attrs i a h) ∙ ap (λ b. take i attrs ++ b ∷ []) (sym e))
      ∙ ap encode_utf8_all (flat_map-append (attribute p f) (take i attrs) (a ∷ []) ∙ ap (λ l. flat_map (attribute p f) (take i attrs) ++ l) (append-nil (attribute p f a)))
      ∙ encodes-append (flat_map (attribute p f) (take i attrs)) (attribute p f a)
      )
      ∙ sym (append_assoc (codes "<" ++ (encode_utf8_all (written_name f name) ++ [])) (encode_utf8_all (flat_map (attribute p f) (take i attrs))) (encode_utf8_all (attribute p f a)))

  pub opened_at : (a : Attr) → i < length attrs → a ≡ get_or attrs i a
      → encode_utf8_all (start_tag p name attrs) ≡ opened ++ (encode_utf8_all (attribute p f a) ++ (encode_utf8_all (flat_map (attribute p f) (drop (suc i) attrs)) ++ codes ">"))
  opened_at a h e =
      let later = drop (suc i) attrs in
      let split : attrs ≡ take i attrs ++ (a ∷ later) = sym (take-append-drop i attrs) ∙ ap (λ l. take i attrs ++ l) (drop-cons attrs i a h ∙ ap (λ b. b ∷ later) (sym e)) in
      start_tag_cut p f name attrs (encode_utf8_all (written_name f name)) _ foreign refl refl
      ∙ ap (λ l. (codes "<" ++ (encode_utf8_all (written_name f name) ++ [])) ++ (l ++ codes ">")) (
      ap (λ l. encode_utf8_all (flat_map (attribute p f) l)) split
      ∙ ap encode_utf8_all (flat_map-append (attribute p f) (take i attrs) (a ∷ later))
      ∙ encodes-append (flat_map (attribute p f) (take i attrs)) (attribute p f a ++ flat_map (attribute p f) later)
      ∙ ap (λ l. encode_utf8_all (flat_map (attribute p f) (take i attrs)) ++ l) (encodes-append (attribute p f a) (flat_map (attribute p f) later))
      )
      ∙ regroup (codes "<" ++ (encode_utf8_all (written_name f name) ++ [])) (encode_utf8_all (flat_map (attribute p f) (take i attrs))) (encode_utf8_all (attribute p f a)) (encode_utf8_all (flat_map (attribute p f) later)) (codes ">")

  pub opened_all : length attrs ≤ i → encode_utf8_all (start_tag p name attrs) ≡ opened ++ codes ">"
  opened_all h =
      start_tag_cut p f name attrs (encode_utf8_all (written_name f name)) _ foreign refl refl
      ∙ ap (λ l. (codes "<" ++ (encode_utf8_all (written_name f name) ++ [])) ++ (encode_utf8_all (flat_map (attribute p f) l) ++ codes ">")) (sym (take_all attrs i h))
      ∙ sym (append_assoc (codes "<" ++ (encode_utf8_all (written_name f name) ++ [])) (encode_utf8_all (flat_map (attribute p f) (take i attrs))) (codes ">"))
