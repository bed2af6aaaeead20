-- Prefixes and local names, of bytes and of code points.
use Rattle.std.proofs.Common.{◌≡◌, ℕ, Bool, true, false, List, [], ◌∷◌, ◌++◌, refl, sym, ◌∙◌, ap, inl, inr, drop, length, ◌<◌, ◌≤◌, arith, map, if◌then◌else◌, ◌⊎◌, ◌+◌, ◌/◌, ◌%◌, ◌||◌}
use Rattle.std.specs.Prelude.{codes, nat_lt}
use lib.Utf8.{encode}
use Rattle.std.proofs.lemmas.Bool.{cases_lt}
use Rattle.std.proofs.lemmas.Bool.Decides.{nat_tests}
use Rattle.std.specs.Str.{bytes_eq, chars, encode_utf8_all, IsUtf8}
use Rattle.std.specs.Char.{to_ascii_lowercase}
use Rattle.std.proofs.lemmas.Slice.Eq.{bytes_eq-Decides}
use Rattle.std.proofs.lemmas.Str.{chars-append, chars_from_encodes, encodes-chars, encode_ascii}
use Rattle.std.proofs.lemmas.Str.Ascii.{lowercase_is, lowercase_ascii}
use Rattle.html_names.specs.declared.foreign.Space.{Space}
use Rattle.html_names.specs.declared.foreign.Space.TheVariants as space
use Rattle.html_names.specs.declared.foreign.AttrSpace.{AttrSpace}
use Rattle.html_names.specs.declared.foreign.AttrSpace.TheVariants as attrs
use Rattle.html_names.specs.Names.{begins_with, svg_prefix, math_prefix}
use Rattle.html_names.specs.Foreign.{attr_space, is_html_encoding, is_lowered, local_attr_name, local_name, lowered, xlink_prefix, xml_prefix, xmlns_prefix, xmlns_space}
use Rattle.html_names.proofs.Cases.{cases_bool}
use Rattle.html_names.proofs.Begins.{begins_chars, begun}
use Rattle.html_names.proofs.Known.{svg_chars, math_chars}
use Rattle.html_names.proofs.Adjusted.{same_text}

-- a prefix that is its own code points
record IsPrefix (p : List ℕ) : Type 0 where
  utf8 : IsUtf8 p
  chars : chars p ≡ p
  encoded : encode_utf8_all p ≡ p

same_front : (p bs : List ℕ) → IsPrefix p → IsUtf8 bs → begins_with p bs ≡ begins_with p (chars bs)
same_front p bs i u = begins_chars p bs i.utf8 i.chars i.encoded u

dropped : (p rest : List ℕ) → drop (length p) (p ++ rest) ≡ rest
dropped [] rest = refl
dropped (c ∷ cs) rest = dropped cs rest

-- what follows it
rest-chars : (p bs : List ℕ) → IsPrefix p → begins_with p bs ≡ true → chars (drop (length p) bs) ≡ drop (length p) (chars bs)
rest-chars p bs i h =
    let (rest, r) = begun p bs h in
    let split : chars bs ≡ p ++ chars rest = ap chars r ∙ chars-append p rest i.utf8 ∙ ap (λ l. l ++ chars rest) i.chars in
    ap (λ l. chars (drop (length p) l)) r ∙ ap chars (dropped p rest) ∙ sym (ap (drop (length p)) split ∙ dropped p (chars rest))

is_svg_prefix : IsPrefix svg_prefix
unfolding lib.Utf8.encode
is_svg_prefix = record { utf8 = (svg_prefix, (refl, refl)); chars = svg_chars; encoded = refl }

is_math_prefix : IsPrefix math_prefix
unfolding lib.Utf8.encode
is_math_prefix = record { utf8 = (math_prefix, (refl, refl)); chars = math_chars; encoded = refl }

is_xlink_prefix : IsPrefix xlink_prefix
unfolding lib.Utf8.encode chars
is_xlink_prefix = record { utf8 = (xlink_prefix, (refl, refl)); chars = refl; encoded = refl }

is_xml_prefix : IsPrefix xml_prefix
unfolding lib.Utf8.encode chars
is_xml_prefix = record { utf8 = (xml_prefix, (refl, refl)); chars = refl; encoded = refl }

is_xmlns_prefix : IsPrefix xmlns_prefix
unfolding lib.Utf8.encode chars
is_xmlns_prefix = record { utf8 = (xmlns_prefix, (refl, refl)); chars = refl; encoded = refl }

-- one prefix: its rest, or what others make of the name
past : (p bs own other : List ℕ) → IsPrefix p → IsUtf8 bs → chars own ≡ other → chars (if begins_with p bs then drop (length p) bs else own) ≡ (if begins_with p (chars bs) then drop (length p) (chars bs) else other)
past p bs own other i u e = elim (cases_bool (begins_with p bs)) [
  | inl h ↦ rw (← same_front p bs i u, h) (rest-chars p bs i h)
  | inr h ↦ rw (← same_front p bs i u, h) e
]

local_name-chars : (bs : List ℕ) → IsUtf8 bs → chars (local_name bs) ≡ local_name (chars bs)
local_name-chars bs u = past svg_prefix bs _ _ is_svg_prefix u (past math_prefix bs _ _ is_math_prefix u refl)

pub local_name-code_points : (r bs : List ℕ) → IsUtf8 bs → r ≡ local_name bs → chars r ≡ local_name (chars bs)
local_name-code_points r bs u e = ap chars e ∙ local_name-chars bs u

pub local_attr_name-code_points : (r bs : List ℕ) → IsUtf8 bs → r ≡ local_attr_name bs → chars r ≡ local_attr_name (chars bs)
local_attr_name-code_points r bs u e = ap chars e ∙ past xlink_prefix bs _ _ is_xlink_prefix u (past xml_prefix bs _ _ is_xml_prefix u (past xmlns_prefix bs _ _ is_xmlns_prefix u refl))

xmlns_space-chars : (s : Space) (bs : List ℕ) → IsUtf8 bs → xmlns_space s bs ≡ xmlns_space s (chars bs)
xmlns_space-chars space.Html bs u = refl
xmlns_space-chars space.Svg bs u = rw (same_text _ bs refl u) refl
xmlns_space-chars space.Math bs u = rw (same_text _ bs refl u) refl

pub attr_space-chars : (s : Space) (bs : List ℕ) → IsUtf8 bs → attr_space s bs ≡ attr_space s (chars bs)
attr_space-chars s bs u =
    rw (same_front xlink_prefix bs is_xlink_prefix u, same_front xml_prefix bs is_xml_prefix u, same_front xmlns_prefix bs is_xmlns_prefix u, xmlns_space-chars s bs u) refl

-- IN LOWER CASE

low_test : (c : ℕ) → 128 ≤ c → nat_lt c 128 ≡ false
low_test c h = grind (arith, nat_tests)

high : (b : ℕ) → 91 ≤ b → to_ascii_lowercase b ≡ b
high b h = (lowercase_is b).2 (omega arith)

two : (a b : ℕ) → 91 ≤ a → 91 ≤ b → lowered (a ∷ b ∷ []) ≡ a ∷ b ∷ []
two a b h k = rw (high a h, high b k) refl

three : (a b c : ℕ) → 91 ≤ a → 91 ≤ b → 91 ≤ c → lowered (a ∷ b ∷ c ∷ []) ≡ a ∷ b ∷ c ∷ []
three a b c h k l = ap (λ x. x ∷ lowered (b ∷ c ∷ [])) (high a h) ∙ ap (λ x. a ∷ x) (two b c k l)

four : (a b c d : ℕ) → 91 ≤ a → 91 ≤ b → 91 ≤ c → 91 ≤ d → lowered (a ∷ b ∷ c ∷ d ∷ []) ≡ a ∷ b ∷ c ∷ d ∷ []
four a b c d h k l m = ap (λ x. x ∷ lowered (b ∷ c ∷ d ∷ [])) (high a h) ∙ ap (λ x. a ∷ x) (three b c d k l m)

lowered_append : (xs ys : List ℕ) → lowered (xs ++ ys) ≡ lowered xs ++ lowered ys
lowered_append [] ys = refl
lowered_append (x ∷ xs) ys = ap (λ l. to_ascii_lowercase x ∷ l) (lowered_append xs ys)

-- the bytes of a code point that is no ASCII are none either
high_bytes : (c : ℕ) → 128 ≤ c → lowered (encode c) ≡ encode c
unfolding lib.Utf8.encode
high_bytes c h = rw (low_test c h) (elim (cases_bool (nat_lt c 2048)) [
  | inl e ↦ rw e (two (192 + c / 64) (128 + c % 64) (omega arith) (omega arith))
  | inr e ↦ rw e (elim (cases_bool (nat_lt c 65536)) [
    | inl f ↦ rw f (three (224 + c / 4096) (128 + c / 64 % 64) (128 + c % 64) (omega arith) (omega arith) (omega arith))
    | inr f ↦ rw f (four (240 + c / 262144) (128 + c / 4096 % 64) (128 + c / 64 % 64) (128 + c % 64) (omega arith) (omega arith) (omega arith) (omega arith))
  ])
])

encode_lowered : (c : ℕ) → encode (to_ascii_lowercase c) ≡ lowered (encode c)
encode_lowered c = elim (cases_lt c 128) [
  | inl h ↦ encode_ascii (to_ascii_lowercase c) (lowercase_ascii c h) ∙ ap lowered (sym (encode_ascii c h))
  | inr h ↦ ap encode ((lowercase_is c).2 (omega arith)) ∙ sym (high_bytes c h)
]

lowered_encodes : (cs : List ℕ) → encode_utf8_all (lowered cs) ≡ lowered (encode_utf8_all cs)
lowered_encodes [] = refl
lowered_encodes (c ∷ cs) =
    ap (λ l. l ++ encode_utf8_all (lowered cs)) (encode_lowered c) ∙ ap (λ l. lowered (encode c) ++ l) (lowered_encodes cs) ∙ sym (lowered_append (encode c) (encode_utf8_all cs))

pub is_lowered-chars : (a b : List ℕ) → IsUtf8 a → IsUtf8 b → is_lowered a b ≡ is_lowered (chars a) (chars b)
is_lowered-chars a b u v =
    let whole : encode_utf8_all (lowered (chars a)) ≡ lowered a = lowered_encodes (chars a) ∙ ap lowered (encodes-chars a u) in
    elim (cases_bool (is_lowered a b)) [
      | inl e ↦
          let here : lowered a ≡ b = (bytes_eq-Decides (lowered a) b).0 e in
          let there : lowered (chars a) ≡ chars b = chars_from_encodes (lowered (chars a)) b v (whole ∙ here) in
          e ∙ sym ((bytes_eq-Decides (lowered (chars a)) (chars b)).1 there)
      | inr e ↦ elim (cases_bool (is_lowered (chars a) (chars b))) [
        | inl k ↦
            let there : lowered (chars a) ≡ chars b = (bytes_eq-Decides (lowered (chars a)) (chars b)).0 k in
            let here : lowered a ≡ b = sym whole ∙ ap encode_utf8_all there ∙ encodes-chars b v in
            (bytes_eq-Decides (lowered a) b).1 here ∙ sym k
        | inr k ↦ e ∙ sym k
      ]
    ]

text_html_chars : chars (codes "text/html") ≡ codes "text/html"
unfolding chars
text_html_chars = refl

xhtml_chars : chars (codes "application/xhtml+xml") ≡ codes "application/xhtml+xml"
unfolding chars
xhtml_chars = refl

text_html_utf8 : IsUtf8 (codes "text/html")
unfolding lib.Utf8.encode
text_html_utf8 = (codes "text/html", (refl, refl))

xhtml_utf8 : IsUtf8 (codes "application/xhtml+xml")
unfolding lib.Utf8.encode
xhtml_utf8 = (codes "application/xhtml+xml", (refl, refl))

either : (a b c d : Bool) → a ≡ c → b ≡ d → (a || b) ≡ (c || d)
either a b c d h k = rw (h, k) refl

pub is_html_encoding-chars : (v : List ℕ) → IsUtf8 v → is_html_encoding v ≡ is_html_encoding (chars v)
is_html_encoding-chars v u = either _ _ _ _
    (is_lowered-chars v (codes "text/html") u text_html_utf8 ∙ ap (is_lowered (chars v)) text_html_chars)
    (is_lowered-chars v (codes "application/xhtml+xml") u xhtml_utf8 ∙ ap (is_lowered (chars v)) xhtml_chars)

pub is_local_name-code_points : (r : Bool) (l e b : List ℕ) → IsUtf8 l → IsUtf8 e → IsUtf8 b → l ≡ local_name e → r ≡ is_lowered l b → r ≡ is_lowered (local_name (chars e)) (chars b)
is_local_name-code_points r l e b ul ue ub is h = h ∙ is_lowered-chars l b ul ub ∙ ap (λ x. is_lowered x (chars b)) (local_name-code_points l e ue is)
