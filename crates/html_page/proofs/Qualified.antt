-- Names of foreign content as they are written, in bytes and in code points.
use Rattle.std.proofs.Common.{◌≡◌, ◌≢◌, ℕ, suc, ◌+◌, ◌<◌, true, false, List, [], ◌∷◌, ◌++◌, drop, length, refl, sym, ap, subst, ◌∙◌, arith, length-append, inl, inr}
use Rattle.std.specs.Prelude.{◌==◌, get_or}
use Rattle.std.specs.List.{AllByRecursion}
use Rattle.std.specs.Str.{chars, encode_utf8_all, IsUtf8}
use Rattle.std.proofs.lemmas.Bool.Decides.{nat_tests}
use Rattle.std.proofs.lemmas.List.{get_or-append-add}
use Rattle.std.proofs.Math.Seq.{get_or-append_seam, take-append_seam}
use Rattle.std.proofs.lemmas.Str.{IsCharBoundary-after_ascii, IsCharBoundary-at_seam, IsUtf8-append, IsUtf8-drop, IsUtf8-take, IsUtf8-encode, chars-append, chars_past_char, encodes-append, encodes-chars}
use Rattle.html_names.specs.Foreign.{local_name}
use Rattle.html_page.specs.Html.{qualified}
use Rattle.html_page.proofs.Kin.{cases_bool}
use Rattle.html_page.proofs.Tagged.{ascii_then}

-- the bytes of a local name are those of its code points
pub local_bytes : (n whole local : List ℕ) → IsUtf8 local → chars whole ≡ n → chars local ≡ local_name (chars whole) → local ≡ encode_utf8_all (local_name n)
local_bytes n whole local u e f = sym (encodes-chars local u) ∙ ap encode_utf8_all (f ∙ ap local_name e)

-- no space is among these
abbrev pub Spaceless : List ℕ → Type 0
Spaceless xs = (i : ℕ) → i < length xs → get_or xs i 0 ≢ 32

abbrev NoneIsSpace : List ℕ → Type 0
NoneIsSpace ns = AllByRecursion (λ c. (c == 32) ≡ false) ns

is_space : (c : ℕ) → (c == 32) ≡ true → c ≡ 32
is_space c e = grind (arith, nat_tests)

-- without a space among the bytes there is none among the code points
spaceless : (ns : List ℕ) → Spaceless (encode_utf8_all ns) → NoneIsSpace ns
spaceless [] h = tt
spaceless (n ∷ ns) h = (elim (cases_bool (n == 32)) [ inl e ↦ absurd (space n ns (is_space n e) h) | inr e ↦ e ], spaceless ns (tail n ns h))
  where
    space : (n : ℕ) (ns : List ℕ) → n ≡ 32 → Spaceless (encode_utf8_all (n ∷ ns)) → ⊥
    space n ns e h =
        let bytes : encode_utf8_all (n ∷ ns) ≡ 32 ∷ encode_utf8_all ns = ap (λ c. encode_utf8_all (c ∷ ns)) e ∙ ascii_then (32 ∷ []) ns refl in
        (subst Spaceless bytes h) 0 (omega arith) refl

    tail : (n : ℕ) (ns : List ℕ) → Spaceless (encode_utf8_all (n ∷ ns)) → Spaceless (encode_utf8_all ns)
    tail n ns h =
        let first = encode_utf8_all (n ∷ []) in
        let bytes : encode_utf8_all (n ∷ ns) ≡ first ++ encode_utf8_all ns = encodes-append (n ∷ []) ns in
        λ i less e. (subst Spaceless bytes h) (length first + i) (omega (arith, less, length-append first (encode_utf8_all ns))) (get_or-append-add first (encode_utf8_all ns) i 0 ∙ e)

stays_whole : (ns : List ℕ) → NoneIsSpace ns → qualified ns ≡ ns
unfolding qualified
stays_whole [] h = refl
stays_whole (c ∷ cs) h = rw (h.0, stays_whole cs h.1) refl

has_colon : (xs ys : List ℕ) → NoneIsSpace xs → qualified (xs ++ 32 ∷ ys) ≡ xs ++ 58 ∷ ys
unfolding qualified
has_colon [] ys h = refl
has_colon (x ∷ xs) ys h = rw (h.0, has_colon xs ys h.1) refl

-- the bytes of a name without a space
pub whole_name : (name : List ℕ) → IsUtf8 name → Spaceless name → encode_utf8_all (qualified (chars name)) ≡ name
whole_name name u h =
    let none = spaceless (chars name) (subst Spaceless (sym (encodes-chars name u)) h) in
    ap encode_utf8_all (stays_whole (chars name) none) ∙ encodes-chars name u

space_text : IsUtf8 (32 ∷ [])
unfolding lib.Utf8.encode
space_text = IsUtf8-encode 32 refl

space_first : (local : List ℕ) → IsUtf8 local → chars (32 ∷ local) ≡ 32 ∷ chars local
unfolding lib.Utf8.encode
space_first local v = chars_past_char (32 ∷ local) local 32 (IsUtf8-append (32 ∷ []) local space_text v) refl

-- and of one that is cut at its first space
pub cut_name : (name prefix local : List ℕ) → IsUtf8 prefix → IsUtf8 local → name ≡ prefix ++ 32 ∷ local → Spaceless prefix → encode_utf8_all (qualified (chars name)) ≡ prefix ++ 58 ∷ local
cut_name name prefix local u v e h =
    let none = spaceless (chars prefix) (subst Spaceless (sym (encodes-chars prefix u)) h) in
    let space : encode_utf8_all (32 ∷ chars local) ≡ 32 ∷ local = ascii_then (32 ∷ []) (chars local) refl ∙ ap (λ l. 32 ∷ l) (encodes-chars local v) in
    let bytes : name ≡ encode_utf8_all (chars prefix ++ 32 ∷ chars local)
    = e ∙ ap (λ l. l ++ 32 ∷ local) (sym (encodes-chars prefix u)) ∙ ap (λ l. encode_utf8_all (chars prefix) ++ l) (sym space) ∙ sym (encodes-append (chars prefix) (32 ∷ chars local)) in
    let point : chars (32 ∷ local) ≡ 32 ∷ chars local = space_first local v in
    let points : chars name ≡ chars prefix ++ 32 ∷ chars local = ap chars e ∙ chars-append prefix (32 ∷ local) u ∙ ap (λ l. chars prefix ++ l) point in
    ap (λ l. encode_utf8_all (qualified l)) points
    ∙ ap encode_utf8_all (has_colon (chars prefix) (chars local) none)
    ∙ encodes-append (chars prefix) (58 ∷ chars local)
    ∙ ap (λ l. l ++ encode_utf8_all (58 ∷ chars local)) (encodes-chars prefix u)
    ∙ ap (λ l. prefix ++ l) (ascii_then (58 ∷ []) (chars local) refl ∙ ap (λ l. 58 ∷ l) (encodes-chars local v))

-- what stands around a space is text
past_seam : (prefix local : List ℕ) → drop (length prefix + 1) (prefix ++ 32 ∷ local) ≡ local
past_seam [] local = refl
past_seam (x ∷ xs) local = let e : suc (length xs) + 1 ≡ suc (length xs + 1) = omega arith in rw e (past_seam xs local)

pub local_text : (prefix local : List ℕ) → IsUtf8 (prefix ++ 32 ∷ local) → IsUtf8 local
local_text prefix local u =
    let bs = prefix ++ 32 ∷ local in
    let low : get_or bs (length prefix) 0 < 128 = rw (get_or-append_seam prefix 32 local 0) (omega arith) in
    subst IsUtf8 (past_seam prefix local) (IsUtf8-drop bs (length prefix + 1) u (IsCharBoundary-after_ascii bs (length prefix) u (omega (arith, length-append prefix (32 ∷ local))) low))

pub prefix_text : (prefix local : List ℕ) → IsUtf8 (prefix ++ 32 ∷ local) → IsUtf8 prefix
prefix_text prefix local u =
    let bs = prefix ++ 32 ∷ local in
    let rest : IsUtf8 (32 ∷ local) = IsUtf8-append (32 ∷ []) local space_text (local_text prefix local u) in
    subst IsUtf8 (take-append_seam prefix (32 ∷ local)) (IsUtf8-take bs (length prefix) u (IsCharBoundary-at_seam bs prefix (32 ∷ local) refl rest))
