-- Where a tag ends, and what is told there.
use Rattle.std.proofs.Common.{◌≡◌, ℕ, zero, suc, ◌+◌, ◌<◌, ◌≤◌, List, [], ◌∷◌, Bool, true, false, cond, ◌==◌, ◌&&◌, ◌||◌, refl, ap, ◌∙◌, arith, add-zero}
use Rattle.std.specs.List.{slice_get}
use Rattle.std.proofs.lemmas.Bool.{false≢true, ne_eqb}
use Rattle.html_charref.specs.declared.table.Row.{Row}
use Rattle.html_tokens.specs.Cut.{cut, is, is_space}
use Rattle.html_tokens.specs.Inside.{ends_here, tag_end_errors, tag_told}
use Rattle.html_tokens.specs.Tag.{Tail, attribute, draft_tag, longer_tag, longer_tail, name_char, part_tail, tag_by, tail, value, after_name, after_some, with_attr}
use Rattle.html_tokens.specs.Tag.{Tag as WholeTag}
use Rattle.html_tokens.specs.Value.{value_cut}
use Rattle.html_tokens.specs.declared.fault_name.FaultName.TheVariants as names
use Rattle.html_tokens.specs.declared.faults.Fault.{Fault}
use Rattle.html_tokens.specs.declared.tag.Part.{Part}
use Rattle.html_tokens.specs.declared.tag.Part.TheVariants as parts
use Rattle.html_tokens.specs.declared.tag.TagDraft.{TagDraft}

-- what closes a tag is one code point at least, and two where it closes the element too
record IsLong (t : Tail) : Type 0 where
  one : t.closed ≡ true → 1 ≤ t.len
  two : t.self_closing ≡ true → 2 ≤ t.len

either : (P : Tail → Type 0) (b : Bool) (x y : Tail) → P x → P y → P (cond b x y)
either P true x y p q = p
either P false x y p q = q

longer_long : (t : Tail) → IsLong t → IsLong (longer_tail t)
longer_long t l = record { one = λ e. let n = l.one e in omega (arith, n); two = λ e. let n = l.two e in omega (arith, n) }

tail_long : (rows : List Row) (k : ℕ) (text : List ℕ) → IsLong (tail rows k text)
unfolding tail
tail_long rows k [] = record { one = λ e. absurd (false≢true e); two = λ e. absurd (false≢true e) }
tail_long rows zero (c ∷ rest) =
    let P : Tail → Type 0 = λ t. IsLong t in
    let named = attribute rows (name_char c ∷ []) [] rest in
    let closed : Tail = record { attrs = []; self_closing = false; closed = true; len = 1 } in
    let slash : Tail = record { attrs = []; self_closing = true; closed = true; len = 2 } in
    let skip = longer_tail (tail rows 0 rest) in
    let more = with_attr named.attr (longer_tail (tail rows named.len rest)) in
    let on = longer_long (tail rows named.len rest) (tail_long rows named.len rest) in
    either P (c == 62) closed (cond (c == 47 && is 62 (slice_get rest 0)) slash (cond (c == 47 || is_space c) skip more))
    (record { one = λ e. omega arith; two = λ e. absurd (false≢true e) })
    (either P (c == 47 && is 62 (slice_get rest 0)) slash (cond (c == 47 || is_space c) skip more)
    (record { one = λ e. omega arith; two = λ e. omega arith })
    (either P (c == 47 || is_space c) skip more
    (longer_long (tail rows 0 rest) (tail_long rows 0 rest))
    (record { one = on.one; two = on.two })))
tail_long rows (suc k) (c ∷ rest) = longer_long (tail rows k rest) (tail_long rows k rest)

part_long : (rows : List Row) (part : Part) (name val text : List ℕ) → IsLong (part_tail rows part name val text)
part_long rows parts.Name name val text = tail_long rows _ text
part_long rows parts.Attributes name val text = tail_long rows _ text
part_long rows parts.AttrName name val text = let l = tail_long rows (attribute rows name val text).len text in record { one = l.one; two = l.two }
part_long rows parts.AfterName name val text = let l = tail_long rows (after_name rows text).len text in record { one = l.one; two = l.two }
part_long rows parts.Value name val text = let l = tail_long rows (value rows text).len text in record { one = l.one; two = l.two }
part_long rows (parts.Inside end) name val text = let l = tail_long rows (value_cut rows end 0 text).len text in record { one = l.one; two = l.two }
part_long rows (parts.Number end base value start) name val text = let l = tail_long rows _ text in record { one = l.one; two = l.two }
part_long rows (parts.Ampersand end start) name val text = let l = tail_long rows (value_cut rows end 0 text).len text in record { one = l.one; two = l.two }

pub differs : (a b : ℕ) → ¬ (a ≡ b) → (a == b) ≡ false
differs a b h = ne_eqb a b h

not_here : (closed self : Bool) (len n : ℕ) → 0 < n → (closed ≡ true → 1 ≤ len) → (self ≡ true → 2 ≤ len) → cond closed (n + len == 1 || (self && n + len == 2)) (n + len == 0) ≡ false
not_here true true len n h one two =
    let k = two refl in
    rw (differs (n + len) 1 (λ e. omega (arith, e, h, k)), differs (n + len) 2 (λ e. omega (arith, e, h, k))) refl
not_here true false len n h one two =
    let k = one refl in
    rw (differs (n + len) 1 (λ e. omega (arith, e, h, k))) refl
not_here false self len n h one two = rw (differs (n + len) 0 (λ e. omega (arith, e, h))) refl

-- before what ends a tag nothing is told
pub passed_told : (rows : List Row) (d d' : TagDraft) (is_end : Bool) (place n : ℕ) (text rest : List ℕ) → 0 < n → draft_tag rows d text ≡ tag_by n (draft_tag rows d' rest) → tag_told is_end place (draft_tag rows d text).tail ≡ []
passed_told rows d d' is_end place n text rest h e =
    let t = part_tail rows d'.part d'.attr_name d'.attr_value rest in
    let l = part_long rows d'.part d'.attr_name d'.attr_value rest in
    ap (λ (x : WholeTag). tag_told is_end place x.tail) e
    ∙ ap (λ (b : Bool). cond b (tag_end_errors is_end (place + (n + t.len)) (tag_by n (draft_tag rows d' rest)).tail) []) (not_here t.closed t.self_closing t.len n h l.one l.two)

longer_is : (t : WholeTag) → longer_tag t ≡ tag_by 1 t
longer_is t = let e : suc t.tail.len ≡ 1 + t.tail.len = omega arith in rw e refl

pub one_told : (rows : List Row) (d d' : TagDraft) (is_end : Bool) (place : ℕ) (text rest : List ℕ) → draft_tag rows d text ≡ longer_tag (draft_tag rows d' rest) → tag_told is_end place (draft_tag rows d text).tail ≡ []
one_told rows d d' is_end place text rest e = passed_told rows d d' is_end place 1 text rest (omega arith) (e ∙ longer_is (draft_tag rows d' rest))

closing_len : (self : Bool) (n : ℕ) → n ≡ cond self 2 1 → (n == 1 || (self && n == 2)) ≡ true
closing_len true n e = rw e refl
closing_len false n e = rw e refl

here : (closed self : Bool) (n : ℕ) → closed ≡ true → n ≡ cond self 2 1 → cond closed (n == 1 || (self && n == 2)) (n == 0) ≡ true
here closed self n c e = rw c (closing_len self n e)

-- where it closes, its errors are told
pub closing_told : (rows : List Row) (d : TagDraft) (is_end : Bool) (place : ℕ) (text : List ℕ) (t : WholeTag) → draft_tag rows d text ≡ t → t.tail.closed ≡ true → t.tail.len ≡ cond t.tail.self_closing 2 1 →
    tag_told is_end place (draft_tag rows d text).tail ≡ tag_end_errors is_end (place + t.tail.len) t.tail
closing_told rows d is_end place text t e closed len =
    ap (λ (x : WholeTag). tag_told is_end place x.tail) e
    ∙ ap (λ (b : Bool). cond b (tag_end_errors is_end (place + t.tail.len) t.tail) []) (here t.tail.closed t.tail.self_closing t.tail.len closed len)

none_either : (b : Bool) (x : List Fault) → x ≡ [] → cond b x [] ≡ []
none_either true x e = e
none_either false x e = refl

start_end : (end : ℕ) (t : Tail) → t.closed ≡ true → tag_end_errors false end t ≡ []
start_end end t e = rw e refl

-- a start tag that closes tells nothing
pub start_told : (rows : List Row) (d : TagDraft) (place : ℕ) (text : List ℕ) (t : WholeTag) → d.is_end ≡ false → draft_tag rows d text ≡ t → t.tail.closed ≡ true → tag_told d.is_end place (draft_tag rows d text).tail ≡ []
start_told rows d place text t is e closed =
    ap (λ (x : WholeTag). tag_told d.is_end place x.tail) e
    ∙ rw is (none_either (ends_here t.tail) (tag_end_errors false (place + t.tail.len) t.tail) (start_end (place + t.tail.len) t.tail closed))

bare_end : (is_end : Bool) (end len : ℕ) → tag_end_errors is_end end (record { attrs = []; self_closing = false; closed = true; len = len }) ≡ []
bare_end true end len = refl
bare_end false end len = refl

-- a tag without attributes tells nothing
pub bare_told : (rows : List Row) (d : TagDraft) (is_end : Bool) (place n : ℕ) (text name : List ℕ) → draft_tag rows d text ≡ record { name = name; tail = record { attrs = []; self_closing = false; closed = true; len = n } } → tag_told is_end place (draft_tag rows d text).tail ≡ []
bare_told rows d is_end place n text name e =
    ap (λ (x : WholeTag). tag_told is_end place x.tail) e
    ∙ none_either (ends_here (record { attrs = []; self_closing = false; closed = true; len = n })) _ (bare_end is_end (place + n) n)

tail_empty : (rows : List Row) (part : Part) (name val : List ℕ) → ((part_tail rows part name val []).closed ≡ false) × ((part_tail rows part name val []).len ≡ 0)
unfolding cut tail value after_name after_some value_cut
tail_empty rows parts.Name name val = (refl, refl)
tail_empty rows parts.Attributes name val = (refl, refl)
tail_empty rows parts.AttrName name val = (refl, refl)
tail_empty rows parts.AfterName name val = (refl, refl)
tail_empty rows parts.Value name val = (refl, refl)
tail_empty rows (parts.Inside end) name val = (refl, refl)
tail_empty rows (parts.Number end base value start) name val = (refl, refl)
tail_empty rows (parts.Ampersand end start) name val = (refl, refl)

-- at the end of the text
pub end_told : (rows : List Row) (d : TagDraft) (place : ℕ) → tag_end_errors d.is_end (place + (draft_tag rows d []).tail.len) (draft_tag rows d []).tail ≡ tag_told d.is_end place (draft_tag rows d []).tail
end_told rows d place = let e = tail_empty rows d.part d.attr_name d.attr_value in rw (e.0, e.1) refl

pub end_is : (rows : List Row) (d : TagDraft) (place : ℕ) → tag_told d.is_end place (draft_tag rows d []).tail ≡ record { name = names.EofInTag; place = place } ∷ []
end_is rows d place = let e = tail_empty rows d.part d.attr_name d.attr_value in rw (e.0, e.1, add-zero) refl
