-- The names of attributes while a tag is read.
use Rattle.std.proofs.Common.{◌≡◌, ℕ, List, [], ◌∷◌, ◌++◌, ◌&&◌, ◌||◌, ◌==◌, Bool, true, false, cond, Option, Some, None, Result, Ok, Err, refl, ap, sym, ◌∙◌}
use Rattle.std.specs.Result.{IfOk}
use Rattle.std.specs.Str.{bytes_eq}
use Rattle.std.proofs.lemmas.Bool.{false≢true}
use Rattle.html_tokens.specs.AttrNames.{AttrNames, NamesOn, ends_attr_name, is_kept, name_errors, names_by, names_in, names_of, next_names, with_name}
use Rattle.html_tokens.specs.Cut.{ends_unquoted, is_space}
use Rattle.html_tokens.specs.Inside.{fault_when}
use Rattle.html_tokens.specs.Tag.{AddsAttr, add_first, attr, ends_attr, ends_name, has_name}
use Rattle.html_tokens.specs.declared.attributes.Attr.{Attr}
use Rattle.html_tokens.specs.declared.fault_name.FaultName.TheVariants as names
use Rattle.html_tokens.specs.declared.tag.Part.{Part}
use Rattle.html_tokens.specs.declared.tag.Part.TheVariants as parts
use Rattle.html_tokens.specs.declared.tag.TagDraft.{TagDraft}
use Rattle.html_tokens.specs.declared.tag.TagReading.{TagReading}
use Rattle.html_tokens.specs.declared.tag.TagReading.TheVariants.{More, Closed}
use Rattle.html_tokens.specs.declared.tag.ValueEnd.{ValueEnd}
use Rattle.html_tokens.specs.declared.tag.ValueEnd.TheVariants as ends
use Rattle.html_tokens.proofs.EndLemmas.{differs}

-- an attribute that has a name, and the name among the names
pub kept_is : (attrs : List Attr) (name : List ℕ) → is_kept (names_of attrs) name ≡ has_name name attrs
kept_is [] name = refl
kept_is (a ∷ more) name = ap (λ (b : Bool). bytes_eq a.name name || b) (kept_is more name)

names_append : (attrs : List Attr) (a : Attr) → names_of (attrs ++ a ∷ []) ≡ names_of attrs ++ a.name ∷ []
names_append [] a = refl
names_append (x ∷ xs) a = ap (λ (l : List (List ℕ)). x.name ∷ l) (names_append xs a)

names_either : (b : Bool) (attrs : List Attr) (a : Attr) → names_of (cond b attrs (attrs ++ a ∷ [])) ≡ cond b (names_of attrs) (names_of attrs ++ a.name ∷ [])
names_either true attrs a = refl
names_either false attrs a = names_append attrs a

-- the names after an attribute more
pub names_added : (attrs : List Attr) (a : Attr) → names_of (add_first attrs a) ≡ with_name (names_of attrs) a.name
names_added attrs a = names_either (has_name a.name attrs) attrs a ∙ ap (λ (b : Bool). cond b (names_of attrs) (names_of attrs ++ a.name ∷ [])) (sym (kept_is attrs a.name))

pub added_after : (attrs : List Attr) (a : Attr) → has_name a.name attrs ≡ false → names_of (attrs ++ a ∷ []) ≡ with_name (names_of attrs) a.name
added_after attrs a h = names_append attrs a ∙ ap (λ (b : Bool). cond b (names_of attrs) (names_of attrs ++ a.name ∷ [])) (sym (kept_is attrs a.name ∙ h))

never : (b : Bool) (place : ℕ) → fault_when (b && false) names.DuplicateAttribute place ≡ []
never true place = refl
never false place = refl

-- a name that ends tells whether one before has it
told_part : (part : Part) (kept : List (List ℕ)) (name : List ℕ) (found : Option ℕ) (place : ℕ) → ends_attr_name part found ≡ true → name_errors (names_by part kept name) part found place ≡ fault_when (is_kept kept name) names.DuplicateAttribute place
told_part parts.Name kept name found place h = absurd (false≢true h)
told_part parts.Attributes kept name found place h = absurd (false≢true h)
told_part parts.AttrName kept name found place h = rw h refl
told_part parts.AfterName kept name found place h = absurd (false≢true h)
told_part parts.Value kept name found place h = absurd (false≢true h)
told_part (parts.Inside end) kept name found place h = absurd (false≢true h)
told_part (parts.Number end base value start) kept name found place h = absurd (false≢true h)
told_part (parts.Ampersand end start) kept name found place h = absurd (false≢true h)

pub name_told : (d : TagDraft) (found : Option ℕ) (place : ℕ) → ends_attr_name d.part found ≡ true → name_errors (names_in d) d.part found place ≡ fault_when (has_name d.attr_name d.attrs) names.DuplicateAttribute place
name_told d found place h = told_part d.part (names_of d.attrs) d.attr_name found place h ∙ ap (λ (b : Bool). fault_when b names.DuplicateAttribute place) (kept_is d.attrs d.attr_name)

-- where none ends nothing is told
pub name_untold : (d : TagDraft) (found : Option ℕ) (place : ℕ) → ends_attr_name d.part found ≡ false → name_errors (names_in d) d.part found place ≡ []
name_untold d found place h = rw h refl

-- nor where it is new
pub new_untold : (d : TagDraft) (found : Option ℕ) (place : ℕ) → ends_attr_name d.part found ≡ true → has_name d.attr_name d.attrs ≡ false → name_errors (names_in d) d.part found place ≡ []
new_untold d found place e h = name_told d found place e ∙ rw h refl

-- a new name tells nothing
pub none_twice : (attrs : List Attr) (name : List ℕ) (found : Option ℕ) (place : ℕ) → has_name name attrs ≡ false → name_errors (names_by parts.AttrName (names_of attrs) name) parts.AttrName found place ≡ []
none_twice attrs name None place h = rw (kept_is attrs name, h) refl
none_twice attrs name (Some c) place h = rw (kept_is attrs name, h) (never (ends_attr c) place)

-- an attribute is whole
added_names : (d d' : TagDraft) → AddsAttr d d' → names_in d' ≡ record { kept = with_name (names_of d.attrs) d.attr_name; name = [] }
added_names d d' e = rw e (ap (λ (kept : List (List ℕ)). names_by parts.Attributes kept []) (names_added d.attrs (attr d.attr_name d.attr_value)))

-- a quote closes its value
pub quoted_names : (d d' : TagDraft) (end : ValueEnd) (c : ℕ) → d.part ≡ parts.Inside end → AddsAttr d d' → names_in d' ≡ next_names (names_in d) d.part c
quoted_names d d' end c p e = added_names d d' e ∙ rw p refl

-- the same code point is read in another part
pub names_from : {E : Type 0} (r : Result TagReading E) (old mid new : TagDraft) (c : ℕ) → next_names (names_in mid) mid.part c ≡ next_names (names_in old) old.part c → IfOk r (λ reading. NamesOn mid c reading new) → IfOk r (λ reading. NamesOn old c reading new)
names_from (Ok More) old mid new c e h = h ∙ e
names_from (Ok (Closed self_closing n)) old mid new c e h = tt
names_from (Err x) old mid new c e h = tt

-- where an attribute may begin, after this one
next_added : (d d' : TagDraft) (c : ℕ) → AddsAttr d d' → next_names (names_in d') d'.part c ≡ next_names (record { kept = with_name (names_of d.attrs) d.attr_name; name = [] }) parts.Attributes c
next_added d d' c e = ap (λ (seen : AttrNames). next_names seen d'.part c) (added_names d d' e) ∙ rw e refl

ends_same : (a b : Bool) (x y : AttrNames) → b ≡ false → cond a x y ≡ cond (a || b) x y
ends_same true b x y h = refl
ends_same false b x y h = rw h refl

-- it had no value
pub after_names : (d d' : TagDraft) (c : ℕ) → d.part ≡ parts.AfterName → ¬ (c ≡ 61) → AddsAttr d d' → next_names (names_in d') d'.part c ≡ next_names (names_in d) d.part c
after_names d d' c p n e = next_added d d' c e ∙ rw p (ends_same (ends_name c) (c == 61) _ _ (differs c 61 n))

ends_too : (a s b : Bool) → (a || b) ≡ true → ((a || s) || b) ≡ true
ends_too true s b h = refl
ends_too false true b h = refl
ends_too false false b h = h

-- a value without quotes ends
pub unquoted_names : (d d' : TagDraft) (c : ℕ) → d.part ≡ parts.Inside ends.Space → ends_unquoted c ≡ true → AddsAttr d d' → next_names (names_in d') d'.part c ≡ next_names (names_in d) d.part c
unquoted_names d d' c p h e = next_added d d' c e ∙ rw (p, ends_too (is_space c) (c == 47) (c == 62) h) refl
