-- What the tags of a plain page are read as, whatever follows them.
use Rattle.std.specs.Prelude.{slice_get, Some, None, ◌==◌, ◌||◌, not, codes}
use Rattle.std.specs.List.{AllByRecursion, flat_map}
use Rattle.std.proofs.lemmas.Bool.{cond-true, cond-false, true≢false}
use Rattle.std.proofs.lemmas.Bool.Decides.{nat_tests}
use Rattle.std.proofs.Common.{ℕ, suc, ◌≡◌, ◌+◌, ◌-◌, ◌<◌, Bool, List, [], ◌∷◌, ◌++◌, length, map, true, false, refl, sym, ap, ◌∙◌, subst, arith, length-append, append_assoc, add-zero}
use Rattle.html_charref.specs.declared.table.Row.{Row}
use Rattle.html_charref.specs.Entities.{one_character}
use Rattle.html_charref.specs.Table.{IsTable, longest}
use Rattle.html_tokens.specs.Cut.{Cut, cut, longer, is, stop_mark, is_space}
use Rattle.html_tokens.specs.Draft.{passed}
use Rattle.html_tokens.specs.Reference.{named_by}
use Rattle.html_tokens.specs.Value.{value_cut, value_reference, value_reference_by, value_named, with_codes}
use Rattle.html_tokens.specs.Tag.{Tail, Named, tail, tail_by, value, after_name, after_some, attribute, attr, with_attr, longer_tail, name_char, ends_name, ends_attr, between}
use Rattle.html_tokens.specs.declared.attributes.Attr.{Attr}
use Rattle.html_tokens.specs.declared.tag.ValueEnd.TheVariants as ends
use Rattle.html_tokens.proofs.CostCuts.{cond_both}
use Rattle.html_tokens.proofs.Cuts.{cut_closed, cut_longer}
use Rattle.html_tokens.specs.Copied.{cut_by}
use Rattle.html_tokens.proofs.ValueLemmas.{value_skip, tail_skip}
use Rattle.html_page.proofs.CoreRows.{core_longest}
use Rattle.html_page.proofs.TextReads.{IsEscape, past_front}
use Rattle.html_page.specs.declared.profile.Profile.{Profile}
use Rattle.html_page.specs.declared.profile.Profile.TheVariants.{One, Two}
use Rattle.html_page.specs.Html.{escaped_in_value, attribute as attribute_text}
use Rattle.html_page.specs.PageTokens.{HasCore}
use Rattle.html_page.specs.Plain.{IsPlainChar, IsPlainAttr, is_name_char}

-- a name runs up to the first code point that ends it
pub cut_at_stop : (p : ℕ → Bool) (xs : List ℕ) (c : ℕ) (rest : List ℕ) → AllByRecursion (λ x. p x ≡ false) xs → p c ≡ true → cut (stop_mark p) (xs ++ c ∷ rest) ≡ record { before = xs; len = length xs }
cut_at_stop p [] c rest a e = cut_closed (stop_mark p) (c ∷ rest) 0 (cond-true (p c) (Some 0) None e) (omega arith)
cut_at_stop p (x ∷ xs) c rest a e =
    cut_longer (stop_mark p) x (xs ++ c ∷ rest) (cond-false (p x) (Some 0) None a.0) ∙ ap (longer x) (cut_at_stop p xs c rest a.1 e)

-- a value in double quotes

pub value_closed : (rows : List Row) (rest : List ℕ) → value_cut rows ends.DoubleQuote 0 (34 ∷ rest) ≡ record { before = []; len = 1 }
unfolding value_cut
value_closed rows rest = refl

value_char : (rows : List Row) (c : ℕ) (rest : List ℕ) → c == 34 ≡ false → c == 38 ≡ false → c == 0 ≡ false
    → value_cut rows ends.DoubleQuote 0 (c ∷ rest) ≡ with_codes (c ∷ []) (value_cut rows ends.DoubleQuote 0 rest)
unfolding value_cut
value_char rows c rest quote amp null = rw (quote, amp, null) refl

value_ref : (rows : List Row) (rest codes : List ℕ) (k : ℕ) → value_reference rows (38 ∷ rest) ≡ record { codes = codes; len = suc k }
    → value_cut rows ends.DoubleQuote 0 (38 ∷ rest) ≡ with_codes codes (value_cut rows ends.DoubleQuote k rest)
unfolding value_cut
value_ref rows rest codes k e = let p : suc k - 1 ≡ k = omega arith in rw (e, p) refl

last_at : (letters rest : List ℕ) → slice_get ((letters ++ 59 ∷ []) ++ rest) (length letters) ≡ Some 59
last_at [] rest = refl
last_at (x ∷ letters) rest = last_at letters rest

-- an escape in a value
value_escape : (rows : List Row) (s : List ℕ) (c : ℕ) (rest : List ℕ) → IsTable rows → IsEscape rows s c
    → value_cut rows ends.DoubleQuote 0 (s ++ rest) ≡ with_codes (c ∷ []) (cut_by (length s - 1) (value_cut rows ends.DoubleQuote 0 rest))
value_escape rows s c rest table e =
    subst (λ (t : List ℕ). value_cut rows ends.DoubleQuote 0 (t ++ rest) ≡ with_codes (c ∷ []) (cut_by (length t - 1) (value_cut rows ends.DoubleQuote 0 rest))) (sym e.is) whole
  where
    body : List ℕ
    body = e.letters ++ 59 ∷ []

    size : length body ≡ length e.letters + 1
    size = length-append e.letters (59 ∷ [])

    found : longest rows ((38 ∷ body) ++ rest) ≡ Some (length (38 ∷ body), (one_character (38 ∷ body) c).text)
    found = core_longest rows table e.place c e.letters rest e.row

    ends_so : is 59 (slice_get ((38 ∷ body) ++ rest) (length (38 ∷ body) - 1)) ≡ true
    ends_so =
        ap (λ (n : ℕ). is 59 (slice_get (38 ∷ (body ++ rest)) n)) (let k : length (38 ∷ body) - 1 ≡ suc (length e.letters) = omega (arith, size) in k)
        ∙ ap (λ o. is 59 o) (last_at e.letters rest)

    named : value_reference rows ((38 ∷ body) ++ rest) ≡ record { codes = c ∷ []; len = suc (length body) }
    named =
        ap (λ o. value_reference_by o rows ((38 ∷ body) ++ rest)) (e.opener rest)
        ∙ ap (λ o. value_named o ((38 ∷ body) ++ rest)) found
        ∙ cond-true (is 59 (slice_get ((38 ∷ body) ++ rest) (length (38 ∷ body) - 1))) (named_by (Some (length (38 ∷ body), (one_character (38 ∷ body) c).text))) _ ends_so

    whole : value_cut rows ends.DoubleQuote 0 ((38 ∷ body) ++ rest) ≡ with_codes (c ∷ []) (cut_by (length (38 ∷ body) - 1) (value_cut rows ends.DoubleQuote 0 rest))
    whole =
        value_ref rows (body ++ rest) (c ∷ []) (length body) named
        ∙ ap (with_codes (c ∷ [])) (value_skip rows ends.DoubleQuote (length body) (body ++ rest) (omega (arith, length-append body rest))
        ∙ ap (λ (t : List ℕ). cut_by (length body) (value_cut rows ends.DoubleQuote 0 t)) (past_front body rest)
        ∙ ap (λ (n : ℕ). cut_by n (value_cut rows ends.DoubleQuote 0 rest)) (let k : length body ≡ length (38 ∷ body) - 1 = omega arith in k))

-- an escape is some code points, and reads as its character
abbrev Steps : List Row → ℕ → List ℕ → Type 0
Steps rows c s = (0 < length s) × ((rest : List ℕ) → value_cut rows ends.DoubleQuote 0 (s ++ rest) ≡ with_codes (c ∷ []) (cut_by (length s - 1) (value_cut rows ends.DoubleQuote 0 rest)))

module _ (rows : List Row) (table : IsTable rows) (core : HasCore rows) where
  pub amp : IsEscape rows (codes "&amp;") 38
  amp = let r = core 0 (one_character (codes "&amp;") 38) refl in record { letters = codes "amp"; is = refl; place = r.0; row = r.1; opener = λ rest. refl }

  pub gt : IsEscape rows (codes "&gt;") 62
  gt = let r = core 1 (one_character (codes "&gt;") 62) refl in record { letters = codes "gt"; is = refl; place = r.0; row = r.1; opener = λ rest. refl }

  pub lt : IsEscape rows (codes "&lt;") 60
  lt = let r = core 2 (one_character (codes "&lt;") 60) refl in record { letters = codes "lt"; is = refl; place = r.0; row = r.1; opener = λ rest. refl }

  pub nbsp : IsEscape rows (codes "&nbsp;") 160
  nbsp = let r = core 3 (one_character (codes "&nbsp;") 160) refl in record { letters = codes "nbsp"; is = refl; place = r.0; row = r.1; opener = λ rest. refl }

  pub quot : IsEscape rows (codes "&quot;") 34
  quot = let r = core 4 (one_character (codes "&quot;") 34) refl in record { letters = codes "quot"; is = refl; place = r.0; row = r.1; opener = λ rest. refl }

  steps_escape : (c d : ℕ) (s : List ℕ) → IsEscape rows s d → c == d ≡ true → Steps rows c s
  steps_escape c d s e t =
      let same : c ≡ d = grind (arith, nat_tests) in
      subst (λ (x : ℕ). Steps rows x s) (sym same) (omega (arith, ap length e.is), λ rest. value_escape rows s d rest table e)

  steps_char : (c : ℕ) → IsPlainChar c → c == 38 ≡ false → c == 34 ≡ false → Steps rows c (c ∷ [])
  steps_char c plain no_amp no_quote =
      let n = plain.not_null in
      let null : c == 0 ≡ false = grind (arith, nat_tests) in
      (omega arith, λ rest. value_char rows c rest no_quote no_amp null ∙ ap (with_codes (c ∷ [])) (same_cut (value_cut rows ends.DoubleQuote 0 rest)))
    where
      same_cut : (x : Cut) → x ≡ cut_by 0 x
      same_cut x = let e : x.len ≡ 0 + x.len = omega arith in ap (λ (n : ℕ). record { before = x.before; len = n }) e

  steps : (p : Profile) (c : ℕ) → IsPlainChar c → Steps rows c (escaped_in_value p c)
  unfolding escaped_in_value
  steps One c plain =
      cond_both (Steps rows c) (c == 38) _ _ (steps_escape c 38 _ amp) (λ no_amp.
      cond_both (Steps rows c) (c == 160) _ _ (steps_escape c 160 _ nbsp) (λ no_nbsp.
      cond_both (Steps rows c) (c == 34) _ _ (steps_escape c 34 _ quot) (λ no_quote. steps_char c plain no_amp no_quote)))
  steps Two c plain =
      cond_both (Steps rows c) (c == 38) _ _ (steps_escape c 38 _ amp) (λ no_amp.
      cond_both (Steps rows c) (c == 160) _ _ (steps_escape c 160 _ nbsp) (λ no_nbsp.
      cond_both (Steps rows c) (c == 34) _ _ (steps_escape c 34 _ quot) (λ no_quote.
      cond_both (Steps rows c) (c == 60) _ _ (steps_escape c 60 _ lt) (λ no_lt.
      cond_both (Steps rows c) (c == 62) _ _ (steps_escape c 62 _ gt) (λ no_gt. steps_char c plain no_amp no_quote)))))

  value_text : (p : Profile) (v rest : List ℕ) → AllByRecursion IsPlainChar v
      → value_cut rows ends.DoubleQuote 0 (flat_map (escaped_in_value p) v ++ 34 ∷ rest) ≡ record { before = v; len = length (flat_map (escaped_in_value p) v) + 1 }
  value_text p [] rest a = value_closed rows rest
  value_text p (c ∷ cs) rest a =
      let s = escaped_in_value p c in
      let more = flat_map (escaped_in_value p) cs in
      let step = steps p c a.0 in
      let size : suc ((length s - 1) + (length more + 1)) ≡ length (s ++ more) + 1 = omega (arith, step.0, length-append s more) in
      ap (λ (t : List ℕ). value_cut rows ends.DoubleQuote 0 t) (append_assoc s more (34 ∷ rest))
      ∙ step.1 (more ++ 34 ∷ rest)
      ∙ ap (λ (x : Cut). with_codes (c ∷ []) (cut_by (length s - 1) x)) (value_text p cs rest a.1)
      ∙ ap (λ (n : ℕ). record { before = c ∷ cs; len = n }) size

-- what is known of a code point of a name
record IsNamely (c : ℕ) : Type 0 where
  attr : ends_attr c ≡ false
  name : ends_name c ≡ false
  space : is_space c ≡ false
  slash : c == 47 ≡ false
  greater : c == 62 ≡ false
  same : name_char c ≡ c

or_parts : (a b : Bool) → (a || b) ≡ false → (a ≡ false) × (b ≡ false)
or_parts false false h = (refl, refl)
or_parts false true h = absurd (true≢false h)
or_parts true b h = absurd (true≢false h)

not_true : (b : Bool) → not b ≡ true → b ≡ false
not_true false h = refl
not_true true h = absurd (true≢false (sym h))

namely : (c : ℕ) → is_name_char c ≡ true → IsNamely c
namely c h =
    let all = or_parts (ends_attr c) (between 65 90 c || (c == 0 || (c == 13 || (c == 60 || (c == 34 || c == 39))))) (not_true _ h) in
    let rest = or_parts (between 65 90 c) (c == 0 || (c == 13 || (c == 60 || (c == 34 || c == 39)))) all.1 in
    let null = or_parts (c == 0) (c == 13 || (c == 60 || (c == 34 || c == 39))) rest.1 in
    let attr = or_parts (ends_name c) (c == 61) all.0 in
    let name = or_parts (is_space c || c == 47) (c == 62) attr.0 in
    let marks = or_parts (is_space c) (c == 47) name.0 in
    record {
      attr = all.0;
      name = attr.0;
      space = marks.0;
      slash = marks.1;
      greater = name.1;
      same = cond-false (between 65 90 c) _ _ rest.0 ∙ cond-false (c == 0) _ _ null.0;
    }

namely_all : (P : ℕ → Type 0) → ((c : ℕ) → IsNamely c → P c) → (cs : List ℕ) → AllByRecursion (λ c. is_name_char c ≡ true) cs → AllByRecursion P cs
namely_all P f [] a = tt
namely_all P f (c ∷ cs) a = (f c (namely c a.0), namely_all P f cs a.1)

same_name : (cs : List ℕ) → AllByRecursion (λ c. is_name_char c ≡ true) cs → map name_char cs ≡ cs
same_name [] a = refl
same_name (c ∷ cs) a = ap (λ (x : ℕ). x ∷ map name_char cs) (namely c a.0).same ∙ ap (λ (xs : List ℕ). c ∷ xs) (same_name cs a.1)

-- past the code points of a name
after_past : (rows : List Row) (xs rest : List ℕ) → after_some rows (length xs) (xs ++ rest) ≡ cut_by (length xs) (after_name rows rest)
unfolding after_some
after_past rows [] rest = let e : (after_name rows rest).len ≡ 0 + (after_name rows rest).len = omega arith in ap (λ (n : ℕ). record { before = (after_name rows rest).before; len = n }) e
after_past rows (x ∷ xs) rest =
    let e : suc (length xs + (after_name rows rest).len) ≡ suc (length xs) + (after_name rows rest).len = omega arith in
    ap passed (after_past rows xs rest) ∙ ap (λ (n : ℕ). record { before = (after_name rows rest).before; len = n }) e

value_after : (rows : List Row) (rest : List ℕ) → after_name rows (61 ∷ 34 ∷ rest) ≡ passed (passed (value_cut rows ends.DoubleQuote 0 rest))
unfolding after_name value
value_after rows rest = refl

tail_space : (rows : List Row) (rest : List ℕ) → tail rows 0 (32 ∷ rest) ≡ longer_tail (tail rows 0 rest)
unfolding tail
tail_space rows rest = refl

pub tail_closed : (rows : List Row) (rest : List ℕ) → tail rows 0 (62 ∷ rest) ≡ record { attrs = []; self_closing = false; closed = true; len = 1 }
unfolding tail
tail_closed rows rest = refl

tail_name : (rows : List Row) (c : ℕ) (rest : List ℕ) → IsNamely c
    → tail rows 0 (c ∷ rest) ≡ with_attr (attribute rows (name_char c ∷ []) [] rest).attr (longer_tail (tail rows (attribute rows (name_char c ∷ []) [] rest).len rest))
unfolding tail
tail_name rows c rest n = rw (n.greater, n.slash, n.space) refl

-- an attribute, of which the first code point was read
named_is : (rows : List Row) (cs ns after v : List ℕ) (len : ℕ) → AllByRecursion (λ c. is_name_char c ≡ true) ns
    → value_cut rows ends.DoubleQuote 0 after ≡ record { before = v; len = len }
    → attribute rows cs [] (ns ++ 61 ∷ 34 ∷ after) ≡ record { attr = attr (cs ++ ns) v; len = length ns + suc (suc len) }
named_is rows cs ns after v len a e =
    ap (λ (x : Cut). record { attr = attr (cs ++ map name_char x.before) ([] ++ (after_some rows x.len (ns ++ 61 ∷ 34 ∷ after)).before); len = (after_some rows x.len (ns ++ 61 ∷ 34 ∷ after)).len })
    (cut_at_stop ends_attr ns 61 (34 ∷ after) (namely_all (λ x. ends_attr x ≡ false) (λ c n. n.attr) ns a) refl)
    ∙ ap (λ (x : Cut). record { attr = attr (cs ++ map name_char ns) ([] ++ x.before); len = x.len })
    (after_past rows ns (61 ∷ 34 ∷ after) ∙ ap (cut_by (length ns)) (value_after rows after ∙ ap (λ (x : Cut). passed (passed x)) e))
    ∙ ap (λ (x : List ℕ). record { attr = attr (cs ++ x) v; len = length ns + suc (suc len) }) (same_name ns a)

module _ (rows : List Row) (table : IsTable rows) (core : HasCore rows) (p : Profile) where
  attr_text : (c : ℕ) (ns v rest : List ℕ) → attribute_text p false (attr (c ∷ ns) v) ++ rest ≡ 32 ∷ c ∷ (ns ++ 61 ∷ 34 ∷ (flat_map (escaped_in_value p) v ++ 34 ∷ rest))
  attr_text c ns v rest = ap (λ (x : List ℕ). 32 ∷ c ∷ x) (glue ns (61 ∷ 34 ∷ []) (flat_map (escaped_in_value p) v) (34 ∷ []) rest)
    where
      glue : (a b d e f : List ℕ) → (a ++ (b ++ (d ++ e))) ++ f ≡ a ++ (b ++ (d ++ (e ++ f)))
      glue a b d e f = simp append_assoc

  attr_size : (c : ℕ) (ns v : List ℕ) → length (attribute_text p false (attr (c ∷ ns) v)) ≡ suc (suc (length ns + suc (suc (length (flat_map (escaped_in_value p) v) + 1))))
  attr_size c ns v =
      let esc = flat_map (escaped_in_value p) v in
      omega (arith, length-append ns (61 ∷ 34 ∷ (esc ++ 34 ∷ [])), length-append esc (34 ∷ []))

  tail_past : (ns esc rest : List ℕ) → tail rows (length ns + suc (suc (length esc + 1))) (ns ++ 61 ∷ 34 ∷ (esc ++ 34 ∷ rest)) ≡ tail_by (length ns + suc (suc (length esc + 1))) (tail rows 0 rest)
  tail_past ns esc rest =
      let front : List ℕ = ns ++ 61 ∷ 34 ∷ (esc ++ 34 ∷ []) in
      let size : length ns + suc (suc (length esc + 1)) ≡ length front = omega (arith, length-append ns (61 ∷ 34 ∷ (esc ++ 34 ∷ [])), length-append esc (34 ∷ [])) in
      ap (λ (n : ℕ). tail rows n (ns ++ 61 ∷ 34 ∷ (esc ++ 34 ∷ rest))) (size ∙ sym (add-zero (length front)))
      ∙ ap (λ (t : List ℕ). tail rows (length front + 0) t) (sym (glue ns (61 ∷ 34 ∷ []) esc (34 ∷ []) rest))
      ∙ tail_skip rows (length front) 0 (front ++ rest) (omega (arith, length-append front rest))
      ∙ ap (λ (t : List ℕ). tail_by (length front) (tail rows 0 t)) (past_front front rest)
      ∙ ap (λ (n : ℕ). tail_by n (tail rows 0 rest)) (sym size)
    where
      glue : (a b d e f : List ℕ) → (a ++ (b ++ (d ++ e))) ++ f ≡ a ++ (b ++ (d ++ (e ++ f)))
      glue a b d e f = simp append_assoc

  tail_attr : (name v rest : List ℕ) → IsPlainAttr (attr name v) → tail rows 0 (attribute_text p false (attr name v) ++ rest) ≡ with_attr (attr name v) (tail_by (length (attribute_text p false (attr name v))) (tail rows 0 rest))
  tail_attr [] v rest a = absurd (a.some refl)
  tail_attr (c ∷ ns) v rest a =
      let esc = flat_map (escaped_in_value p) v in
      let y : List ℕ = ns ++ 61 ∷ 34 ∷ (esc ++ 34 ∷ rest) in
      let k : ℕ = length ns + suc (suc (length esc + 1)) in
      let named = named_is rows (c ∷ []) ns (esc ++ 34 ∷ rest) v (length esc + 1) a.name.1 (value_text rows table core p v rest a.value) in
      let size : suc (suc (k + (tail rows 0 rest).len)) ≡ length (attribute_text p false (attr (c ∷ ns) v)) + (tail rows 0 rest).len = omega (arith, attr_size c ns v) in
      ap (λ (t : List ℕ). tail rows 0 t) (attr_text c ns v rest)
      ∙ tail_space rows (c ∷ y)
      ∙ ap longer_tail (tail_name rows c y (namely c a.name.0)
      ∙ ap (λ (x : ℕ). with_attr (attribute rows (x ∷ []) [] y).attr (longer_tail (tail rows (attribute rows (x ∷ []) [] y).len y))) (namely c a.name.0).same
      ∙ ap (λ (x : Named). with_attr x.attr (longer_tail (tail rows x.len y))) named
      ∙ ap (λ (t : Tail). with_attr (attr (c ∷ ns) v) (longer_tail t)) (tail_past ns esc rest))
      ∙ ap (λ (n : ℕ). record { attrs = attr (c ∷ ns) v ∷ (tail rows 0 rest).attrs; self_closing = (tail rows 0 rest).self_closing; closed = (tail rows 0 rest).closed; len = n }) size

  -- all attributes of a tag, and its end
  pub tail_attrs : (attrs : List Attr) (rest : List ℕ) → AllByRecursion IsPlainAttr attrs
      → tail rows 0 (flat_map (attribute_text p false) attrs ++ 62 ∷ rest) ≡ record { attrs = attrs; self_closing = false; closed = true; len = length (flat_map (attribute_text p false) attrs) + 1 }
  tail_attrs [] rest a = tail_closed rows rest
  tail_attrs (x ∷ more) rest a =
      let s = attribute_text p false x in
      let t = flat_map (attribute_text p false) more in
      let size : length s + (length t + 1) ≡ length (s ++ t) + 1 = omega (arith, length-append s t) in
      ap (λ (u : List ℕ). tail rows 0 u) (append_assoc s t (62 ∷ rest))
      ∙ tail_attr x.name x.value (t ++ 62 ∷ rest) a.0
      ∙ ap (λ (u : Tail). with_attr x (tail_by (length s) u)) (tail_attrs more rest a.1)
      ∙ ap (λ (n : ℕ). record { attrs = x ∷ more; self_closing = false; closed = true; len = n }) size
