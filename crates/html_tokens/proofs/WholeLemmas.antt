-- Attributes that are read at once.
use Rattle.std.proofs.Common.{◌≡◌, ℕ, zero, suc, ◌+◌, ◌-◌, ◌<◌, ◌≤◌, List, [], ◌∷◌, ◌++◌, ◌||◌, ◌==◌, length, take, drop, Option, Some, None, Result, Ok, Err, Bool, true, false, not, refl, ap, ap₂, sym, ◌∙◌, inl, inr, arith, add-zero, append-nil, length-drop}
use Rattle.std.specs.List.{slice_get}
use Rattle.std.specs.Option.{option_map}
use Rattle.std.specs.Result.{OnErr}
use Rattle.std.proofs.lemmas.List.{drop-drop}
use Rattle.std.proofs.lemmas.Bool.{false≢true}
use Rattle.std.proofs.lemmas.Option.{slice_get_within}
use Rattle.html_charref.specs.declared.table.Row.{Row}
use Rattle.html_tokens.specs.Bounds.{Bounded, IsBounded, IsWithin}
use Rattle.html_tokens.specs.Copied.{AllPass, CopiesTag, copied_in, is_copied}
use Rattle.html_tokens.specs.Cut.{cut, ends_unquoted, is_space, passes}
use Rattle.html_tokens.specs.Fed.{told_at, IsSilent, EndsTagAt, Passes, Skips, Steps, new_tag}
use Rattle.html_tokens.specs.Input.{Decided}
use Rattle.html_tokens.specs.Marks.{begin_at}
use Rattle.html_tokens.specs.Short.{at_close}
use Rattle.html_tokens.specs.Tag.{ReadsTag, Tail, add_first, after_name, after_some, firsts_after, attr, draft_tag, ends_name, has_name, longer_tag, tag_by, tail, value}
use Rattle.html_tokens.specs.Tag.{Tag as WholeTag}
use Rattle.html_tokens.specs.Fed.{read_tag}
use Rattle.html_tokens.proofs.Cuts.{first_of}
use Rattle.html_tokens.proofs.EndLemmas.{start_told}
use Rattle.html_tokens.specs.Tokens.{name_after_kind, opener}
use Rattle.html_tokens.specs.declared.token.Opener.TheVariants as opens
use Rattle.html_tokens.specs.Value.{value_cut}
use Rattle.html_tokens.specs.Whole.{ClosesValue, ClosesTag, IsNamed, IsValue, IsWholeAttr, KeepsBounds, quote_len, whole_len}
use Rattle.html_tokens.specs.declared.attributes.Attr.{Attr}
use Rattle.html_tokens.specs.declared.copied.Copied.TheVariants as copied
use Rattle.html_tokens.specs.declared.faults.Faults.{Faults}
use Rattle.html_tokens.specs.declared.machine.Machine.{Machine}
use Rattle.html_tokens.specs.declared.machine.Progress.TheVariants.{Given, More}
use Rattle.html_tokens.specs.declared.machine.State.TheVariants.{Tag, Text}
use Rattle.html_tokens.specs.declared.tag.Part.{Part}
use Rattle.html_tokens.specs.declared.tag.Part.TheVariants as parts
use Rattle.html_tokens.specs.declared.tag.TagDraft.{TagDraft}
use Rattle.html_tokens.specs.declared.tag.TagReading.TheVariants.{Closed}
use Rattle.html_tokens.specs.declared.tag.ValueEnd.{ValueEnd}
use Rattle.html_tokens.specs.declared.tag.ValueEnd.TheVariants as ends
use Rattle.html_tokens.specs.declared.token.Begin.TheVariants as begins
use Rattle.html_tokens.specs.declared.token.Region.TheVariants.{Plain}
use Rattle.html_tokens.specs.declared.token.Token.{Token}
use Rattle.html_tokens.specs.declared.whole_attr.WholeAttr.{WholeAttr}
use Rattle.html_tokens.proofs.BoundLemmas.{square_on, tag_fails, tag_off, tag_on, to_tag}
use Rattle.html_tokens.proofs.CopyLemmas.{attr_name_front, inside_front, name_front, none_front}
use Rattle.html_tokens.proofs.PartLemmas.{closes_by, first_false, name_ends_told, name_part, name_stands, neither, passes_quietly, second_false, space_closes_told, value_opens_told}
use Rattle.html_tokens.proofs.TagLemmas.{tag_given_at, tag_opens, tag_skips}
use Rattle.html_tokens.proofs.NameLemmas.{added_after, none_twice}
use Rattle.html_tokens.specs.AttrNames.{names_by, names_in, names_of, with_name}
use Rattle.html_tokens.specs.InsideTags.{part_errors, part_told, tag_char_errors}

-- a code point is passed in a tag, which comes to the same, and tells nothing before what follows so
record Takes (P : List ℕ → Type 0) (d : TagDraft) (c : ℕ) (d' : TagDraft) : Type 0 where
  same : (rows : List Row) (rest : List ℕ) → draft_tag rows d (c ∷ rest) ≡ longer_tag (draft_tag rows d' rest)
  quiet : (rows : List Row) (place : ℕ) (rest : List ℕ) → P rest → part_errors rows (names_in d) d.part place (c ∷ rest) ≡ part_errors rows (names_in d') d'.part (place + 1) rest
  start : d'.start ≡ d.start
  is_end : d'.is_end ≡ d.is_end

abbrev Any : List ℕ → Type 0
Any rest = Unit {0}

-- what may follow a quote
abbrev Free : List ℕ → Type 0
Free rest = passes (λ c. not (ends_name c)) (slice_get rest 0) ≡ false

by_one : (t : WholeTag) → longer_tag t ≡ tag_by 1 t
by_one t = let e : suc t.tail.len ≡ 1 + t.tail.len = omega arith in rw e refl

by_sum : (n m : ℕ) (t : WholeTag) → tag_by n (tag_by m t) ≡ tag_by (n + m) t
by_sum n m t = let e : n + (m + t.tail.len) ≡ n + m + t.tail.len = omega arith in rw e refl

copies_one : (P : List ℕ → Type 0) (d d' : TagDraft) (c : ℕ) (rest : List ℕ) → Takes P d c d' → ((more : List ℕ) → P (rest ++ more)) → CopiesTag d (c ∷ rest) 1 d'
copies_one P d d' c rest t follows =
    ((λ rows more. t.same rows (rest ++ more) ∙ by_one (draft_tag rows d' (rest ++ more))), omega arith, t.start, t.is_end, (λ rows place more. t.quiet rows place (rest ++ more) (follows more)))

pub copies_then : (a b c : TagDraft) (text : List ℕ) (n m : ℕ) → CopiesTag a text n b → CopiesTag b (drop n text) m c → CopiesTag a text (n + m) c
copies_then a b c text n m s t =
    let room : length (drop n text) ≡ length text - n = simp length-drop refl in
    let s1 = s.1 in
    let t1 = t.1 in (
      (λ rows more.
          s.0 rows more ∙ ap (λ (x : WholeTag). tag_by n x) (t.0 rows more)
          ∙ by_sum n m (draft_tag rows c (drop m (drop n text) ++ more))
          ∙ ap (λ (x : List ℕ). tag_by (n + m) (draft_tag rows c (x ++ more))) (drop-drop m n text)),
      omega arith,
      t.2 ∙ s.2,
      t.3 ∙ s.3,
      (λ rows place more.
          let e : place + (n + m) ≡ place + n + m = omega arith in
          rw e (s.4 rows place more ∙ t.4 rows (place + n) more ∙ ap (λ (x : List ℕ). part_errors rows (names_in c) c.part (place + n + m) (x ++ more)) (drop-drop m n text))),
    )

takes_space : (d : TagDraft) → d.part ≡ parts.Attributes → Takes Any d 32 d
unfolding tail
takes_space d p = record { same = λ rows rest. rw p refl; quiet = λ rows place rest _. rw p (passes_quietly rows (names_by parts.Attributes (names_of d.attrs) d.attr_name) parts.Attributes parts.Attributes place 32 rest refl (λ r. absurd (false≢true r)) refl refl refl refl); start = refl; is_end = refl }

takes_first : (d : TagDraft) (c : ℕ) → d.part ≡ parts.Attributes → is_copied copied.Name c ≡ true → Takes Any d c (record d { part = parts.AttrName; attr_name = c ∷ []; attr_value = [] })
unfolding tail
takes_first d c p h =
    let s = name_stands c h in
    let e : ends_name c ≡ false = first_false (ends_name c) (c == 61) s.0 in
    let f : (is_space c || c == 47) ≡ false = first_false (is_space c || c == 47) (c == 62) e in
    let g : (c == 62) ≡ false = second_false (is_space c || c == 47) (c == 62) e in
    let i : is_space c ≡ false = first_false (is_space c) (c == 47) f in
    let j : (c == 47) ≡ false = second_false (is_space c) (c == 47) f in
    let m = name_part c h in
    record {
      same = λ rows rest. rw (p, g, j, i, s.1) refl;
      quiet = λ rows place rest _.
          rw p (passes_quietly rows (names_by parts.Attributes (names_of d.attrs) d.attr_name) parts.Attributes parts.AttrName place c rest refl (λ r. absurd (false≢true r)) (rw (m.greater, m.slash) refl) (rw (m.slash, m.equals, m.double, m.single, m.less, m.null) refl) (rw m.ends refl) refl ∙ rw (m.ends, s.1) refl);
      start = refl;
      is_end = refl;
    }

takes_equals : (d : TagDraft) → d.part ≡ parts.AttrName → has_name d.attr_name d.attrs ≡ false → Takes Any d 61 (record d { part = parts.Value })
unfolding cut tail after_some after_name
takes_equals d p h = record { same = λ rows rest. rw (p, append-nil d.name, append-nil d.attr_name) refl; quiet = λ rows place rest _. rw p (passes_quietly rows (names_by parts.AttrName (names_of d.attrs) d.attr_name) parts.AttrName parts.Value place 61 rest refl (λ r. absurd (false≢true r)) refl refl refl (none_twice d.attrs d.attr_name (Some 61) place h)); start = refl; is_end = refl }

takes_double : (d : TagDraft) → d.part ≡ parts.Value → Takes Any d 34 (record d { part = parts.Inside ends.DoubleQuote })
unfolding tail value
takes_double d p = record { same = λ rows rest. rw p refl; quiet = λ rows place rest _. rw p (passes_quietly rows (names_by parts.Value (names_of d.attrs) d.attr_name) parts.Value (parts.Inside ends.DoubleQuote) place 34 rest refl (λ r g. absurd (omega arith)) refl refl refl refl); start = refl; is_end = refl }

takes_single : (d : TagDraft) → d.part ≡ parts.Value → Takes Any d 39 (record d { part = parts.Inside ends.SingleQuote })
unfolding tail value
takes_single d p = record { same = λ rows rest. rw p refl; quiet = λ rows place rest _. rw p (passes_quietly rows (names_by parts.Value (names_of d.attrs) d.attr_name) parts.Value (parts.Inside ends.SingleQuote) place 39 rest refl (λ r g. absurd (omega arith)) refl refl refl refl); start = refl; is_end = refl }

added : (attrs : List Attr) (a : Attr) → has_name a.name attrs ≡ false → add_first attrs a ≡ attrs ++ a ∷ []
added attrs a h = rw h refl

-- a draft after its attribute
record IsAfter (d front : TagDraft) : Type 0 where
  new : has_name d.attr_name d.attrs ≡ false
  part : front.part ≡ parts.Attributes
  name : front.name ≡ d.name
  attrs : front.attrs ≡ d.attrs ++ attr d.attr_name d.attr_value ∷ []
  start : front.start ≡ d.start
  is_end : front.is_end ≡ d.is_end

names_after : (d front : TagDraft) → IsAfter d front → names_of front.attrs ≡ with_name (names_of d.attrs) d.attr_name
names_after d front a = rw a.attrs (added_after d.attrs (attr d.attr_name d.attr_value) a.new)

closed_with : (d : TagDraft) (t : Tail) (k : ℕ) → List Attr → WholeTag
closed_with d t k kept = record { name = d.name; tail = record { attrs = firsts_after kept t.attrs; self_closing = t.self_closing; closed = t.closed; len = k } }

double_closes : (d front : TagDraft) → d.part ≡ parts.Inside ends.DoubleQuote → IsAfter d front → Takes Free d 34 front
unfolding tail value_cut closed_with
double_closes d front p a = record {
  same = λ rows rest.
      let t = tail rows 0 rest in
      rw (p, a.part, a.name, a.attrs, append-nil d.name, append-nil d.attr_value) (ap (closed_with d t (suc t.len)) (added d.attrs (attr d.attr_name d.attr_value) a.new));
  quiet = λ rows place rest free. rw (p, a.part, names_after d front a) (passes_quietly rows (names_by (parts.Inside ends.DoubleQuote) (names_of d.attrs) d.attr_name) (parts.Inside ends.DoubleQuote) parts.Attributes place 34 rest refl (λ r g. absurd (omega arith)) refl (rw free refl) refl refl);
  start = a.start;
  is_end = a.is_end;
}

single_closes : (d front : TagDraft) → d.part ≡ parts.Inside ends.SingleQuote → IsAfter d front → Takes Free d 39 front
unfolding tail value_cut closed_with
single_closes d front p a = record {
  same = λ rows rest.
      let t = tail rows 0 rest in
      rw (p, a.part, a.name, a.attrs, append-nil d.name, append-nil d.attr_value) (ap (closed_with d t (suc t.len)) (added d.attrs (attr d.attr_name d.attr_value) a.new));
  quiet = λ rows place rest free. rw (p, a.part, names_after d front a) (passes_quietly rows (names_by (parts.Inside ends.SingleQuote) (names_of d.attrs) d.attr_name) (parts.Inside ends.SingleQuote) parts.Attributes place 39 rest refl (λ r g. absurd (omega arith)) refl (rw free refl) refl refl);
  start = a.start;
  is_end = a.is_end;
}

-- a draft that comes to the same before what stands here
record Turns (d : TagDraft) (text : List ℕ) (d' : TagDraft) : Type 0 where
  same : (rows : List Row) (more : List ℕ) → draft_tag rows d (text ++ more) ≡ draft_tag rows d' (text ++ more)
  quiet : (rows : List Row) (place : ℕ) (more : List ℕ) → part_errors rows (names_in d) d.part place (text ++ more) ≡ part_errors rows (names_in d') d'.part place (text ++ more)
  start : d'.start ≡ d.start
  is_end : d'.is_end ≡ d.is_end

copies_turn : (d d' : TagDraft) (text : List ℕ) → Turns d text d' → CopiesTag d text 0 d'
copies_turn d d' text t = ((λ rows more. t.same rows more ∙ (none_front d' text).0 rows more), omega arith, t.start, t.is_end, (λ rows place more. rw add-zero (t.quiet rows place more)))

-- a value without quotes begins
opens_unquoted : (d : TagDraft) (c : ℕ) (rest : List ℕ) → d.part ≡ parts.Value → is_copied copied.Unquoted c ≡ true → Turns d (c ∷ rest) (record d { part = parts.Inside ends.Space })
unfolding value
opens_unquoted d c rest p h =
    let a = neither (ends_unquoted c) _ h in
    let b = neither (c == 0) _ a.1 in
    let e = neither (c == 34) _ b.1 in
    let f = neither (c == 39) _ e.1 in
    let s : is_space c ≡ false = first_false (is_space c) (c == 62) a.0 in
    record { same = λ rows more. rw (p, s, e.0, f.0) refl; quiet = λ rows place more. rw p (value_opens_told rows (names_by parts.Value (names_of d.attrs) d.attr_name) place c (rest ++ more) h); start = refl; is_end = refl }

-- and ends
space_closes : (d front : TagDraft) (c : ℕ) (rest : List ℕ) → d.part ≡ parts.Inside ends.Space → ends_unquoted c ≡ true → IsAfter d front → Turns d (c ∷ rest) front
unfolding value_cut closed_with
space_closes d front c rest p h a = record {
  same = λ rows more.
      let t = tail rows 0 (c ∷ rest ++ more) in
      rw (p, a.part, a.name, a.attrs, append-nil d.name, h, append-nil d.attr_value) (ap (closed_with d t t.len) (added d.attrs (attr d.attr_name d.attr_value) a.new));
  quiet = λ rows place more. rw (p, a.part, names_after d front a) (space_closes_told rows (names_by (parts.Inside ends.Space) (names_of d.attrs) d.attr_name) place c (rest ++ more) h);
  start = a.start;
  is_end = a.is_end;
}

-- the name
copies_name : (d : TagDraft) (text : List ℕ) (n : ℕ) → d.part ≡ parts.Attributes → 0 < n → n ≤ length text → AllPass (is_copied copied.Name) (take n text) →
    CopiesTag d text n (record d { part = parts.AttrName; attr_name = take n text; attr_value = [] })
copies_name d text zero p s h a = absurd (omega arith)
copies_name d [] (suc k) p s h a = absurd (omega arith)
copies_name d (c ∷ rest) (suc k) p s h a =
    let first = record d { part = parts.AttrName; attr_name = c ∷ []; attr_value = [] } in
    let e : 1 + k ≡ suc k = omega arith in
    rw e at (copies_then d first (record d { part = parts.AttrName; attr_name = take (suc k) (c ∷ rest); attr_value = [] }) (c ∷ rest) 1 k
    (copies_one Any d first c rest (takes_first d c p a.0) (λ more. tt)) (attr_name_front first rest k refl (omega arith) a.1))

-- a code point that is known
copies_known : (d d' : TagDraft) (text : List ℕ) (c : ℕ) → slice_get text 0 ≡ Some c → Takes Any d c d' → CopiesTag d text 1 d'
copies_known d d' [] c e t = absurd cc
copies_known d d' (x ∷ rest) c e t = let f : x ≡ c = cc in rw f (copies_one Any d d' c rest t (λ more. tt))

free_more : (rest more : List ℕ) → option_map ends_name (slice_get rest 0) ≡ Some true → Free (rest ++ more)
free_more [] more e = absurd cc
free_more (x ∷ rest) more e = let f : ends_name x ≡ true = cc in rw f refl

-- a quote that closes
copies_closed : (d d' : TagDraft) (text : List ℕ) (c : ℕ) → slice_get text 0 ≡ Some c → Takes Free d c d' → option_map ends_name (slice_get text 1) ≡ Some true → CopiesTag d text 1 d'
copies_closed d d' [] c e t free = absurd cc
copies_closed d d' (x ∷ rest) c e t free = let f : x ≡ c = cc in rw f (copies_one Free d d' c rest t (λ more. free_more rest more free))

get_later : (text : List ℕ) (n : ℕ) → slice_get (drop n text) 1 ≡ slice_get text (n + 1)
get_later text zero = refl
get_later [] (suc n) = refl
get_later (x ∷ xs) (suc n) = let e : suc n + 1 ≡ suc (n + 1) = omega arith in rw e (get_later xs n)

get_drop : (text : List ℕ) (n c : ℕ) → slice_get text n ≡ Some c → slice_get (drop n text) 0 ≡ Some c
get_drop text zero c e = e
get_drop [] (suc n) c e = e
get_drop (x ∷ xs) (suc n) c e = get_drop xs n c e

-- a value in quotes
copies_quoted : (d opened front : TagDraft) (rest : List ℕ) (end : ValueEnd) (quote len : ℕ) → Takes Any d quote opened → opened.part ≡ parts.Inside end → Takes Free (record opened { attr_value = opened.attr_value ++ take len (drop 1 rest) }) quote front →
    slice_get rest 0 ≡ Some quote → AllPass (is_copied (copied_in end)) (take len (drop 1 rest)) → slice_get (drop 1 rest) len ≡ Some quote → option_map ends_name (slice_get (drop 1 rest) (len + 1)) ≡ Some true → CopiesTag d rest (1 + (len + 1)) front
copies_quoted d opened front rest end quote len t p u first valued last free =
    let inner = drop 1 rest in
    let room = slice_get_within inner len quote last in
    copies_then d opened front rest 1 (len + 1) (copies_known d opened rest quote first t)
    (copies_then opened _ front inner len 1 (inside_front end opened inner len p (omega arith) valued) (copies_closed _ front (drop len inner) quote (get_drop inner len quote last) u (ap (λ (x : Option ℕ). option_map ends_name x) (get_later inner len) ∙ free)))

copies_as : (a b : TagDraft) (text : List ℕ) (n m : ℕ) → n ≡ m → CopiesTag a text n b → CopiesTag a text m b
copies_as a b text n m e c = rw e at c

ends_within : (text : List ℕ) (n : ℕ) → ClosesValue ends.Space (slice_get text n) → n < length text
ends_within [] n e = absurd cc
ends_within (x ∷ xs) zero e = omega arith
ends_within (x ∷ xs) (suc n) e = let h = ends_within xs n e in omega arith

ends_drop : (text : List ℕ) (n : ℕ) → ClosesValue ends.Space (slice_get text n) → ClosesValue ends.Space (slice_get (drop n text) 0)
ends_drop text zero e = e
ends_drop [] (suc n) e = e
ends_drop (x ∷ xs) (suc n) e = ends_drop xs n e

ends_here : (d front : TagDraft) (text : List ℕ) → d.part ≡ parts.Inside ends.Space → ClosesValue ends.Space (slice_get text 0) → IsAfter d front → CopiesTag d text 0 front
ends_here d front [] p e a = absurd cc
ends_here d front (c ∷ rest) p e a = let h : ends_unquoted c ≡ true = cc in copies_turn d front (c ∷ rest) (space_closes d front c rest p h a)

begins_here : (d : TagDraft) (text : List ℕ) (n : ℕ) → d.part ≡ parts.Value → 0 < n → n ≤ length text → AllPass (is_copied copied.Unquoted) (take n text) → CopiesTag d text 0 (record d { part = parts.Inside ends.Space })
begins_here d text zero p s f a = absurd (omega arith)
begins_here d [] (suc n) p s f a = absurd (omega arith)
begins_here d (c ∷ rest) (suc n) p s f a = copies_turn d (record d { part = parts.Inside ends.Space }) (c ∷ rest) (opens_unquoted d c rest p a.0)

-- a value without quotes
copies_unquoted : (d front : TagDraft) (rest : List ℕ) (len : ℕ) → d.part ≡ parts.Value → 0 < len → AllPass (is_copied copied.Unquoted) (take len rest) → ClosesValue ends.Space (slice_get rest len) →
    IsAfter (record d { part = parts.Inside ends.Space; attr_value = d.attr_value ++ take len rest }) front → CopiesTag d rest len front
copies_unquoted d front rest len p s valued last a =
    let room = ends_within rest len last in
    let inside = record d { part = parts.Inside ends.Space } in
    let full = record inside { attr_value = d.attr_value ++ take len rest } in
    copies_as d front rest (0 + (len + 0)) len (omega arith)
    (copies_then d inside front rest 0 (len + 0) (begins_here d rest len p s (omega arith) valued)
    (copies_then inside full front rest len 0 (inside_front ends.Space inside rest len refl (omega arith) valued) (ends_here full front (drop len rest) refl (ends_drop rest len last) a)))

-- a value that closes so
copies_value : (end : ValueEnd) (d front : TagDraft) (rest : List ℕ) (len : ℕ) → d.part ≡ parts.Value → d.attr_value ≡ [] → IsValue rest end len → has_name d.attr_name d.attrs ≡ false →
    front ≡ record d { part = parts.Attributes; attrs = d.attrs ++ attr d.attr_name (take len (drop (quote_len end) rest)) ∷ []; attr_name = front.attr_name; attr_value = front.attr_value } → CopiesTag d rest (quote_len end + (len + quote_len end)) front
copies_value ends.DoubleQuote d front rest len p z v h f =
    copies_quoted d (record d { part = parts.Inside ends.DoubleQuote }) front rest ends.DoubleQuote 34 len (takes_double d p) refl
    (double_closes _ front refl (record { new = h; part = rw f refl; name = rw f refl; attrs = rw (f, z) refl; start = rw f refl; is_end = rw f refl })) v.begins v.valued v.close v.free
copies_value ends.SingleQuote d front rest len p z v h f =
    copies_quoted d (record d { part = parts.Inside ends.SingleQuote }) front rest ends.SingleQuote 39 len (takes_single d p) refl
    (single_closes _ front refl (record { new = h; part = rw f refl; name = rw f refl; attrs = rw (f, z) refl; start = rw f refl; is_end = rw f refl })) v.begins v.valued v.close v.free
copies_value ends.Space d front rest len p z v h f =
    let s = v.some in
    copies_as d front rest len (0 + (len + 0)) (omega arith)
    (copies_unquoted d front rest len p (omega arith) v.valued v.close (record { new = h; part = rw f refl; name = rw f refl; attrs = rw (f, z) refl; start = rw f refl; is_end = rw f refl }))

pub copies_whole : (d front : TagDraft) (text : List ℕ) (a : WholeAttr) → d.part ≡ parts.Attributes → IsWholeAttr text a → has_name (take a.name text) d.attrs ≡ false →
    front ≡ record d { attrs = d.attrs ++ attr (take a.name text) (take a.value (drop (quote_len a.end) (drop 1 (drop a.name text)))) ∷ [] } → CopiesTag d text (whole_len a) front
copies_whole d front text a p w h f =
    let n = a.name in
    let q = quote_len a.end in
    let rest = drop n text in
    let named = record d { part = parts.AttrName; attr_name = take n text; attr_value = [] } in
    let valued = record named { part = parts.Value } in
    copies_then d named front text n (1 + (q + (a.value + q))) (copies_name d text n p w.some w.fit w.named)
    (copies_then named valued front rest 1 (q + (a.value + q)) (copies_known named valued rest 61 w.equals (takes_equals named refl h))
    (copies_value a.end valued front (drop 1 rest) a.value refl refl w.value h (rw (f, p) refl)))

-- a space that may stand before it
copies_space : (d : TagDraft) (text : List ℕ) → d.part ≡ parts.Attributes → slice_get text 0 ≡ Some 32 → CopiesTag d text 1 d
copies_space d text p e = copies_known d d text 32 e (takes_space d p)

pub copies_spaces : (d : TagDraft) (text : List ℕ) (n : ℕ) → d.part ≡ parts.Attributes → n ≤ 1 → (n ≡ 1 → slice_get text 0 ≡ Some 32) → CopiesTag d text n d
copies_spaces d text zero p h e = none_front d text
copies_spaces d text (suc zero) p h e = copies_space d text p (e refl)
copies_spaces d text (suc (suc n)) p h e = absurd (omega arith)

pub copies_after : (a b : TagDraft) (text : List ℕ) (n m k : ℕ) → CopiesTag a text n a → CopiesTag a (drop n text) m b → k ≡ n + m → CopiesTag a text k b
copies_after a b text n m k s t e = rw e (copies_then a a b text n m s t)

pub attr_bounded : (old new : Machine) (d d' : TagDraft) (n compared : ℕ) (f f' : Faults) → old.state ≡ Tag d → Passes (record old { state = Tag d' }) n (Tag d') new → length d'.attrs ≤ length d.attrs + 1 →
    f'.list ≡ f.list → f'.compared ≤ f.compared + compared → compared ≤ length d.attrs → (n ≡ 0 → (d' ≡ d) × (compared ≡ 0)) → IsBounded old f → IsBounded new f'
attr_bounded old new d d' zero compared f f' s p a l t c z b =
    let e = z refl in
    let same : length f'.list ≡ length f.list = ap length l in
    let u = rw s at b in let told = u.told in let few = u.compared in let attrs = u.attrs in let none = e.1 in
    rw (p.state, p.place, e.0) (record { told = omega arith; compared = omega arith; attrs = omega arith })
attr_bounded old new d d' (suc k) compared f f' s p a l t c z b =
    let same : length f'.list ≡ length f.list = ap length l in
    rw p.state (tag_on d d' old.place new.place (suc k) 0 f f' (rw s at b) (omega arith, omega arith) p.place (omega arith) (omega arith) a)

-- attributes that are taken one after another
pub takes_none : (d : TagDraft) → KeepsBounds d 0 0 d
takes_none d = λ place faults b. let told = b.told in let few = b.compared in let attrs = b.attrs in record { told = omega arith; compared = omega arith; attrs = omega arith }

pub takes_on : (d d1 d2 : TagDraft) (len n before compared after : ℕ) → KeepsBounds d len before d1 → 0 < n → length d2.attrs ≤ length d1.attrs + 1 → compared ≤ length d1.attrs → after ≤ before + compared → KeepsBounds d (len + n) after d2
takes_on d d1 d2 len n before compared after h s a c e = λ place faults b.
    tag_on d1 d2 (place + len) (place + (len + n)) n 0 (record faults { compared = faults.compared + before }) (record faults { compared = faults.compared + after }) (h place faults b) (omega arith, omega arith) (omega arith) s (omega arith) a

later : (d d' : TagDraft) (p n : ℕ) (f : Faults) → d'.attrs ≡ d.attrs → Bounded (Tag d) p f → Bounded (Tag d') (p + n) f
later d d' p n f a b =
    let m = square_on p n in
    let told = b.told in let few = b.compared in let attrs = b.attrs in
    record { told = omega arith; compared = omega arith; attrs = rw a (omega arith) }

-- and a space after them
pub takes_space_after : (d d1 : TagDraft) (len n compared : ℕ) → KeepsBounds d len compared d1 → KeepsBounds d (len + n) compared d1
takes_space_after d d1 len n compared h = λ place faults b.
    let e : place + len + n ≡ place + (len + n) = omega arith in
    rw e at (later d1 d1 (place + len) n (record faults { compared = faults.compared + compared }) refl (h place faults b))

-- a name, and then this
pub takes_name : (d named d1 : TagDraft) (n len compared : ℕ) → named.attrs ≡ d.attrs → KeepsBounds named len compared d1 → KeepsBounds d (n + len) compared d1
takes_name d named d1 n len compared a h = λ place faults b.
    let e : place + n + len ≡ place + (n + len) = omega arith in
    rw e at (h (place + n) faults (later d named place n faults a b))

-- the end of a name
pub names_end : (d : TagDraft) (text : List ℕ) (c : ℕ) → d.part ≡ parts.Name → slice_get text 0 ≡ Some c → ends_name c ≡ true → CopiesTag d text 0 (record d { part = parts.Attributes })
unfolding cut
names_end d [] c p e h = absurd cc
names_end d (x ∷ rest) c p e h = let f : x ≡ c = cc in rw f (copies_turn d (record d { part = parts.Attributes }) (c ∷ rest) (record { same = λ rows more. rw (p, h) refl; quiet = λ rows place more. rw p (name_ends_told rows (names_by parts.Name (names_of d.attrs) d.attr_name) place c (rest ++ more) h); start = refl; is_end = refl }))

-- a name
pub copies_start : (d : TagDraft) (rest pushed : List ℕ) (name : ℕ) → d.part ≡ parts.Name → name ≤ length rest → AllPass (is_copied copied.Name) (take name rest) → pushed ≡ d.name ++ take name rest → CopiesTag d rest name (record d { name = pushed })
copies_start d rest pushed name p fit a e = rw e (name_front d rest name p fit a)

-- a name, its end, and then this
pub copies_front : (d d' : TagDraft) (rest pushed : List ℕ) (name len c : ℕ) → d.part ≡ parts.Name → name ≤ length rest → AllPass (is_copied copied.Name) (take name rest) → pushed ≡ d.name ++ take name rest →
    slice_get rest name ≡ Some c → ends_name c ≡ true → CopiesTag (record d { name = pushed; part = parts.Attributes }) (drop name rest) len d' → CopiesTag d rest (name + len) d'
copies_front d d' rest pushed name len c p fit a e at h t =
    let named = record d { name = pushed } in
    copies_then d named d' rest name len (copies_start d rest pushed name p fit a e)
    (copies_as named d' (drop name rest) (0 + len) len (omega arith)
    (copies_then named (record named { part = parts.Attributes }) d' (drop name rest) 0 len (names_end named (drop name rest) c p (get_drop rest name c at) h) t))

-- A tag begins, and some of it is copied.
pub begins_whole : (old passed : Machine) (d d' : TagDraft) (n : ℕ) → old.state ≡ Text Plain → 1 ≤ length old.input.queue.items → Decided old.input (begin_at old.mode Plain old.last_name) begins.Markup →
    Decided old.input opener opens.StartTag →
    IsSilent old → new_tag d false old.place → CopiesTag d (drop 1 old.input.queue.items) n d' → Passes old (1 + n) old.state passed → Skips old (record passed { state = Tag d' })
begins_whole old passed d d' n s some begun is silent fresh copies p =
    let a : Machine = at_close old 1 d in
    let opens : Steps old More a =
    tag_opens old a begins.Markup Plain false 1 s (d, fresh, record { items = refl; finished = refl; place = refl; mode = refl; name = refl; state = refl; table = refl }) (omega arith) some begun refl (λ more f. rw (is more f) refl) (λ more f. rw (is more f) refl) in
    let e : old.place + (1 + n) ≡ old.place + 1 + n = omega arith in
    let goes : Skips a (record passed { state = Tag d' }) =
    tag_skips a (record passed { state = Tag d' }) d d' n refl copies
    (record { items = p.items ∙ sym (drop-drop n 1 old.input.queue.items); finished = p.finished; place = p.place ∙ e; mode = p.mode; name = p.name; state = refl; table = p.table }) in (
      (λ more switches f. opens.0 more switches f ∙ goes.0 more switches f),
      record { count = goes.1.count ∙ opens.2.count; finished = goes.1.finished ∙ opens.2.finished; table = goes.1.table ∙ opens.2.table; drained = λ h. goes.1.drained (opens.2.drained h) },
      goes.2 ∙ opens.3,
      (λ more switches f. opens.4 more switches f ∙ rw (silent more f) (goes.3 more switches f)),
    )

closes_at : (d : TagDraft) → d.part ≡ parts.Attributes → ReadsTag d 62 None (Closed false 1) d
unfolding tail
closes_at d p = ((λ rows rest h. rw (p, append-nil d.name) refl), refl, refl, omega arith)

closes_itself : (d : TagDraft) → d.part ≡ parts.Attributes → ReadsTag d 47 (Some 62) (Closed true 2) d
unfolding tail
closes_itself d p = ((λ rows rest h. rw (p, h refl, append-nil d.name) refl), refl, refl, omega arith)

front_more : (items more : List ℕ) (n c : ℕ) → slice_get items n ≡ Some c → slice_get (items ++ more) n ≡ Some c
front_more [] more n c e = absurd cc
front_more (x ∷ xs) more zero c e = e
front_more (x ∷ xs) more (suc n) c e = front_more xs more n c e

is_named : (part : Part) (rest : List ℕ) (c : ℕ) → IsNamed part rest → slice_get rest 0 ≡ Some c → ends_name c ≡ true → part ≡ parts.Attributes
is_named part rest c (inl p) e h = p
is_named part rest c (inr f) e h = absurd (false≢true (sym (f c e) ∙ h))

gives_after : (old m new : Machine) (given : Token) → Skips old m → Steps m (Given given) new → IsSilent old → ((more : List ℕ) → told_at m more ≡ []) → Steps old (Given given) new
gives_after old m new given skips gives silent quiet = (
  (λ more switch switches f. skips.0 more (switch ∷ switches) f ∙ gives.0 more switch switches (rw skips.1.finished f)),
  record { count = gives.1.count ∙ skips.1.count; finished = gives.1.finished ∙ skips.1.finished; table = gives.1.table ∙ skips.1.table; drained = λ h. gives.1.drained (skips.1.drained h) },
  gives.2 ∙ ap (λ (n : Option (List ℕ)). name_after_kind given.kind n) skips.2,
  (λ more switch switches f. skips.3 more (switch ∷ switches) f ∙ gives.3 more switch switches (rw skips.1.finished f) ∙ rw (quiet more, silent more f) refl),
)

ends_as : (passed new : Machine) (d : TagDraft) (self_closing : Bool) (len : ℕ) (given : Token) → EndsTagAt passed d self_closing len (Given given) new → EndsTagAt (record passed { state = Tag d }) d self_closing len (Given given) new
ends_as passed new d self_closing len given e = record { given = e.given; items = e.items; finished = e.finished; place = e.place; mode = e.mode; name = e.name; state = e.state; table = e.table }

-- It closes where it was copied to.
pub closes_whole : (old passed new : Machine) (d : TagDraft) (self_closing : Bool) (len : ℕ) (given : Token) → Skips old (record passed { state = Tag d }) → IsNamed d.part passed.input.queue.items → ClosesTag passed.input.queue.items self_closing len →
    EndsTagAt passed d self_closing len (Given given) new → IsSilent old → d.is_end ≡ false → Steps old (Given given) new
closes_whole old passed new d self_closing len given skips named (inl (first, sc, one)) ends silent is =
    let m = record passed { state = Tag d } in
    let items = passed.input.queue.items in
    let room = slice_get_within items 0 62 first in
    let p = is_named d.part items 62 named first refl in
    let ends' : EndsTagAt m d false 1 (Given given) new = rw (sc, one) at (ends_as passed new d self_closing len given ends) in
    gives_after old m new given skips (tag_given_at m new d d 62 None false 1 (Given given) refl (closes_at d p) (rw p (closes_by parts.Attributes parts.Attributes 62 None false 1 refl refl)) (λ r. absurd (false≢true (rw p at r))) (λ more f. front_more items more 0 62 first) (λ h. absurd (false≢true (rw p at h))) (omega arith) refl ends') silent
    (λ more.
    let at_end : part_told m.table.now (names_in d) d.part m.place (items ++ more) ≡ [] = ap₂ (λ (q : Part) (x : List ℕ). part_told m.table.now (names_by q (names_of d.attrs) d.attr_name) q m.place x) p (first_of items more 62 (front_more items more 0 62 first) room) in
    rw at_end (start_told m.table.now d m.place (items ++ more) (read_tag d false 1) is
    (ap (λ (x : List ℕ). draft_tag m.table.now d x) (first_of items more 62 (front_more items more 0 62 first) room) ∙ (closes_at d p).0 m.table.now (drop 1 items ++ more) (λ h. absurd (false≢true (ap (λ (n : ℕ). n == 47) h)))) refl))
closes_whole old passed new d self_closing len given skips named (inr (first, second, sc, two)) ends silent is =
    let m = record passed { state = Tag d } in
    let items = passed.input.queue.items in
    let room = slice_get_within items 1 62 second in
    let p = is_named d.part items 47 named first refl in
    let ends' : EndsTagAt m d true 2 (Given given) new = rw (sc, two) at (ends_as passed new d self_closing len given ends) in
    gives_after old m new given skips (tag_given_at m new d d 47 (Some 62) true 2 (Given given) refl (closes_itself d p) (rw p (closes_by parts.Attributes parts.Attributes 47 (Some 62) true 2 refl refl)) (λ r. absurd (false≢true (rw p at r))) (λ more f. front_more items more 0 47 first) (λ h more f. front_more items more 1 62 second) (omega arith) refl ends') silent
    (λ more. let text = first_of items more 47 (front_more items more 0 47 first) (omega arith) in
    let at_end : part_told m.table.now (names_in d) d.part m.place (items ++ more) ≡ [] =
    ap₂ (λ (q : Part) (x : List ℕ). part_told m.table.now (names_by q (names_of d.attrs) d.attr_name) q m.place x) p text ∙ ap (λ (x : Option ℕ). tag_char_errors parts.Attributes 47 x m.place ++ []) (rw text at (front_more items more 1 62 second)) in
    rw at_end (start_told m.table.now d m.place (items ++ more) (read_tag d true 2) is
    (ap (λ (x : List ℕ). draft_tag m.table.now d x) text ∙ (closes_itself d p).0 m.table.now (drop 1 items ++ more) (λ h. rw text at (front_more items more 1 62 second))) refl))

-- the bounds after what was read of it
pub whole_bounded : (old passed : Machine) (d d' : TagDraft) (n compared : ℕ) (f f' : Faults) → old.state ≡ Text Plain → d.attrs ≡ [] → KeepsBounds d n compared d' → passed.place ≡ old.place + (1 + n) →
    f'.list ≡ f.list → f'.compared ≤ f.compared + compared → IsBounded old f → Bounded (Tag d') passed.place f'
whole_bounded old passed d d' n compared f f' s fresh keeps place l t b =
    let begun : Bounded (Tag d) (old.place + 1) f = to_tag (Text Plain) d old.place (old.place + 1) 1 0 f f (rw s at b) (omega arith, omega arith) refl (omega arith) (omega arith) (rw fresh refl) in
    let e : old.place + 1 + n ≡ passed.place = omega arith in
    let all = rw e at (keeps (old.place + 1) f begun) in
    let told = all.told in let few = all.compared in let attrs = all.attrs in
    let same : length f'.list ≡ length f.list = ap length l in
    record { told = omega arith; compared = omega arith; attrs = attrs }

pub gives_bounded : (passed new : Machine) (d : TagDraft) (self_closing : Bool) (len : ℕ) (given : Token) (f : Faults) → EndsTagAt passed d self_closing len (Given given) new → Bounded (Tag d) passed.place f → IsBounded new f
gives_bounded passed new d self_closing len given f ends b = rw ends.state (tag_off d (Text Plain) passed.place new.place len 0 f f b (omega arith, omega arith) ends.place (omega arith) refl refl)

pub on_refusal : {T E P : Type 0} (r : Result T E) → P → OnErr r P
on_refusal (Ok x) p = tt
on_refusal (Err e) p = p

pub fails_within : (passed new : Machine) (d : TagDraft) (len : ℕ) (f : Faults) → new.place ≡ passed.place + len → Bounded (Tag d) passed.place f → IsWithin new.place f
fails_within passed new d len f place b = tag_fails d passed.place new.place len 0 f f b (omega arith, omega arith) place (omega arith)
