-- What the steps in a tag give.
use Rattle.std.proofs.Common.{◌≡◌, ℕ, suc, ◌+◌, ◌<◌, ◌≤◌, List, [], ◌∷◌, ◌++◌, length, drop, Option, Some, None, Bool, true, false, cond, refl, ap, sym, ap₂, ◌∙◌, arith, append_assoc, append-nil, length-append, length-drop, add-zero, Result, Ok, Err}
use Rattle.std.specs.List.{slice_get}
use Rattle.std.specs.Option.{option_to_list}
use Rattle.std.specs.Result.{IfOk}
use Rattle.std.proofs.lemmas.List.{drop-append-le}
use Rattle.html_tokens.specs.Errors.{errors_after, inside_errors, soon_errors, told_in}
use Rattle.html_tokens.specs.Fed.{IsSilent, Tells, TellsAt, errors_coming, told_at}
use Rattle.html_tokens.specs.Errors.{Opens}
use Rattle.html_tokens.specs.Inside.{fault, tag_end_errors, tag_told}
use Rattle.html_tokens.specs.AttrNames.{AttrNames, NamesOn, name_errors, names_in, no_names}
use Rattle.html_tokens.specs.InsideTags.{MovesRef, MovesTag, all_char_errors, begun_tag_errors, looks_on, part_end_told, part_errors, part_told}
use Rattle.html_tokens.proofs.ReferenceLemmas.{found_tells}
use Rattle.html_tokens.proofs.PartLemmas.{and_told, looks_slash, part_ends, told_first}
use Rattle.html_tokens.specs.InsideReferences.{found_told, value_told}
use Rattle.html_tokens.specs.declared.fault_name.FaultName.TheVariants as names
use Rattle.html_tokens.specs.declared.faults.Faults.{Faults}
use Rattle.html_tokens.proofs.EndLemmas.{closing_told, end_is, end_told, one_told, passed_told}
use Rattle.html_tokens.proofs.ToldLemmas.{tells_decided}
use Rattle.html_tokens.specs.declared.faults.Fault.{Fault}
use Rattle.html_tokens.proofs.ErrorLemmas.{errors_end, errors_past, errors_past_all, errors_past_one}
use Rattle.html_tokens.proofs.StepLemmas.{errors_opened}
use Rattle.html_tokens.specs.Cut.{cut, is}
use Rattle.std.proofs.Common.{◌-◌, not}
use Rattle.html_tokens.specs.Input.{MayFollow, Decided}
use Rattle.html_tokens.specs.Value.{value_cut}
use Rattle.html_tokens.specs.Value.{IsValueRef, ref_len}
use Rattle.html_tokens.specs.declared.reference.ValueRef.{ValueRef}
use Rattle.html_tokens.specs.Tag.{ReadsRef, reads_refs, tag_by, draft_tag, tag_of, longer_tag, ReadsTag, tail, value, after_name, after_some, part_tail}
use Rattle.html_tokens.specs.Tag.{Tag as WholeTag}
use Rattle.html_tokens.specs.Tokens.{tokens_after, token, tag_tokens, tag_kind, tag_piece, when, mode_after, name_after, mode_after_kind, name_after_kind}
use Rattle.html_tokens.specs.Copied.{CopiesTag}
use Rattle.html_tokens.specs.Fed.{Skips, coming, new_tag, BeginsTag, EndsTag, EndsTagAt, IsTag, Passes, Steps, switch_to, read_tag, mode_after_tag, name_after_tag}
use Rattle.html_tokens.specs.declared.tag.TagDraft.{TagDraft}
use Rattle.html_tokens.specs.declared.tag.Part.{Part}
use Rattle.html_tokens.specs.declared.tag.Part.TheVariants as parts
use Rattle.html_tokens.specs.declared.tag.TagReading.TheVariants.{More as More', Closed}
use Rattle.html_tokens.specs.declared.token.Token.{Token}
use Rattle.html_tokens.specs.declared.token.TokenKind.TheVariants as kinds
use Rattle.html_tokens.specs.declared.token.TextMode.{TextMode}
use Rattle.html_tokens.specs.declared.machine.Machine.{Machine}
use Rattle.html_tokens.specs.declared.machine.Progress.{Progress}
use Rattle.html_tokens.specs.declared.machine.Progress.TheVariants.{Given, More}
use Rattle.html_tokens.specs.declared.machine.State.{State}
use Rattle.html_tokens.specs.declared.machine.State.TheVariants.{Text, Number, Second, Ampersand, Comment, Doctype, Tag, Section, Ended}
use Rattle.html_tokens.proofs.TokensLemmas.{tokens_begun, tokens_past, tokens_past_one}
use Rattle.html_tokens.proofs.Cuts.{first_of}
use Rattle.html_tokens.proofs.StepLemmas.{all_read, going_on}
use Rattle.html_tokens.specs.Marks.{begin_at, is_stop}
use Rattle.html_tokens.specs.Tokens.{begun_piece}
use Rattle.html_charref.specs.declared.table.Row.{Row}
use Rattle.html_tokens.specs.declared.token.Region.{Region}
use Rattle.html_tokens.specs.declared.token.Begin.{Begin}

-- the tokens from a tag on, which is this and began there
abbrev pub tag_coming : List Row → Bool → ℕ → ℕ → WholeTag → TextMode → Option (List ℕ) → List ℕ → List (Option TextMode) → List Token
tag_coming rows is_end start place t mode name rest switches =
    let given = tag_tokens is_end start (place + t.tail.len) t in
    given ++ tokens_after rows t.tail.len (mode_after given switches mode) (name_after given name) place rest (drop (length given) switches)

-- the errors from the end of a tag on
abbrev pub tag_errors : List Row → Bool → ℕ → ℕ → WholeTag → TextMode → Option (List ℕ) → List ℕ → List (Option TextMode) → List Fault
tag_errors rows is_end start place t mode name rest switches =
    let given = tag_tokens is_end start (place + t.tail.len) t in
    tag_end_errors is_end (place + t.tail.len) t.tail ++ errors_after rows t.tail.len (mode_after given switches mode) (name_after given name) place rest (drop (length given) switches)

new_tag_of : (rows : List Row) (d : TagDraft) (is_end : Bool) (start : ℕ) (rest : List ℕ) → new_tag d is_end start → draft_tag rows d rest ≡ tag_of rows rest
new_tag_of rows d is_end start rest n = rw (n.2, n.3, n.4) refl

-- and no attributes
new_names : (rows : List Row) (d : TagDraft) (is_end : Bool) (start place : ℕ) (text : List ℕ) → new_tag d is_end start → part_errors rows (names_in d) d.part place text ≡ part_errors rows no_names parts.Name place text
new_names rows d is_end start place text n = rw (n.3, n.4) refl

tag_begins : (rows : List Row) (b : Begin) (region : Region) (mode : TextMode) (is_end : Bool) (opened : ℕ) (name : Option (List ℕ)) (place : ℕ) (items more : List ℕ) (switches : List (Option TextMode)) →
    begin_at mode region name (items ++ more) ≡ b → is_stop b ≡ true →
    begun_piece rows b place (items ++ more) ≡ tag_piece rows is_end opened place (items ++ more) →
    0 < opened → opened ≤ length items →
    coming rows (Text region) mode name place (items ++ more) switches
    ≡ tag_coming rows is_end place (place + opened) (tag_of rows (drop opened items ++ more)) mode name (drop opened items ++ more) switches
tag_begins rows b region mode is_end opened name place items more switches e s p h k =
    let t = tag_of rows (drop opened items ++ more) in
    let given = tag_tokens is_end place (place + opened + t.tail.len) t in
    tokens_begun rows b mode region name place (items ++ more) switches (tag_piece rows is_end opened place (items ++ more)) e s p (omega arith) (omega (arith, length-append items more))
    ∙ rw (drop-append-le opened items more k)
    (ap (λ (ts : List Token). given ++ ts) (tokens_past rows opened t.tail.len _ _ place items more _ k))

pub tag_opens : (old new : Machine) (b : Begin) (region : Region) (is_end : Bool) (opened : ℕ) → old.state ≡ Text region → BeginsTag old is_end opened new → 0 < opened → opened ≤ length old.input.queue.items →
    Decided old.input (begin_at old.mode region old.last_name) b → is_stop b ≡ true →
    ((more : List ℕ) → MayFollow old.input.finished more → begun_piece old.table.now b old.place (old.input.queue.items ++ more) ≡ tag_piece old.table.now is_end opened old.place (old.input.queue.items ++ more)) →
    ((more : List ℕ) → MayFollow old.input.finished more →
    inside_errors old.table.now b old.place (old.input.queue.items ++ more) ≡ soon_errors old.table.now b old.place (old.input.queue.items ++ more) ++ begun_tag_errors old.table.now is_end opened old.place (old.input.queue.items ++ more)) →
    Steps old More new
tag_opens old new b region is_end opened s (d, n, p) h k begun stop piece inside = (
  (λ more switches f. rw (s, p.state, p.mode, p.name, p.place, p.items, p.table, n.0, n.1)
      (tag_begins old.table.now b region old.mode is_end opened old.last_name old.place old.input.queue.items more switches (begun more f) stop (piece more f) h k
      ∙ ap (λ (t : WholeTag). tag_coming old.table.now is_end old.place (old.place + opened) t old.mode old.last_name (drop opened old.input.queue.items ++ more) switches)
      (sym (new_tag_of old.table.now d is_end old.place (drop opened old.input.queue.items ++ more) n)))),
  rw p.items (simp length-drop (omega arith)),
  record { count = rw (p.place, p.items) (simp length-drop (omega arith)); finished = p.finished; table = p.table; drained = going_on old new _ p.state (λ e. e) },
  p.name,
  (λ more switches f. rw (s, p.state, p.mode, p.name, p.place, p.items, p.table, n.0, n.1)
      (let items = old.input.queue.items in
      errors_opened old.table.now b region old.mode old.last_name old.place opened (tag_of old.table.now (drop opened items ++ more)).tail.len items more switches (tag_piece old.table.now is_end opened old.place (items ++ more)) (begun_tag_errors old.table.now is_end opened old.place (items ++ more))
      (begun more f) stop (piece more f) (rw (drop-append-le opened items more k) refl) h k (inside more f)
      ∙ rw (drop-append-le opened items more k)
      (ap (λ (es : List Fault). told_in old.table.now (Text region) old.mode old.last_name old.place (items ++ more) ++ es)
      (append_assoc (part_errors old.table.now no_names parts.Name (old.place + opened) (drop opened items ++ more)) _ _
      ∙ ap₂ (λ (es fs : List Fault). es ++ fs) (sym (new_names old.table.now d is_end old.place (old.place + opened) (drop opened items ++ more) n))
      (ap (λ (t : WholeTag). tag_errors old.table.now is_end old.place (old.place + opened) t old.mode old.last_name (drop opened items ++ more) switches)
      (sym (new_tag_of old.table.now d is_end old.place (drop opened items ++ more) n))))))),
)

tag_step_on : (rows : List Row) (is_end : Bool) (start place : ℕ) (t : WholeTag) (mode : TextMode) (name : Option (List ℕ)) (items items' more : List ℕ) (switches : List (Option TextMode)) →
    items' ≡ drop 1 items → 0 < length items →
    tag_coming rows is_end start place (longer_tag t) mode name (items ++ more) switches ≡ tag_coming rows is_end start (place + 1) t mode name (items' ++ more) switches
tag_step_on rows true start place t mode name items items' more switches i h =
    let n : place + suc t.tail.len ≡ place + 1 + t.tail.len = omega arith in
    let given = tag_tokens true start (place + 1 + t.tail.len) t in
    rw n (ap (λ (ts : List Token). given ++ ts)
    (tokens_past_one rows t.tail.len (mode_after given switches mode) (name_after given name) place items items' more (drop (length given) switches) i h))
tag_step_on rows false start place t mode name items items' more switches i h =
    let n : place + suc t.tail.len ≡ place + 1 + t.tail.len = omega arith in
    let given = tag_tokens false start (place + 1 + t.tail.len) t in
    rw n (ap (λ (ts : List Token). given ++ ts)
    (tokens_past_one rows t.tail.len (mode_after given switches mode) (name_after given name) place items items' more (drop (length given) switches) i h))

tag_tells_on : (rows : List Row) (is_end : Bool) (start place : ℕ) (t : WholeTag) (mode : TextMode) (name : Option (List ℕ)) (items items' more : List ℕ) (switches : List (Option TextMode)) →
    items' ≡ drop 1 items → 0 < length items →
    tag_errors rows is_end start place (longer_tag t) mode name (items ++ more) switches ≡ tag_errors rows is_end start (place + 1) t mode name (items' ++ more) switches
tag_tells_on rows true start place t mode name items items' more switches i h =
    let n : place + suc t.tail.len ≡ place + 1 + t.tail.len = omega arith in
    let given = tag_tokens true start (place + 1 + t.tail.len) t in
    rw n (ap (λ (es : List Fault). tag_end_errors true (place + 1 + t.tail.len) t.tail ++ es) (errors_past_one rows t.tail.len (mode_after given switches mode) (name_after given name) place items items' more (drop (length given) switches) i h))
tag_tells_on rows false start place t mode name items items' more switches i h =
    let n : place + suc t.tail.len ≡ place + 1 + t.tail.len = omega arith in
    let given = tag_tokens false start (place + 1 + t.tail.len) t in
    rw n (ap (λ (es : List Fault). tag_end_errors false (place + 1 + t.tail.len) t.tail ++ es) (errors_past_one rows t.tail.len (mode_after given switches mode) (name_after given name) place items items' more (drop (length given) switches) i h))

-- what is told, and what is left
on_parts : (whole told later before after : List Fault) → whole ≡ told ++ later → before ≡ after → whole ++ before ≡ (told ++ []) ++ (later ++ after)
on_parts whole told later before after e h = rw (e, h, append-nil told) (append_assoc told later after)

closes_parts : (whole end told before after : List Fault) → told ≡ end → before ≡ end ++ after → whole ++ before ≡ (whole ++ told) ++ after
closes_parts whole end told before after e h = rw (e, h) (sym (append_assoc whole end after))

module _ (d d' : TagDraft) (c : ℕ) (after : Option ℕ) (items more rest : List ℕ) (text : items ++ more ≡ c ∷ rest) (plain : reads_refs d.part ≡ true → c ≡ 38 → ⊥) (next : looks_on d.part c ≡ true → slice_get rest 0 ≡ after) where
  -- what a code point of a tag tells
  told_here : (rows : List Row) (place : ℕ) → part_told rows (names_in d) d.part place (items ++ more) ≡ all_char_errors (names_in d) d.part c after place
  told_here rows place = ap (λ (x : List ℕ). part_told rows (names_in d) d.part place x) text ∙ told_first rows (names_in d) d.part c rest after place plain next

  parts_go : (rows : List Row) (place : ℕ) → MovesTag d.part c after More' d'.part → NamesOn d c More' d' →
      part_errors rows (names_in d) d.part place (items ++ more) ≡ part_told rows (names_in d) d.part place (items ++ more) ++ part_errors rows (names_in d') d'.part (place + 1) rest
  parts_go rows place m n =
      ap (λ (x : List ℕ). part_errors rows (names_in d) d.part place x) text ∙ m rows (names_in d) place rest next
      ∙ ap₂ (λ (es : List Fault) (seen : AttrNames). es ++ part_errors rows seen d'.part (place + 1) rest) (sym (told_here rows place)) (sym n)

  parts_close : (rows : List Row) (place : ℕ) (self_closing : Bool) (n : ℕ) → MovesTag d.part c after (Closed self_closing n) d'.part → part_errors rows (names_in d) d.part place (items ++ more) ≡ part_told rows (names_in d) d.part place (items ++ more)
  parts_close rows place self_closing n m = ap (λ (x : List ℕ). part_errors rows (names_in d) d.part place x) text ∙ m rows (names_in d) place rest next ∙ sym (told_here rows place)

pub tag_more : (old new : Machine) (d d' : TagDraft) (c : ℕ) (after : Option ℕ) → old.state ≡ Tag d → ReadsTag d c after More' d' → MovesTag d.part c after More' d'.part → NamesOn d c More' d' →
    (reads_refs d.part ≡ true → c ≡ 38 → ⊥) → Decided old.input (λ rest. slice_get rest 0) (Some c) → (looks_on d.part c ≡ true → Decided old.input (λ rest. slice_get rest 1) after) → 1 + length (option_to_list after) ≤ length old.input.queue.items →
    Passes (record old { state = Tag d' }) 1 (Tag d') new → Steps old More new
tag_more old new d d' c after s (e, st, en) moves names plain first second k p =
    let h : 0 < length old.input.queue.items = omega arith in (
      (λ more switches f.
          let text = first_of old.input.queue.items more c (first more f) h in
          let next : (looks_on d.part c ≡ true → slice_get (drop 1 old.input.queue.items ++ more) 0 ≡ after) = λ looks. (rw text at (second looks more f)) in
          let after_is : (c ≡ 47 → slice_get (drop 1 old.input.queue.items ++ more) 0 ≡ after) = λ slash. next (looks_slash d.part c slash) in
          let whole = e old.table.now (drop 1 old.input.queue.items ++ more) after_is in
          rw (s, p.state, p.mode, p.name, p.place, p.items, p.table, st, en)
          (ap (λ (t : WholeTag). tag_coming old.table.now d.is_end d.start old.place t old.mode old.last_name (old.input.queue.items ++ more) switches) (ap (λ (x : List ℕ). draft_tag old.table.now d x) text ∙ whole)
          ∙ tag_step_on old.table.now d.is_end d.start old.place (draft_tag old.table.now d' (drop 1 old.input.queue.items ++ more)) old.mode old.last_name old.input.queue.items _ more switches refl h)),
      rw p.items (simp length-drop (omega arith)),
      record { count = rw (p.place, p.items) (simp length-drop (omega arith)); finished = p.finished; table = p.table; drained = going_on old new _ p.state (λ e. e) },
      p.name,
      (λ more switches f.
          let text = first_of old.input.queue.items more c (first more f) h in
          let next : (looks_on d.part c ≡ true → slice_get (drop 1 old.input.queue.items ++ more) 0 ≡ after) = λ looks. (rw text at (second looks more f)) in
          let after_is : (c ≡ 47 → slice_get (drop 1 old.input.queue.items ++ more) 0 ≡ after) = λ slash. next (looks_slash d.part c slash) in
          let whole = e old.table.now (drop 1 old.input.queue.items ++ more) after_is in
          let quiet = one_told old.table.now d d' d.is_end old.place (old.input.queue.items ++ more) (drop 1 old.input.queue.items ++ more) (ap (λ (x : List ℕ). draft_tag old.table.now d x) text ∙ whole) in
          rw (s, p.state, p.mode, p.name, p.place, p.items, p.table, st, en, quiet)
          (on_parts _ _ _ _ _ (parts_go d d' c after old.input.queue.items more (drop 1 old.input.queue.items ++ more) text plain next old.table.now old.place moves names)
          (ap (λ (t : WholeTag). tag_errors old.table.now d.is_end d.start old.place t old.mode old.last_name (old.input.queue.items ++ more) switches) (ap (λ (x : List ℕ). draft_tag old.table.now d x) text ∙ whole)
          ∙ tag_tells_on old.table.now d.is_end d.start old.place (draft_tag old.table.now d' (drop 1 old.input.queue.items ++ more)) old.mode old.last_name old.input.queue.items _ more switches refl h))),
    )

mode_same : (is_end : Bool) (t : WholeTag) (switch : Option TextMode) (mode : TextMode) → mode_after_kind (tag_kind is_end t) switch mode ≡ switch_to (tag_kind is_end t) switch (mode_after_tag is_end mode)
mode_same true t switch mode = refl
mode_same false t switch mode = refl

name_same : (is_end : Bool) (t : WholeTag) (name : Option (List ℕ)) → name_after_kind (tag_kind is_end t) name ≡ name_after_tag is_end t.name name
name_same true t name = refl
name_same false t name = refl

told_then : (whole told before after : List Fault) → told ≡ whole → before ≡ after → whole ++ before ≡ told ++ after
told_then whole told before after e h = rw (e, h) refl

-- what a step that only reads on tells
pub tag_on_told : (old : Machine) (d d' : TagDraft) (c : ℕ) (after : Option ℕ) → old.state ≡ Tag d → ReadsTag d c after More' d' →
    (reads_refs d.part ≡ true → c ≡ 38 → ⊥) → Decided old.input (λ rest. slice_get rest 0) (Some c) → (looks_on d.part c ≡ true → Decided old.input (λ rest. slice_get rest 1) after) → 0 < length old.input.queue.items →
    (more : List ℕ) → MayFollow old.input.finished more → told_at old more ≡ all_char_errors (names_in d) d.part c after old.place
tag_on_told old d d' c after s (e, st, en) plain first second h more f =
    let items = old.input.queue.items in
    let rest = drop 1 items ++ more in
    let text = first_of items more c (first more f) h in
    let next : (looks_on d.part c ≡ true → slice_get rest 0 ≡ after) = λ looks. (rw text at (second looks more f)) in
    let whole = e old.table.now rest (λ slash. next (looks_slash d.part c slash)) in
    rw (s, one_told old.table.now d d' d.is_end old.place (items ++ more) rest (ap (λ (x : List ℕ). draft_tag old.table.now d x) text ∙ whole))
    (append-nil (part_told old.table.now (names_in d) d.part old.place (items ++ more)) ∙ told_here d d' c after items more rest text plain next old.table.now old.place)

-- one that tells nothing
pub tag_silent : (old : Machine) (d d' : TagDraft) (c : ℕ) (after : Option ℕ) → old.state ≡ Tag d → ReadsTag d c after More' d' →
    (reads_refs d.part ≡ true → c ≡ 38 → ⊥) → Decided old.input (λ rest. slice_get rest 0) (Some c) → (looks_on d.part c ≡ true → Decided old.input (λ rest. slice_get rest 1) after) → 0 < length old.input.queue.items → all_char_errors (names_in d) d.part c after old.place ≡ [] → IsSilent old
tag_silent old d d' c after s reads plain first second h none = λ more f. tag_on_told old d d' c after s reads plain first second h more f ∙ none

-- what is told where it closes
pub tag_closing : (old : Machine) (d d' : TagDraft) (c : ℕ) (after : Option ℕ) (self_closing : Bool) (n : ℕ) → old.state ≡ Tag d → ReadsTag d c after (Closed self_closing n) d' → n ≡ cond self_closing 2 1 →
    (reads_refs d.part ≡ true → c ≡ 38 → ⊥) → Decided old.input (λ rest. slice_get rest 0) (Some c) → (looks_on d.part c ≡ true → Decided old.input (λ rest. slice_get rest 1) after) → 0 < length old.input.queue.items →
    (more : List ℕ) → MayFollow old.input.finished more → told_at old more ≡ all_char_errors (names_in d) d.part c after old.place ++ tag_end_errors d.is_end (old.place + n) (record { attrs = d'.attrs; self_closing = self_closing; closed = true; len = n })
tag_closing old d d' c after self_closing n s (e, st, en, short) len plain first second h = λ more f.
    let items = old.input.queue.items in
    let rest = drop 1 items ++ more in
    let text = first_of items more c (first more f) h in
    let next : (looks_on d.part c ≡ true → slice_get rest 0 ≡ after) = λ looks. (rw text at (second looks more f)) in
    let whole = e old.table.now rest (λ slash. next (looks_slash d.part c slash)) in
    rw (s, closing_told old.table.now d d.is_end old.place (items ++ more) (read_tag d' self_closing n) (ap (λ (x : List ℕ). draft_tag old.table.now d x) text ∙ whole) refl len)
    (ap (λ (es : List Fault). es ++ tag_end_errors d.is_end (old.place + n) (record { attrs = d'.attrs; self_closing = self_closing; closed = true; len = n })) (told_here d d' c after items more rest text plain next old.table.now old.place))

pub tag_given_at : (old new : Machine) (d d' : TagDraft) (c : ℕ) (after : Option ℕ) (self_closing : Bool) (n : ℕ) (progress : Progress) → old.state ≡ Tag d → ReadsTag d c after (Closed self_closing n) d' → MovesTag d.part c after (Closed self_closing n) d'.part →
    (reads_refs d.part ≡ true → c ≡ 38 → ⊥) → Decided old.input (λ rest. slice_get rest 0) (Some c) → (looks_on d.part c ≡ true → Decided old.input (λ rest. slice_get rest 1) after) → 1 + length (option_to_list after) ≤ length old.input.queue.items → n ≡ cond self_closing 2 1 →
    EndsTagAt (record old { state = Tag d' }) d' self_closing n progress new → Steps old progress new
tag_given_at old new d d' c after self_closing n progress s (e, st, en, short) moves plain first second k len p =
    let h : 0 < length old.input.queue.items = omega arith in
    let fit : n ≤ length old.input.queue.items = omega arith in
    let t = read_tag d' self_closing n in
    rw p.given (
      (λ more switch switches f.
          let text = first_of old.input.queue.items more c (first more f) h in
          let next : (looks_on d.part c ≡ true → slice_get (drop 1 old.input.queue.items ++ more) 0 ≡ after) = λ looks. (rw text at (second looks more f)) in
          let after_is : (c ≡ 47 → slice_get (drop 1 old.input.queue.items ++ more) 0 ≡ after) = λ slash. next (looks_slash d.part c slash) in
          let whole = e old.table.now (drop 1 old.input.queue.items ++ more) after_is in
          rw (s, p.state, p.mode, p.name, p.place, p.items, p.table, st, en)
          (ap (λ (x : WholeTag). tag_coming old.table.now d.is_end d.start old.place x old.mode old.last_name (old.input.queue.items ++ more) (switch ∷ switches)) (ap (λ (x : List ℕ). draft_tag old.table.now d x) text ∙ whole)
          ∙ rw (mode_same d.is_end t switch old.mode, name_same d.is_end t old.last_name)
          (ap (λ (ts : List Token). token (tag_kind d.is_end t) d.start (old.place + n) ∷ ts)
          (rw add-zero at (tokens_past old.table.now n 0 (switch_to (tag_kind d.is_end t) switch (mode_after_tag d.is_end old.mode)) (name_after_tag d.is_end d'.name old.last_name) old.place old.input.queue.items more switches fit))))),
      record { count = rw (p.place, p.items) (simp length-drop (omega arith)); finished = p.finished; table = p.table; drained = going_on old new _ p.state (λ e. e) },
      p.name ∙ (rw en (sym (name_same d.is_end t old.last_name))),
      (λ more switch switches f.
          let text = first_of old.input.queue.items more c (first more f) h in
          let next : (looks_on d.part c ≡ true → slice_get (drop 1 old.input.queue.items ++ more) 0 ≡ after) = λ looks. (rw text at (second looks more f)) in
          let after_is : (c ≡ 47 → slice_get (drop 1 old.input.queue.items ++ more) 0 ≡ after) = λ slash. next (looks_slash d.part c slash) in
          let whole = e old.table.now (drop 1 old.input.queue.items ++ more) after_is in
          let told = closing_told old.table.now d d.is_end old.place (old.input.queue.items ++ more) t (ap (λ (x : List ℕ). draft_tag old.table.now d x) text ∙ whole) refl len in
          rw (s, p.state, p.mode, p.name, p.place, p.items, p.table, en)
          (rw (← parts_close d d' c after old.input.queue.items more (drop 1 old.input.queue.items ++ more) text plain next old.table.now old.place self_closing n moves)
          (closes_parts (part_errors old.table.now (names_in d) d.part old.place (old.input.queue.items ++ more)) (tag_end_errors d.is_end (old.place + n) t.tail) _ _ _ told
          (ap (λ (x : WholeTag). tag_errors old.table.now d.is_end d.start old.place x old.mode old.last_name (old.input.queue.items ++ more) (switch ∷ switches)) (ap (λ (x : List ℕ). draft_tag old.table.now d x) text ∙ whole)
          ∙ rw (mode_same d.is_end t switch old.mode, name_same d.is_end t old.last_name)
          (ap (λ (es : List Fault). tag_end_errors d.is_end (old.place + n) t.tail ++ es)
          (errors_past_all old.table.now n (switch_to (tag_kind d.is_end t) switch (mode_after_tag d.is_end old.mode)) (name_after_tag d.is_end d'.name old.last_name) old.place old.input.queue.items more switches fit)))))),
    )

pub tag_given : {E : Type 0} (r : Result Progress E) (old new : Machine) (d d' : TagDraft) (c : ℕ) (after : Option ℕ) (self_closing : Bool) (n : ℕ) → old.state ≡ Tag d → ReadsTag d c after (Closed self_closing n) d' → MovesTag d.part c after (Closed self_closing n) d'.part →
    (reads_refs d.part ≡ true → c ≡ 38 → ⊥) → Decided old.input (λ rest. slice_get rest 0) (Some c) → (looks_on d.part c ≡ true → Decided old.input (λ rest. slice_get rest 1) after) → 1 + length (option_to_list after) ≤ length old.input.queue.items → n ≡ cond self_closing 2 1 →
    IfOk r (λ progress. EndsTag (record old { state = Tag d' }) self_closing n progress new) → IfOk r (λ progress. Steps old progress new)
tag_given (Ok progress) old new d d' c after self_closing n s reads moves plain first second k len ends = tag_given_at old new d d' c after self_closing n progress s reads moves plain first second k len (ends d' refl)
tag_given (Err error) old new d d' c after self_closing n s reads moves plain first second k len ends = tt

tag_open : (rows : List Row) (part : Part) (name val : List ℕ) → (part_tail rows part name val []).closed ≡ false
unfolding cut tail value after_name after_some value_cut
tag_open rows parts.Name name val = refl
tag_open rows parts.Attributes name val = refl
tag_open rows parts.AttrName name val = refl
tag_open rows parts.AfterName name val = refl
tag_open rows parts.Value name val = refl
tag_open rows (parts.Inside end) name val = refl
tag_open rows (parts.Number end base value start) name val = refl
tag_open rows (parts.Ampersand end start) name val = refl

tag_dropped : (rows : List Row) (state : State) (mode : TextMode) (name : Option (List ℕ)) (place : ℕ) (switches : List (Option TextMode)) → IsTag state → coming rows state mode name place [] switches ≡ token kinds.Eof place place ∷ []
unfolding tokens_after
tag_dropped rows (Text region) mode name place switches h = absurd h
tag_dropped rows (Number d) mode name place switches h = absurd h
tag_dropped rows (Second c start) mode name place switches h = absurd h
tag_dropped rows (Ampersand start) mode name place switches h = absurd h
tag_dropped rows (Comment d) mode name place switches h = absurd h
tag_dropped rows (Doctype d) mode name place switches h = absurd h
tag_dropped rows (Tag d) mode name place switches h = rw (tag_open rows d.part d.attr_name d.attr_value) refl
tag_dropped rows Section mode name place switches h = absurd h
tag_dropped rows Ended mode name place switches h = absurd h

tag_quiet : (rows : List Row) (state : State) (mode : TextMode) (name : Option (List ℕ)) (place : ℕ) (switches : List (Option TextMode)) → IsTag state →
    errors_coming rows state mode name place [] switches ≡ told_in rows state mode name place [] ++ []
tag_quiet rows (Text region) mode name place switches h = absurd h
tag_quiet rows (Number d) mode name place switches h = absurd h
tag_quiet rows (Second c start) mode name place switches h = absurd h
tag_quiet rows (Ampersand start) mode name place switches h = absurd h
tag_quiet rows (Comment d) mode name place switches h = absurd h
tag_quiet rows (Doctype d) mode name place switches h = absurd h
tag_quiet rows (Tag d) mode name place switches h =
    rw (part_ends rows (names_in d) d.part place)
    (ap (λ (es : List Fault). (part_end_told d.part ++ name_errors (names_in d) d.part None place) ++ es)
    (told_then (tag_end_errors d.is_end (place + (draft_tag rows d []).tail.len) (draft_tag rows d []).tail) (tag_told d.is_end place (draft_tag rows d []).tail) _ _ (sym (end_told rows d place)) (errors_end rows _ _ _ place _))
    ∙ sym (append_assoc (part_end_told d.part ++ name_errors (names_in d) d.part None place) (tag_told d.is_end place (draft_tag rows d []).tail) []))
tag_quiet rows Section mode name place switches h = absurd h
tag_quiet rows Ended mode name place switches h = absurd h

pub tag_ends : (old new : Machine) → IsTag old.state → new ≡ record old { state = Ended } →
    ((more : List ℕ) → MayFollow old.input.finished more → old.input.queue.items ++ more ≡ []) → Steps old (Given (token kinds.Eof old.place old.place)) new
tag_ends old new s n e = (
  (λ more switch switches f. rw (e more f, n) (tag_dropped old.table.now old.state old.mode old.last_name old.place (switch ∷ switches) s)),
  rw n (record { count = refl; finished = refl; table = refl; drained = λ _ _. all_read old.input.finished old.input.queue.items e }),
  rw n refl,
  (λ more switch switches f. rw (e more f, n) (tag_quiet old.table.now old.state old.mode old.last_name old.place (switch ∷ switches) s)),
)

same_kind : (is_end : Bool) (k : ℕ) (t : WholeTag) → tag_kind is_end (tag_by k t) ≡ tag_kind is_end t
same_kind true k t = refl
same_kind false k t = refl

tag_steps_on : (rows : List Row) (is_end : Bool) (start place k : ℕ) (t : WholeTag) (mode : TextMode) (name : Option (List ℕ)) (items more : List ℕ) (switches : List (Option TextMode)) →
    k ≤ length items →
    tag_coming rows is_end start place (tag_by k t) mode name (items ++ more) switches ≡ tag_coming rows is_end start (place + k) t mode name (drop k items ++ more) switches
tag_steps_on rows is_end start place k t mode name items more switches h =
    let n : place + (k + t.tail.len) ≡ place + k + t.tail.len = omega arith in
    let kind : tag_kind is_end (tag_by k t) ≡ tag_kind is_end t = same_kind is_end k t in
    let given = when t.tail.closed (token (tag_kind is_end t) start (place + k + t.tail.len)) in
    rw (n, kind) (ap (λ (ts : List Token). given ++ ts)
    (tokens_past rows k t.tail.len (mode_after given switches mode) (name_after given name) place items more (drop (length given) switches) h))

tag_tells_by : (rows : List Row) (is_end : Bool) (start place k : ℕ) (t : WholeTag) (mode : TextMode) (name : Option (List ℕ)) (items more : List ℕ) (switches : List (Option TextMode)) →
    k ≤ length items →
    tag_errors rows is_end start place (tag_by k t) mode name (items ++ more) switches ≡ tag_errors rows is_end start (place + k) t mode name (drop k items ++ more) switches
tag_tells_by rows is_end start place k t mode name items more switches h =
    let n : place + (k + t.tail.len) ≡ place + k + t.tail.len = omega arith in
    let kind : tag_kind is_end (tag_by k t) ≡ tag_kind is_end t = same_kind is_end k t in
    let given = when t.tail.closed (token (tag_kind is_end t) start (place + k + t.tail.len)) in
    rw (n, kind) (ap (λ (es : List Fault). tag_end_errors is_end (place + k + t.tail.len) t.tail ++ es) (errors_past rows k t.tail.len (mode_after given switches mode) (name_after given name) place items more (drop (length given) switches) h))

-- what a `&` in a value begins is read
pub ref_more : (old new : Machine) (d d' : TagDraft) (found : ValueRef) → old.state ≡ Tag d → ReadsRef d found d' → MovesRef d.part found old.place d'.part → names_in d' ≡ names_in d → reads_refs d.part ≡ true →
    Decided old.input (λ rest. slice_get rest 0) (Some 38) → 0 < length old.input.queue.items → IsValueRef old.table.now old.input found →
    Passes (record old { state = Tag d' }) (ref_len found) (Tag d') new → Steps old More new
ref_more old new d d' found s (e, st, en) moves names refs first h (b, some, fit) p = (
  (λ more switches f.
      let items = old.input.queue.items in
      let text : items ++ more ≡ 38 ∷ (drop 1 items ++ more) = first_of items more 38 (first more f) h in
      let k = ref_len found in
      let begins = rw text at (b more f) in
      let some_len : k ≤ suc (length (drop 1 items ++ more)) = simp (length-append, length-drop) (omega arith) in
      let past : drop k (38 ∷ (drop 1 items ++ more)) ≡ drop k items ++ more = ap (λ (x : List ℕ). drop k x) (sym text) ∙ drop-append-le k items more fit in
      let whole : draft_tag old.table.now d (items ++ more) ≡ tag_by k (draft_tag old.table.now d' (drop k items ++ more)) =
      ap (λ (x : List ℕ). draft_tag old.table.now d x) text ∙ e old.table.now (drop 1 items ++ more) begins some some_len ∙ ap (λ (x : List ℕ). tag_by k (draft_tag old.table.now d' x)) past in
      rw (s, p.state, p.mode, p.name, p.place, p.items, p.table, st, en)
      (ap (λ (t : WholeTag). tag_coming old.table.now d.is_end d.start old.place t old.mode old.last_name (items ++ more) switches) whole
      ∙ tag_steps_on old.table.now d.is_end d.start old.place k (draft_tag old.table.now d' (drop k items ++ more)) old.mode old.last_name items more switches fit)),
  rw p.items (simp length-drop (omega arith)),
  record { count = rw (p.place, p.items) (simp length-drop (omega arith)); finished = p.finished; table = p.table; drained = going_on old new _ p.state (λ e. e) },
  p.name,
  (λ more switches f.
      let items = old.input.queue.items in
      let text : items ++ more ≡ 38 ∷ (drop 1 items ++ more) = first_of items more 38 (first more f) h in
      let k = ref_len found in
      let begins = rw text at (b more f) in
      let some_len : k ≤ suc (length (drop 1 items ++ more)) = simp (length-append, length-drop) (omega arith) in
      let past : drop k (38 ∷ (drop 1 items ++ more)) ≡ drop k items ++ more = ap (λ (x : List ℕ). drop k x) (sym text) ∙ drop-append-le k items more fit in
      let whole : draft_tag old.table.now d (items ++ more) ≡ tag_by k (draft_tag old.table.now d' (drop k items ++ more)) =
      ap (λ (x : List ℕ). draft_tag old.table.now d x) text ∙ e old.table.now (drop 1 items ++ more) begins some some_len ∙ ap (λ (x : List ℕ). tag_by k (draft_tag old.table.now d' x)) past in
      let quiet = passed_told old.table.now d d' d.is_end old.place k (items ++ more) (drop k items ++ more) some whole in
      let told : part_told old.table.now (names_in d) d.part old.place (items ++ more) ≡ part_end_told d.part ++ value_told old.table.now old.place (38 ∷ (drop 1 items ++ more)) =
      ap (λ (x : List ℕ). part_told old.table.now (names_in d) d.part old.place x) text ∙ and_told old.table.now (names_in d) d.part old.place (drop 1 items ++ more) refs in
      let left : part_errors old.table.now (names_in d) d.part old.place (items ++ more) ≡ (part_end_told d.part ++ value_told old.table.now old.place (38 ∷ (drop 1 items ++ more))) ++ part_errors old.table.now (names_in d') d'.part (old.place + k) (drop k items ++ more) =
      ap (λ (x : List ℕ). part_errors old.table.now (names_in d) d.part old.place x) text ∙ moves old.table.now (names_in d) (drop 1 items ++ more) begins some some_len
      ∙ ap₂ (λ (seen : AttrNames) (x : List ℕ). (part_end_told d.part ++ value_told old.table.now old.place (38 ∷ (drop 1 items ++ more))) ++ part_errors old.table.now seen d'.part (old.place + k) x) (sym names) past in
      rw (s, p.state, p.mode, p.name, p.place, p.items, p.table, st, en, quiet, told)
      (on_parts _ (part_end_told d.part ++ value_told old.table.now old.place (38 ∷ (drop 1 items ++ more))) _ _ _ left
      (ap (λ (t : WholeTag). tag_errors old.table.now d.is_end d.start old.place t old.mode old.last_name (items ++ more) switches) whole
      ∙ tag_tells_by old.table.now d.is_end d.start old.place k (draft_tag old.table.now d' (drop k items ++ more)) old.mode old.last_name items more switches fit))),
)

-- what is told where a `&` stands in a value
pub value_ref_told : (old : Machine) (d d' : TagDraft) (found : ValueRef) (lacking : Bool) → old.state ≡ Tag d → ReadsRef d found d' → reads_refs d.part ≡ true →
    Decided old.input (λ rest. slice_get rest 0) (Some 38) → 0 < length old.input.queue.items → IsValueRef old.table.now old.input found →
    Decided old.input (λ rest. not (is 59 (slice_get rest (ref_len found - 1)))) lacking → (more : List ℕ) → MayFollow old.input.finished more → told_at old more ≡ part_end_told d.part ++ found_told found lacking old.place
value_ref_told old d d' found lacking s (e, st, en) refs first h (b, some, fit) lacks more f =
    let items = old.input.queue.items in
    let text : items ++ more ≡ 38 ∷ (drop 1 items ++ more) = first_of items more 38 (first more f) h in
    let k = ref_len found in
    let begins = rw text at (b more f) in
    let some_len : k ≤ suc (length (drop 1 items ++ more)) = simp (length-append, length-drop) (omega arith) in
    let whole : draft_tag old.table.now d (items ++ more) ≡ tag_by k (draft_tag old.table.now d' (drop k (38 ∷ (drop 1 items ++ more)))) =
    ap (λ (x : List ℕ). draft_tag old.table.now d x) text ∙ e old.table.now (drop 1 items ++ more) begins some some_len in
    let told : part_told old.table.now (names_in d) d.part old.place (items ++ more) ≡ part_end_told d.part ++ found_told found lacking old.place =
    ap (λ (x : List ℕ). part_told old.table.now (names_in d) d.part old.place x) text ∙ and_told old.table.now (names_in d) d.part old.place (drop 1 items ++ more) refs
    ∙ ap (λ (es : List Fault). part_end_told d.part ++ es) (found_tells old.table.now (38 ∷ (drop 1 items ++ more)) old.place found lacking begins (rw text at (lacks more f))) in
    rw (s, told, passed_told old.table.now d d' d.is_end old.place k (items ++ more) (drop k (38 ∷ (drop 1 items ++ more))) some whole) (append-nil (part_end_told d.part ++ found_told found lacking old.place))

-- the text ends in a tag
pub tag_end_tells : (t : Machine) (d : TagDraft) (old new : Faults) → t.state ≡ Tag d → ((more : List ℕ) → MayFollow t.input.finished more → t.input.queue.items ++ more ≡ []) →
    Opens ((part_end_told d.part ++ name_errors (names_in d) d.part None t.place) ++ fault names.EofInTag t.place ∷ []) old new → TellsAt t old new
tag_end_tells t d old new s none opens = tells_decided t ((part_end_told d.part ++ name_errors (names_in d) d.part None t.place) ++ fault names.EofInTag t.place ∷ []) old new
    (λ more f. rw (s, none more f) (ap (λ (es : List Fault). (part_end_told d.part ++ name_errors (names_in d) d.part None t.place) ++ es) (end_is t.table.now d t.place))) opens

-- a front of the rest is copied
pub tag_skips : (old new : Machine) (d d' : TagDraft) (n : ℕ) → old.state ≡ Tag d → CopiesTag d old.input.queue.items n d' →
    Passes (record old { state = Tag d' }) n (Tag d') new → Skips old new
tag_skips old new d d' n s (e, fit, st, en, told) p = (
  (λ more switches f.
      rw (s, p.state, p.mode, p.name, p.place, p.items, p.table, st, en)
      (ap (λ (t : WholeTag). tag_coming old.table.now d.is_end d.start old.place t old.mode old.last_name (old.input.queue.items ++ more) switches) (e old.table.now more)
      ∙ tag_steps_on old.table.now d.is_end d.start old.place n (draft_tag old.table.now d' (drop n old.input.queue.items ++ more)) old.mode old.last_name old.input.queue.items more switches fit)),
  record { count = rw (p.place, p.items) (simp length-drop (omega arith)); finished = p.finished; table = p.table; drained = going_on old new _ p.state (λ e. e) },
  p.name,
  (λ more switches f.
      rw (s, p.state, p.mode, p.name, p.place, p.items, p.table, st, en)
      (ap₂ (λ (es fs : List Fault). es ++ fs) (told old.table.now old.place more)
      (ap (λ (t : WholeTag). tag_errors old.table.now d.is_end d.start old.place t old.mode old.last_name (old.input.queue.items ++ more) switches) (e old.table.now more)
      ∙ tag_tells_by old.table.now d.is_end d.start old.place n (draft_tag old.table.now d' (drop n old.input.queue.items ++ more)) old.mode old.last_name old.input.queue.items more switches fit))),
)

-- a tag that closes has told its errors
pub tag_ends_told : {E : Type 0} (r : Result Progress E) (old new : Machine) (d d' : TagDraft) (told : List Fault) (self_closing : Bool) (n : ℕ) (f f' : Faults) →
    ((more : List ℕ) → MayFollow old.input.finished more → told_at old more ≡ told) → Opens told f f' →
    IfOk r (λ progress. EndsTag (record old { state = Tag d' }) self_closing n progress new) → IfOk r (λ progress. Tells old progress f f')
tag_ends_told (Ok progress) old new d d' told self_closing n f f' decided opens ends = rw (ends d' refl).given (tells_decided old told f f' decided opens)
tag_ends_told (Err error) old new d d' told self_closing n f f' decided opens ends = tt
