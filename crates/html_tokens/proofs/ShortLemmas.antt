-- Tags without attributes that are read at once.
use Rattle.std.proofs.Common.{◌≡◌, ℕ, zero, suc, ◌+◌, ◌<◌, List, [], ◌∷◌, ◌++◌, ◌==◌, length, take, drop, Some, None, Bool, false, refl, ap, sym, ◌∙◌, arith, append-nil, length-drop}
use Rattle.std.specs.List.{slice_get}
use Rattle.std.proofs.lemmas.Bool.{false≢true}
use Rattle.std.proofs.lemmas.List.{drop-drop}
use Rattle.html_tokens.specs.Fed.{told_at}
use Rattle.html_tokens.specs.declared.faults.Fault.{Fault}
use Rattle.html_tokens.specs.Copied.{AllPass, is_copied}
use Rattle.html_tokens.specs.declared.copied.Copied.TheVariants as copied
use Rattle.html_tokens.specs.Cut.{cut}
use Rattle.html_tokens.specs.Errors.{inside_errors}
use Rattle.html_tokens.specs.Fed.{EndsTagAt, Skips, Steps, mode_after_tag, name_after_tag, read_tag}
use Rattle.html_tokens.specs.Input.{Decided, MayFollow}
use Rattle.html_tokens.specs.Marks.{begin_at}
use Rattle.html_tokens.specs.Short.{at_close, short_draft}
use Rattle.html_tokens.specs.Tag.{ReadsTag, tail}
use Rattle.html_tokens.specs.Tokens.{begun_piece, tag_kind, tag_piece, token}
use Rattle.html_tokens.specs.declared.machine.Machine.{Machine}
use Rattle.html_tokens.specs.declared.machine.Progress.TheVariants.{Given, More}
use Rattle.html_tokens.specs.declared.machine.State.TheVariants.{Text}
use Rattle.html_tokens.specs.declared.tag.TagDraft.{TagDraft}
use Rattle.html_tokens.specs.declared.tag.Part.TheVariants as parts
use Rattle.html_tokens.specs.declared.tag.TagReading.TheVariants.{Closed}
use Rattle.html_tokens.specs.declared.token.Begin.TheVariants as begins
use Rattle.html_tokens.specs.declared.token.Region.TheVariants.{Plain}
use Rattle.html_tokens.specs.declared.token.Token.{Token}
use Rattle.html_tokens.proofs.CopyLemmas.{name_front}
use Rattle.html_tokens.proofs.Cuts.{first_of}
use Rattle.html_tokens.proofs.EndLemmas.{bare_told}
use Rattle.html_tokens.specs.AttrNames.{no_names}
use Rattle.html_tokens.specs.InsideTags.{begun_tag_errors, part_told}
use Rattle.html_tokens.proofs.PartLemmas.{closes_by}
use Rattle.html_tokens.specs.Tag.{draft_tag}
use Rattle.html_tokens.proofs.TagLemmas.{tag_given_at, tag_opens, tag_skips}

-- what a short tag's fields are after it
pub ends_short : (old new : Machine) (is_end : Bool) (opened len : ℕ) (given : Token) →
    given ≡ token (tag_kind is_end (read_tag (short_draft old is_end opened len) false 1)) old.place (old.place + (opened + len + 1)) →
    new.input.queue.items ≡ drop (opened + len + 1) old.input.queue.items → new.input.finished ≡ old.input.finished → new.place ≡ old.place + (opened + len + 1) →
    new.mode ≡ mode_after_tag is_end old.mode → new.last_name ≡ name_after_tag is_end (take len (drop opened old.input.queue.items)) old.last_name → new.state ≡ Text Plain → new.table.now ≡ old.table.now →
    EndsTagAt (at_close old (opened + len) (short_draft old is_end opened len)) (short_draft old is_end opened len) false 1 (Given given) new
ends_short old new is_end opened len given g i f p m n s t =
    let e : old.place + (opened + len + 1) ≡ old.place + (opened + len) + 1 = omega arith in
    record {
      given = ap (λ (x : Token). Given x) g ∙ rw e refl;
      items = i ∙ sym (drop-drop 1 (opened + len) old.input.queue.items);
      finished = f;
      place = p ∙ e;
      mode = m;
      name = n;
      state = s;
      table = t;
    }

-- `>` closes a tag at the end of its name
closes_name : (d : TagDraft) → d.part ≡ parts.Name → d.attrs ≡ [] → ReadsTag d 62 None (Closed false 1) d
unfolding cut tail
closes_name d p a = ((λ rows rest h. rw (p, a, append-nil) refl), refl, refl, omega arith)

front_at : (items more : List ℕ) (n : ℕ) (c : ℕ) → n < length items → slice_get items n ≡ Some c → slice_get (drop n items ++ more) 0 ≡ Some c
front_at [] more n c h e = elim h [ ]
front_at (x ∷ xs) more zero c h e = e
front_at (x ∷ xs) more (suc n) c h e = front_at xs more n c (omega arith) e

-- A tag begins, its name is copied, and it closes.
pub short_gives : (old new : Machine) (is_end : Bool) (opened len : ℕ) (given : Token) → old.state ≡ Text Plain → 0 < opened → opened + len < length old.input.queue.items →
    Decided old.input (begin_at old.mode Plain old.last_name) begins.Markup →
    ((more : List ℕ) → MayFollow old.input.finished more → begun_piece old.table.now begins.Markup old.place (old.input.queue.items ++ more) ≡ tag_piece old.table.now is_end opened old.place (old.input.queue.items ++ more)) →
    ((more : List ℕ) → MayFollow old.input.finished more → inside_errors old.table.now begins.Markup old.place (old.input.queue.items ++ more) ≡ begun_tag_errors old.table.now is_end opened old.place (old.input.queue.items ++ more)) →
    AllPass (is_copied copied.Name) (take len (drop opened old.input.queue.items)) → slice_get (drop opened old.input.queue.items) len ≡ Some 62 →
    EndsTagAt (at_close old (opened + len) (short_draft old is_end opened len)) (short_draft old is_end opened len) false 1 (Given given) new →
    Steps old (Given given) new
short_gives old new is_end opened len given s some fit begun piece inside name close ends =
    let rest = drop opened old.input.queue.items in
    let d : TagDraft = record { alloc = old.alloc; is_end = is_end; start = old.place; name = []; attrs = []; part = parts.Name; attr_name = []; attr_value = [] } in
    let d' = short_draft old is_end opened len in
    let a : Machine = at_close old opened d in
    let b : Machine = at_close old (opened + len) d' in
    let room : len < length rest = simp length-drop (omega arith) in
    let opens : Steps old More a =
    tag_opens old a begins.Markup Plain is_end opened s (d, (refl, refl, refl, refl, refl, refl), record { items = refl; finished = refl; place = refl; mode = refl; name = refl; state = refl; table = refl }) some (omega arith) begun refl piece inside in
    let e : old.place + (opened + len) ≡ old.place + opened + len = omega arith in
    let copies : Skips a b =
    tag_skips a b d d' len refl (name_front d rest len refl (omega arith) name)
    (record { items = sym (drop-drop len opened old.input.queue.items); finished = refl; place = e; mode = refl; name = refl; state = refl; table = refl }) in
    let left : 0 < length (drop (opened + len) old.input.queue.items) = simp length-drop (omega arith) in
    let at : (more : List ℕ) → slice_get (drop (opened + len) old.input.queue.items ++ more) 0 ≡ Some 62 =
    λ more. rw (← drop-drop len opened old.input.queue.items) (front_at rest more len 62 room close) in
    let gives : Steps b (Given given) new = tag_given_at b new d' d' 62 None false 1 (Given given) refl (closes_name d' refl refl) (closes_by parts.Name parts.Name 62 None false 1 refl refl) (λ r. absurd (false≢true r)) (λ more h. at more) (λ h. absurd (false≢true h)) (omega arith) refl ends in
    let reads = closes_name d' refl refl in
    let told : (more : List ℕ) → told_at b more ≡ [] =
    λ more. let text = first_of b.input.queue.items more 62 (at more) left in
    rw (ap (λ (x : List ℕ). part_told old.table.now no_names parts.Name b.place x) text)
    (bare_told old.table.now d' is_end b.place 1 (b.input.queue.items ++ more) d'.name (ap (λ (x : List ℕ). draft_tag old.table.now d' x) text ∙ reads.0 old.table.now (drop 1 b.input.queue.items ++ more) (λ h. absurd (false≢true (ap (λ (n : ℕ). n == 47) h))))) in (
      (λ more switch switches f. opens.0 more (switch ∷ switches) f ∙ copies.0 more (switch ∷ switches) f ∙ gives.0 more switch switches f),
      record { count = gives.1.count ∙ copies.1.count ∙ opens.2.count; finished = gives.1.finished; table = gives.1.table; drained = λ h. gives.1.drained (copies.1.drained (opens.2.drained h)) },
      gives.2,
      (λ more switch switches f. opens.4 more (switch ∷ switches) f ∙ ap (λ (es : List Fault). told_at old more ++ es) (copies.3 more (switch ∷ switches) f ∙ gives.3 more switch switches f ∙ rw (told more) refl)),
    )
