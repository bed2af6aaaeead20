-- Sections in foreign content.
use Rattle.std.proofs.Common.{◌≡◌, ℕ, ◌+◌, ◌<◌, ◌≤◌, List, [], ◌∷◌, ◌++◌, length, drop, Option, Some, None, refl, ap, subst, sym, ◌∙◌, arith, add-zero}
use Rattle.std.specs.List.{slice_get}
use Rattle.std.proofs.lemmas.List.{drop-append-le}
use Rattle.html_charref.specs.declared.table.Row.{Row}
use Rattle.html_tokens.specs.Cut.{cut, section_mark}
use Rattle.html_tokens.specs.Errors.{errors_after}
use Rattle.html_tokens.specs.Fed.{coming, errors_coming, Passes, Steps}
use Rattle.html_tokens.specs.Input.{Decided, MayFollow}
use Rattle.html_tokens.specs.Inside.{section_errors, section_told, unless_closed}
use Rattle.html_tokens.specs.Marks.{begin_at}
use Rattle.html_tokens.specs.Tokens.{chars_at, mode_after, name_after, section_piece, stays, token, tokens_after}
use Rattle.html_tokens.specs.declared.faults.Fault.{Fault}
use Rattle.html_tokens.specs.declared.machine.Machine.{Machine}
use Rattle.html_tokens.specs.declared.machine.Progress.TheVariants.{Given, More}
use Rattle.html_tokens.specs.declared.machine.State.{State}
use Rattle.html_tokens.specs.declared.machine.State.TheVariants.{Text, Section, Ended}
use Rattle.html_tokens.specs.declared.token.Begin.TheVariants as begins
use Rattle.html_tokens.specs.declared.token.Region.{Region}
use Rattle.html_tokens.specs.declared.token.Region.TheVariants.{Plain}
use Rattle.html_tokens.specs.declared.token.TextMode.{TextMode}
use Rattle.html_tokens.specs.declared.token.TextMode.TheVariants.{Foreign}
use Rattle.html_tokens.specs.declared.token.Token.{Token}
use Rattle.html_tokens.specs.declared.token.TokenKind.TheVariants as kinds
use Rattle.html_tokens.proofs.Cuts.{cut_closed, cut_longer, first_of, not_empty}
use Rattle.html_tokens.proofs.ErrorLemmas.{errors_end, errors_past_all}
use Rattle.html_tokens.proofs.StepLemmas.{all_read, errors_opened, open_more, passes_count, passes_less}
use Rattle.html_tokens.proofs.TokensLemmas.{tokens_begun, tokens_past}

name_chars : (mode : TextMode) (place : ℕ) (cs : List ℕ) (name : Option (List ℕ)) → name_after (chars_at mode place cs) name ≡ name
name_chars mode place [] name = refl
name_chars mode place (c ∷ cs) name = refl

-- a section begins
pub section_opens : (old new : Machine) (region : Region) → old.state ≡ Text region → Passes old 9 Section new → 9 ≤ length old.input.queue.items →
    Decided old.input (begin_at old.mode region old.last_name) begins.Section → Steps old More new
section_opens old new region s p k begun =
    open_more old new region 9 Section s p (omega arith) k (λ e. e)
    (λ more switches f.
    let items = old.input.queue.items in
    let section = cut section_mark (drop 9 items ++ more) in
    let given = chars_at Foreign (old.place + 9) section.before in
    tokens_begun old.table.now begins.Section old.mode region old.last_name old.place (items ++ more) switches (section_piece old.place (items ++ more)) (begun more f) refl refl (omega arith)
    (not_empty items more (omega arith))
    ∙ rw (drop-append-le 9 items more k, name_chars Foreign (old.place + 9) section.before old.last_name)
    (ap (λ (ts : List Token). given ++ ts) (tokens_past old.table.now 9 section.len (mode_after given switches old.mode) old.last_name old.place items more (drop (length given) switches) k)))
    (λ more switches f.
    let items = old.input.queue.items in
    let section = cut section_mark (drop 9 items ++ more) in
    errors_opened old.table.now begins.Section region old.mode old.last_name old.place 9 section.len items more switches (section_piece old.place (items ++ more)) (section_errors (old.place + 9) (drop 9 items ++ more)) (begun more f) refl refl
    (rw (drop-append-le 9 items more k) refl) (omega arith) k (rw (drop-append-le 9 items more k) refl)
    ∙ rw (drop-append-le 9 items more k, name_chars Foreign (old.place + 9) section.before old.last_name) refl)

section_on : (rows : List Row) (mode : TextMode) (name : Option (List ℕ)) (place c : ℕ) (rest : List ℕ) (switch : Option TextMode) (switches : List (Option TextMode)) → section_mark (c ∷ rest) ≡ None →
    coming rows Section mode name place (c ∷ rest) (switch ∷ switches) ≡ token (kinds.Char c) place (place + 1) ∷ coming rows Section (stays switch mode) name (place + 1) rest switches
unfolding tokens_after
section_on rows mode name place c rest switch switches e = rw (cut_longer section_mark c rest e) refl

section_goes : (rows : List Row) (mode : TextMode) (name : Option (List ℕ)) (place c : ℕ) (rest : List ℕ) (switch : Option TextMode) (switches : List (Option TextMode)) → section_mark (c ∷ rest) ≡ None →
    errors_coming rows Section mode name place (c ∷ rest) (switch ∷ switches) ≡ errors_coming rows Section (stays switch mode) name (place + 1) rest switches
unfolding errors_after unless_closed
section_goes rows mode name place c rest switch switches e = rw (cut_longer section_mark c rest e, e) refl

-- before a code point nothing is told
pub told_closed : (text : List ℕ) (place : ℕ) → 0 < length text → section_told place text ≡ []
told_closed [] place h = absurd (omega arith)
told_closed (c ∷ rest) place h = refl

-- a code point of a section is given
pub section_gives : (old new : Machine) (c : ℕ) → old.state ≡ Section → Decided old.input (λ rest. slice_get rest 0) (Some c) → Decided old.input section_mark None → 0 < length old.input.queue.items →
    Passes old 1 old.state new → Steps old (Given (token (kinds.Char c) old.place (old.place + 1))) new
section_gives old new c s first none h passed = let p = subst (λ (x : State). Passes old 1 x new) s passed in (
  (λ more switch switches f.
      let items = old.input.queue.items in
      let text : items ++ more ≡ c ∷ (drop 1 items ++ more) = first_of items more c (first more f) h in
      rw (s, p.state, p.mode, p.name, p.place, p.items, p.table)
      (ap (λ (x : List ℕ). coming old.table.now Section old.mode old.last_name old.place x (switch ∷ switches)) text
      ∙ section_on old.table.now old.mode old.last_name old.place c (drop 1 items ++ more) switch switches (ap section_mark (sym text) ∙ none more f))),
  passes_count old new 1 _ p (omega arith) (λ e. e),
  p.name,
  (λ more switch switches f.
      let items = old.input.queue.items in
      let text : items ++ more ≡ c ∷ (drop 1 items ++ more) = first_of items more c (first more f) h in
      rw (s, p.state, p.mode, p.name, p.place, p.items, p.table, told_closed (items ++ more) old.place (not_empty items more h))
      (ap (λ (x : List ℕ). errors_coming old.table.now Section old.mode old.last_name old.place x (switch ∷ switches)) text
      ∙ section_goes old.table.now old.mode old.last_name old.place c (drop 1 items ++ more) switch switches (ap section_mark (sym text) ∙ none more f))),
)

-- where it closes, nothing is told
closed_section : (text : List ℕ) (place : ℕ) → section_mark text ≡ Some 3 → 0 < length text → section_errors place text ≡ []
unfolding unless_closed
closed_section [] place e h = absurd (omega arith)
closed_section (c ∷ rest) place e h = rw e refl

-- a section closes
pub section_closes : (old new : Machine) → old.state ≡ Section → Decided old.input section_mark (Some 3) → 3 ≤ length old.input.queue.items → Passes old 3 (Text Plain) new → Steps old More new
section_closes old new s closes h p = (
  (λ more switches f.
      let items = old.input.queue.items in
      rw (s, p.state, p.mode, p.name, p.place, p.items, p.table, cut_closed section_mark (items ++ more) 3 (closes more f) (not_empty items more (omega arith)))
      (rw add-zero at (tokens_past old.table.now 3 0 old.mode old.last_name old.place items more switches h))),
  passes_less old new 3 _ p (omega arith) h,
  passes_count old new 3 _ p h (λ e. e),
  p.name,
  (λ more switches f.
      let items = old.input.queue.items in
      let some = not_empty items more (omega arith) in
      rw (s, p.state, p.mode, p.name, p.place, p.items, p.table, cut_closed section_mark (items ++ more) 3 (closes more f) some, closed_section (items ++ more) old.place (closes more f) some, told_closed (items ++ more) old.place some)
      (errors_past_all old.table.now 3 old.mode old.last_name old.place items more switches h)),
)

section_end : (rows : List Row) (mode : TextMode) (name : Option (List ℕ)) (place : ℕ) (switches : List (Option TextMode)) → coming rows Section mode name place [] switches ≡ token kinds.Eof place place ∷ []
unfolding cut tokens_after
section_end rows mode name place switches = refl

section_ended : (rows : List Row) (mode : TextMode) (name : Option (List ℕ)) (place : ℕ) (switches : List (Option TextMode)) → errors_coming rows Section mode name place [] switches ≡ section_told place [] ++ []
unfolding unless_closed
section_ended rows mode name place switches = ap (λ (es : List Fault). section_told place [] ++ es) (errors_end rows _ _ name place _)

-- the text ends in a section
pub section_ends : (old new : Machine) → old.state ≡ Section → new ≡ record old { state = Ended } →
    ((more : List ℕ) → MayFollow old.input.finished more → old.input.queue.items ++ more ≡ []) → Steps old (Given (token kinds.Eof old.place old.place)) new
section_ends old new s n e = (
  (λ more switch switches f. rw (s, e more f, n) (section_end old.table.now old.mode old.last_name old.place (switch ∷ switches))),
  rw n (record { count = refl; finished = refl; table = refl; drained = λ _ _. all_read old.input.finished old.input.queue.items e }),
  rw n refl,
  (λ more switch switches f. rw (s, e more f, n) (section_ended old.table.now old.mode old.last_name old.place (switch ∷ switches))),
)
