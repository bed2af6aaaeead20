-- What each step gives, over plain variables.
use Rattle.std.proofs.Common.{◌≡◌, ℕ, suc, ◌+◌, ◌<◌, ◌≤◌, List, [], ◌∷◌, ◌++◌, length, map, drop, Bool, Option, Some, None, true, false, refl, ap, sym, subst, ◌∙◌, arith, length-append, append_assoc, append-nil}
use Rattle.html_tokens.specs.Cut.{Cut, null_replaced}
use Rattle.html_tokens.specs.Draft.{draft_cut}
use Rattle.html_tokens.specs.Tokens.{tokens_after, text_char, token, begun_piece, stays, switch_of}
use Rattle.html_tokens.specs.Marks.{begin_at, is_stop, region_in}
use Rattle.html_tokens.specs.Reference.{are_letters_closed, letters_after, numbered, Numbered, reference, ref_opener, semicolon, is_digit, ends_digits}
use Rattle.html_charref.specs.Number.{char_of, radix, capped}
use Rattle.html_tokens.proofs.ReferenceLemmas.{char_capped, digit_first, digits_end, digits_stop, errors_digit, letters_few, letters_many, number_whole, some_radix}
use Rattle.html_tokens.specs.InsideReferences.{ampersand_errors, later_ref_errors, number_errors, number_told, soon_ref_errors}
use Rattle.html_tokens.specs.Cut.{passes}
use Rattle.html_charref.specs.declared.table.Row.{Row}
use Rattle.html_tokens.specs.declared.token.Region.{Region}
use Rattle.html_tokens.specs.declared.token.Region.TheVariants.{Plain, Escaped, Double}
use Rattle.html_tokens.specs.declared.token.Begin.{Begin}
use Rattle.html_tokens.specs.declared.token.Begin.TheVariants as begins
use Rattle.std.proofs.Common.{add-zero, length-drop}
use Rattle.std.proofs.lemmas.List.{drop-append-le}
use Rattle.html_tokens.specs.Copied.{CopiesComment, cut_by}
use Rattle.html_tokens.specs.Errors.{errors_after, inside_errors, piece_errors, soon_errors, told_in}
use Rattle.html_tokens.specs.declared.faults.Fault.{Fault}
use Rattle.html_tokens.proofs.ErrorLemmas.{errors_at_end, errors_begun, errors_past, errors_past_all, errors_past_one, errors_text, region_quiet, stop_told, told_at_end}
use Rattle.html_tokens.specs.Fed.{GivesAmpersand, Skips, coming, errors_coming, to_come, IsDrained, IsEnded, Passes, SameCount, Steps, switch_to, slack, GivesChars}
use Rattle.html_tokens.specs.Input.{Decided, IsShort}
use Rattle.html_tokens.specs.Inside.{MovesComment, comment_errors, comment_told, fault_when}
use Rattle.html_tokens.specs.declared.fault_name.FaultName.TheVariants as names
use Rattle.html_tokens.proofs.CommentLemmas.{comment_ends, comment_goes}
use Rattle.html_tokens.specs.Input.{MayFollow}
use Rattle.html_tokens.specs.declared.machine.Machine.{Machine}
use Rattle.html_tokens.specs.declared.machine.Progress.TheVariants.{Given, More, Wait}
use Rattle.html_tokens.specs.declared.token.Token.{Token}
use Rattle.html_tokens.specs.declared.token.TokenKind.TheVariants as kinds
use Rattle.html_tokens.specs.declared.token.TextMode.{TextMode}
use Rattle.html_tokens.specs.declared.token.TokenKind.TheVariants.{Char}
use Rattle.html_tokens.specs.declared.machine.State.{State}
use Rattle.html_tokens.specs.declared.machine.State.TheVariants.{Text, Number, Second, Ampersand, Comment, Ended}
use Rattle.std.specs.List.{slice_get}
use Rattle.html_tokens.specs.Cut.{cut}
use Rattle.html_tokens.specs.Draft.{mark_of, passed, Reads}
use Rattle.html_tokens.specs.declared.comment.CommentDraft.{CommentDraft}
use Rattle.html_tokens.specs.declared.comment.Reading.TheVariants.{Closed, More as More', Wait as Wait'}
use Rattle.html_tokens.specs.declared.input.Input.{Input}
use Rattle.html_tokens.specs.Tokens.{comment_piece, Piece, piece, mode_after, mode_after_kind, name_after, name_after_kind}
use Rattle.html_tokens.specs.declared.comment.CommentKind.{CommentKind}
use Rattle.html_tokens.proofs.TokensLemmas.{tokens_text, tokens_begun, tokens_past, tokens_past_one}
use Rattle.std.proofs.Common.{◌*◌, ap₂}
use Rattle.std.proofs.lemmas.Bool.{false≢true}
use Rattle.std.specs.Char.{digit_value}
use Rattle.html_charref.specs.Entities.{codes_with}
use Rattle.html_charref.specs.declared.number.Base.{Base}
use Rattle.html_tokens.specs.declared.token.RefOpener.TheVariants.{Numeric, Named}
use Rattle.html_charref.specs.Table.{longest}
use Rattle.html_charref.specs.declared.table.RefText.{RefText}
use Rattle.html_tokens.specs.declared.reference.NumberDraft.{NumberDraft}
use Rattle.html_tokens.specs.declared.machine.Progress.{Progress}
use Rattle.html_tokens.proofs.Cuts.{empty_rest, first_of}
use Rattle.html_tokens.specs.Marks.{front}
use Rattle.html_tokens.specs.Cut.{stop_mark}

pub char_given : (rows : List Row) (region after : Region) (mode : TextMode) (name : Option (List ℕ)) (place place' c d : ℕ) (items items' more : List ℕ) (switch : Option TextMode) (switches : List (Option TextMode)) →
    items ≡ c ∷ items' → begin_at mode region name (items ++ more) ≡ begins.Char → region_in mode region (items ++ more) ≡ after → d ≡ text_char mode c → place' ≡ place + 1 →
    coming rows (Text region) mode name place (items ++ more) (switch ∷ switches) ≡ token (Char d) place place' ∷ coming rows (Text after) (stays switch mode) name place' (items' ++ more) switches
char_given rows region after mode name place place' c d items items' more switch switches e t r f p =
    let t' = rw e at t in
    let r' = rw e at r in
    rw (e, f, p) (tokens_text rows mode region after name place c (items' ++ more) switch switches t' r')

pub char_errors : (rows : List Row) (region after : Region) (mode : TextMode) (name : Option (List ℕ)) (place place' c : ℕ) (items items' more : List ℕ) (switch : Option TextMode) (switches : List (Option TextMode)) →
    items ≡ c ∷ items' → begin_at mode region name (items ++ more) ≡ begins.Char → region_in mode region (items ++ more) ≡ after → place' ≡ place + 1 →
    errors_coming rows (Text region) mode name place (items ++ more) (switch ∷ switches)
    ≡ told_in rows (Text region) mode name place (items ++ more) ++ errors_coming rows (Text after) (stays switch mode) name place' (items' ++ more) switches
char_errors rows region after mode name place place' c items items' more switch switches e t r p =
    let t' = rw e at t in
    let r' = rw e at r in
    rw (e, t', p, region_quiet region place (c ∷ (items' ++ more)) (omega arith)) (errors_text rows mode region after name place c (items' ++ more) switch switches t' r')

there : (items more : List ℕ) → 0 < length items → 0 < length (items ++ more)
there items more h = omega (arith, length-append items more)

four_apart : (a b c d : List Fault) → a ++ ((b ++ c) ++ d) ≡ (a ++ b) ++ (c ++ d)
four_apart a b c d = rw (append_assoc b c d) (sym (append_assoc a b (c ++ d)))

-- the errors of what begins, before so many code points of it
pub errors_opened : (rows : List Row) (b : Begin) (region : Region) (mode : TextMode) (name : Option (List ℕ)) (place opened j : ℕ) (items more : List ℕ) (switches : List (Option TextMode)) (first : Piece) (inside : List Fault) →
    begin_at mode region name (items ++ more) ≡ b → is_stop b ≡ true → begun_piece rows b place (items ++ more) ≡ first → first.len ≡ opened + j → 0 < opened → opened ≤ length items →
    inside_errors rows b place (items ++ more) ≡ soon_errors rows b place (items ++ more) ++ inside →
    errors_coming rows (Text region) mode name place (items ++ more) switches
    ≡ told_in rows (Text region) mode name place (items ++ more)
    ++ (inside ++ errors_after rows j (mode_after first.tokens switches mode) (name_after first.tokens name) (place + opened) (drop opened items ++ more) (drop (length first.tokens) switches))
errors_opened rows b region mode name place opened j items more switches first inside e s p l h k i =
    errors_begun rows b mode region name place (items ++ more) switches first e s p (omega arith) (there items more (omega arith))
    ∙ rw (e, l, i, region_quiet region place (items ++ more) (there items more (omega arith)), stop_told rows b place (items ++ more) s)
    (ap (λ (es : List Fault). piece_errors rows b place (items ++ more) ++ ((soon_errors rows b place (items ++ more) ++ inside) ++ es)) (errors_past rows opened j _ _ place items more _ k)
    ∙ four_apart (piece_errors rows b place (items ++ more)) (soon_errors rows b place (items ++ more)) inside _)

-- the errors of what begins and is passed whole
pub errors_passed : (rows : List Row) (b : Begin) (region : Region) (mode : TextMode) (name : Option (List ℕ)) (place len : ℕ) (items more : List ℕ) (switches : List (Option TextMode)) (first : Piece) →
    begin_at mode region name (items ++ more) ≡ b → is_stop b ≡ true → begun_piece rows b place (items ++ more) ≡ first → first.len ≡ len → 0 < len → len ≤ length items →
    inside_errors rows b place (items ++ more) ≡ soon_errors rows b place (items ++ more) →
    errors_coming rows (Text region) mode name place (items ++ more) switches
    ≡ told_in rows (Text region) mode name place (items ++ more)
    ++ errors_after rows 0 (mode_after first.tokens switches mode) (name_after first.tokens name) (place + len) (drop len items ++ more) (drop (length first.tokens) switches)
errors_passed rows b region mode name place len items more switches first e s p l h k i =
    errors_opened rows b region mode name place len 0 items more switches first [] e s p (l ∙ omega arith) h k (i ∙ sym (append-nil (soon_errors rows b place (items ++ more))))

pub comment_opens : (rows : List Row) (region : Region) (mode : TextMode) (kind : CommentKind) (opened : ℕ) (name : Option (List ℕ)) (place : ℕ) (items more : List ℕ) (switches : List (Option TextMode)) →
    begin_at mode region name (items ++ more) ≡ begins.Markup →
    begun_piece rows begins.Markup place (items ++ more) ≡ comment_piece (mark_of kind) opened place (items ++ more) →
    0 < opened → opened ≤ length items →
    inside_errors rows begins.Markup place (items ++ more) ≡ comment_errors kind (place + opened) (drop opened items ++ more) →
    errors_coming rows (Text region) mode name place (items ++ more) switches
    ≡ told_in rows (Text region) mode name place (items ++ more) ++ errors_coming rows (Comment (record { kind = kind; start = place; «data» = [] })) mode name (place + opened) (drop opened items ++ more) switches
comment_opens rows region mode kind opened name place items more switches e p h k i =
    errors_opened rows begins.Markup region mode name place opened (cut (mark_of kind) (drop opened items ++ more)).len items more switches (comment_piece (mark_of kind) opened place (items ++ more)) (comment_errors kind (place + opened) (drop opened items ++ more)) e refl p
    (rw (drop-append-le opened items more k) refl) h k i

-- a comment begins, after what opens it
pub comment_begins : (rows : List Row) (region : Region) (mode : TextMode) (kind : CommentKind) (opened : ℕ) (name : Option (List ℕ)) (place : ℕ) (items more : List ℕ) (switches : List (Option TextMode)) →
    begin_at mode region name (items ++ more) ≡ begins.Markup →
    begun_piece rows begins.Markup place (items ++ more) ≡ comment_piece (mark_of kind) opened place (items ++ more) →
    0 < opened → opened ≤ length items →
    coming rows (Text region) mode name place (items ++ more) switches
    ≡ coming rows (Comment (record { kind = kind; start = place; «data» = [] })) mode name (place + opened) (drop opened items ++ more) switches
comment_begins rows region mode kind opened name place items more switches e p h k =
    tokens_begun rows begins.Markup mode region name place (items ++ more) switches (comment_piece (mark_of kind) opened place (items ++ more)) e refl p (omega arith) (there items more (omega arith))
    ∙ rw (drop-append-le opened items more k)
    (ap (λ (ts : List Token). token (kinds.Comment (map null_replaced (cut (mark_of kind) (drop opened items ++ more)).before)) place (place + opened + (cut (mark_of kind) (drop opened items ++ more)).len) ∷ ts)
    (tokens_past rows opened (cut (mark_of kind) (drop opened items ++ more)).len (stays (switch_of switches) mode) name place items more (drop 1 switches) k))

-- nothing is given
pub empty_passed : (rows : List Row) (b : Begin) (region : Region) (mode : TextMode) (name : Option (List ℕ)) (place len : ℕ) (items more : List ℕ) (switches : List (Option TextMode)) →
    begin_at mode region name (items ++ more) ≡ b → is_stop b ≡ true →
    begun_piece rows b place (items ++ more) ≡ piece [] len → 0 < len → len ≤ length items →
    coming rows (Text region) mode name place (items ++ more) switches ≡ tokens_after rows 0 mode name (place + len) (drop len items ++ more) switches
empty_passed rows b region mode name place len items more switches e s p h k =
    tokens_begun rows b mode region name place (items ++ more) switches (piece [] len) e s p h (there items more (omega arith))
    ∙ rw add-zero at (tokens_past rows len 0 mode name place items more switches k)

-- one token is given, which is no tag
pub piece_given : (rows : List Row) (b : Begin) (region : Region) (mode : TextMode) (given : Token) (len : ℕ) (name : Option (List ℕ)) (place : ℕ) (items more : List ℕ) (switch : Option TextMode) (switches : List (Option TextMode)) →
    begin_at mode region name (items ++ more) ≡ b → is_stop b ≡ true →
    begun_piece rows b place (items ++ more) ≡ piece (given ∷ []) len → 0 < len → len ≤ length items →
    name_after_kind given.kind name ≡ name →
    coming rows (Text region) mode name place (items ++ more) (switch ∷ switches) ≡ given ∷ tokens_after rows 0 (mode_after_kind given.kind switch mode) name (place + len) (drop len items ++ more) switches
piece_given rows b region mode given len name place items more switch switches e s p h k n =
    tokens_begun rows b mode region name place (items ++ more) (switch ∷ switches) (piece (given ∷ []) len) e s p h (there items more (omega arith))
    ∙ rw n (ap (λ (ts : List Token). given ∷ ts) (rw add-zero at (tokens_past rows len 0 (mode_after_kind given.kind switch mode) name place items more switches k)))

pub passes_come : (old new : Machine) (k : ℕ) (after : State) → Passes old k after new → (more : List ℕ) (switches : List (Option TextMode)) →
    to_come new more switches ≡ coming old.table.now after old.mode old.last_name (old.place + k) (drop k old.input.queue.items ++ more) switches
passes_come old new k after p more switches = rw (p.state, p.mode, p.name, p.place, p.items, p.table) refl

-- in a state other than the end, nothing is said of it
pub going_on : (old new : Machine) (after : State) → new.state ≡ after → (IsEnded after → ⊥) → IsDrained old → IsDrained new
going_on old new after s off d e = absurd (off (subst IsEnded s e))

pub passes_length : (old new : Machine) (k : ℕ) (after : State) → Passes old k after new → k ≤ length old.input.queue.items → new.place + length new.input.queue.items ≡ old.place + length old.input.queue.items
passes_length old new k after p h = rw (p.place, p.items) (simp length-drop (omega arith))

pub passes_count : (old new : Machine) (k : ℕ) (after : State) → Passes old k after new → k ≤ length old.input.queue.items → (IsEnded after → ⊥) → SameCount old new
passes_count old new k after p h off = record { count = passes_length old new k after p h; finished = p.finished; table = p.table; drained = going_on old new after p.state off }

pub passes_less : (old new : Machine) (k : ℕ) (after : State) → Passes old k after new → 0 < k → k ≤ length old.input.queue.items → length new.input.queue.items < length old.input.queue.items
passes_less old new k after p g h = rw p.items (simp length-drop (omega arith))

-- a step in text that gives no token
pub open_more : (old new : Machine) (region : Region) (k : ℕ) (after : State) → old.state ≡ Text region → Passes old k after new → 0 < k → k ≤ length old.input.queue.items → (IsEnded after → ⊥) →
    ((more : List ℕ) (switches : List (Option TextMode)) → MayFollow old.input.finished more →
    coming old.table.now (Text region) old.mode old.last_name old.place (old.input.queue.items ++ more) switches ≡ coming old.table.now after old.mode old.last_name (old.place + k) (drop k old.input.queue.items ++ more) switches) →
    ((more : List ℕ) (switches : List (Option TextMode)) → MayFollow old.input.finished more →
    errors_coming old.table.now (Text region) old.mode old.last_name old.place (old.input.queue.items ++ more) switches
    ≡ told_in old.table.now (Text region) old.mode old.last_name old.place (old.input.queue.items ++ more) ++ errors_coming old.table.now after old.mode old.last_name (old.place + k) (drop k old.input.queue.items ++ more) switches) →
    Steps old More new
open_more old new region k after s p g h off step tells = (
  (λ more switches f. rw s (step more switches f ∙ sym (passes_come old new k after p more switches))),
  passes_less old new k after p g h,
  passes_count old new k after p h off,
  p.name,
  (λ more switches f. rw (s, p.state, p.mode, p.name, p.place, p.items, p.table) (tells more switches f)),
)

-- a step in text that gives a token
pub open_given : (old new : Machine) (region : Region) (given : Token) (k : ℕ) (after : State) → old.state ≡ Text region → Passes old k after new → k ≤ length old.input.queue.items → (IsEnded after → ⊥) →
    name_after_kind given.kind old.last_name ≡ old.last_name →
    ((more : List ℕ) (switch : Option TextMode) (switches : List (Option TextMode)) → MayFollow old.input.finished more →
    coming old.table.now (Text region) old.mode old.last_name old.place (old.input.queue.items ++ more) (switch ∷ switches) ≡ given ∷ coming old.table.now after (switch_to given.kind switch old.mode) old.last_name (old.place + k) (drop k old.input.queue.items ++ more) switches) →
    ((more : List ℕ) (switch : Option TextMode) (switches : List (Option TextMode)) → MayFollow old.input.finished more →
    errors_coming old.table.now (Text region) old.mode old.last_name old.place (old.input.queue.items ++ more) (switch ∷ switches)
    ≡ told_in old.table.now (Text region) old.mode old.last_name old.place (old.input.queue.items ++ more) ++ errors_coming old.table.now after (switch_to given.kind switch old.mode) old.last_name (old.place + k) (drop k old.input.queue.items ++ more) switches) →
    Steps old (Given given) new
open_given old new region given k after s p h off named step tells = (
  (λ more switch switches f. rw s (step more switch switches f ∙ rw (p.state, p.mode, p.name, p.place, p.items, p.table) refl)),
  passes_count old new k after p h off,
  p.name ∙ sym named,
  (λ more switch switches f. rw (s, p.state, p.mode, p.name, p.place, p.items, p.table) (tells more switch switches f)),
)

-- one that is a whole piece
pub open_gives : (old new : Machine) (region : Region) (b : Begin) (given : Token) (k : ℕ) → old.state ≡ Text region → Passes old k (Text Plain) new → 0 < k → k ≤ length old.input.queue.items →
    ((switch : Option TextMode) (mode : TextMode) → mode_after_kind given.kind switch mode ≡ switch_to given.kind switch mode) → ((name : Option (List ℕ)) → name_after_kind given.kind name ≡ name) →
    is_stop b ≡ true → Decided old.input (begin_at old.mode region old.last_name) b →
    ((more : List ℕ) → MayFollow old.input.finished more → begun_piece old.table.now b old.place (old.input.queue.items ++ more) ≡ piece (given ∷ []) k) →
    ((more : List ℕ) → MayFollow old.input.finished more → inside_errors old.table.now b old.place (old.input.queue.items ++ more) ≡ soon_errors old.table.now b old.place (old.input.queue.items ++ more)) →
    Steps old (Given given) new
open_gives old new region b given k s p g h same named stop begun whole inside =
    open_given old new region given k (Text Plain) s p h (λ e. e) (named old.last_name)
    (λ more switch switches f. piece_given old.table.now b region old.mode given k old.last_name old.place old.input.queue.items more switch switches (begun more f) stop (whole more f) g h (named old.last_name)
    ∙ rw (same switch old.mode) refl)
    (λ more switch switches f. errors_passed old.table.now b region old.mode old.last_name old.place k old.input.queue.items more (switch ∷ switches) (piece (given ∷ []) k) (begun more f) stop (whole more f) refl g h (inside more f)
    ∙ rw (same switch old.mode, named old.last_name) refl)

-- the state is set after the pass
pub passes_to : (old new : Machine) (k : ℕ) (before after : State) → Passes old k before new → Passes old k after (record new { state = after })
passes_to old new k before after p = record { items = p.items; finished = p.finished; place = p.place; mode = p.mode; name = p.name; state = refl; table = p.table }

text_ends : (region : Region) (rows : List Row) (mode : TextMode) (name : Option (List ℕ)) (place : ℕ) (switches : List (Option TextMode)) → coming rows (Text region) mode name place [] switches ≡ token kinds.Eof place place ∷ []
unfolding tokens_after front
text_ends Plain rows mode name place switches = refl
text_ends Escaped rows mode name place switches = refl
text_ends Double rows mode name place switches = refl

-- nothing may follow, and nothing is unread
pub all_read : (finished : Bool) (items : List ℕ) → ((more : List ℕ) → MayFollow finished more → items ++ more ≡ []) → (finished ≡ true) × (items ≡ [])
all_read true [] e = (refl, refl)
all_read true (c ∷ rest) e = let h = e [] (λ f. refl) in cc
all_read false [] e = let h = e (0 ∷ []) (λ f. absurd (false≢true f)) in cc
all_read false (c ∷ rest) e = let h = e [] (λ f. refl) in cc

pub state_ends : (old new : Machine) (region : Region) → old.state ≡ Text region → new ≡ record old { state = Ended } →
    ((more : List ℕ) → MayFollow old.input.finished more → old.input.queue.items ++ more ≡ []) → Steps old (Given (token kinds.Eof old.place old.place)) new
state_ends old new region s n e = (
  (λ more switch switches f. rw (s, e more f, n) (text_ends region old.table.now old.mode old.last_name old.place (switch ∷ switches))),
  rw n (record { count = refl; finished = refl; table = refl; drained = λ _ _. all_read old.input.finished old.input.queue.items e }),
  rw n refl,
  (λ more switch switches f. rw (s, e more f, n)
      (errors_at_end old.table.now region old.mode old.last_name old.place (switch ∷ switches) ∙ sym (told_at_end old.table.now region old.mode old.last_name old.place) ∙ sym (append-nil _))),
)

-- a comment reads on by a code point
pub comment_reads : (rows : List Row) (draft draft' : CommentDraft) (mode : TextMode) (name : Option (List ℕ)) (place : ℕ) (items items' more : List ℕ) (switches : List (Option TextMode)) →
    draft_cut draft (items ++ more) ≡ passed (draft_cut draft' (items' ++ more)) → draft'.start ≡ draft.start → items' ≡ drop 1 items → 0 < length items →
    coming rows (Comment draft) mode name place (items ++ more) switches ≡ coming rows (Comment draft') mode name (place + 1) (items' ++ more) switches
comment_reads rows draft draft' mode name place items items' more switches e s i h =
    let r = draft_cut draft' (items' ++ more) in
    let n : place + suc r.len ≡ place + 1 + r.len = omega arith in
    ap (λ (c : Cut). token (kinds.Comment c.before) draft.start (place + c.len) ∷ tokens_after rows c.len (stays (switch_of switches) mode) name place (items ++ more) (drop 1 switches)) e
    ∙ rw (n, tokens_past_one rows r.len (stays (switch_of switches) mode) name place items items' more (drop 1 switches) i h, s) refl

-- a comment closes
pub comment_closes : (rows : List Row) (draft draft' : CommentDraft) (mode : TextMode) (name : Option (List ℕ)) (place n : ℕ) (items more : List ℕ) (switch : Option TextMode) (switches : List (Option TextMode)) →
    draft_cut draft (items ++ more) ≡ record { before = draft'.«data»; len = n } → draft'.start ≡ draft.start → n ≤ length items →
    coming rows (Comment draft) mode name place (items ++ more) (switch ∷ switches) ≡ token (kinds.Comment draft'.«data») draft'.start (place + n) ∷ tokens_after rows 0 (stays switch mode) name (place + n) (drop n items ++ more) switches
comment_closes rows draft draft' mode name place n items more switch switches e s h =
    ap (λ (c : Cut). token (kinds.Comment c.before) draft.start (place + c.len) ∷ tokens_after rows c.len (stays switch mode) name place (items ++ more) switches) e
    ∙ rw s (ap (λ (ts : List Token). token (kinds.Comment draft'.«data») draft.start (place + n) ∷ ts) (rw add-zero at (tokens_past rows n 0 (stays switch mode) name place items more switches h)))

told_before : (whole told later before after : List Fault) → whole ≡ told ++ later → before ≡ after → whole ++ before ≡ told ++ (later ++ after)
told_before whole told later before after e h = rw (e, h) (append_assoc told later after)

told_same_then : (whole told before after : List Fault) → whole ≡ told → before ≡ after → whole ++ before ≡ told ++ after
told_same_then whole told before after e h = rw (e, h) refl

comment_tells : (rows : List Row) (draft draft' : CommentDraft) (mode : TextMode) (name : Option (List ℕ)) (place : ℕ) (items items' more : List ℕ) (switches : List (Option TextMode)) →
    draft_cut draft (items ++ more) ≡ passed (draft_cut draft' (items' ++ more)) → items' ≡ drop 1 items → 0 < length items → draft'.kind ≡ draft.kind → mark_of draft.kind (items ++ more) ≡ None →
    errors_coming rows (Comment draft) mode name place (items ++ more) switches ≡ told_in rows (Comment draft) mode name place (items ++ more) ++ errors_coming rows (Comment draft') mode name (place + 1) (items' ++ more) switches
comment_tells rows draft draft' mode name place items items' more switches e i h k none =
    let goes = comment_goes draft.kind place (items ++ more) none (there items more h) in
    let on : comment_errors draft.kind place (items ++ more) ≡ comment_told draft.kind place (items ++ more) ++ comment_errors draft'.kind (place + 1) (items' ++ more) =
    rw (k, i) (goes.0 ∙ ap (λ (x : List ℕ). comment_told draft.kind place (items ++ more) ++ comment_errors draft.kind (place + 1) x) (drop-append-le 1 items more h)) in
    told_before (comment_errors draft.kind place (items ++ more)) (comment_told draft.kind place (items ++ more)) (comment_errors draft'.kind (place + 1) (items' ++ more)) _ _ on
    (ap (λ (c : Cut). errors_after rows c.len (stays (switch_of switches) mode) name place (items ++ more) (drop 1 switches)) e
    ∙ errors_past_one rows (draft_cut draft' (items' ++ more)).len (stays (switch_of switches) mode) name place items items' more (drop 1 switches) i h)

pub comment_more : (old : Machine) (input' : Input) (draft draft' : CommentDraft) → old.state ≡ Comment draft → Reads draft old.input More' draft' input' → MovesComment draft old.input More' draft' →
    Steps old More (record old { input = input'; place = old.place + 1; state = Comment draft' })
comment_more old input' draft draft' s (e, i, h, b, f) moves = (
  (λ more switches g. rw s (comment_reads old.table.now draft draft' old.mode old.last_name old.place old.input.queue.items input'.queue.items more switches (e more g) b i h)),
  rw i (simp length-drop (omega arith)),
  record { count = rw i (simp length-drop (omega arith)); finished = f; table = refl; drained = λ _ h. absurd h },
  refl,
  (λ more switches g. rw s (comment_tells old.table.now draft draft' old.mode old.last_name old.place old.input.queue.items input'.queue.items more switches (e more g) i h moves.0 (moves.1 more g))),
)

pub comment_given : (old new : Machine) (input' : Input) (draft draft' : CommentDraft) (n : ℕ) → old.state ≡ Comment draft → Reads draft old.input (Closed n) draft' input' → MovesComment draft old.input (Closed n) draft' →
    Passes (record old { input = input'; state = Comment draft' }) n (Text Plain) new →
    Steps old (Given (token (kinds.Comment draft'.«data») draft'.start (old.place + n))) new
comment_given old new input' draft draft' n s (e, h, i, f, b) moves p = (
  (λ more switch switches g. rw (s, p.state, p.mode, p.name, p.place, p.items, p.table, i) (comment_closes old.table.now draft draft' old.mode old.last_name old.place n old.input.queue.items more switch switches (e more g) b h)),
  record { count = rw (p.place, p.items, i) (simp length-drop (omega arith)); finished = p.finished ∙ f; table = p.table; drained = going_on old new _ p.state (λ h. h) },
  p.name,
  (λ more switch switches g. rw (s, p.state, p.mode, p.name, p.place, p.items, p.table, i)
      (let ends = comment_ends draft.kind old.place n (old.input.queue.items ++ more) (moves.1 more g) in
      told_same_then (comment_errors draft.kind old.place (old.input.queue.items ++ more)) (comment_told draft.kind old.place (old.input.queue.items ++ more)) _ _ (ends.0 ∙ sym ends.1)
      (ap (λ (c : Cut). errors_after old.table.now c.len (stays switch old.mode) old.last_name old.place (old.input.queue.items ++ more) switches) (e more g)
      ∙ errors_past_all old.table.now n (stays switch old.mode) old.last_name old.place old.input.queue.items more switches h))),
)

pub comment_waits : (old : Machine) (input' : Input) (draft draft' : CommentDraft) → old.state ≡ Comment draft → Reads draft old.input Wait' draft' input' →
    Steps old Wait (record old { input = input'; state = Comment draft' })
comment_waits old input' draft draft' s (d, i, short) = (rw (d, i, ← s) refl, (short.0, omega arith))

-- one code point of text is waited for no longer than this
pub within : (rows : List Row) (name : Option (List ℕ)) (input : Input) (k : ℕ) → IsShort input k → k ≤ 8 → IsShort input (slack rows name)
within rows name input k s h = (s.0, omega arith)

-- two Chars begin
pair_given : (rows : List Row) (region : Region) (mode : TextMode) (first second : Token) (len : ℕ) (name : Option (List ℕ)) (place : ℕ) (items more : List ℕ) (switch : Option TextMode) (switches : List (Option TextMode)) →
    begin_at mode region name (items ++ more) ≡ begins.Reference →
    begun_piece rows begins.Reference place (items ++ more) ≡ piece (first ∷ second ∷ []) len → 0 < len → len ≤ length items →
    name_after_kind first.kind name ≡ name →
    coming rows (Text region) mode name place (items ++ more) (switch ∷ switches)
    ≡ first ∷ second ∷ tokens_after rows 0 (mode_after_kind second.kind (switch_of switches) (mode_after_kind first.kind switch mode)) name (place + len) (drop len items ++ more) (drop 1 switches)
pair_given rows region mode first second len name place items more switch switches e p h k n =
    tokens_begun rows begins.Reference mode region name place (items ++ more) (switch ∷ switches) (piece (first ∷ second ∷ []) len) e refl p h (there items more (omega arith))
    ∙ rw n (ap (λ (ts : List Token). first ∷ second ∷ ts) (rw add-zero at (tokens_past rows len 0 (mode_after_kind second.kind (switch_of switches) (mode_after_kind first.kind switch mode)) name place items more (drop 1 switches) k)))

-- the code points of a reference are given
pub chars_given : (old new : Machine) (region : Region) (len first : ℕ) (second : Option ℕ) (progress : Progress) → old.state ≡ Text region → Decided old.input (begin_at old.mode region old.last_name) begins.Reference →
    0 < len → len ≤ length old.input.queue.items →
    ((more : List ℕ) → MayFollow old.input.finished more → reference old.table.now (old.input.queue.items ++ more) ≡ record { codes = codes_with first second; len = len }) →
    ((more : List ℕ) → MayFollow old.input.finished more →
    later_ref_errors (ref_opener (old.input.queue.items ++ more)) old.table.now old.place (old.input.queue.items ++ more) ≡ soon_ref_errors (ref_opener (old.input.queue.items ++ more)) old.table.now old.place (old.input.queue.items ++ more)) →
    GivesChars old len first second progress new → Steps old progress new
chars_given old new region len first None progress s begun h k found none (e, p) =
    rw e (open_gives old new region begins.Reference (token (kinds.Char first) old.place (old.place + len)) len s p h k (λ switch mode. refl) (λ name. refl) refl begun
    (λ more f. rw (found more f) refl) none)
chars_given old new region len first (Some second) progress s begun h k found none (e, p) =
    rw e (open_given old new region (token (kinds.Char first) old.place (old.place + 1)) len (Second second (old.place + 1)) s p k (λ e. e) refl
    (λ more switch switches f. pair_given old.table.now region old.mode (token (kinds.Char first) old.place (old.place + 1)) (token (kinds.Char second) (old.place + 1) (old.place + len)) len old.last_name old.place old.input.queue.items more switch switches
    (begun more f) (rw (found more f) refl) h k refl)
    (λ more switch switches f. errors_passed old.table.now begins.Reference region old.mode old.last_name old.place len old.input.queue.items more (switch ∷ switches)
    (piece (token (kinds.Char first) old.place (old.place + 1) ∷ token (kinds.Char second) (old.place + 1) (old.place + len) ∷ []) len) (begun more f) refl (rw (found more f) refl) refl h k (none more f)))

many_left : (rows : List Row) (text rest : List ℕ) (place : ℕ) → ref_opener text ≡ Named → longest rows text ≡ None → letters_after rows text ≡ None → drop 1 text ≡ rest →
    later_ref_errors (ref_opener text) rows place text ≡ soon_ref_errors (ref_opener text) rows place text ++ ampersand_errors place rest
many_left rows text rest place e n l d = rw (e, n, l) (ap (λ (b : Bool). fault_when b names.UnknownNamedCharacterReference place) (letters_many rows text l ∙ ap are_letters_closed d))

-- the `&` is given, and letters and digits come that begin no name, and more than are looked over
pub ampersand_given : (old new : Machine) (region : Region) (progress : Progress) → old.state ≡ Text region → Decided old.input (begin_at old.mode region old.last_name) begins.Reference → 0 < length old.input.queue.items →
    Decided old.input ref_opener Named → Decided old.input (longest old.table.now) None → Decided old.input (letters_after old.table.now) None → GivesAmpersand old progress new → Steps old progress new
ampersand_given old new region progress s begun h opener none letter (e, p) =
    rw e (open_given old new region (token (kinds.Char 38) old.place (old.place + 1)) 1 (Ampersand old.place) s p h (λ e. e) refl
    (λ more switch switches f. piece_given old.table.now begins.Reference region old.mode (token (kinds.Char 38) old.place (old.place + 1)) 1 old.last_name old.place old.input.queue.items more switch switches (begun more f) refl
    (rw (opener more f, none more f) refl) (omega arith) h refl)
    (λ more switch switches f. errors_opened old.table.now begins.Reference region old.mode old.last_name old.place 1 0 old.input.queue.items more (switch ∷ switches) (piece (token (kinds.Char 38) old.place (old.place + 1) ∷ []) 1)
    (ampersand_errors old.place (drop 1 old.input.queue.items ++ more)) (begun more f) refl (rw (opener more f, none more f) refl) refl (omega arith) h
    (many_left old.table.now (old.input.queue.items ++ more) _ old.place (opener more f) (none more f) (letter more f) (drop-append-le 1 old.input.queue.items more h))))

pub second_given : (old new : Machine) (c start : ℕ) → old.state ≡ Second c start → new ≡ record old { state = Text Plain } → Steps old (Given (token (kinds.Char c) start old.place)) new
second_given old new c start s n = ((λ more switch switches f. rw (s, n) refl), rw n (record { count = refl; finished = refl; table = refl; drained = λ _ h. absurd h }), rw n refl, (λ more switch switches f. rw (s, n) refl))

-- the token of a number, and those after it
abbrev number_coming : List Row → ℕ → ℕ → Numbered → TextMode → Option (List ℕ) → List ℕ → List (Option TextMode) → List Token
number_coming rows start place n mode name rest switches = token (kinds.Char (char_of n.value)) start (place + n.len) ∷ tokens_after rows n.len (stays (switch_of switches) mode) name place rest (drop 1 switches)

-- a number begins
pub number_begins : (old new : Machine) (region : Region) (base : Base) (opened : ℕ) → old.state ≡ Text region → Decided old.input (begin_at old.mode region old.last_name) begins.Reference →
    0 < opened → opened ≤ length old.input.queue.items → Decided old.input ref_opener (Numeric base opened) →
    Passes old opened (Number (record { start = old.place; base = base; value = 0 })) new → Steps old More new
number_begins old new region base opened s begun h k found p =
    open_more old new region opened _ s p h k (λ e. e)
    (λ more switches f.
    let items = old.input.queue.items in
    let n = numbered base 0 (drop opened items ++ more) in
    let whole : begun_piece old.table.now begins.Reference old.place (items ++ more) ≡ piece (token (kinds.Char (char_of n.value)) old.place (old.place + (opened + n.len)) ∷ []) (opened + n.len) =
    rw (found more f, drop-append-le opened items more k) refl in
    let e : old.place + (opened + n.len) ≡ old.place + opened + n.len = omega arith in
    tokens_begun old.table.now begins.Reference old.mode region old.last_name old.place (items ++ more) switches _ (begun more f) refl whole (omega arith) (there items more (omega arith))
    ∙ rw e (ap (λ (ts : List Token). token (kinds.Char (char_of n.value)) old.place (old.place + opened + n.len) ∷ ts) (tokens_past old.table.now opened n.len (stays (switch_of switches) old.mode) old.last_name old.place items more (drop 1 switches) k)))
    (λ more switches f.
    let items = old.input.queue.items in
    let n = numbered base 0 (drop opened items ++ more) in
    let whole : begun_piece old.table.now begins.Reference old.place (items ++ more) ≡ piece (token (kinds.Char (char_of n.value)) old.place (old.place + (opened + n.len)) ∷ []) (opened + n.len) =
    rw (found more f, drop-append-le opened items more k) refl in
    errors_opened old.table.now begins.Reference region old.mode old.last_name old.place opened n.len items more switches _ (number_errors base 0 old.place (drop opened items ++ more)) (begun more f) refl whole refl h k (rw (found more f, drop-append-le opened items more k) refl))

-- a number reads on by a digit
pub number_more : (old new : Machine) (draft : NumberDraft) (c d value : ℕ) → old.state ≡ Number draft → Decided old.input (λ rest. slice_get rest 0) (Some c) → 0 < length old.input.queue.items →
    is_digit draft.base c ≡ true → d ≡ digit_value c → value ≡ capped (draft.value * radix draft.base + d) →
    Passes old 1 (Number (record draft { value = value })) new → Steps old More new
number_more old new draft c d value s first h digit e v p = (
  (λ more switches f.
      let items = old.input.queue.items in
      let text = first_of items more c (first more f) h in
      let rest = drop 1 items ++ more in
      let w = draft.value * radix draft.base + digit_value c in
      let n = numbered draft.base w rest in
      let m = numbered draft.base value rest in
      let same : char_of m.value ≡ char_of n.value = char_capped (radix draft.base) w value (map digit_value (cut (stop_mark (ends_digits draft.base)) rest).before) (some_radix draft.base) (rw e at v) in
      let i : old.place + suc n.len ≡ old.place + 1 + n.len = omega arith in
      rw (s, p.state, p.mode, p.name, p.place, p.items, p.table)
      (ap (λ (x : Numbered). number_coming old.table.now draft.start old.place x old.mode old.last_name (items ++ more) switches) (ap (λ (x : List ℕ). numbered draft.base draft.value x) text ∙ digit_first draft.base draft.value c rest digit)
      ∙ rw (i, tokens_past_one old.table.now n.len (stays (switch_of switches) old.mode) old.last_name old.place items (drop 1 items) more (drop 1 switches) refl h, same) refl)),
  passes_less old new 1 _ p (omega arith) h,
  passes_count old new 1 _ p h (λ e. e),
  p.name,
  (λ more switches f.
      let items = old.input.queue.items in
      let text = first_of items more c (first more f) h in
      let rest = drop 1 items ++ more in
      let n = numbered draft.base (draft.value * radix draft.base + digit_value c) rest in
      let told : number_told draft.base draft.value draft.start (slice_get (items ++ more) 0) ≡ [] = rw (first more f, digit) refl in
      let left : number_errors draft.base draft.value draft.start (items ++ more) ≡ number_errors draft.base value draft.start rest =
      ap (λ (x : List ℕ). number_errors draft.base draft.value draft.start x) text ∙ errors_digit draft.base draft.value value draft.start c rest digit (rw e at v) in
      rw (s, p.state, p.mode, p.name, p.place, p.items, p.table, told)
      (ap₂ (λ (es fs : List Fault). es ++ fs) left
      (ap (λ (x : Numbered). errors_after old.table.now x.len (stays (switch_of switches) old.mode) old.last_name old.place (items ++ more) (drop 1 switches)) (ap (λ (x : List ℕ). numbered draft.base draft.value x) text ∙ digit_first draft.base draft.value c rest digit)
      ∙ errors_past_one old.table.now n.len (stays (switch_of switches) old.mode) old.last_name old.place items (drop 1 items) more (drop 1 switches) refl h))),
)

-- a number closes
pub number_given : (old new : Machine) (draft : NumberDraft) (len : ℕ) (progress : Progress) → old.state ≡ Number draft → len ≤ length old.input.queue.items →
    ((more : List ℕ) → MayFollow old.input.finished more → numbered draft.base draft.value (old.input.queue.items ++ more) ≡ record { value = draft.value; len = len }) →
    ((more : List ℕ) → MayFollow old.input.finished more → passes (is_digit draft.base) (slice_get (old.input.queue.items ++ more) 0) ≡ false) →
    (progress ≡ Given (token (kinds.Char (char_of draft.value)) draft.start (old.place + len))) × Passes old len (Text Plain) new → Steps old progress new
number_given old new draft len progress s h whole stops (g, p) =
    rw g (
      (λ more switch switches f. rw (s, p.state, p.mode, p.name, p.place, p.items, p.table)
          (ap (λ (x : Numbered). number_coming old.table.now draft.start old.place x old.mode old.last_name (old.input.queue.items ++ more) (switch ∷ switches)) (whole more f)
          ∙ ap (λ (ts : List Token). token (kinds.Char (char_of draft.value)) draft.start (old.place + len) ∷ ts) (rw add-zero at (tokens_past old.table.now len 0 (stays switch old.mode) old.last_name old.place old.input.queue.items more switches h)))),
      passes_count old new len _ p h (λ e. e),
      p.name,
      (λ more switch switches f. rw (s, p.state, p.mode, p.name, p.place, p.items, p.table)
          (ap₂ (λ (es fs : List Fault). es ++ fs) (number_whole draft.base draft.value draft.start (old.input.queue.items ++ more) (stops more f))
          (ap (λ (x : Numbered). errors_after old.table.now x.len (stays switch old.mode) old.last_name old.place (old.input.queue.items ++ more) switches) (whole more f)
          ∙ errors_past_all old.table.now len (stays switch old.mode) old.last_name old.place old.input.queue.items more switches h))),
    )

pub number_ends : (old : Machine) (draft : NumberDraft) → Decided old.input (λ rest. slice_get rest 0) None →
    (more : List ℕ) → MayFollow old.input.finished more → numbered draft.base draft.value (old.input.queue.items ++ more) ≡ record { value = draft.value; len = 0 }
number_ends old draft none more f = rw (empty_rest _ (none more f)) (digits_end draft.base draft.value)

pub number_stops : (old : Machine) (draft : NumberDraft) (c len : ℕ) → Decided old.input (λ rest. slice_get rest 0) (Some c) → 0 < length old.input.queue.items → is_digit draft.base c ≡ false → semicolon (c ∷ []) ≡ len →
    (more : List ℕ) → MayFollow old.input.finished more → numbered draft.base draft.value (old.input.queue.items ++ more) ≡ record { value = draft.value; len = len }
number_stops old draft c len first h digit e more f =
    let text = first_of old.input.queue.items more c (first more f) h in
    let rest = drop 1 old.input.queue.items ++ more in
    ap (λ (x : List ℕ). numbered draft.base draft.value x) text ∙ digits_stop draft.base draft.value c rest digit ∙ ap (λ (k : ℕ). record { value = draft.value; len = k }) e

-- a name that is in the table, or isn't
pub named_some : (rows : List Row) (text : List ℕ) (len : ℕ) (found : RefText) → ref_opener text ≡ Named → longest rows text ≡ Some (len, found) → reference rows text ≡ record { codes = codes_with found.first found.second; len = len }
named_some rows text len found e n = rw (e, n) refl

pub named_none : (rows : List Row) (text : List ℕ) → ref_opener text ≡ Named → longest rows text ≡ None → reference rows text ≡ record { codes = codes_with 38 None; len = 1 }
named_none rows text e n = rw (e, n) refl

-- few letters and digits come after the `&`, and all of them is told there
pub soon_few : (rows : List Row) (text : List ℕ) (place : ℕ) (closed : Bool) → ref_opener text ≡ Named → longest rows text ≡ None → letters_after rows text ≡ Some closed →
    later_ref_errors (ref_opener text) rows place text ≡ soon_ref_errors (ref_opener text) rows place text
soon_few rows text place closed e n few = rw (e, n, few) (ap (λ (b : Bool). fault_when b names.UnknownNamedCharacterReference place) (letters_few rows text closed few))

-- the tokens from a comment on, which is this and began there
abbrev comment_coming : List Row → ℕ → ℕ → Cut → TextMode → Option (List ℕ) → List ℕ → List (Option TextMode) → List Token
comment_coming rows start place c mode name rest switches = token (kinds.Comment c.before) start (place + c.len) ∷ tokens_after rows c.len (stays (switch_of switches) mode) name place rest (drop 1 switches)

comment_on : (rows : List Row) (start place n : ℕ) (c : Cut) (mode : TextMode) (name : Option (List ℕ)) (items more : List ℕ) (switches : List (Option TextMode)) → n ≤ length items →
    comment_coming rows start place (cut_by n c) mode name (items ++ more) switches ≡ comment_coming rows start (place + n) c mode name (drop n items ++ more) switches
comment_on rows start place n c mode name items more switches h =
    let e : place + (n + c.len) ≡ place + n + c.len = omega arith in
    rw e (ap (λ (ts : List Token). token (kinds.Comment c.before) start (place + n + c.len) ∷ ts) (tokens_past rows n c.len (stays (switch_of switches) mode) name place items more (drop 1 switches) h))

-- a front of the rest is copied
pub comment_skips : (old new : Machine) (d d' : CommentDraft) (n : ℕ) → old.state ≡ Comment d → CopiesComment d old.input.queue.items n d' →
    Passes (record old { state = Comment d' }) n (Comment d') new → Skips old new
comment_skips old new d d' n s (e, fit, st, errors) p = (
  (λ more switches f. rw (s, p.state, p.mode, p.name, p.place, p.items, p.table, st)
      (ap (λ (c : Cut). comment_coming old.table.now d.start old.place c old.mode old.last_name (old.input.queue.items ++ more) switches) (e more)
      ∙ comment_on old.table.now d.start old.place n (draft_cut d' (drop n old.input.queue.items ++ more)) old.mode old.last_name old.input.queue.items more switches fit)),
  record { count = rw (p.place, p.items) (simp length-drop (omega arith)); finished = p.finished; table = p.table; drained = going_on old new _ p.state (λ e. e) },
  p.name,
  (λ more switches f. rw (s, p.state, p.mode, p.name, p.place, p.items, p.table)
      (told_same_then (comment_errors d.kind old.place (old.input.queue.items ++ more)) (comment_errors d'.kind (old.place + n) (drop n old.input.queue.items ++ more)) _ _ (errors old.place more)
      (ap (λ (c : Cut). errors_after old.table.now c.len (stays (switch_of switches) old.mode) old.last_name old.place (old.input.queue.items ++ more) (drop 1 switches)) (e more)
      ∙ errors_past old.table.now n (draft_cut d' (drop n old.input.queue.items ++ more)).len (stays (switch_of switches) old.mode) old.last_name old.place old.input.queue.items more (drop 1 switches) fit))),
)
