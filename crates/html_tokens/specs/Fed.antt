-- Claimed, but for this crate's own functions: SameCount, to_come_after, errors_to_come_after, told_at, IsSilent, TellsAt, Tells, Steps, Skips, Passes, IsComment, IsTag, IsDoctype, EndsDoctype, BeginsDoctype, EndsComment, new_tag, BeginsTag, mode_after_tag, name_after_tag, read_tag, EndsTagAt, EndsTag, GivesChars, GivesAmpersand.
-- What a tokenizer has still to give, and what it was fed.
use Rattle.std.specs.Prelude.{◌≡◌, ℕ, ◌+◌, ◌<◌, List, [], ◌∷◌, ◌++◌, length, drop, Bool, true, false, Option, Some, None}
use Rattle.html_tokens.specs.AttrNames.{names_in}
use Rattle.html_tokens.specs.Cut.{cut, section_mark}
use Rattle.html_tokens.specs.Draft.{draft_cut}
use Rattle.html_tokens.specs.Doctype.{draft_doctype, new_doctype, ids_of, closes}
use Rattle.html_tokens.specs.declared.doctype.DoctypeDraft.{DoctypeDraft}
use Rattle.html_tokens.specs.Input.{MayFollow, IsShort}
use Rattle.html_tokens.specs.Inside.{comment_errors, draft_errors, section_errors, tag_end_errors}
use Rattle.html_tokens.specs.InsideReferences.{ampersand_errors, number_errors}
use Rattle.html_tokens.specs.InsideTags.{part_errors}
use Rattle.html_tokens.specs.Tag.{draft_tag}
use Rattle.html_tokens.specs.Tag.{Tag as WholeTag}
use Rattle.html_tokens.specs.Tokens.{token, tokens_after, text_after, chars_at, tag_tokens, tag_kind, doctype_kind, stays, switch_of, switched, mode_after, name_after, name_after_kind}
use Rattle.html_tokens.specs.Errors.{all_told, errors_after, front_errors, IsQuiet, told_in}
use Rattle.html_tokens.specs.Marks.{front, name_len}
use Rattle.html_tokens.specs.Reference.{numbered}
use Rattle.html_charref.specs.Number.{char_of}
use Rattle.html_charref.specs.Table.{longest_len}
use Rattle.html_charref.specs.declared.table.Row.{Row}
use Rattle.html_tokens.specs.declared.token.Region.{Region}
use Rattle.html_tokens.specs.declared.token.Region.TheVariants.{Plain, Escaped, Double}
use Rattle.html_tokens.specs.declared.comment.CommentDraft.{CommentDraft}
use Rattle.html_tokens.specs.declared.tag.TagDraft.{TagDraft}
use Rattle.html_tokens.specs.declared.tag.Part.TheVariants as parts
use Rattle.html_tokens.specs.declared.token.TextMode.TheVariants.{Data, Foreign}
use Rattle.html_tokens.specs.declared.faults.Fault.{Fault}
use Rattle.html_tokens.specs.declared.faults.Faults.{Faults}
use Rattle.html_tokens.specs.declared.token.Token.{Token}
use Rattle.html_tokens.specs.declared.token.TokenKind.{TokenKind}
use Rattle.html_tokens.specs.declared.token.TokenKind.TheVariants as kinds
use Rattle.html_tokens.specs.declared.token.TextMode.{TextMode}
use Rattle.html_tokens.specs.declared.machine.State.{State}
use Rattle.html_tokens.specs.declared.machine.State.TheVariants.{Text, Number, Second, Ampersand, Comment, Doctype, Tag, Section, Ended}
use Rattle.html_tokens.specs.declared.machine.Machine.{Machine}
use Rattle.html_tokens.specs.declared.machine.Progress.{Progress}
use Rattle.html_tokens.specs.declared.machine.Progress.TheVariants.{Given, More, Wait}

-- the tokens still to come from a state at a place, where this is the whole rest of the text
abbrev pub coming : List Row → State → TextMode → Option (List ℕ) → ℕ → List ℕ → List (Option TextMode) → List Token
coming rows (Text Plain) mode name place rest switches = tokens_after rows 0 mode name place rest switches
coming rows (Text Escaped) mode name place rest switches = text_after rows (front mode Escaped name rest) mode name place rest switches
coming rows (Text Double) mode name place rest switches = text_after rows (front mode Double name rest) mode name place rest switches
coming rows (Number draft) mode name place rest switches =
    let n = numbered draft.base draft.value rest in
    token (kinds.Char (char_of n.value)) draft.start (place + n.len) ∷ tokens_after rows n.len (stays (switch_of switches) mode) name place rest (drop 1 switches)
coming rows (Ampersand start) mode name place rest switches = tokens_after rows 0 mode name place rest switches
coming rows (Second c start) mode name place rest switches = token (kinds.Char c) start place ∷ tokens_after rows 0 (stays (switch_of switches) mode) name place rest (drop 1 switches)
coming rows (Comment draft) mode name place rest switches =
    let c = draft_cut draft rest in
    token (kinds.Comment c.before) draft.start (place + c.len) ∷ tokens_after rows c.len (stays (switch_of switches) mode) name place rest (drop 1 switches)
coming rows (Doctype draft) mode name place rest switches =
    let d = draft_doctype draft rest in
    token (doctype_kind d) draft.start (place + d.len) ∷ tokens_after rows d.len (stays (switch_of switches) mode) name place rest (drop 1 switches)
coming rows (Tag draft) mode name place rest switches =
    let t = draft_tag rows draft rest in
    let given = tag_tokens draft.is_end draft.start (place + t.tail.len) t in
    given ++ tokens_after rows t.tail.len (mode_after given switches mode) (name_after given name) place rest (drop (length given) switches)
coming rows Section mode name place rest switches =
    let section = cut section_mark rest in
    let given = chars_at Foreign place section.before in
    given ++ tokens_after rows section.len (mode_after given switches mode) name place rest (drop (length given) switches)
coming rows Ended mode name place rest switches = []

abbrev pub to_come : Machine → List ℕ → List (Option TextMode) → List Token
to_come t more switches = coming t.table.now t.state t.mode t.last_name t.place (t.input.queue.items ++ more) switches

-- the errors after text at a place
abbrev pub text_errors : List Row → List ℕ → TextMode → Option (List ℕ) → ℕ → List ℕ → List (Option TextMode) → List Fault
text_errors rows chars mode name place text switches =
    let given = chars_at mode place chars in
    errors_after rows (length chars) (mode_after given switches mode) name place text (drop (length given) switches)

-- the errors from a place of text in a region on
abbrev pub region_errors : List Row → Region → TextMode → Option (List ℕ) → ℕ → List ℕ → List (Option TextMode) → List Fault
region_errors rows region mode name place text switches = front_errors mode region name place text ++ text_errors rows (front mode region name text) mode name place text switches

-- the errors still to come from a state at a place, where this is the whole rest of the text
abbrev pub errors_coming : List Row → State → TextMode → Option (List ℕ) → ℕ → List ℕ → List (Option TextMode) → List Fault
errors_coming rows (Text Plain) mode name place rest switches = errors_after rows 0 mode name place rest switches
errors_coming rows (Text Escaped) mode name place rest switches = region_errors rows Escaped mode name place rest switches
errors_coming rows (Text Double) mode name place rest switches = region_errors rows Double mode name place rest switches
errors_coming rows (Number draft) mode name place rest switches =
    number_errors draft.base draft.value draft.start rest ++ errors_after rows (numbered draft.base draft.value rest).len (stays (switch_of switches) mode) name place rest (drop 1 switches)
errors_coming rows (Ampersand start) mode name place rest switches = ampersand_errors start rest ++ errors_after rows 0 mode name place rest switches
errors_coming rows (Second c start) mode name place rest switches = errors_after rows 0 (stays (switch_of switches) mode) name place rest (drop 1 switches)
errors_coming rows (Comment draft) mode name place rest switches = comment_errors draft.kind place rest ++ errors_after rows (draft_cut draft rest).len (stays (switch_of switches) mode) name place rest (drop 1 switches)
errors_coming rows (Doctype draft) mode name place rest switches = draft_errors draft place rest ++ errors_after rows (draft_doctype draft rest).len (stays (switch_of switches) mode) name place rest (drop 1 switches)
errors_coming rows (Tag draft) mode name place rest switches =
    let t = draft_tag rows draft rest in
    let given = tag_tokens draft.is_end draft.start (place + t.tail.len) t in
    part_errors rows (names_in draft) draft.part place rest
    ++ (tag_end_errors draft.is_end (place + t.tail.len) t.tail ++ errors_after rows t.tail.len (mode_after given switches mode) (name_after given name) place rest (drop (length given) switches))
errors_coming rows Section mode name place rest switches =
    let section = cut section_mark rest in
    let given = chars_at Foreign place section.before in
    section_errors place rest ++ errors_after rows section.len (mode_after given switches mode) name place rest (drop (length given) switches)
errors_coming rows Ended mode name place rest switches = []

abbrev pub errors_to_come : Machine → List ℕ → List (Option TextMode) → List Fault
errors_to_come t more switches = errors_coming t.table.now t.state t.mode t.last_name t.place (t.input.queue.items ++ more) switches

-- the end was given
abbrev pub IsEnded : State → Type 0
IsEnded (Text region) = ⊥
IsEnded (Number draft) = ⊥
IsEnded (Second c start) = ⊥
IsEnded (Ampersand start) = ⊥
IsEnded (Comment draft) = ⊥
IsEnded (Doctype draft) = ⊥
IsEnded (Tag draft) = ⊥
IsEnded Section = ⊥
IsEnded Ended = Unit {0}

-- where the end was given, all was fed and read
abbrev pub IsDrained : Machine → Type 0
IsDrained t = IsEnded t.state → (t.input.finished ≡ true) × (t.input.queue.items ≡ [])

-- what was fed is what was read and what is unread, and the table is the same
pub record SameCount (old new : Machine) : Type 0 where
  pub count : new.place + length new.input.queue.items ≡ old.place + length old.input.queue.items
  pub finished : new.input.finished ≡ old.input.finished
  pub table : new.table.now ≡ old.table.now
  pub drained : IsDrained old → IsDrained new

-- how much has to be seen: the longest name of a reference, the name of an end mark, or a mark of a region
abbrev pub slack : List Row → Option (List ℕ) → ℕ
slack rows name = longest_len rows + name_len name + 8

-- the mode after the answer to a token that was given
abbrev pub switch_to : TokenKind → Option TextMode → TextMode → TextMode
switch_to (kinds.Start name attrs self_closing) said mode = switched said mode
switch_to (kinds.End name) said mode = stays said mode
switch_to (kinds.Char c) said mode = stays said mode
switch_to (kinds.Comment text) said mode = stays said mode
switch_to (kinds.Doctype name public_id system_id force_quirks) said mode = stays said mode
switch_to kinds.Eof said mode = stays said mode

abbrev pub to_come_after : Token → Option TextMode → Machine → List ℕ → List (Option TextMode) → List Token
to_come_after given switch t more switches = coming t.table.now t.state (switch_to given.kind switch t.mode) t.last_name t.place (t.input.queue.items ++ more) switches

abbrev pub errors_to_come_after : Token → Option TextMode → Machine → List ℕ → List (Option TextMode) → List Fault
errors_to_come_after given switch t more switches = errors_coming t.table.now t.state (switch_to given.kind switch t.mode) t.last_name t.place (t.input.queue.items ++ more) switches

abbrev pub told_at : Machine → List ℕ → List Fault
told_at t more = told_in t.table.now t.state t.mode t.last_name t.place (t.input.queue.items ++ more)

-- whatever follows, a step tells nothing
abbrev pub IsSilent : Machine → Type 0
IsSilent t = (more : List ℕ) → MayFollow t.input.finished more → told_at t more ≡ []

-- What a step tells, where no error was lost.
abbrev pub TellsAt : Machine → Faults → Faults → Type 0
TellsAt t old new = new.lost ≡ false → (old.lost ≡ false) × ((more : List ℕ) → MayFollow t.input.finished more → new.list ≡ all_told old.list (told_at t more))

abbrev pub Tells : Machine → Progress → Faults → Faults → Type 0
Tells t (Given given) old new = TellsAt t old new
Tells t More old new = TellsAt t old new
Tells t Wait old new = IsQuiet old new

abbrev pub Steps : Machine → Progress → Machine → Type 0
Steps old More new =
    ((more : List ℕ) (switches : List (Option TextMode)) → MayFollow old.input.finished more → to_come old more switches ≡ to_come new more switches)
    × (length new.input.queue.items < length old.input.queue.items) × SameCount old new × (new.last_name ≡ old.last_name)
    × ((more : List ℕ) (switches : List (Option TextMode)) → MayFollow old.input.finished more → errors_to_come old more switches ≡ told_at old more ++ errors_to_come new more switches)
Steps old (Given given) new =
    ((more : List ℕ) (switch : Option TextMode) (switches : List (Option TextMode)) → MayFollow old.input.finished more →
    to_come old more (switch ∷ switches) ≡ given ∷ to_come_after given switch new more switches)
    × SameCount old new × (new.last_name ≡ name_after_kind given.kind old.last_name)
    × ((more : List ℕ) (switch : Option TextMode) (switches : List (Option TextMode)) → MayFollow old.input.finished more →
    errors_to_come old more (switch ∷ switches) ≡ told_at old more ++ errors_to_come_after given switch new more switches)
Steps old Wait new = (new ≡ old) × IsShort old.input (slack old.table.now old.last_name)

-- Some of the rest was passed, and what is still to come is the same.
abbrev pub Skips : Machine → Machine → Type 0
Skips old new =
    ((more : List ℕ) (switches : List (Option TextMode)) → MayFollow old.input.finished more → to_come old more switches ≡ to_come new more switches)
    × SameCount old new × (new.last_name ≡ old.last_name)
    × ((more : List ℕ) (switches : List (Option TextMode)) → MayFollow old.input.finished more → errors_to_come old more switches ≡ errors_to_come new more switches)

-- So many code points were passed, and the state is another. All else is as it was.
pub record Passes (old : Machine) (count : ℕ) (after : State) (new : Machine) : Type 0 where
  pub items : new.input.queue.items ≡ drop count old.input.queue.items
  pub finished : new.input.finished ≡ old.input.finished
  pub place : new.place ≡ old.place + count
  pub mode : new.mode ≡ old.mode
  pub name : new.last_name ≡ old.last_name
  pub state : new.state ≡ after
  pub table : new.table.now ≡ old.table.now

abbrev pub IsComment : State → Type 0
IsComment (Text region) = ⊥
IsComment (Number draft) = ⊥
IsComment (Second c start) = ⊥
IsComment (Ampersand start) = ⊥
IsComment (Comment draft) = Unit {0}
IsComment (Doctype draft) = ⊥
IsComment (Tag draft) = ⊥
IsComment Section = ⊥
IsComment Ended = ⊥

abbrev pub IsTag : State → Type 0
IsTag (Text region) = ⊥
IsTag (Number draft) = ⊥
IsTag (Second c start) = ⊥
IsTag (Ampersand start) = ⊥
IsTag (Comment draft) = ⊥
IsTag (Doctype draft) = ⊥
IsTag (Tag draft) = Unit {0}
IsTag Section = ⊥
IsTag Ended = ⊥

abbrev pub IsDoctype : State → Type 0
IsDoctype (Text region) = ⊥
IsDoctype (Number draft) = ⊥
IsDoctype (Second c start) = ⊥
IsDoctype (Ampersand start) = ⊥
IsDoctype (Comment draft) = ⊥
IsDoctype (Doctype draft) = Unit {0}
IsDoctype (Tag draft) = ⊥
IsDoctype Section = ⊥
IsDoctype Ended = ⊥

abbrev pub EndsDoctype : Machine → Bool → ℕ → Progress → Machine → Type 0
EndsDoctype old force_quirks len progress new = (draft : DoctypeDraft) → old.state ≡ Doctype draft →
    (progress ≡ Given (token (doctype_kind (closes (ids_of draft) force_quirks len)) draft.start (old.place + len))) × Passes old len (Text Plain) new

abbrev pub BeginsDoctype : Machine → Machine → Type 0
BeginsDoctype old new = (d : DoctypeDraft) × new_doctype d old.place × Passes old 9 (Doctype d) new

abbrev pub EndsComment : Machine → ℕ → Progress → Machine → Type 0
EndsComment old len progress new = (draft : CommentDraft) → old.state ≡ Comment draft →
    (progress ≡ Given (token (kinds.Comment draft.«data») draft.start (old.place + len))) × Passes old len (Text Plain) new

-- a tag of which nothing has been read
abbrev pub new_tag : TagDraft → Bool → ℕ → Type 0
new_tag d is_end start = (d.is_end ≡ is_end) × (d.start ≡ start) × (d.name ≡ []) × (d.attrs ≡ []) × (d.part ≡ parts.Name) × (d.attr_value ≡ [])

abbrev pub BeginsTag : Machine → Bool → ℕ → Machine → Type 0
BeginsTag old is_end opened new = (d : TagDraft) × new_tag d is_end old.place × Passes old opened (Tag d) new

-- the mode and the last name after a tag
abbrev pub mode_after_tag : Bool → TextMode → TextMode
mode_after_tag true mode = Data
mode_after_tag false mode = mode

abbrev pub name_after_tag : Bool → List ℕ → Option (List ℕ) → Option (List ℕ)
name_after_tag true name last = last
name_after_tag false name last = Some name

-- the tag as it was read
abbrev pub read_tag : TagDraft → Bool → ℕ → WholeTag
read_tag d self_closing len = record { name = d.name; tail = record { attrs = d.attrs; self_closing = self_closing; closed = true; len = len } }

pub record EndsTagAt (old : Machine) (draft : TagDraft) (self_closing : Bool) (len : ℕ) (progress : Progress) (new : Machine) : Type 0 where
  pub given : progress ≡ Given (token (tag_kind draft.is_end (read_tag draft self_closing len)) draft.start (old.place + len))
  pub items : new.input.queue.items ≡ drop len old.input.queue.items
  pub finished : new.input.finished ≡ old.input.finished
  pub place : new.place ≡ old.place + len
  pub mode : new.mode ≡ mode_after_tag draft.is_end old.mode
  pub name : new.last_name ≡ name_after_tag draft.is_end draft.name old.last_name
  pub state : new.state ≡ Text Plain
  pub table : new.table.now ≡ old.table.now

abbrev pub EndsTag : Machine → Bool → ℕ → Progress → Machine → Type 0
EndsTag old self_closing len progress new = (draft : TagDraft) → old.state ≡ Tag draft → EndsTagAt old draft self_closing len progress new

-- one code point is given, or the first of two
abbrev pub GivesChars : Machine → ℕ → ℕ → Option ℕ → Progress → Machine → Type 0
GivesChars old len first None progress new = (progress ≡ Given (token (kinds.Char first) old.place (old.place + len))) × Passes old len (Text Plain) new
GivesChars old len first (Some second) progress new = (progress ≡ Given (token (kinds.Char first) old.place (old.place + 1))) × Passes old len (Second second (old.place + 1)) new

-- the `&` is given before letters and digits that begin no name
abbrev pub GivesAmpersand : Machine → Progress → Machine → Type 0
GivesAmpersand old progress new = (progress ≡ Given (token (kinds.Char 38) old.place (old.place + 1))) × Passes old 1 (Ampersand old.place) new
