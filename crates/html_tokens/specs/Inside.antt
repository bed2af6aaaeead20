-- Claimed, but for this crate's own functions: ends_here, tag_told, comment_told, ClosesComment, MovesComment, section_told, PassesErrors, MovesDoctype, MovesPart.
-- The parse errors inside of a piece of the text, after what opens it (HTML 13.2.2).
use Rattle.std.specs.Prelude.{◌≡◌, ◌⊎◌, ◌<◌, ℕ, zero, suc, ◌+◌, ◌-◌, List, [], ◌∷◌, ◌++◌, length, drop, Bool, true, false, cond, Option, Some, None, slice_get, ◌==◌, ◌&&◌, ◌||◌, not}
use Rattle.html_tokens.specs.Cut.{is, is_space, passes, section_mark}
use Rattle.html_tokens.specs.Draft.{mark_of}
use Rattle.html_tokens.specs.Doctype.{is_quote, keyword_at}
use Rattle.html_tokens.specs.Input.{MayFollow}
use Rattle.html_tokens.specs.Marks.{declares}
use Rattle.html_tokens.specs.Tag.{Tail}
use Rattle.html_tokens.specs.declared.comment.CommentDraft.{CommentDraft}
use Rattle.html_tokens.specs.declared.comment.CommentKind.{CommentKind}
use Rattle.html_tokens.specs.declared.comment.CommentKind.TheVariants as comments
use Rattle.html_tokens.specs.declared.comment.Reading.{Reading}
use Rattle.html_tokens.specs.declared.comment.Reading.TheVariants as readings
use Rattle.html_tokens.specs.declared.doctype.DoctypeDraft.{DoctypeDraft}
use Rattle.html_tokens.specs.declared.doctype.DoctypePart.{DoctypePart}
use Rattle.html_tokens.specs.declared.doctype.DoctypePart.TheVariants as parts
use Rattle.html_tokens.specs.declared.doctype.DoctypeReading.{DoctypeReading}
use Rattle.html_tokens.specs.declared.doctype.DoctypeReading.TheVariants.{More, Keyword as Word, Closed, Wait}
use Rattle.html_tokens.specs.declared.doctype.Keyword.{Keyword}
use Rattle.html_tokens.specs.declared.doctype.Keyword.TheVariants as keywords
use Rattle.html_tokens.specs.declared.fault_name.FaultName.{FaultName}
use Rattle.html_tokens.specs.declared.fault_name.FaultName.TheVariants as names
use Rattle.html_tokens.specs.declared.faults.Fault.{Fault}
use Rattle.html_tokens.specs.declared.input.Input.{Input}

-- an error, at its place
abbrev pub fault : FaultName → ℕ → Fault
fault name place = record { name = name; place = place }

-- an error at a place, or none
abbrev pub fault_if : Option FaultName → ℕ → List Fault
fault_if None place = []
fault_if (Some name) place = fault name place ∷ []

-- a mark that stands here closes
abbrev pub unless_after : Option ℕ → List Fault → List Fault
unless_after (Some n) later = []
unless_after None later = later

-- The end of the text, where this mark stands nowhere before it, is an error.
unfoldable pub unless_closed : FaultName → (List ℕ → Option ℕ) → ℕ → List ℕ → List Fault
unless_closed name mark place [] = fault name place ∷ []
unless_closed name mark place (c ∷ rest) = unless_after (mark (c ∷ rest)) (unless_closed name mark (place + 1) rest)

-- an error, where this is so
abbrev pub fault_when : Bool → FaultName → ℕ → List Fault
fault_when is name place = cond is (fault name place ∷ []) []

-- U+0000 in text, in names and values, in comments and in doctypes: unexpected-null-character (HTML 13.2.5.1 to 13.2.5.5, 13.2.5.8, 13.2.5.33, 13.2.5.36 to 13.2.5.38, 13.2.5.41,
-- 13.2.5.45, 13.2.5.54 to 13.2.5.68)
abbrev pub null_errors : Option ℕ → ℕ → List Fault
null_errors found place = fault_when (is 0 found) names.UnexpectedNullCharacter place

-- TAGS

-- A tag that ends before a place: eof-in-tag where the text ends in it (HTML 13.2.5.8, 13.2.5.32 to 13.2.5.40); and at the `>` of an end tag end-tag-with-attributes and
-- end-tag-with-trailing-solidus (HTML 13.2.2, 13.2.5).
abbrev pub tag_end_errors : Bool → ℕ → Tail → List Fault
tag_end_errors is_end end t =
    cond t.closed
    (cond is_end (fault_when (not (length t.attrs == 0)) names.EndTagWithAttributes (end - 1) ++ fault_when t.self_closing names.EndTagWithTrailingSolidus (end - 1)) [])
    (fault names.EofInTag end ∷ [])

-- what stands at the front ends the tag: `>`, or `/>`, or the end of the text
abbrev pub ends_here : Tail → Bool
ends_here t = cond t.closed (t.len == 1 || (t.self_closing && t.len == 2)) (t.len == 0)

-- what a step tells, by what of the tag is still to be read
abbrev pub tag_told : Bool → ℕ → Tail → List Fault
tag_told is_end place t = cond (ends_here t) (tag_end_errors is_end (place + t.len) t) []

-- COMMENTS

-- what closes a comment that `<!--` began, of this length, and whether it is `-->`: `--!>` is incorrectly-closed-comment at its `>` (HTML 13.2.5.52), and what of it stands at the end
-- of the text eof-in-comment (HTML 13.2.5.43 to 13.2.5.52)
abbrev pub closing_errors : Bool → ℕ → ℕ → List Fault
closing_errors closed n place = cond (n == 4) (fault names.IncorrectlyClosedComment (place + n - 1) ∷ []) (cond closed [] (fault names.EofInComment (place + n) ∷ []))

-- a mark of this length is `-->`
abbrev pub is_closed : ℕ → List ℕ → Bool
is_closed n text = n == 3 && is 62 (slice_get text 2)

-- `<!--` stands here, and then another code point than `>` (HTML 13.2.5.46 to 13.2.5.49)
abbrev pub nests : List ℕ → Bool
nests text = declares text && passes (λ c. not (c == 62)) (slice_get text 4)

-- so in a comment that `<!--` began
abbrev pub nests_in : CommentKind → List ℕ → Bool
nests_in comments.Declared text = nests text
nests_in comments.Bogus text = false

-- what a code point tells that belongs to a comment: nested-comment, after the `<!--` that it begins, and whether it is U+0000
abbrev pub comment_char_errors : CommentKind → ℕ → List ℕ → List Fault
comment_char_errors kind place text = fault_when (nests_in kind text) names.NestedComment (place + 4) ++ null_errors (slice_get text 0) place

-- the end of the text: eof-in-comment (HTML 13.2.5.43 to 13.2.5.52), and nothing in a bogus comment (HTML 13.2.5.41)
abbrev pub comment_end_errors : CommentKind → ℕ → List Fault
comment_end_errors comments.Declared place = fault names.EofInComment place ∷ []
comment_end_errors comments.Bogus place = []

-- what closes a comment of this kind tells
abbrev pub kind_errors : CommentKind → Bool → ℕ → ℕ → List Fault
kind_errors comments.Declared closed n place = closing_errors closed n place
kind_errors comments.Bogus closed n place = []

-- where a mark of this length closes a comment
abbrev pub mark_errors : CommentKind → Option ℕ → ℕ → List ℕ → List Fault → List Fault
mark_errors kind (Some n) place text later = kind_errors kind (is_closed n text) n place
mark_errors kind None place text later = later

-- The errors of the rest of a comment: those of each code point that belongs to it, and of what closes it first, or of the end.
unfoldable pub comment_errors : CommentKind → ℕ → List ℕ → List Fault
comment_errors kind place [] = comment_end_errors kind place
comment_errors kind place (c ∷ rest) = mark_errors kind (mark_of kind (c ∷ rest)) place (c ∷ rest) (comment_char_errors kind place (c ∷ rest) ++ comment_errors kind (place + 1) rest)

-- what a step tells at the front of the rest of a comment
abbrev pub comment_told : CommentKind → ℕ → List ℕ → List Fault
comment_told kind place [] = comment_end_errors kind place
comment_told kind place (c ∷ rest) = mark_errors kind (mark_of kind (c ∷ rest)) place (c ∷ rest) (comment_char_errors kind place (c ∷ rest))

-- a code point belongs to the comment, or so many close it; or the text ends
abbrev pub ClosesComment : CommentKind → List ℕ → ℕ → Type 0
ClosesComment kind text n = ((mark_of kind text ≡ Some n) × (0 < length text)) ⊎ ((text ≡ []) × (n ≡ 0))

abbrev pub MovesComment : CommentDraft → Input → Reading → CommentDraft → Type 0
MovesComment old input readings.More new = (new.kind ≡ old.kind) × ((more : List ℕ) → MayFollow input.finished more → mark_of old.kind (input.queue.items ++ more) ≡ None)
MovesComment old input (readings.Closed n) new = (new.kind ≡ old.kind) × ((more : List ℕ) → MayFollow input.finished more → ClosesComment old.kind (input.queue.items ++ more) n)
MovesComment old input readings.Wait new = Unit {0}

-- SECTIONS

-- The end in a section: eof-in-cdata (HTML 13.2.5.69).
abbrev pub section_errors : ℕ → List ℕ → List Fault
section_errors place text = unless_closed names.EofInCdata section_mark place text

-- what a step tells at the front of the rest of a section
abbrev pub section_told : ℕ → List ℕ → List Fault
section_told place [] = fault names.EofInCdata place ∷ []
section_told place (c ∷ rest) = []

-- DOCTYPES

-- The end in a doctype: eof-in-doctype, in each state but the bogus DOCTYPE state (HTML 13.2.5.53 to 13.2.5.68).
abbrev pub doctype_end_error : DoctypePart → Option FaultName
doctype_end_error parts.BeforeName = Some names.EofInDoctype
doctype_end_error parts.Name = Some names.EofInDoctype
doctype_end_error parts.AfterName = Some names.EofInDoctype
doctype_end_error parts.BeforePublic = Some names.EofInDoctype
doctype_end_error (parts.Public quote) = Some names.EofInDoctype
doctype_end_error parts.AfterPublic = Some names.EofInDoctype
doctype_end_error parts.BeforeSystem = Some names.EofInDoctype
doctype_end_error (parts.System quote) = Some names.EofInDoctype
doctype_end_error parts.AfterSystem = Some names.EofInDoctype
doctype_end_error (parts.BadRest force_quirks) = None

-- `>` before a name (HTML 13.2.5.54), before an id that has to come (HTML 13.2.5.57, 13.2.5.58, 13.2.5.63, 13.2.5.64), or inside of an id (HTML 13.2.5.59,
-- 13.2.5.60, 13.2.5.65, 13.2.5.66)
abbrev pub doctype_close_error : DoctypePart → Option FaultName
doctype_close_error parts.BeforeName = Some names.MissingDoctypeName
doctype_close_error parts.Name = None
doctype_close_error parts.AfterName = None
doctype_close_error parts.BeforePublic = Some names.MissingDoctypePublicIdentifier
doctype_close_error (parts.Public quote) = Some names.AbruptDoctypePublicIdentifier
doctype_close_error parts.AfterPublic = None
doctype_close_error parts.BeforeSystem = Some names.MissingDoctypeSystemIdentifier
doctype_close_error (parts.System quote) = Some names.AbruptDoctypeSystemIdentifier
doctype_close_error parts.AfterSystem = None
doctype_close_error (parts.BadRest force_quirks) = None

-- a quote, before which white space may be missing, or something else in its place
abbrev pub id_error : ℕ → Bool → FaultName → FaultName → Option FaultName
id_error c spaced unspaced unquoted = cond (is_quote c) (cond spaced None (Some unspaced)) (Some unquoted)

-- Another code point than white space and `>`, where no keyword begins: before a name (HTML 13.2.5.53), after it (HTML 13.2.5.56), where a public id (HTML
-- 13.2.5.57, 13.2.5.58) or a system id has to come (HTML 13.2.5.63, 13.2.5.64), or may come (HTML 13.2.5.61, 13.2.5.62), or after both (HTML 13.2.5.67).
-- `spaced` tells that white space stands before it.
abbrev pub doctype_char_error : DoctypePart → ℕ → Bool → Option FaultName
doctype_char_error parts.BeforeName c spaced = cond spaced None (Some names.MissingWhitespaceBeforeDoctypeName)
doctype_char_error parts.Name c spaced = None
doctype_char_error parts.AfterName c spaced = Some names.InvalidCharacterSequenceAfterDoctypeName
doctype_char_error parts.BeforePublic c spaced = id_error c spaced names.MissingWhitespaceAfterDoctypePublicKeyword names.MissingQuoteBeforeDoctypePublicIdentifier
doctype_char_error (parts.Public quote) c spaced = None
doctype_char_error parts.AfterPublic c spaced = id_error c spaced names.MissingWhitespaceBetweenDoctypePublicAndSystemIdentifiers names.MissingQuoteBeforeDoctypeSystemIdentifier
doctype_char_error parts.BeforeSystem c spaced = id_error c spaced names.MissingWhitespaceAfterDoctypeSystemKeyword names.MissingQuoteBeforeDoctypeSystemIdentifier
doctype_char_error (parts.System quote) c spaced = None
doctype_char_error parts.AfterSystem c spaced = Some names.UnexpectedCharacterAfterDoctypeSystemIdentifier
doctype_char_error (parts.BadRest force_quirks) c spaced = None

-- what stands there in a part of a doctype, where no keyword begins
abbrev pub doctype_error : DoctypePart → Bool → Option ℕ → Option FaultName
doctype_error part spaced None = doctype_end_error part
doctype_error part spaced (Some c) = cond (c == 62) (doctype_close_error part) (cond (is_space c) None (doctype_char_error part c spaced))

-- a keyword is there
abbrev pub is_keyword : Keyword → Bool
is_keyword keywords.Public = true
is_keyword keywords.System = true
is_keyword keywords.Other = false

-- after the name a keyword begins (HTML 13.2.5.56)
abbrev pub begins_keyword : DoctypePart → Keyword → Bool
begins_keyword parts.BeforeName keyword = false
begins_keyword parts.Name keyword = false
begins_keyword parts.AfterName keyword = is_keyword keyword
begins_keyword parts.BeforePublic keyword = false
begins_keyword (parts.Public quote) keyword = false
begins_keyword parts.AfterPublic keyword = false
begins_keyword parts.BeforeSystem keyword = false
begins_keyword (parts.System quote) keyword = false
begins_keyword parts.AfterSystem keyword = false
begins_keyword (parts.BadRest force_quirks) keyword = false

-- and whether that is U+0000
abbrev pub doctype_front_errors : DoctypePart → Bool → Option ℕ → ℕ → List Fault
doctype_front_errors part spaced found place = fault_if (doctype_error part spaced found) place ++ null_errors found place

-- the errors at the front of the rest, in a part of a doctype
abbrev pub doctype_told : DoctypePart → Bool → ℕ → List ℕ → List Fault
doctype_told part spaced place text = cond (begins_keyword part (keyword_at text)) [] (doctype_front_errors part spaced (slice_get text 0) place)

-- `>` closes a doctype in each part (and is no quote)
abbrev pub closes_part : DoctypePart → ℕ → Bool
closes_part parts.BeforeName c = c == 62
closes_part parts.Name c = c == 62
closes_part parts.AfterName c = c == 62
closes_part parts.BeforePublic c = c == 62
closes_part (parts.Public quote) c = cond (c == quote) false (c == 62)
closes_part parts.AfterPublic c = c == 62
closes_part parts.BeforeSystem c = c == 62
closes_part (parts.System quote) c = cond (c == quote) false (c == 62)
closes_part parts.AfterSystem c = c == 62
closes_part (parts.BadRest force_quirks) c = c == 62

-- an id begins at its quote, and else a bad rest
abbrev pub id_part : DoctypePart → DoctypePart → ℕ → DoctypePart
id_part before id c = cond (is_space c) before (cond (is_quote c) id (parts.BadRest true))

-- the part after what stands after the name
abbrev pub word_part : Keyword → DoctypePart
word_part keywords.Public = parts.BeforePublic
word_part keywords.System = parts.BeforeSystem
word_part keywords.Other = parts.BadRest true

-- The part after a code point that closes nothing, by the keyword that stands there (HTML 13.2.5.53 to 13.2.5.68).
abbrev pub part_after : DoctypePart → ℕ → Keyword → DoctypePart
part_after parts.BeforeName c keyword = cond (is_space c) parts.BeforeName parts.Name
part_after parts.Name c keyword = cond (is_space c) parts.AfterName parts.Name
part_after parts.AfterName c keyword = cond (is_space c) parts.AfterName (word_part keyword)
part_after parts.BeforePublic c keyword = id_part parts.BeforePublic (parts.Public c) c
part_after (parts.Public quote) c keyword = cond (c == quote) parts.AfterPublic (parts.Public quote)
part_after parts.AfterPublic c keyword = id_part parts.AfterPublic (parts.System c) c
part_after parts.BeforeSystem c keyword = id_part parts.BeforeSystem (parts.System c) c
part_after (parts.System quote) c keyword = cond (c == quote) parts.AfterSystem (parts.System quote)
part_after parts.AfterSystem c keyword = cond (is_space c) parts.AfterSystem (parts.BadRest false)
part_after (parts.BadRest force_quirks) c keyword = parts.BadRest force_quirks

-- how many code points of a keyword follow its first
abbrev pub word_rest : Bool → ℕ
word_rest true = 5
word_rest false = 0

-- The errors of the rest of a doctype from a part on, whose white space or none was read last, after so many code points of a keyword (HTML 13.2.5.53 to 13.2.5.68).
unfoldable pub doctype_errors : DoctypePart → Bool → ℕ → ℕ → List ℕ → List Fault
doctype_errors part spaced k place [] = doctype_told part spaced place []
doctype_errors part spaced zero place (c ∷ rest) =
    doctype_told part spaced place (c ∷ rest)
    ++ cond (closes_part part c) []
    (doctype_errors (part_after part c (keyword_at (c ∷ rest))) (is_space c) (word_rest (begins_keyword part (keyword_at (c ∷ rest)))) (place + 1) rest)
doctype_errors part spaced (suc k) place (c ∷ rest) = doctype_errors part spaced k (place + 1) rest

-- the errors of a doctype that is being read, where this is the whole rest of the text
abbrev pub draft_errors : DoctypeDraft → ℕ → List ℕ → List Fault
draft_errors d place text = doctype_errors d.part d.spaced 0 place text

-- so many code points are passed, and the errors of the first are told
abbrev pub PassesErrors : DoctypeDraft → Input → ℕ → DoctypeDraft → Type 0
PassesErrors old input n new = (place : ℕ) (more : List ℕ) → MayFollow input.finished more →
    draft_errors old place (input.queue.items ++ more) ≡ doctype_told old.part old.spaced place (input.queue.items ++ more) ++ draft_errors new (place + n) (drop n input.queue.items ++ more)

-- what the front of the rest tells, and what it leaves to be told
abbrev pub MovesDoctype : DoctypeDraft → Input → DoctypeReading → DoctypeDraft → Type 0
MovesDoctype old input More new =
    PassesErrors old input 1 new × ((place : ℕ) (more : List ℕ) → MayFollow input.finished more → doctype_told old.part old.spaced place (input.queue.items ++ more) ≡ doctype_front_errors old.part old.spaced (slice_get (input.queue.items ++ more) 0) place)
MovesDoctype old input (Word n) new =
    PassesErrors old input n new × ((place : ℕ) (more : List ℕ) → MayFollow input.finished more → doctype_told old.part old.spaced place (input.queue.items ++ more) ≡ [])
MovesDoctype old input (Closed force_quirks n) new =
    ((place : ℕ) (more : List ℕ) → MayFollow input.finished more → draft_errors old place (input.queue.items ++ more) ≡ doctype_told old.part old.spaced place (input.queue.items ++ more))
    × ((place : ℕ) (more : List ℕ) → MayFollow input.finished more → doctype_told old.part old.spaced place (input.queue.items ++ more) ≡ doctype_front_errors old.part old.spaced (slice_get (input.queue.items ++ more) 0) place)
MovesDoctype old input Wait new = Unit {0}

-- The part after one code point, outside of keywords; or the doctype closes there.
abbrev pub MovesPart : DoctypeDraft → ℕ → Option Bool → DoctypeDraft → Type 0
MovesPart old c None new = (closes_part old.part c ≡ false) × ((keyword : Keyword) → new.part ≡ part_after old.part c keyword) × (new.spaced ≡ old.spaced)
MovesPart old c (Some force_quirks) new = closes_part old.part c ≡ true
