-- Claimed, but for this crate's own functions: keyword_len, new_doctype, ReadsPart, EndsPart, PassesIn, ReadsDoctype.
-- A doctype: its name and ids, and where it closes (HTML 13.2.5.53 to 13.2.5.68). Each part runs to its first closing mark.
use Rattle.std.specs.Prelude.{◌≡◌, ℕ, ◌+◌, ◌≤◌, ◌<◌, List, [], ◌∷◌, ◌++◌, length, map, drop, Bool, true, false, ◌||◌, ◌==◌, ◌&&◌, cond, not, Option, Some, None, slice_get}
use Rattle.html_tokens.specs.Cut.{cut, is, mark_if, greater_mark, null_replaced, stop_mark, is_space, ends_unquoted}
use Rattle.html_tokens.specs.Tag.{name_char}
use Rattle.html_tokens.specs.Marks.{is_lowered}
use Rattle.html_tokens.specs.Input.{MayFollow, IsShort}
use Rattle.html_tokens.specs.declared.input.Input.{Input}
use Rattle.html_tokens.specs.declared.doctype.Keyword.{Keyword}
use Rattle.html_tokens.specs.declared.doctype.Keyword.TheVariants as keywords
use Rattle.html_tokens.specs.declared.doctype.DoctypePart.{DoctypePart}
use Rattle.html_tokens.specs.declared.doctype.DoctypePart.TheVariants as parts
use Rattle.html_tokens.specs.declared.doctype.DoctypeDraft.{DoctypeDraft}
use Rattle.html_tokens.specs.declared.doctype.DoctypeReading.{DoctypeReading}
use Rattle.html_tokens.specs.declared.doctype.DoctypeReading.TheVariants.{More, Keyword as Word, Closed, Wait}

-- The name and the ids. One that isn't there is absent, not empty.
pub record Ids : Type 0 where
  pub name : Option (List ℕ)
  pub public_id : Option (List ℕ)
  pub system_id : Option (List ℕ)

-- a doctype, and how many code points it is
pub record Doctype : Type 0 where
  pub ids : Ids
  pub force_quirks : Bool
  pub len : ℕ

abbrev pub no_ids : Ids
no_ids = record { name = None; public_id = None; system_id = None }

abbrev pub with_name : List ℕ → Ids → Ids
with_name name ids = record { name = Some name; public_id = ids.public_id; system_id = ids.system_id }

abbrev pub with_public : List ℕ → Ids → Ids
with_public id ids = record { name = ids.name; public_id = Some id; system_id = ids.system_id }

abbrev pub with_system : List ℕ → Ids → Ids
with_system id ids = record { name = ids.name; public_id = ids.public_id; system_id = Some id }

-- the doctype closes here, after so many code points more
abbrev pub closes : Ids → Bool → ℕ → Doctype
closes ids force_quirks len = record { ids = ids; force_quirks = force_quirks; len = len }

abbrev pub longer_doctype : ℕ → Doctype → Doctype
longer_doctype n d = record { ids = d.ids; force_quirks = d.force_quirks; len = n + d.len }

abbrev pub not_space : ℕ → Bool
not_space c = not (is_space c)

-- after white space that may be missing
abbrev pub after_spaces : (List ℕ → Doctype) → List ℕ → Doctype
after_spaces next text = let n = (cut (stop_mark not_space) text).len in longer_doctype n (next (drop n text))

-- A name or id runs up to the mark where it ends; this front of it was read. What stands there follows.
abbrev pub up_to : (ℕ → ℕ) → (List ℕ → Option ℕ) → (List ℕ → List ℕ → Doctype) → List ℕ → List ℕ → Doctype
up_to code mark next front text = let found = cut mark text in longer_doctype found.len (next (front ++ map code found.before) (drop found.len text))

-- A rest that is dropped, up to the first `>` (HTML 13.2.5.68). That it ends with the input changes nothing.
abbrev pub bad_rest : Ids → Bool → List ℕ → Doctype
bad_rest ids force_quirks text = closes ids force_quirks (cut greater_mark text).len

-- after the system id (HTML 13.2.5.67)
abbrev pub after_system : Ids → List ℕ → Doctype
after_system ids [] = closes ids true 0
after_system ids (c ∷ rest) = cond (c == 62) (closes ids false 1) (bad_rest ids false (c ∷ rest))

-- an id ends before its quote, and before a `>`
abbrev pub id_mark : ℕ → List ℕ → Option ℕ
id_mark quote text = mark_if (is quote (slice_get text 0) || is 62 (slice_get text 0)) 0 None

-- what stands where an id has ended: its quote, and what follows it; or a `>`, or the end
abbrev pub id_end : ℕ → Ids → (List ℕ → Doctype) → List ℕ → Doctype
id_end quote ids next [] = closes ids true 0
id_end quote ids next (c ∷ rest) = cond (c == quote) (longer_doctype 1 (next rest)) (closes ids true 1)

-- what follows a system id, from where it ends
abbrev pub system_end : Ids → ℕ → List ℕ → List ℕ → Doctype
system_end ids quote id text = id_end quote (with_system id ids) (after_spaces (after_system (with_system id ids))) text

-- The system id (HTML 13.2.5.65, 13.2.5.66), of which this front was read.
abbrev pub system_id : Ids → ℕ → List ℕ → List ℕ → Doctype
system_id ids quote front text = up_to null_replaced (id_mark quote) (system_end ids quote) front text

abbrev pub is_quote : ℕ → Bool
is_quote c = c == 34 || c == 39

-- the opening quote of an id, or something else
abbrev pub quoted : (ℕ → List ℕ → Doctype) → Doctype → ℕ → List ℕ → Doctype
quoted id other c rest = cond (is_quote c) (longer_doctype 1 (id c rest)) other

-- after the public id: perhaps a system id (HTML 13.2.5.61, 13.2.5.62)
abbrev pub after_public : Ids → List ℕ → Doctype
after_public ids [] = closes ids true 0
after_public ids (c ∷ rest) = cond (c == 62) (closes ids false 1) (quoted (λ quote text. system_id ids quote [] text) (bad_rest ids true (c ∷ rest)) c rest)

-- what follows a public id, from where it ends
abbrev pub public_end : Ids → ℕ → List ℕ → List ℕ → Doctype
public_end ids quote id text = id_end quote (with_public id ids) (after_spaces (after_public (with_public id ids))) text

-- The public id (HTML 13.2.5.59, 13.2.5.60), of which this front was read.
abbrev pub public_id : Ids → ℕ → List ℕ → List ℕ → Doctype
public_id ids quote front text = up_to null_replaced (id_mark quote) (public_end ids quote) front text

-- after a keyword an id has to stand
abbrev pub wanted : Ids → (ℕ → List ℕ → Doctype) → List ℕ → Doctype
wanted ids id [] = closes ids true 0
wanted ids id (c ∷ rest) = cond (c == 62) (closes ids true 1) (quoted id (bad_rest ids true (c ∷ rest)) c rest)

-- after `PUBLIC` (HTML 13.2.5.57, 13.2.5.58)
abbrev pub wanted_public : Ids → List ℕ → Doctype
wanted_public ids text = wanted ids (λ quote rest. public_id ids quote [] rest) text

-- after `SYSTEM` (HTML 13.2.5.63, 13.2.5.64)
abbrev pub wanted_system : Ids → List ℕ → Doctype
wanted_system ids text = wanted ids (λ quote rest. system_id ids quote [] rest) text

-- this word stands at a place, in any ASCII case
abbrev pub spells_word : List ℕ → ℕ → List ℕ → Bool
spells_word [] at text = true
spells_word (n ∷ ns) at text = is_lowered n (slice_get text at) && spells_word ns (at + 1) text

-- `doctype`
abbrev pub doctype_word : List ℕ
doctype_word = 100 ∷ 111 ∷ 99 ∷ 116 ∷ 121 ∷ 112 ∷ 101 ∷ []

-- `public`
abbrev pub public_word : List ℕ
public_word = 112 ∷ 117 ∷ 98 ∷ 108 ∷ 105 ∷ 99 ∷ []

-- `system`
abbrev pub system_word : List ℕ
system_word = 115 ∷ 121 ∷ 115 ∷ 116 ∷ 101 ∷ 109 ∷ []

-- the keyword that stands here, if one does
abbrev pub keyword_at : List ℕ → Keyword
keyword_at text = cond (spells_word public_word 0 text) keywords.Public (cond (spells_word system_word 0 text) keywords.System keywords.Other)

-- how many code points have to be there
abbrev pub keyword_len : Keyword → ℕ
keyword_len keywords.Public = 6
keyword_len keywords.System = 6
keyword_len keywords.Other = 0

abbrev pub after_keyword : Ids → Keyword → List ℕ → Doctype
after_keyword ids keywords.Public text = longer_doctype 6 (after_spaces (wanted_public ids) (drop 6 text))
after_keyword ids keywords.System text = longer_doctype 6 (after_spaces (wanted_system ids) (drop 6 text))
after_keyword ids keywords.Other text = bad_rest ids true text

-- after the name (HTML 13.2.5.56)
abbrev pub after_name : Ids → List ℕ → Doctype
after_name ids [] = closes ids true 0
after_name ids (c ∷ rest) = cond (c == 62) (closes ids false 1) (after_keyword ids (keyword_at (c ∷ rest)) (c ∷ rest))

-- what follows a name
abbrev pub name_end : Ids → List ℕ → List ℕ → Doctype
name_end ids name text = after_spaces (after_name (with_name name ids)) text

-- A name runs to white space or `>` (HTML 13.2.5.55); this front of it was read.
abbrev pub named : Ids → List ℕ → List ℕ → Doctype
named ids front text = up_to name_char (stop_mark ends_unquoted) (name_end ids) front text

-- a name, or none (HTML 13.2.5.54)
abbrev pub name_or_end : Ids → List ℕ → Doctype
name_or_end ids [] = closes ids true 0
name_or_end ids (c ∷ rest) = cond (c == 62) (closes ids true 1) (named ids [] (c ∷ rest))

-- the doctype that stands here, after `<!DOCTYPE` (HTML 13.2.5.53)
abbrev pub doctype_of : List ℕ → Doctype
doctype_of text = after_spaces (name_or_end no_ids) text

-- what is known so far
abbrev pub ids_of : DoctypeDraft → Ids
ids_of d = record { name = d.name; public_id = d.public; system_id = d.system }

-- the doctype that a part comes to, where this is the whole rest of the text
abbrev pub part_doctype : DoctypePart → Ids → List ℕ → List ℕ → Doctype
part_doctype parts.BeforeName ids front text = after_spaces (name_or_end ids) text
part_doctype parts.Name ids front text = named ids front text
part_doctype parts.AfterName ids front text = after_spaces (after_name ids) text
part_doctype parts.BeforePublic ids front text = after_spaces (wanted_public ids) text
part_doctype (parts.Public quote) ids front text = public_id ids quote front text
part_doctype parts.AfterPublic ids front text = after_spaces (after_public ids) text
part_doctype parts.BeforeSystem ids front text = after_spaces (wanted_system ids) text
part_doctype (parts.System quote) ids front text = system_id ids quote front text
part_doctype parts.AfterSystem ids front text = after_spaces (after_system ids) text
part_doctype (parts.BadRest force_quirks) ids front text = bad_rest ids force_quirks text

abbrev pub draft_doctype : DoctypeDraft → List ℕ → Doctype
draft_doctype d text = part_doctype d.part (ids_of d) d.text text

-- a doctype of which nothing has been read
abbrev pub new_doctype : DoctypeDraft → ℕ → Type 0
new_doctype d start = (d.start ≡ start) × (d.part ≡ parts.BeforeName) × (d.name ≡ None) × (d.public ≡ None) × (d.system ≡ None) × (d.spaced ≡ false)

-- The reading of one code point: it is passed, or the doctype closes there, and has force-quirks or not.
abbrev pub ReadsPart : DoctypeDraft → ℕ → Option Bool → DoctypeDraft → Type 0
ReadsPart old c None new =
    ((rest : List ℕ) → draft_doctype old (c ∷ rest) ≡ longer_doctype 1 (draft_doctype new rest)) × (new.start ≡ old.start)
ReadsPart old c (Some force_quirks) new =
    ((rest : List ℕ) → draft_doctype old (c ∷ rest) ≡ closes (ids_of new) force_quirks 1) × (new.start ≡ old.start)

-- the input ends
abbrev pub EndsPart : DoctypeDraft → Bool → DoctypeDraft → Type 0
EndsPart old force_quirks new = (draft_doctype old [] ≡ closes (ids_of new) force_quirks 0) × (new.start ≡ old.start)

-- so many code points are passed
abbrev pub PassesIn : DoctypeDraft → Input → ℕ → DoctypeDraft → Type 0
PassesIn old input n new =
    ((more : List ℕ) → MayFollow input.finished more → draft_doctype old (input.queue.items ++ more) ≡ longer_doctype n (draft_doctype new (drop n input.queue.items ++ more)))
    × (0 < n) × (n ≤ length input.queue.items) × (new.start ≡ old.start)

-- the reading of the front of the rest
abbrev pub ReadsDoctype : DoctypeDraft → Input → DoctypeReading → DoctypeDraft → Type 0
ReadsDoctype old input More new = PassesIn old input 1 new
ReadsDoctype old input (Word n) new = PassesIn old input n new
ReadsDoctype old input (Closed force_quirks n) new =
    ((more : List ℕ) → MayFollow input.finished more → draft_doctype old (input.queue.items ++ more) ≡ closes (ids_of new) force_quirks n)
    × (n ≤ length input.queue.items) × (new.start ≡ old.start)
ReadsDoctype old input Wait new = (new ≡ old) × IsShort input 8
