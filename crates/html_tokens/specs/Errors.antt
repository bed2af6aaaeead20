-- Claimed, but for this crate's own functions: end_told, region_told, soon_errors, begin_told, told_in, Opens, IsQuiet.
-- The parse errors of a text (HTML 13.2.2): those told of what a `<` begins (HTML 13.2.5.6, 13.2.5.7, 13.2.5.42, 13.2.5.43), those of fronts of text, and those inside of pieces.
use Rattle.std.specs.Prelude.{◌≡◌, ℕ, zero, suc, ◌+◌, ◌-◌, List, [], ◌∷◌, ◌++◌, length, drop, Bool, true, false, cond, Option, Some, nat_le, slice_get, is_none}
use Rattle.html_tokens.specs.AttrNames.{names_in}
use Rattle.html_tokens.specs.Cut.{is}
use Rattle.html_tokens.specs.Inside.{comment_errors, comment_told, doctype_errors, doctype_told, fault, null_errors, section_errors, section_told, tag_told}
use Rattle.html_tokens.specs.InsideReferences.{ampersand_told, begun_ref_errors, later_ref_errors, number_told, soon_ref_errors}
use Rattle.html_tokens.specs.InsideTags.{begun_tag_errors, part_told}
use Rattle.html_tokens.specs.Reference.{ref_opener, reference}
use Rattle.html_tokens.specs.Tag.{draft_tag}
use Rattle.html_tokens.specs.Marks.{begin_at, is_stop, region_in, stands}
use Rattle.html_tokens.specs.Tokens.{mode_after, name_after, next, opener}
use Rattle.html_charref.specs.declared.table.Row.{Row}
use Rattle.html_tokens.specs.declared.comment.CommentKind.TheVariants as comments
use Rattle.html_tokens.specs.declared.doctype.DoctypePart.TheVariants as parts
use Rattle.html_tokens.specs.declared.fault_name.FaultName.TheVariants as names
use Rattle.html_tokens.specs.declared.faults.Fault.{Fault}
use Rattle.html_tokens.specs.declared.faults.Faults.{Faults}
use Rattle.html_tokens.specs.declared.machine.State.{State}
use Rattle.html_tokens.specs.declared.machine.State.TheVariants.{Text, Number, Second, Ampersand, Comment, Doctype, Tag, Section, Ended}
use Rattle.html_tokens.specs.declared.token.Begin.{Begin}
use Rattle.html_tokens.specs.declared.token.Begin.TheVariants as begins
use Rattle.html_tokens.specs.declared.token.Opener.{Opener}
use Rattle.html_tokens.specs.declared.token.Opener.TheVariants as opens
use Rattle.html_tokens.specs.declared.token.Region.{Region}
use Rattle.html_tokens.specs.declared.token.Region.TheVariants.{Plain, Escaped, Double}
use Rattle.html_tokens.specs.declared.token.TextMode.{TextMode}

-- one error more, behind those that have no later place
unfoldable pub with_told : List Fault → Fault → List Fault
with_told [] f = f ∷ []
with_told (x ∷ more) f = cond (nat_le x.place f.place) (x ∷ with_told more f) (f ∷ x ∷ more)

-- errors told one after another, in order of their places, and at one place as they are told
unfoldable pub all_told : List Fault → List Fault → List Fault
all_told told [] = told
all_told told (f ∷ more) = all_told (with_told told f) more

-- `[CDATA[`
abbrev pub cdata_word : List ℕ
cdata_word = 91 ∷ 67 ∷ 68 ∷ 65 ∷ 84 ∷ 65 ∷ 91 ∷ []

-- it stands after two code points
abbrev pub is_cdata : List ℕ → Bool
is_cdata text = stands cdata_word 2 text

-- what `<` tells that begins no tag (HTML 13.2.5.6), or `</` at the end (HTML 13.2.5.7)
abbrev pub literal_error : Option ℕ → ℕ → Fault
literal_error b place =
    cond (is_none b) (fault names.EofBeforeTagName (place + 1))
    (cond (is 47 b) (fault names.EofBeforeTagName (place + 2)) (fault names.InvalidFirstCharacterOfTagName (place + 1)))

-- what begins a bogus comment: `<?` (HTML 13.2.5.6), `</` (HTML 13.2.5.7) or `<!` (HTML 13.2.5.42)
abbrev pub bogus_error : ℕ → List ℕ → Fault
bogus_error place text =
    cond (is 63 (slice_get text 1)) (fault names.UnexpectedQuestionMarkInsteadOfTagName (place + 1))
    (cond (is 47 (slice_get text 1)) (fault names.InvalidFirstCharacterOfTagName (place + 2))
    (cond (is_cdata text) (fault names.CdataInHtmlContent (place + 2)) (fault names.IncorrectlyOpenedComment (place + 2))))

-- what a `<` in data at a place tells by what it begins (HTML 13.2.5.6, 13.2.5.7, 13.2.5.42 to 13.2.5.44)
abbrev pub opening_errors : Opener → ℕ → List ℕ → List Fault
opening_errors opens.Literal place text = literal_error (slice_get text 1) place ∷ []
opening_errors opens.StartTag place text = []
opening_errors opens.EndTag place text = []
opening_errors opens.Empty place text = fault names.MissingEndTagName (place + 2) ∷ []
opening_errors (opens.Bogus opened) place text = bogus_error place text ∷ []
opening_errors opens.Comment place text = []
opening_errors (opens.ShortComment len) place text = fault names.AbruptClosingOfEmptyComment (place + len - 1) ∷ []
opening_errors opens.Doctype place text = []

-- what is told where a piece begins: of what a `<` begins in data, and of a `&`
abbrev pub piece_errors : List Row → Begin → ℕ → List ℕ → List Fault
piece_errors rows begins.Char place text = []
piece_errors rows begins.Markup place text = opening_errors (opener text) place text
piece_errors rows begins.EndMark place text = []
piece_errors rows begins.Reference place text = begun_ref_errors (ref_opener text) (reference rows text) place text
piece_errors rows begins.Section place text = []

-- the errors after what a `<` begins
abbrev pub opened_errors : List Row → Opener → ℕ → List ℕ → List Fault
opened_errors rows opens.Literal place text = []
opened_errors rows opens.StartTag place text = begun_tag_errors rows false 1 place text
opened_errors rows opens.EndTag place text = begun_tag_errors rows true 2 place text
opened_errors rows opens.Empty place text = []
opened_errors rows (opens.Bogus opened) place text = comment_errors comments.Bogus (place + opened) (drop opened text)
opened_errors rows opens.Comment place text = comment_errors comments.Declared (place + 4) (drop 4 text)
opened_errors rows (opens.ShortComment len) place text = []
opened_errors rows opens.Doctype place text = doctype_errors parts.BeforeName false 0 (place + 9) (drop 9 text)

-- the errors of a piece after what begins it
abbrev pub inside_errors : List Row → Begin → ℕ → List ℕ → List Fault
inside_errors rows begins.Char place text = []
inside_errors rows begins.Markup place text = opened_errors rows (opener text) place text
inside_errors rows begins.EndMark place text = begun_tag_errors rows true 2 place text
inside_errors rows begins.Reference place text = later_ref_errors (ref_opener text) rows place text
inside_errors rows begins.Section place text = section_errors (place + 9) (drop 9 text)

-- the end of the text in a region of script text: eof-in-script-html-comment-like-text where that is escaped (HTML 13.2.5.20 to 13.2.5.22, 13.2.5.27 to 13.2.5.29)
abbrev pub region_end_errors : Region → ℕ → List Fault
region_end_errors Plain place = []
region_end_errors Escaped place = fault names.EofInScriptHtmlCommentLikeText place ∷ []
region_end_errors Double place = fault names.EofInScriptHtmlCommentLikeText place ∷ []

-- The errors of the longest front that is text, by the regions: those of its code points, and of the end, where it is all of the rest.
unfoldable pub front_errors : TextMode → Region → Option (List ℕ) → ℕ → List ℕ → List Fault
front_errors mode region name place [] = region_end_errors region place
front_errors mode region name place (c ∷ rest) = cond (is_stop (begin_at mode region name (c ∷ rest))) [] (null_errors (Some c) place ++ front_errors mode (region_in mode region (c ∷ rest)) name (place + 1) rest)

-- The errors of the rest of a text at a place, after so many code points that belong to the piece before: those of its pieces.
unfoldable pub errors_after : List Row → ℕ → TextMode → Option (List ℕ) → ℕ → List ℕ → List (Option TextMode) → List Fault
errors_after rows passed mode name place [] switches = []
errors_after rows zero mode name place (c ∷ rest) switches =
    let first = next rows mode name place (c ∷ rest) in
    let begun = begin_at mode Plain name (c ∷ rest) in
    front_errors mode Plain name place (c ∷ rest)
    ++ (piece_errors rows begun place (c ∷ rest)
    ++ (inside_errors rows begun place (c ∷ rest)
    ++ errors_after rows (first.len - 1) (mode_after first.tokens switches mode) (name_after first.tokens name) (place + 1) rest (drop (length first.tokens) switches)))
errors_after rows (suc k) mode name place (c ∷ rest) switches = errors_after rows k mode name (place + 1) rest switches

-- what the end of the text tells in text of a region, where it stands here
abbrev pub end_told : ℕ → List ℕ → List Fault
end_told place [] = fault names.EofInScriptHtmlCommentLikeText place ∷ []
end_told place (c ∷ rest) = []

abbrev pub region_told : Region → ℕ → List ℕ → List Fault
region_told Plain place text = []
region_told Escaped place text = end_told place text
region_told Double place text = end_told place text

-- what of a piece a step tells with what begins it
abbrev pub soon_errors : List Row → Begin → ℕ → List ℕ → List Fault
soon_errors rows begins.Char place text = []
soon_errors rows begins.Markup place text = []
soon_errors rows begins.EndMark place text = []
soon_errors rows begins.Reference place text = soon_ref_errors (ref_opener text) rows place text
soon_errors rows begins.Section place text = []

-- what a step tells of what begins
abbrev pub begin_told : List Row → Begin → ℕ → List ℕ → List Fault
begin_told rows begins.Char place text = null_errors (slice_get text 0) place
begin_told rows begins.Markup place text = piece_errors rows begins.Markup place text
begin_told rows begins.EndMark place text = []
begin_told rows begins.Reference place text = piece_errors rows begins.Reference place text ++ soon_ref_errors (ref_opener text) rows place text
begin_told rows begins.Section place text = []

-- what a step tells in a state
abbrev pub told_in : List Row → State → TextMode → Option (List ℕ) → ℕ → List ℕ → List Fault
told_in rows (Text region) mode name place rest = region_told region place rest ++ begin_told rows (begin_at mode region name rest) place rest
told_in rows (Number draft) mode name place rest = number_told draft.base draft.value draft.start (slice_get rest 0)
told_in rows (Second c start) mode name place rest = []
told_in rows (Ampersand start) mode name place rest = ampersand_told start (slice_get rest 0) ++ begin_told rows (begin_at mode Plain name rest) place rest
told_in rows (Comment draft) mode name place rest = comment_told draft.kind place rest
told_in rows (Doctype draft) mode name place rest = doctype_told draft.part draft.spaced place rest
told_in rows (Tag draft) mode name place rest = part_told rows (names_in draft) draft.part place rest ++ tag_told draft.is_end place (draft_tag rows draft rest).tail
told_in rows Section mode name place rest = section_told place rest
told_in rows Ended mode name place rest = []

-- These errors were told, where none was lost.
abbrev pub Opens : List Fault → Faults → Faults → Type 0
Opens told old new = new.lost ≡ false → (old.lost ≡ false) × (new.list ≡ all_told old.list told)

-- None of them was told.
abbrev pub IsQuiet : Faults → Faults → Type 0
IsQuiet old new = new.lost ≡ false → (old.lost ≡ false) × (new.list ≡ old.list)
