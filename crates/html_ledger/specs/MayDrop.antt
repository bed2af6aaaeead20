-- Claimed.
-- What each cause asks of a token that is dropped: over all the tokens before it and their fates (13.2.6).
use Rattle.std.specs.Prelude.{ℕ, ◌≡◌, ◌<◌, ◌⊎◌, Bool, true, false, not, ◌&&◌, ◌||◌, IsTrue, List, slice_get, Some}
use Rattle.std.specs.List.{list_all}
use Rattle.html_names.specs.declared.tag.Tag.{Tag}
use Rattle.html_names.specs.declared.tag.Tag.TheVariants as tag
use Rattle.html_names.specs.Groups.{is_page_part, is_placed, takes_newline, is_in_column_group}
use Rattle.html_ledger.specs.declared.symbol.Symbol.{Symbol}
use Rattle.html_ledger.specs.declared.symbol.Symbol.TheVariants.{Start, End, Char, Comment, Doctype, Eof}
use Rattle.html_ledger.specs.declared.setting.Setting.{Setting}
use Rattle.html_ledger.specs.declared.fate.Fate.{Fate}
use Rattle.html_ledger.specs.declared.fate.Cause.{Cause}
use Rattle.html_ledger.specs.declared.fate.Cause.TheVariants.{PrologSpace, Null, LeadingNewline, InSelect, InFrameset, Misplaced, InColumnGroup}
use Rattle.html_ledger.specs.Spaces.{is_space}
use Rattle.html_ledger.specs.Symbols.{named, starts, ends, is_char, is_space_char, is_visible_char}
use Rattle.html_ledger.specs.Settings.{is_document, is_fragment, context_is, has_form, is_foreign_context}
use Rattle.html_ledger.specs.Fates.{is_foreign, is_made}

-- a start tag whose name is such, of which an element was made
abbrev pub makes : (Tag → Bool) → Symbol → Fate → Bool
makes p token fate = is_made fate && starts p token

-- Some token before is such with its fate, and each token after that one is as asked.
pub record Since (such : Symbol → Fate → Bool) (later : Symbol → Bool) (before : List Symbol) (fates : List Fate) : Type 0 where
  pub at : ℕ
  pub token : Symbol
  pub fate : Fate
  pub token_is : slice_get before at ≡ Some token
  pub fate_is : slice_get fates at ≡ Some fate
  pub is_such : IsTrue (such token fate)
  pub kept : (k : ℕ) (t : Symbol) → at < k → slice_get before k ≡ Some t → IsTrue (later t)

-- any token
abbrev pub any_token : Symbol → Bool
any_token t = true

-- no token
abbrev pub no_token : Symbol → Bool
no_token t = false

-- An element of this name was made of a token before.
abbrev pub WasMade : Tag → List Symbol → List Fate → Type 0
WasMade x before fates = Since (makes (named x)) any_token before fates

-- a start tag of which an element of foreign content was made
abbrev pub embeds : Symbol → Fate → Bool
embeds (Start t) fate = is_foreign fate
embeds _ fate = false

-- An element of foreign content was made of a token before, or is the context.
abbrev pub MayBeForeign : Setting → List Symbol → List Fate → Type 0
MayBeForeign s before fates = Since embeds any_token before fates ⊎ IsTrue (is_foreign_context s)

-- the names of the roots of foreign content
abbrev pub is_foreign_root : Tag → Bool
is_foreign_root tag.Svg = true
is_foreign_root tag.Math = true
is_foreign_root _ = false

-- any token but the end tag of a select
abbrev pub ends_no_select : Symbol → Bool
ends_no_select t = not (ends (named tag.Select) t)

-- A select was made, and no end tag of one came since.
abbrev pub HasOpenSelect : List Symbol → List Fate → Type 0
HasOpenSelect before fates = Since (makes (named tag.Select)) ends_no_select before fates

-- The token just before made a pre, a listing or a textarea.
abbrev pub IgnoresLineFeed : List Symbol → List Fate → Type 0
IgnoresLineFeed before fates = Since (makes takes_newline) no_token before fates

-- A token before which a doctype may stand: a comment, or white space.
abbrev pub may_precede_doctype : Symbol → Bool
may_precede_doctype (Char c) = is_space c
may_precede_doctype Comment = true
may_precede_doctype _ = false

-- A doctype may stand here: in a document, after comments and white space alone.
abbrev pub AwaitsDoctype : Setting → List Symbol → Type 0
AwaitsDoctype s before = IsTrue (is_document s && list_all may_precede_doctype before)

-- A token before the head: white space, a comment, a doctype, a start tag html, and an end tag but of head, body, html and br.
abbrev pub may_precede_head : Symbol → Bool
may_precede_head (Start t) = named tag.Html t
may_precede_head (End t) = not (is_page_part t)
may_precede_head (Char c) = is_space c
may_precede_head Comment = true
may_precede_head Doctype = true
may_precede_head Eof = false

-- Before the head: in a document or in the context html, after such tokens alone.
abbrev pub InProlog : Setting → List Symbol → Type 0
InProlog s before = IsTrue ((is_document s || context_is tag.Html s) && list_all may_precede_head before)

-- The context is a select, or a select was made, and either a template too or no end tag of a select came since.
abbrev pub MayBeInSelect : Setting → List Symbol → List Fate → Type 0
MayBeInSelect s before fates =
    IsTrue (context_is tag.Select s) ⊎ ((WasMade tag.Select before fates × WasMade tag.Template before fates) ⊎ HasOpenSelect before fates)

-- The start tags that a select takes (13.2.6.4.16).
abbrev pub is_in_select : Tag → Bool
is_in_select tag.Html = true
is_in_select tag.Option = true
is_in_select tag.Optgroup = true
is_in_select tag.Hr = true
is_in_select tag.Script = true
is_in_select tag.Template = true
is_in_select _ = false

abbrev pub is_outside_select : Symbol → Bool
is_outside_select token = starts (λ t. not (is_in_select t)) token

-- The start tags that every mode of a page of frames takes (13.2.6.4.20 to 13.2.6.4.23).
abbrev pub is_in_frameset : Tag → Bool
is_in_frameset tag.Html = true
is_in_frameset tag.Noframes = true
is_in_frameset _ = false

abbrev pub is_outside_frameset : Symbol → Bool
is_outside_frameset token = is_visible_char token || starts (λ t. not (is_in_frameset t)) token

abbrev pub is_outside_column_group : Symbol → Bool
is_outside_column_group token = is_visible_char token || starts (λ t. not (is_in_column_group t)) token

-- A body and a table: misplaced where a template was made, and in a fragment (13.2.6.4.7 and 13.2.6.4.9).
abbrev pub is_body_or_table : Tag → Bool
is_body_or_table tag.Body = true
is_body_or_table tag.Table = true
is_body_or_table _ = false

-- A start tag of this name may be out of its place: by its name alone, or for what was made before and for the context.
abbrev pub MayBeMisplaced : Setting → List Symbol → List Fate → Tag → Type 0
MayBeMisplaced s before fates t =
    IsTrue (is_placed t)
    ⊎ ((IsTrue (named tag.Html t) × WasMade tag.Template before fates)
    ⊎ ((IsTrue (is_body_or_table t) × (WasMade tag.Template before fates ⊎ IsTrue (is_fragment s)))
    ⊎ ((IsTrue (named tag.Form t) × ((WasMade tag.Form before fates ⊎ IsTrue (has_form s)) ⊎ WasMade tag.Template before fates))
    ⊎ (IsTrue (named tag.Noscript t) × WasMade tag.Noscript before fates))))

-- The token may be misplaced: a doctype that may not stand here, or such a start tag.
abbrev pub Misplaces : Setting → List Symbol → List Fate → Symbol → Type 0
Misplaces s before fates Doctype = ¬ AwaitsDoctype s before
Misplaces s before fates (Start t) = MayBeMisplaced s before fates t
Misplaces s before fates _ = ⊥

-- The token after those may be dropped with this cause.
abbrev pub MayDrop : Setting → List Symbol → List Fate → Symbol → Cause → Type 0
MayDrop s before fates token PrologSpace = IsTrue (is_space_char token) × InProlog s before
MayDrop s before fates token Null = IsTrue (is_char 0 token)
MayDrop s before fates token LeadingNewline = IsTrue (is_char 10 token) × IgnoresLineFeed before fates
MayDrop s before fates token InSelect = IsTrue (is_outside_select token) × MayBeInSelect s before fates
MayDrop s before fates token InFrameset =
    IsTrue (is_outside_frameset token) × (WasMade tag.Frameset before fates ⊎ IsTrue (context_is tag.Frameset s))
MayDrop s before fates token Misplaced = Misplaces s before fates token
MayDrop s before fates token InColumnGroup =
    IsTrue (is_outside_column_group token) × (WasMade tag.Col before fates ⊎ IsTrue (context_is tag.Colgroup s))

-- The causes that hold in every insertion mode: a token of which they may be told is dropped so.
abbrev pub holds_in_each_mode : Cause → Bool
holds_in_each_mode PrologSpace = true
holds_in_each_mode LeadingNewline = true
holds_in_each_mode _ = false

abbrev pub MustDrop : Setting → List Symbol → List Fate → Symbol → Cause → Type 0
MustDrop s before fates token cause = IsTrue (holds_in_each_mode cause) × MayDrop s before fates token cause
