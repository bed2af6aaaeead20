-- Claimed.
-- What is said of the text after a token: what its fate says; and, where foreign content was made or is the context, whether it is read as that of
-- foreign content (13.2.6.2, 13.2.6.4, and 13.2.5.42).
use Rattle.std.specs.Prelude.{◌≡◌, ◌&&◌, ◌||◌, ℕ, Bool, true, false, not, List, [], ◌∷◌, is_some, Option, Some, None, if◌then◌else◌}
use Rattle.html_arena.specs.declared.arena.Limits.{Limits}
use Rattle.html_names.specs.declared.tag.Tag.{Tag}
use Rattle.html_tokens.specs.declared.token.TextMode.{TextMode}
use Rattle.html_tokens.specs.declared.token.TextMode.TheVariants.{Data, Foreign}
use Rattle.html_tokens.specs.declared.token.TokenKind.{TokenKind}
use Rattle.html_tokens.specs.Tokens.{mode_after_kind}
use Rattle.html_ledger.specs.declared.setting.Setting.{Setting}
use Rattle.html_ledger.specs.Runs.{last_of}
use Rattle.html_ledger.specs.Symbols.{symbol_of}
use Rattle.html_construction.specs.declared.mode.Mode.{Mode}
use Rattle.html_construction.specs.declared.mode.Mode.TheVariants as mode
use Rattle.html_construction.specs.Beginning.{IsFirst}
use Rattle.html_construction.specs.Built.{chars_of}
use Rattle.html_construction.specs.Foreign.{foreign_tag}
use Rattle.html_construction.specs.States.{State}
use Rattle.html_modes.specs.Dispatching.{Constructs, Entries, begun}
use Rattle.html_builder.specs.Builders.{BuilderState}
use Rattle.html_builder.specs.Switches.{switch_after}

-- the first that says something
abbrev pub or_said : Option TextMode → Option TextMode → Option TextMode
or_said (Some m) other = Some m
or_said None other = other

-- data of foreign content where there is such a node, and else data
abbrev pub mode_at : Option Tag → TextMode
mode_at (Some t) = Foreign
mode_at None = Data

-- where foreign content was made or is the context: by the adjusted current node
abbrev pub said_of : State → Option TextMode
said_of a = if a.ledger.history.foreign then Some (mode_at (foreign_tag a)) else None

-- after a token that was taken: what its fate says, or else by the adjusted current node then
abbrev pub said_after_in : TokenKind → State → Option TextMode
said_after_in token a = or_said (switch_after token (last_of a.ledger.fates)) (said_of a)

abbrev pub said_in : TokenKind → BuilderState → Option TextMode
said_in token b = said_after_in token b.page

-- A token says of the text after it, which until then is read in this mode, what leads to the mode that the state after it asks for: so a code point may as well
-- say nothing, where that changes nothing.
abbrev pub Says : TextMode → TokenKind → State → Option TextMode → Type 0
Says mode token a said = mode_after_kind token said mode ≡ mode_after_kind token (said_after_in token a) mode

-- Tree construction takes these tokens one after another, each through its entries, from the one state to the other; and each says this of the text after it, where
-- that after the first is read in this mode until then.
abbrev pub Reads : TextMode → List TokenKind → List (Option TextMode) → State → State → Type 0
Reads mode [] [] a z = begun a ≡ begun z
Reads mode (t ∷ ts) (m ∷ ms) a z = (b : State) × Entries (symbol_of t) t (begun a) b × Says mode t b m × Reads (mode_after_kind t m mode) ts ms b z
Reads mode _ _ a z = ⊥

-- the mode in which the text after these tokens is read
abbrev pub mode_by : TextMode → List TokenKind → List (Option TextMode) → TextMode
mode_by mode (t ∷ ts) (m ∷ ms) = mode_by (mode_after_kind t m mode) ts ms
mode_by mode _ _ = mode

-- The rules lead to the state of a builder from the beginning, through these tokens, each of which says this. Where the text is read as data of foreign content, the
-- adjusted current node is one of foreign content.
pub record HasSaid (s : Setting) (limits : Option Limits) (mode : TextMode) (tokens : List TokenKind) (said : List (Option TextMode)) (b : BuilderState) : Type 0 where
  pub first : State
  pub begins : IsFirst s limits first
  pub parses : first.parses_foreign ≡ b.page.parses_foreign
  pub reads : Reads mode tokens said first b.page
  pub where_foreign : mode_by mode tokens said ≡ Foreign → is_some (foreign_tag b.page) ≡ true

-- No code points lead from here into foreign content: the adjusted current node is none of it, and is none after any of them.
abbrev pub StaysHtml : BuilderState → Type 0
StaysHtml b = (text : List ℕ) (z : State) → Constructs (chars_of text) b.page z → foreign_tag z ≡ None

-- the modes in which a code point closes no element, and opens none but clones of formatting elements
abbrev pub is_steady : Mode → Bool
is_steady mode.Initial = false
is_steady mode.BeforeHtml = false
is_steady mode.BeforeHead = false
is_steady mode.InHead = false
is_steady mode.InHeadNoscript = false
is_steady mode.AfterHead = false
is_steady mode.InColumnGroup = false
is_steady _ = true

-- Where a builder knows it: where no element of foreign content was made and none is the context; and in these modes, where the adjusted current node is none of it.
abbrev pub stays_html : BuilderState → Bool
stays_html b = not b.page.ledger.history.foreign || (not b.stopped && (is_steady b.page.mode && not (is_some (foreign_tag b.page))))
