-- Claimed, but for this crate's own functions: reads_foreign, IsNotForeign.
-- What callers know of a builder: what it was begun with, the tokens handed in, and what became of them.
use Rattle.std.specs.Prelude.{◌≡◌, ℕ, ◌+◌, ◌*◌, ◌<◌, ◌≤◌, Bool, false, List, [], ◌∷◌, ◌++◌, length, is_some, Option, None, Some}
use Rattle.std.specs.List.{sum_by}
use Rattle.html_names.specs.declared.tag.Tag.{Tag}
use Rattle.html_names.specs.declared.tag.Tag.TheVariants as tag
use Rattle.html_names.specs.Names.{tag_of}
use Rattle.html_arena.specs.declared.arena.Limits.{Limits}
use Rattle.html_tokens.specs.declared.token.TokenKind.{TokenKind}
use Rattle.html_tokens.specs.declared.token.TokenKind.TheVariants as kind
use Rattle.html_tokens.specs.Cost.{own_len}
use Rattle.html_ledger.specs.declared.setting.Setting.{Setting}
use Rattle.html_ledger.specs.declared.fate.Fate.{Fate}
use Rattle.html_ledger.specs.Fated.{Fated}
use Rattle.html_construction.specs.declared.mode.Mode.{Mode}
use Rattle.html_construction.specs.Beginning.{IsFirst}
use Rattle.html_construction.specs.Begun.{IsFounded}
use Rattle.html_construction.specs.Built.{Handed as Given, IsBuilt, chars_of, symbols}
use Rattle.html_construction.specs.Copies.{implied_count, most_clones}
use Rattle.html_construction.specs.Foreign.{foreign_tag as foreign_tag_of}
use Rattle.html_construction.specs.States.{State}
use Rattle.html_construction.specs.Tokens.{attrs_of}
use Rattle.html_construction.specs.Weights.{weight}
use Rattle.html_modes.specs.declared.outcome.Foreign.{Foreign}
use Rattle.html_modes.specs.declared.outcome.Foreign.TheVariants.{Svg, Math}
use Rattle.html_modes.specs.Begun.{Gives, StaysOut, ignores_foreign}
use Rattle.html_modes.specs.Counting.{TakesEach}
use Rattle.html_modes.specs.Dispatching.{Constructs}
use Rattle.html_modes.specs.Ranks.{top_rank}
use Rattle.html_modes.specs.Steps.{allowance, fee_of, turn_of}
use Rattle.html_builder.specs.Builders.{BuilderState}
use Rattle.html_builder.specs.Plain.{IsPlainSoFar}
use Rattle.html_builder.specs.RawTexts.{StandSoFar}
use Rattle.html_builder.specs.declared.error.BuildError.{BuildError}
use Rattle.html_builder.specs.declared.error.BuildError.TheVariants as refusal

-- the fates given so far: one for each token, but for the last code points where they are kept
abbrev pub fates_of : BuilderState → List Fate
fates_of b = b.page.ledger.fates

-- a call was refused
abbrev pub is_stopped : BuilderState → Bool
is_stopped b = b.stopped

-- foreign content is parsed, and not refused
abbrev pub parses_foreign : BuilderState → Bool
parses_foreign b = b.page.parses_foreign

-- the adjusted current node is one of foreign content
abbrev pub reads_foreign : BuilderState → Bool
reads_foreign b = is_some (foreign_tag_of b.page)

-- what was handed in
abbrev pub given : Setting → Option Limits → List TokenKind → Given
given s limits tokens = record { setting = s; limits = limits; tokens = tokens; known = []; earlier = None; call = None }

-- how many attributes a token has, and tokens have together
abbrev pub attribute_count : TokenKind → ℕ
attribute_count token = length (attrs_of token)

abbrev pub attribute_total : List TokenKind → ℕ
attribute_total tokens = sum_by attribute_count tokens

-- the most steps in which attributes of tokens are compared with those of nodes
abbrev pub most_compared : List TokenKind → ℕ
most_compared tokens = 2 * (attribute_total tokens * attribute_total tokens * (length tokens + 1))

-- It was begun in this setting, within these limits, it was handed these tokens and refused none, and what it holds was built of them: its nodes, and
-- those for which the open elements and the mode are room, are no more than so many tokens grant; of one token's element there are ten clones at most
-- for each fate; and so are bounded the elements that no token asked for, and the steps that it counted: a fee for each fate, and for each token so many
-- entries into the rules, less those for which the open elements and the mode are still room. Where its mode is inside a select, or of a page of
-- frames, something leads there. Where the tokens begin those of a plain page, the tree is that page's so far. Each element that holds text alone holds
-- the text up to the next other token, or so far. And its state is that to which the rules lead from the beginning, through these tokens.
pub record Handed (s : Setting) (limits : Option Limits) (tokens : List TokenKind) (b : BuilderState) : Type 0 where
  pub going : b.stopped ≡ false
  pub built : IsBuilt (given s limits tokens) b.page
  pub paid : length b.page.tree.tree.labels + 2 * (weight b.page.stack + top_rank b.page.mode) ≤ 40 + 32 * length tokens + allowance (length b.page.ledger.fates)
  pub cloned : most_clones b.page.tree.tree.labels ≤ 10 * length b.page.ledger.fates
  pub implied : implied_count b.page.tree.tree.labels ≤ 1 + 16 * length tokens
  pub implied_paid : implied_count b.page.tree.tree.labels + (weight b.page.stack + top_rank b.page.mode) ≤ 15 + 16 * length tokens
  pub entered : b.entries + (weight b.page.stack + top_rank b.page.mode) ≤ 16 + 16 * length tokens
  pub counted : b.page.tree.steps + (weight b.page.stack + top_rank b.page.mode) * turn_of b.page
      ≤ length b.page.ledger.fates * fee_of b.page + (16 + 16 * length tokens) * turn_of b.page + most_compared tokens
  pub founded : IsFounded b.page
  pub plain : IsPlainSoFar s tokens b.page
  pub raw_texts : StandSoFar (symbols tokens) b.page.ledger.fates b.page
  pub first : State
  pub begins : IsFirst s limits first
  pub parses : first.parses_foreign ≡ b.page.parses_foreign
  pub constructs : Constructs tokens first b.page

-- These tokens were handed in.
abbrev pub HandsIn : List TokenKind → BuilderState → BuilderState → Type 0
HandsIn more a b = (s : Setting) (limits : Option Limits) (tokens : List TokenKind) → Handed s limits tokens a → Handed s limits (tokens ++ more) b

-- By the rules these tokens lead from the one state to the other.
abbrev pub LeadsTo : List TokenKind → BuilderState → BuilderState → Type 0
LeadsTo more a b = Constructs more a.page b.page

-- And each of these code points counts what it counts alone.
abbrev pub CountsEach : List ℕ → BuilderState → BuilderState → Type 0
CountsEach text a b = TakesEach text a.page b.page

-- Fates are only added.
abbrev pub AddsFates : BuilderState → BuilderState → Type 0
AddsFates a b = (s : Setting) (limits : Option Limits) (tokens : List TokenKind) → Handed s limits tokens a → (later : List Fate) × (fates_of b ≡ fates_of a ++ later)

-- Each fate that was given since is one that tokens may have in a call that begins in this mode: none is dropped as outside a select, outside a
-- frameset or outside a column group but where the mode is inside a select, of a page of frames, or that of a column group.
abbrev pub GivesFates : BuilderState → BuilderState → Type 0
GivesFates a b = (s : Setting) (limits : Option Limits) (tokens : List TokenKind) → Handed s limits tokens a → Gives a.page.mode (fates_of a) (fates_of b)

-- No mode inside a select, of a page of frames or of a column group was entered.
abbrev pub EntersNone : BuilderState → BuilderState → Type 0
EntersNone a b = StaysOut a.page.mode b.page.mode

-- The first of the tokens have these fates, which they may have; those that have none yet are code points.
pub record HaveFates (s : Setting) (tokens : List TokenKind) (fates : List Fate) : Type 0 where
  pub front : List TokenKind
  pub kept : List ℕ
  pub tokens_are : tokens ≡ front ++ chars_of kept
  pub fated : Fated s (symbols front) fates

-- the last of them is the end of the page
abbrev pub EndsAtEof : List TokenKind → Type 0
EndsAtEof tokens = (front : List TokenKind) × (tokens ≡ front ++ kind.Eof ∷ [])

-- WHY A TOKEN IS REFUSED

abbrev pub foreign_tag : Foreign → Tag
foreign_tag Svg = tag.Svg
foreign_tag Math = tag.Math

-- a start tag of this name
abbrev pub Starts : Tag → TokenKind → Type 0
Starts t (kind.Start name attrs self_closing) = tag_of name ≡ t
Starts t _ = ⊥

-- Foreign content is refused where it is not parsed alone.
abbrev pub IsForeignRefused : BuilderState → BuildError → Type 0
IsForeignRefused b (refusal.ForeignContent name place) = parses_foreign b ≡ false
IsForeignRefused b _ = Unit {0}

-- no foreign content is told
abbrev pub IsNotForeign : BuildError → Type 0
IsNotForeign (refusal.ForeignContent name place) = ⊥
IsNotForeign _ = Unit {0}

-- there are limits, of which this holds
abbrev pub AreSo : Option Limits → (Limits → Type 0) → Type 0
AreSo limits P = (l : Limits) × (limits ≡ Some l) × P l

-- there are limits
abbrev pub AreSet : Option Limits → Type 0
AreSet limits = (l : Limits) × (limits ≡ Some l)

-- The call for a token at this place was refused: for a start tag of foreign content, after tokens with the fates given so far; for a limit that was
-- set; or for want of memory, of which nothing can be said.
abbrev pub IsBuildCause : Setting → Option Limits → List TokenKind → List Fate → TokenKind → ℕ → BuildError → Type 0
IsBuildCause s limits tokens fates token at refusal.OutOfMemory = Unit {0}
IsBuildCause s limits tokens fates token at (refusal.ForeignContent name place) =
    (place ≡ at) × Starts (foreign_tag name) token × HaveFates s tokens fates
IsBuildCause s limits tokens fates token at (refusal.NodeBudget place) = (place ≡ at) × AreSet limits
IsBuildCause s limits tokens fates token at (refusal.HeldBudget place) = (place ≡ at) × AreSet limits
IsBuildCause s limits tokens fates token at refusal.BadContext = ⊥
IsBuildCause s limits tokens fates token at refusal.Stopped = ⊥

-- In a call that begins inside a select, or in a page of frames, no foreign content is told.
abbrev pub IsForeignOutside : Mode → BuildError → Type 0
IsForeignOutside m (refusal.ForeignContent name place) = ignores_foreign m ≡ false
IsForeignOutside m _ = Unit {0}

-- The call for code points of which the first stands at a place was refused: for a limit that was set, at the place of one of them; or for want of
-- memory.
abbrev pub IsTextCause : Setting → Option Limits → List TokenKind → List Fate → List ℕ → ℕ → BuildError → Type 0
IsTextCause s limits tokens fates text start refusal.OutOfMemory = Unit {0}
IsTextCause s limits tokens fates text start (refusal.NodeBudget place) = (start ≤ place) × (place < start + length text) × AreSet limits
IsTextCause s limits tokens fates text start (refusal.HeldBudget place) = (start ≤ place) × (place < start + length text) × AreSet limits
IsTextCause s limits tokens fates text start (refusal.ForeignContent name place) = ⊥
IsTextCause s limits tokens fates text start refusal.BadContext = ⊥
IsTextCause s limits tokens fates text start refusal.Stopped = ⊥

-- HOW LARGE IT IS

-- the code points that tokens hold together
abbrev pub own_total : List TokenKind → ℕ
own_total tokens = sum_by own_len tokens

-- how many start tags there are
abbrev pub start_one : TokenKind → ℕ
start_one (kind.Start name attrs self_closing) = 1
start_one (kind.End name) = 0
start_one (kind.Char c) = 0
start_one (kind.Comment text) = 0
start_one (kind.Doctype name public_text system_text force_quirks) = 0
start_one kind.Eof = 0

abbrev pub start_count : List TokenKind → ℕ
start_count tokens = sum_by start_one tokens

-- Tokens that a text of n code points can have: at most one more than code points, and no more start tags; together they hold no more, and have no more
-- attributes.
pub record CostAtMost (n : ℕ) (tokens : List TokenKind) : Type 0 where
  pub count : length tokens ≤ n + 1
  pub starts : start_count tokens ≤ n
  pub own : own_total tokens ≤ n
  pub attributes : attribute_total tokens ≤ n
