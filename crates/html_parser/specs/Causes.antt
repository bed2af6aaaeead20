-- Claimed.
-- Why an input was refused.
use Rattle.std.specs.Prelude.{◌≡◌, ◌⊎◌, ℕ, ◌<◌, Bool, true, false, List, ◌∷◌, ◌++◌, length, Option, None, Some}
use Rattle.html_input.specs.Decode.{decode, code_points}
use Rattle.html_input.specs.declared.error.InputError.{InputError}
use Rattle.html_input.specs.declared.error.InputError.TheVariants as input
use Rattle.html_tokens.specs.Input.{MayFollow}
use Rattle.html_tokens.specs.Stream.{tokens_of}
use Rattle.html_tokens.specs.declared.token.TextMode.{TextMode}
use Rattle.html_tokens.specs.declared.token.Token.{Token}
use Rattle.html_tokens.specs.declared.token.TokenKind.{TokenKind}
use Rattle.html_tokens.specs.declared.tokenizer.TokenError.{TokenError}
use Rattle.html_tokens.specs.declared.tokenizer.TokenError.TheVariants as tokens
use Rattle.html_arena.specs.declared.arena.ArenaError.{ArenaError}
use Rattle.html_arena.specs.declared.arena.ArenaError.TheVariants as arena
use Rattle.html_arena.specs.declared.arena.Limits.{Limits}
use Rattle.html_ledger.specs.declared.fate.Fate.{Fate}
use Rattle.html_construction.specs.Budgets.{IsPassed}
use Rattle.html_construction.specs.States.{State}
use Rattle.html_builder.specs.Handed.{HaveFates, Starts, foreign_tag}
use Rattle.html_builder.specs.declared.error.BuildError.{BuildError}
use Rattle.html_builder.specs.declared.error.BuildError.TheVariants as build
use Rattle.html_modes.specs.declared.outcome.Foreign.{Foreign as Root}
use Rattle.html_parser.specs.Kinds.{kinds}
use Rattle.html_parser.specs.Said.{AreSaid}
use Rattle.html_parser.specs.Spent.{IsSpent}
use Rattle.html_parser.specs.Start.{Start, most_input, text_start}
use Rattle.html_parser.specs.declared.options.Foreign.TheVariants.{Refuse}
use Rattle.html_parser.specs.declared.error.ParseError.{ParseError}
use Rattle.html_parser.specs.declared.error.ParseError.TheVariants.{OutOfMemory, InputTooLong, ForeignContent, BadContext, Stopped, NodeBudget, HeldBudget, StepBudget}

-- REFUSALS OF THE LAYERS BELOW, AS THE PARSER TELLS THEM

abbrev pub input_cause : InputError → ParseError
input_cause input.OutOfMemory = OutOfMemory
input_cause input.InputTooLong = InputTooLong
input_cause input.Stopped = Stopped

abbrev pub token_cause : TokenError → ParseError
token_cause tokens.OutOfMemory = OutOfMemory
token_cause tokens.Stopped = Stopped

abbrev pub build_cause : BuildError → ParseError
build_cause build.OutOfMemory = OutOfMemory
build_cause (build.ForeignContent name at) = ForeignContent name at
build_cause build.BadContext = BadContext
build_cause build.Stopped = Stopped
build_cause (build.NodeBudget at) = NodeBudget at
build_cause (build.HeldBudget at) = HeldBudget at

-- WHAT THEY SAY OF THE INPUT

-- A token of a text that begins at a place, behind tokens of which all but the last code points have fates that they may have; however the
-- text goes on, unless it is whole.
pub record IsTokenAt (start : Start) (finished : Bool) (text : List ℕ) (at : ℕ) : Type 0 where
  pub before : List Token
  pub fates : List Fate
  pub token : Token
  pub fated : HaveFates start.setting (kinds before) fates
  pub said : List (Option TextMode)
  pub are_said : AreSaid start.setting (kinds before) fates said
  pub listed : (more : List ℕ) (switches : List (Option TextMode)) → MayFollow finished more
      → (later : List Token) × (tokens_of (text ++ more) (said ++ None ∷ switches) (text_start start) ≡ before ++ token ∷ later)
  pub place : token.span.start ≡ at

-- The same, a start tag of foreign content, where that is refused.
pub record IsForeignAt (start : Start) (finished : Bool) (text : List ℕ) (name : Root) (at : ℕ) : Type 0 where
  pub token : IsTokenAt start finished text at
  pub foreign : Starts (foreign_tag name) token.token.kind
  pub refused : start.foreign ≡ Refuse

-- a text with which the text of the bytes begins, however they go on
abbrev pub IsFront : List ℕ → List ℕ → Type 0
IsFront bytes text = (more : List ℕ) → (rest : List ℕ) × (decode (bytes ++ more) ≡ text ++ rest)

-- There are limits.
abbrev pub HasLimits : Start → Type 0
HasLimits start = (l : Limits) × (start.limits ≡ Some l)

-- A token that a budget refused: in some state of tree construction what was to be added next for the token would have passed that limit. (That it was the parser's own
-- state is said where the parser is at hand: `IsToldIn`.)
pub record IsPassedAt (start : Start) (finished : Bool) (text : List ℕ) (limit : ArenaError) (at : ℕ) : Type 0 where
  pub token : IsTokenAt start finished text at
  pub state : State
  pub passed : IsPassed start.limits token.token.kind state limit

-- A token before which more steps were counted than the limit.
pub record IsSpentBefore (start : Start) (finished : Bool) (text : List ℕ) (at : ℕ) : Type 0 where
  pub token : IsTokenAt start finished text at
  pub spent : IsSpent start text token.before

-- The end of a text that is whole, of which all tokens were taken, after which more steps were counted than the limit.
pub record IsSpentAtEnd (start : Start) (finished : Bool) (text : List ℕ) (at : ℕ) : Type 0 where
  pub whole : finished ≡ true
  pub place : at ≡ length text
  pub switches : List (Option TextMode)
  pub spent : IsSpent start text (tokens_of text switches (text_start start))

-- Why a token of a text, which is whole or goes on, was refused: for want of memory, for foreign content that is refused, or for a limit, where there are
-- limits: one that what was to be added next would have passed, or that was passed by the steps so far.
abbrev pub IsTokenCause : Start → Bool → List ℕ → ParseError → Type 0
IsTokenCause start finished text OutOfMemory = Unit {0}
IsTokenCause start finished text (ForeignContent name at) = IsForeignAt start finished text name at
IsTokenCause start finished text (NodeBudget at) = IsPassedAt start finished text arena.NodeBudget at × HasLimits start
IsTokenCause start finished text (HeldBudget at) = IsPassedAt start finished text arena.HeldBudget at × HasLimits start
IsTokenCause start finished text (StepBudget at) = (IsSpentBefore start finished text at ⊎ IsSpentAtEnd start finished text at) × HasLimits start
IsTokenCause start finished text _ = ⊥

-- Why a piece was refused, by the bytes so far, that piece's included.
abbrev pub IsFeedCause : Start → List ℕ → ParseError → Type 0
IsFeedCause start bytes InputTooLong = (more : List ℕ) → most_input start < length (code_points (bytes ++ more))
IsFeedCause start bytes e = (text : List ℕ) × IsFront bytes text × IsTokenCause start false text e

-- Why an input was refused, by all its bytes.
abbrev pub IsCause : Start → List ℕ → ParseError → Type 0
IsCause start bytes InputTooLong = most_input start < length (code_points bytes)
IsCause start bytes e = IsTokenCause start true (decode bytes) e

-- The same of a parser that is at hand: a budget of nodes or of held code points is told only where, in this state of tree construction, what was to be added next for some
-- token would have passed that limit.
abbrev pub IsToldIn : Option Limits → State → ParseError → Type 0
IsToldIn limits a (NodeBudget at) = (t : TokenKind) × IsPassed limits t a arena.NodeBudget
IsToldIn limits a (HeldBudget at) = (t : TokenKind) × IsPassed limits t a arena.HeldBudget
IsToldIn limits a _ = Unit {0}
