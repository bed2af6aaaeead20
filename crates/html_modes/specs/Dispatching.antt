-- Claimed.
-- The tree construction dispatcher (13.2.6): which rules an entry of a token follows, and all the entries of a call.
use Rattle.std.specs.Prelude.{◌≡◌, ◌||◌, Bool, true, false, not, cond, List, [], ◌∷◌, length, Some, None}
use Rattle.html_names.specs.declared.tag.Tag.{Tag}
use Rattle.html_tokens.specs.declared.token.TokenKind.{TokenKind}
use Rattle.html_ledger.specs.declared.fate.Cause.{Cause}
use Rattle.html_ledger.specs.declared.symbol.Symbol.{Symbol}
use Rattle.html_ledger.specs.Flags.{may_select, must_drop}
use Rattle.html_ledger.specs.Symbols.{symbol_of}
use Rattle.html_construction.specs.declared.mode.Mode.TheVariants as mode
use Rattle.html_construction.specs.Modes.{is_of_frames, is_of_selects}
use Rattle.html_construction.specs.Plans.{Do, Plan}
use Rattle.html_construction.specs.States.{State}
use Rattle.html_construction.specs.Words.{Becomes, Switch, with_stack}
use Rattle.html_modes.specs.Foreign.{around_foreign, goes_on, stack_after}
use Rattle.html_modes.specs.Guards.{is_droppable, is_table_text}
use Rattle.html_modes.specs.RuleForms.{again, ignored}
use Rattle.html_modes.specs.Rules.{Follows, plan}
use Rattle.html_modes.specs.RulesForeign.{in_foreign}
use Rattle.html_modes.specs.declared.outcome.Outcome.{Outcome}
use Rattle.html_modes.specs.declared.outcome.Outcome.TheVariants.{Done, Reprocess}

-- GUARDS (own)

-- a start tag or a code point in a mode of selects or of frames, in a call that did not begin in such a mode, or without a select or a frameset seen
abbrev pub is_astray : State → Symbol → Bool
is_astray a y = cond (is_droppable y)
    (cond (is_of_selects a.mode) (not (is_of_selects a.began) || not (may_select a.ledger.history))
    (cond (is_of_frames a.mode) (not (is_of_frames a.began) || not a.ledger.history.frameset) false))
    false

-- such a mode without a select or a frameset seen
abbrev pub is_unfounded : State → Bool
is_unfounded a = cond (is_of_selects a.mode) (not (may_select a.ledger.history)) (cond (is_of_frames a.mode) (not a.ledger.history.frameset) false)

-- the mode after a call: in body, where nothing that was seen leads to the one that is set
abbrev pub settled : State → State
settled a = record a { mode = cond (is_unfounded a) mode.InBody a.mode }

-- ONE ENTRY

-- This plan was followed after the elements were closed that the rules for foreign content close.
pub record FollowsOn (p : Plan) (o : Outcome) (y : Symbol) (t : TokenKind) (a z : State) : Type 0 where
  pub middle : State
  pub left : Becomes (with_stack (stack_after a.tree y t) a) middle
  pub follows : Follows p t o middle z

-- By the dispatcher: a token that does not go by the rules for foreign content goes by those of the insertion mode; and so does one that those rules hand
-- on, after what they close. Any other stays in foreign content, and goes by those rules after what they close.
pub record IsDispatched (o : Outcome) (y : Symbol) (t : TokenKind) (a z : State) : Type 0 where
  pub by_mode : around_foreign a y t ≡ None → Follows (plan a.mode y) t o a z
  pub handed_on : (g : Tag) → around_foreign a y t ≡ Some g → goes_on a.tree y t ≡ true → FollowsOn (plan a.mode y) o y t a z
  pub stays : (g : Tag) → around_foreign a y t ≡ Some g → goes_on a.tree y t ≡ false → FollowsOn (in_foreign g y) o y t a z

-- An entry: in the mode in table text a token goes by its rules; else one that is ignored in every mode is ignored, one that is astray goes on in the mode
-- in body, and any other is dispatched.
pub record IsEntry (o : Outcome) (y : Symbol) (t : TokenKind) (a z : State) : Type 0 where
  pub kept : is_table_text a.mode ≡ true → Follows (plan a.mode y) t o a z
  pub ignored_by_all : (cause : Cause) → is_table_text a.mode ≡ false → must_drop a.ledger.history y ≡ Some cause → Follows (ignored cause) t o a z
  pub astray : is_table_text a.mode ≡ false → must_drop a.ledger.history y ≡ None → is_astray a y ≡ true → Follows (Do (Switch mode.InBody) again) t o a z
  pub dispatched : is_table_text a.mode ≡ false → must_drop a.ledger.history y ≡ None → is_astray a y ≡ false → IsDispatched o y t a z

-- ALL ENTRIES OF A CALL

-- where a call begins
abbrev pub begun : State → State
begun a = record a { began = a.mode; depth = length a.stack; nodes = length a.tree.tree.labels }

-- The token enters the rules until it is done with: from the one state to the other.
pub data Entries (y : Symbol) (t : TokenKind) : State → State → Type 0 where
  next : (a b c z : State) → Becomes a b → IsEntry Reprocess y t b c → Entries y t c z → Entries y t a z
  last : (a b c z : State) → Becomes a b → IsEntry Done y t b c → z ≡ settled c → Entries y t a z

-- ALL TOKENS OF A PAGE

-- Tree construction takes these tokens one after another, each through its entries: from the one state to the other. (Between calls, what is noted of a call
-- is of no account.)
abbrev pub Constructs : List TokenKind → State → State → Type 0
Constructs [] a z = begun a ≡ begun z
Constructs (t ∷ ts) a z = (b : State) × Entries (symbol_of t) t (begun a) b × Constructs ts b z
