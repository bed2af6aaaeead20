-- Claimed.
-- How many steps code points of text count: each as many as alone, also where they are taken in one go (13.2.6.1).
use Rattle.std.specs.Prelude.{◌≡◌, ◌+◌, ◌&&◌, ℕ, Bool, true, false, not, is_some, List, [], ◌∷◌}
use Rattle.html_tokens.specs.declared.token.TokenKind.TheVariants as kind
use Rattle.html_arena.specs.Tree.{more}
use Rattle.html_ledger.specs.Flags.{is_free, is_not_null}
use Rattle.html_ledger.specs.declared.symbol.Symbol.TheVariants.{Char}
use Rattle.html_tree.specs.Listing.{IsReopened}
use Rattle.html_tree.specs.States.{State as Tree}
use Rattle.html_tree.specs.Steps.{CountsReopening, text_steps}
use Rattle.html_construction.specs.Foreign.{foreign_tag}
use Rattle.html_construction.specs.States.{State}
use Rattle.html_modes.specs.Dispatching.{Entries, begun}
use Rattle.html_modes.specs.Guards.{is_text, takes_runs}

-- A code point that is inserted, and changes no mode: in the body, a caption or a cell, or where raw text is read; outside foreign content, not U+0000, and none that is
-- dropped where it stands.
abbrev pub is_run_char : State → ℕ → Bool
is_run_char a c = is_not_null c && (takes_runs a.mode && (not a.ledger.history.awaits_doctype && (is_free a.ledger.history (Char c) && not (is_some (foreign_tag a)))))

-- In raw text it counts its entry, its place and one; and a new text what that counts.
abbrev pub CountsRaw : State → State → Type 0
CountsRaw a b = b.tree.steps ≡ more a.tree.steps (text_steps a.tree a.fostering 1 + 1)

-- In the body the active formatting elements are reconstructed before that.
pub record CountsInBody (a b : State) : Type 0 where
  pub middle : Tree
  pub reopened : IsReopened a.fostering a.tree middle
  pub first : CountsReopening a.fostering a.tree middle
  pub steps_are : b.tree.steps ≡ more middle.steps (text_steps middle a.fostering 1 + 1)

abbrev pub CountsBy : Bool → State → State → Type 0
CountsBy true a b = CountsRaw a b
CountsBy false a b = CountsInBody a b

-- It goes through its entries; and where it is inserted and changes no mode, it counts that, from the beginning of the call.
abbrev pub TakesOne : ℕ → State → State → Type 0
TakesOne c a b = Entries (Char c) (kind.Char c) a b × (is_run_char a c ≡ true → CountsBy (is_text a.mode) a b)

-- Tree construction takes these code points one after another, from the one state to the other. (Between calls, what is noted of a call is of no account.)
abbrev pub TakesEach : List ℕ → State → State → Type 0
TakesEach [] a z = begun a ≡ begun z
TakesEach (c ∷ cs) a z = (b : State) × TakesOne c (begun a) b × TakesEach cs b z
