-- Claimed, but for this crate's own functions: Calls.
-- What a mode asks of the open elements and of the code points that are kept (13.2.6).
use Rattle.std.specs.Prelude.{ℕ, ◌≡◌, ◌<◌, ◌≤◌, Bool, true, false, List, [], length}
use Rattle.html_names.specs.declared.tag.Tag.{Tag}
use Rattle.html_construction.specs.declared.mode.Mode.{Mode}
use Rattle.html_construction.specs.declared.mode.Mode.TheVariants.{Initial, BeforeHtml, Text, InTable, InTableText, InTableBody, InRow}
use Rattle.html_construction.specs.States.{State}
use Rattle.html_modes.specs.Ranks.{top_rank}

-- the modes that ask for an open element and for nothing else
abbrev pub is_loose : Mode → Bool
is_loose Initial = false
is_loose BeforeHtml = false
is_loose Text = false
is_loose InTableText = false
is_loose _ = true

-- the modes from which the text of a table is kept
abbrev pub is_table_mode : Mode → Bool
is_table_mode InTable = true
is_table_mode InTableBody = true
is_table_mode InRow = true
is_table_mode _ = false

-- What a mode, with the mode to come back to, asks of the open elements: the element that holds the text stands on another, text and table
-- text come back to modes that can begin them, and the html element is open after the first two.
abbrev pub ModeFits : Mode → Mode → List Tag → Type 0
ModeFits Initial o s = Unit {0}
ModeFits BeforeHtml o s = Unit {0}
ModeFits Text o s = (1 < length s) × (is_loose o ≡ true)
ModeFits InTableText o s = (0 < length s) × (is_table_mode o ≡ true)
ModeFits _ o s = 0 < length s

-- Code points are kept in table text alone.
abbrev pub Quiet : Mode → List ℕ → Type 0
Quiet InTableText kept = Unit {0}
Quiet _ kept = kept ≡ []

-- The mode fits the open elements; code points are kept in table text alone; each fate added an entry to the list of active formatting
-- elements at most.
pub record Fits (s : State) : Type 0 where
  pub stack : ModeFits s.mode s.original s.stack
  pub quiet : Quiet s.mode s.ledger.kept
  pub listed : length s.tree.list ≤ length s.ledger.fates

-- What the rules that several modes share ask of the state.
pub record Calls (s : State) : Type 0 where
  pub loose : is_loose s.mode ≡ true
  pub opened : 0 < length s.stack
  pub quiet : s.ledger.kept ≡ []
  pub listed : length s.tree.list ≤ length s.ledger.fates
  pub top : top_rank s.mode ≤ 10
