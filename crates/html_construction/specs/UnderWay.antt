-- Claimed.
-- What is always true of tree construction under way.
use Rattle.std.specs.Prelude.{ℕ, ◌≡◌, ◌≤◌, true, List}
use Rattle.std.specs.List.{list_all}
use Rattle.html_ledger.specs.Entries.{Entries, number_of}
use Rattle.html_construction.specs.declared.mode.Mode.{Mode}
use Rattle.html_construction.specs.Modes.{is_reset}

-- All nodes were made for the first n tokens, each of which has its fate; the template insertion modes are modes that open elements may call
-- for.
pub record IsUnderWay (n : ℕ) (l : Entries) (templates : List Mode) : Type 0 where
  pub tokens : n ≤ number_of l
  pub templates_fit : list_all is_reset templates ≡ true
