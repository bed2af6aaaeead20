-- Claimed, but for this crate's own functions: begins_foreign.
-- What a call does of the insertion mode in which it begins (13.2.6).
use Rattle.std.specs.Prelude.{◌≡◌, ◌||◌, ◌++◌, Bool, true, false, List}
use Rattle.std.specs.List.{list_all}
use Rattle.html_ledger.specs.declared.fate.Fate.{Fate}
use Rattle.html_ledger.specs.declared.symbol.Symbol.{Symbol}
use Rattle.html_ledger.specs.declared.symbol.Symbol.TheVariants.{Start}
use Rattle.html_construction.specs.Begun.{gives_in}
use Rattle.html_construction.specs.Built.{Handed, IsBuilt}
use Rattle.html_construction.specs.Modes.{is_of_column_groups, is_of_frames, is_of_selects}
use Rattle.html_construction.specs.States.{State}
use Rattle.html_construction.specs.declared.mode.Mode.{Mode}
use Rattle.html_tree.specs.Proper.{is_foreign_root}
use Rattle.html_modes.specs.Steps.{is_code_point}

-- Each fate that was given is one that tokens may have in a call that begins in this mode.
pub record Gives (m : Mode) (before after : List Fate) : Type 0 where
  pub later : List Fate
  pub fates_are : after ≡ before ++ later
  pub given : list_all (gives_in m) later ≡ true

-- so in a call
abbrev pub GivesIn : State → State → Type 0
GivesIn a b = (h : Handed) → IsBuilt h a → Gives a.mode a.ledger.fates b.ledger.fates

-- FOREIGN CONTENT

-- the start tag of one
abbrev pub begins_foreign : Symbol → Bool
begins_foreign (Start t) = is_foreign_root t
begins_foreign _ = false

-- the modes in which it is ignored: those inside a select, and those of a page of frames (13.2.6.4.16, 13.2.6.4.17, 13.2.6.4.20, 13.2.6.4.21 and 13.2.6.4.23)
abbrev pub ignores_foreign : Mode → Bool
ignores_foreign m = is_of_selects m || is_of_frames m

-- TEXT

-- From the one mode to the other no mode of selects, of frames or of a column group is entered.
pub record StaysOut (m n : Mode) : Type 0 where
  pub select : is_of_selects n ≡ true → is_of_selects m ≡ true
  pub frameset : is_of_frames n ≡ true → is_of_frames m ≡ true
  pub column_group : is_of_column_groups n ≡ true → is_of_column_groups m ≡ true

-- Where the token is a code point, it enters none.
pub record TextStays (y : Symbol) (m n : Mode) : Type 0 where
  pub out : is_code_point y ≡ true → StaysOut m n
