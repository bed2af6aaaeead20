-- Claimed.
-- What a token may get of the insertion mode in which its call began (13.2.6).
use Rattle.std.specs.Prelude.{◌≡◌, ◌++◌, Bool, true, List, Option, None, Some}
use Rattle.std.specs.List.{list_all}
use Rattle.html_ledger.specs.Flags.{may_select}
use Rattle.html_ledger.specs.declared.fate.Cause.{Cause}
use Rattle.html_ledger.specs.declared.fate.Cause.TheVariants.{InSelect, InFrameset, InColumnGroup}
use Rattle.html_ledger.specs.declared.fate.Fate.{Fate}
use Rattle.html_ledger.specs.declared.fate.Fate.TheVariants.{Dropped}
use Rattle.html_construction.specs.declared.mode.Mode.{Mode}
use Rattle.html_construction.specs.Modes.{is_of_column_groups, is_of_frames, is_of_selects}
use Rattle.html_construction.specs.States.{State}

-- In a call that begins in this mode tokens may be dropped with this cause: as outside a select in the modes of a select alone, as outside a
-- frameset in those of a page of frames, as outside a column group in that of a column group.
abbrev pub drops_in : Cause → Mode → Bool
drops_in InSelect m = is_of_selects m
drops_in InFrameset m = is_of_frames m
drops_in InColumnGroup m = is_of_column_groups m
drops_in _ m = true

-- Tokens may have this fate in such a call.
abbrev pub gives_in : Mode → Fate → Bool
gives_in m (Dropped cause) = drops_in cause m
gives_in m _ = true

-- A call: the mode in which it began, and the fates that were given before it.
pub record Begun : Type 0 where
  pub mode : Mode
  pub before : List Fate

-- It is under way, and each fate that was given in it is one that tokens may have there.
pub record IsUnder (c : Begun) (a : State) : Type 0 where
  pub began : a.began ≡ c.mode
  pub later : List Fate
  pub fates_are : a.ledger.fates ≡ c.before ++ later
  pub given : list_all (gives_in c.mode) later ≡ true

-- the same of a call, if one is known
abbrev pub IsInCall : Option Begun → State → Type 0
IsInCall None a = Unit {0}
IsInCall (Some c) a = IsUnder c a

-- To a mode of selects leads a select, to one of frames a frameset, that was made or is the context (13.2.4.1).
pub record IsFounded (a : State) : Type 0 where
  pub select : is_of_selects a.mode ≡ true → may_select a.ledger.history ≡ true
  pub frameset : is_of_frames a.mode ≡ true → a.ledger.history.frameset ≡ true
