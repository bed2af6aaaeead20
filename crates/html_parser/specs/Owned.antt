-- Claimed, but for this crate's own functions: KeepsOwned, IsKept.
-- A parser that owns its table, and the bytes that it was fed, however they were cut.
use Rattle.std.specs.Prelude.{◌≡◌, ℕ, true, false, List, Some}
use Rattle.std.specs.Arc.{arc_value}
use Rattle.html_parser.specs.Paused.{HavePaused, KeepsPaused}
use Rattle.html_parser.specs.Start.{Start}
use Rattle.html_parser.specs.declared.owned_feeder.OwnedFeeder.{OwnedFeeder}
use Rattle.html_parser.specs.declared.paused.PausedStages.{PausedStages}

-- It was made so, was fed these bytes, and refused none.
pub record IsOwnedFed (start : Start) (p : OwnedFeeder) (bytes : List ℕ) : Type 0 where
  pub stages : PausedStages
  pub there : p.stages ≡ Some stages
  pub paused : HavePaused start (arc_value p.table) stages bytes
  pub going : p.is_stopped ≡ false

-- It refused a piece.
abbrev pub IsOwnedStopped : OwnedFeeder → Type 0
IsOwnedStopped p = p.is_stopped ≡ true

-- It keeps the tokens.
abbrev pub KeepsOwned : OwnedFeeder → Type 0
KeepsOwned p = (s : PausedStages) → p.stages ≡ Some s → KeepsPaused s

-- the same of one that goes on
abbrev pub IsKept : OwnedFeeder → Type 0
IsKept p = p.is_stopped ≡ false → KeepsOwned p
