-- Claimed.
-- A parser, and the bytes that it was fed, however they were cut.
use Rattle.std.specs.Prelude.{◌≡◌, ℕ, true, false, List}
use Rattle.html_parser.specs.Staged.{HasRead}
use Rattle.html_parser.specs.Start.{Start}
use Rattle.html_parser.specs.declared.feeder.Feeder.{Feeder}

-- It was made so, was fed these bytes, and refused none.
pub record IsFed (start : Start) (p : Feeder) (bytes : List ℕ) : Type 0 where
  pub read : HasRead start p.stages bytes
  pub going : p.is_stopped ≡ false

-- It refused a piece, or was ended.
abbrev pub IsStopped : Feeder → Type 0
IsStopped p = p.is_stopped ≡ true
