-- Claimed.
-- What callers see of a builder.
use Rattle.std.specs.Prelude.{ℕ, Bool}
use Rattle.html_construction.specs.States.{State}

-- the state of tree construction, how often tokens entered the rules of a mode (up to the greatest number of 64 bits), and whether a token was refused
pub record BuilderState : Type 0 where
  pub page : State
  pub entries : ℕ
  pub stopped : Bool
