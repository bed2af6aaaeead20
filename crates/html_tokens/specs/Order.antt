-- For this crate's own functions.
-- The order of the parse errors: by their places, and at one place as they were told.
use Rattle.std.specs.Prelude.{◌≡◌, ℕ, ◌≤◌, ◌<◌, List, length}
use Rattle.std.specs.List.{AllWithin, insert}
use Rattle.html_tokens.specs.declared.faults.Fault.{Fault}

-- An error was added, behind those that have no later place.
pub record IsAdded (old : List Fault) (fault : Fault) (new : List Fault) : Type 0 where
  pub at : ℕ
  pub fit : at ≤ length old
  pub before : AllWithin (λ x. x.place ≤ fault.place) old 0 at
  pub after : AllWithin (λ x. fault.place < x.place) old at (length old)
  pub is : new ≡ insert old at fault
