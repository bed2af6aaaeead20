-- For this crate's own functions.
-- The unread code points of a queue.
use Rattle.std.specs.Prelude.{ℕ, List}

pub record Unread : Type 0 where
  pub items : List ℕ
