-- For this crate's own functions.
-- What is true of a page under way.
use Rattle.std.specs.Prelude.{◌≡◌, ℕ, ◌+◌, ◌<◌, List, Option, Some, None}
use Rattle.html_arena.specs.declared.data.Origin.TheVariants.{Token}
use Rattle.html_arena.specs.Tree.{Tree}
use Rattle.html_open.specs.declared.entry.Entry.{Entry}
use Rattle.html_open.specs.Opened.{IsOpen, open_at, origin_at}

-- the one node of the latest of n tokens
abbrev pub IsNewest : Tree → ℕ → Option ℕ → Type 0
IsNewest t n None = Unit {0}
IsNewest t n (Some x) =
    ((i : ℕ) → origin_at t x ≡ Token i → i + 1 ≡ n) × ((y i : ℕ) → origin_at t y ≡ Token i → i + 1 ≡ n → y ≡ x)

-- the stack, the list and the tree fit together, and all nodes come from the first n tokens
pub record IsPage (s : List ℕ) (l : List Entry) (t : Tree) (n : ℕ) (newest : Option ℕ) : Type 0 where
  pub is_open : IsOpen (open_at s l t)
  pub tokens : (x i : ℕ) → origin_at t x ≡ Token i → i < n
  pub alone : IsNewest t n newest
