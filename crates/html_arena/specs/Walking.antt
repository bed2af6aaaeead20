-- Claimed.
-- What is true of a walk on its way.
use Rattle.std.specs.Prelude.{◌≡◌, ℕ, ◌<◌, ◌≤◌, List, [], ◌∷◌, length, Option, Some, None}
use Rattle.html_arena.specs.Data.{host_in}
use Rattle.html_arena.specs.Tree.{Tree, WellFormed, label_of, parent_of}
use Rattle.html_arena.specs.declared.walk.Event.{Event}
use Rattle.html_arena.specs.declared.walk.Show.{Show}
use Rattle.html_arena.specs.Below.{above, below}
use Rattle.html_arena.specs.Steps.{Remain, events}

-- a node that nothing is above
pub record IsRoot (t : Tree) (r : ℕ) : Type 0 where
  pub inside : r < length t.labels
  pub alone : parent_of t r ≡ None
  pub no_host : host_in (label_of t r) ≡ None

-- the nodes above x, the nearest first, up to one with none above it
abbrev pub Upward : (ℕ → Option ℕ) → ℕ → List ℕ → Type 0
Upward up x [] = up x ≡ None
Upward up x (u ∷ us) = (up x ≡ Some u) × Upward up u us

-- a node that is no Contents node, and above which the nodes come to an end: none stands below itself
pub record IsPlaced (t : Tree) (x : ℕ) : Type 0 where
  pub inside : x < length t.labels
  pub no_host : host_in (label_of t x) ≡ None
  pub ups : List ℕ
  pub rises : Upward (above t) x ups

-- the walk ends, and meets nodes of the tree alone
pub record IsUnderWay (t : Tree) (s : Show) (r : ℕ) (e : Event) : Type 0 where
  pub placed : IsPlaced t r
  pub well_formed : WellFormed t
  pub to_come : List Event
  pub few : length to_come ≤ length (events (below s t r))
  pub remain : Remain s t r e to_come
