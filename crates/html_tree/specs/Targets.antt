-- Claimed.
-- Where a new node goes (13.2.6.1).
use Rattle.std.specs.Prelude.{ℕ, ◌<◌, List, length, Option, None}
use Rattle.html_arena.specs.Siblings.{first_of}
use Rattle.html_arena.specs.Tree.{Tree}
use Rattle.html_open.specs.declared.places.Place.{Place}
use Rattle.html_open.specs.declared.places.Place.TheVariants.{Last}
use Rattle.html_open.specs.Placing.{get, place_of, place_steps}
use Rattle.html_tree.specs.declared.groups.Target.{Target}
use Rattle.html_tree.specs.declared.groups.Target.TheVariants as target
use Rattle.html_tree.specs.States.{State}

abbrev pub place_at : Tree → List ℕ → Option ℕ → Target → Place
place_at t s h (target.Current foster) = place_of t s None foster
place_at t s h target.Head = Last (get h (get (first_of s) 0))
place_at t s h target.First = Last (get (first_of s) 0)
place_at t s h target.Document = Last 0

abbrev pub place_for : State → Target → Place
place_for a target = place_at a.tree a.stack a.head target

-- an element is open, but where the document is asked for
abbrev pub CanTarget : List ℕ → Target → Type 0
CanTarget s (target.Current foster) = 0 < length s
CanTarget s target.Head = 0 < length s
CanTarget s target.First = 0 < length s
CanTarget s target.Document = Unit {0}

-- one, or what the place for the current node costs
abbrev pub target_steps : Tree → List ℕ → Target → ℕ
target_steps t s (target.Current foster) = place_steps t s None foster
target_steps t s target.Head = 1
target_steps t s target.First = 1
target_steps t s target.Document = 1
