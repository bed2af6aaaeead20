-- Claimed.
-- Walks through a tree: a node is entered, then all below it is walked, then it is left.
use Rattle.std.specs.Prelude.{◌≡◌, ℕ, zero, suc, ◌<◌, Bool, false, cond, eqb, List, [], ◌∷◌, length, Option, Some, None}
use Rattle.html_arena.specs.Tree.{Tree, parent_of, sibling}
use Rattle.html_arena.specs.Siblings.{first_of, after}
use Rattle.html_arena.specs.declared.walk.Event.{Event}
use Rattle.html_arena.specs.declared.walk.Event.TheVariants.{Enter, Leave}
use Rattle.html_arena.specs.declared.walk.Show.{Show}
use Rattle.html_arena.specs.Forest.{Forest}
use Rattle.html_arena.specs.Forest.Forest.{empty, tree}
use Rattle.html_arena.specs.Below.{kids, above, or_self, below}

-- the events of a walk through a forest, and then others
abbrev pub events_then : Forest ℕ → List Event → List Event
events_then empty es = es
events_then (tree x f g) es = Enter x ∷ events_then f (Leave x ∷ events_then g es)

abbrev pub events : Forest ℕ → List Event
events f = events_then f []

-- the event by which a walk goes on: a node, if there is one, else what comes else
abbrev pub enter_or : Event → Option ℕ → Event
enter_or e None = e
enter_or e (Some x) = Enter x

-- the event after another
abbrev pub step : Show → Tree → Event → Event
step s t (Enter x) = enter_or (Leave x) (first_of (kids s t x))
step s t (Leave x) = enter_or (Leave (or_self x (above t x))) (sibling after (parent_of t x) t x)

abbrev pub node_in : Event → ℕ
node_in (Enter x) = x
node_in (Leave x) = x

-- the walk is at its end, where the node below which it goes is left
abbrev pub is_end : ℕ → Event → Bool
is_end r (Enter x) = false
is_end r (Leave x) = eqb x r

-- the events from e on until the walk's end, at most n of them
abbrev pub steps_from : ℕ → Show → Tree → ℕ → Event → List Event
steps_from zero s t r e = []
steps_from (suc n) s t r e = cond (is_end r e) [] (e ∷ steps_from n s t r (step s t e))

-- the events that are still to come
abbrev pub rest : Show → Tree → ℕ → Event → List Event
rest s t r e = steps_from (suc (length (events (below s t r)))) s t r e

-- the events from e on until the walk's end are es
abbrev pub Remain : Show → Tree → ℕ → Event → List Event → Type 0
Remain s t r e [] = e ≡ Leave r
Remain s t r e (f ∷ es) = (f ≡ e) × (is_end r e ≡ false) × (node_in e < length t.labels) × Remain s t r (step s t e) es
