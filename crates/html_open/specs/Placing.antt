-- Claimed.
-- The appropriate place for inserting a node (13.2.6.1).
use Rattle.std.specs.Prelude.{◌≡◌, ◌≢◌, ℕ, ◌+◌, ◌<◌, Bool, true, false, cond, ◌&&◌, List, [], ◌∷◌, length, Option, Some, None}
use Rattle.std.specs.List.{list_any}
use Rattle.html_names.specs.Sets.{is_fostering}
use Rattle.html_names.specs.declared.tag.Tag.TheVariants as tag
use Rattle.html_arena.specs.Siblings.{first_of, last_of}
use Rattle.html_arena.specs.Tree.{Tree, named, tag_at, contents_at, parent_of, ancestors, appended, inserted}
use Rattle.html_open.specs.declared.places.Place.{Place}
use Rattle.html_open.specs.declared.places.Place.TheVariants.{Last, Before}
use Rattle.html_open.specs.Lists.{above, below, last_where, looked}

abbrev pub table : Tree → ℕ → Bool
table t x = named t tag.Table x

abbrev pub template : Tree → ℕ → Bool
template t x = named t tag.Template x

abbrev pub get : Option ℕ → ℕ → ℕ
get None d = d
get (Some x) d = x

-- No template has children of its own: what is put into one stands in its contents (4.12.3).
abbrev pub AreTemplatesEmpty : Tree → Type 0
AreTemplatesEmpty t = (x p : ℕ) → parent_of t x ≡ Some p → template t p ≡ false

-- a template stands for its contents
abbrev pub inside : Tree → ℕ → ℕ
inside t x = get (contents_at t x) x

-- before the table b where it has a parent, or else last in the element before it on the stack
abbrev pub by_table : Tree → List ℕ → ℕ → Option ℕ → Place
by_table t before b None = Last (inside t (get (last_of before) b))
by_table t before b (Some p) = Before b

-- last in the first element where there is no table
abbrev pub outside_table : Tree → List ℕ → Option ℕ → Place
outside_table t stack None = Last (get (first_of stack) 0)
outside_table t stack (Some b) = by_table t (below (table t) stack) b (parent_of t b)

-- in the last template where it stands after the last table, or there is no table
abbrev pub fostered : Tree → List ℕ → Place
fostered t stack =
    cond (list_any (template t) (above (table t) stack))
    (Last (inside t (get (last_where (template t) (above (table t) stack)) 0)))
    (outside_table t stack (last_where (table t) stack))

-- a node for this target is put elsewhere
abbrev pub fosters : Tree → ℕ → Bool → Bool
fosters t target foster = foster && is_fostering (tag_at t target)

-- the place for a node by its target
abbrev pub place_at : Tree → List ℕ → ℕ → Bool → Place
place_at t stack target foster = cond (fosters t target foster) (fostered t stack) (Last (inside t target))

-- one, and where the node is fostered one for each element down to the last table
abbrev pub steps_at : Tree → List ℕ → ℕ → Bool → ℕ
steps_at t stack target foster = 1 + cond (fosters t target foster) (looked (table t) stack) 0

-- the current node, where no target is given
abbrev pub target_of : List ℕ → Option ℕ → ℕ
target_of stack None = get (last_of stack) 0
target_of stack (Some x) = x

abbrev pub place_of : Tree → List ℕ → Option ℕ → Bool → Place
place_of t stack target foster = place_at t stack (target_of stack target) foster

abbrev pub place_steps : Tree → List ℕ → Option ℕ → Bool → ℕ
place_steps t stack target foster = steps_at t stack (target_of stack target) foster

-- a target that is given is a node
abbrev pub IsTarget : Tree → Option ℕ → Type 0
IsTarget t None = Unit {0}
IsTarget t (Some x) = x < length t.labels

-- the first element can take what has no better place: it is no table without a parent
abbrev pub CanPlace : Tree → List ℕ → Type 0
CanPlace t [] = ⊥
CanPlace t (x ∷ xs) = table t x ≡ true → parent_of t x ≢ None

-- a node can be put there
abbrev pub IsPlace : Tree → Place → Type 0
IsPlace t (Last p) = p < length t.labels
IsPlace t (Before b) = (b < length t.labels) × (parent_of t b ≢ None)

-- the node at a place, and those above it
abbrev pub way_up : Tree → Place → List ℕ
way_up t (Last p) = p ∷ ancestors t p
way_up t (Before b) = b ∷ ancestors t b

-- the parent of what is put there
abbrev pub parent_at : Tree → Place → Option ℕ
parent_at t (Last p) = Some p
parent_at t (Before b) = parent_of t b

-- the tree with c at a place
abbrev pub put : Tree → Place → ℕ → Tree
put t (Last p) c = appended t p c
put t (Before b) c = inserted t c b (parent_of t b)
