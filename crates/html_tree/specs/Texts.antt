-- Claimed, but for this crate's own functions: IsNewTextLack, IsNewTextRefused, IsFree.
-- Inserting characters (13.2.6.1).
use Rattle.std.specs.Prelude.{◌≡◌, ℕ, ◌⊎◌, Bool, false, cond, List, ◌++◌, length, Option, Some, None}
use Rattle.html_arena.specs.declared.data.NewNode.TheVariants.{Text}
use Rattle.html_arena.specs.Budget.{budget}
use Rattle.html_arena.specs.Data.{is_text}
use Rattle.html_arena.specs.Siblings.{before, has, last_of}
use Rattle.html_arena.specs.Tree.{Tree, children_of, label_of, parent_of, sibling, tag_at, texted_run}
use Rattle.html_arena.specs.declared.arena.ArenaError.{ArenaError}
use Rattle.html_open.specs.declared.places.Place.{Place}
use Rattle.html_open.specs.declared.places.Place.TheVariants.{Before, Last}
use Rattle.html_open.specs.Marking.{bare}
use Rattle.html_open.specs.Placing.{place_of}
use Rattle.html_tree.specs.Inserting.{IsBudget, IsLack, IsNodePassed, IsPassed, with_new}
use Rattle.html_open.specs.Reopening.{HoldsNoElement}
use Rattle.html_tree.specs.Since.{IsClosed}
use Rattle.html_tree.specs.States.{State}

-- the node just before a place
abbrev pub before_place : Tree → Place → Option ℕ
before_place t (Last p) = last_of (children_of t p)
before_place t (Before b) = sibling before (parent_of t b) t b

-- the node, if it is a text
abbrev pub if_text : Tree → Option ℕ → Option ℕ
if_text t None = None
if_text t (Some x) = cond (is_text (label_of t x)) (Some x) None

-- the text just before a place
abbrev pub text_before : Tree → Place → Option ℕ
text_before t at = if_text t (before_place t at)

-- that text, or else the next node
abbrev pub node_or_next : Tree → Option ℕ → ℕ
node_or_next t None = length t.labels
node_or_next t (Some x) = x

-- the tree with that text, or with a new one at the place
abbrev pub tree_or_new : Tree → Place → Option ℕ → Tree
tree_or_new t at None = with_new t at Text
tree_or_new t at (Some x) = t

abbrev pub place_here : State → Bool → Place
place_here a foster = place_of a.tree a.stack None foster

-- the text to which code points are added at the place for the current node
abbrev pub text_node : State → Bool → ℕ
text_node a foster = node_or_next a.tree (text_before a.tree (place_here a foster))

-- the tree with that text, new or not
abbrev pub with_text_node : State → Bool → Tree
with_text_node a foster = tree_or_new a.tree (place_here a foster) (text_before a.tree (place_here a foster))

-- the tree where a run was added to it
abbrev pub with_text : State → Bool → List ℕ → Tree
with_text a foster run = bare (texted_run (with_text_node a foster) (text_node a foster) run)

-- Code points that come after others go to the text to which those went, so that a run is its code points one by one; and text changes no element's tag.
pub record TextGoesOn (a : State) (foster : Bool) : Type 0 where
  pub node_same : (front : List ℕ) → text_node (record a { tree = with_text a foster front }) foster ≡ text_node a foster
  pub text_same : (front run : List ℕ) → with_text (record a { tree = with_text a foster front }) foster run ≡ with_text a foster (front ++ run)
  pub tags_same : (front : List ℕ) (x : ℕ) → tag_at (with_text a foster front) x ≡ tag_at a.tree x

-- a budget is told where the text or its first code point would pass it; of a text that is there, want of memory only where it would not
abbrev pub IsTextLack : Tree → Option ℕ → ArenaError → Type 0
IsTextLack t None e = IsBudget (budget t 1 1) e
IsTextLack t (Some x) e = IsLack (budget t 0 1) e

abbrev pub IsTextRefused : State → Bool → ArenaError → Type 0
IsTextRefused a foster e = IsTextLack a.tree (text_before a.tree (place_here a foster)) e

-- where a budget is told, what there is in the end and one text more, or one code point more, would pass the limits
abbrev pub IsTextPassed : State → State → ArenaError → Type 0
IsTextPassed a b e = IsNodePassed a b Text e ⊎ IsPassed a b 0 1 e

-- a new text was refused
abbrev pub IsNewTextLack : Tree → Option ℕ → ArenaError → Type 0
IsNewTextLack t None e = IsLack (budget t 1 0) e
IsNewTextLack t (Some x) e = ⊥

abbrev pub IsNewTextRefused : State → Bool → ArenaError → Type 0
IsNewTextRefused a foster e = IsNewTextLack a.tree (text_before a.tree (place_here a foster)) e

-- x is in no element that was closed and holds no element
abbrev pub IsFree : State → ℕ → Type 0
IsFree a x = (p : ℕ) → IsClosed a p → HoldsNoElement a.tree p → has x (children_of a.tree p) ≡ false
