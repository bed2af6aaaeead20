-- Claimed.
-- What is open, by tags (13.2.4.2).
use Rattle.std.specs.Prelude.{◌≡◌, ℕ, ◌+◌, ◌≤◌, true, List, ◌∷◌, ◌++◌, drop, map, reverse, Bool, false, cond, []}
use Rattle.std.specs.List.{list_all, sum_by, position_or_len}
use Rattle.html_names.specs.declared.tag.Tag.{Tag}
use Rattle.html_names.specs.Sets.{is_formatting}
use Rattle.html_arena.specs.Tree.{Tree, tag_at}
use Rattle.html_tree.specs.declared.groups.Group.{Group}
use Rattle.html_tree.specs.declared.groups.TableContext.{TableContext}
use Rattle.html_tree.specs.Groups.{in_group, is_context, is_stop}
use Rattle.html_tree.specs.declared.groups.Stop.{Stop}
use Rattle.html_tree.specs.States.{State}

-- the tags of elements, from the last one down
abbrev pub tags_down : Tree → List ℕ → List Tag
tags_down t s = reverse (map (tag_at t) s)

-- the tags of the open elements, from the current node down
abbrev pub open_tags : State → List Tag
open_tags a = tags_down a.tree a.stack

-- the open elements weigh no more than before, whatever each tag weighs
abbrev pub IsLighter : State → State → Type 0
IsLighter a b = (w : Tag → ℕ) → sum_by w (open_tags b) ≤ sum_by w (open_tags a)

-- the same, where formatting elements weigh nothing
abbrev pub IsLighterBesides : State → State → Type 0
IsLighterBesides a b = (w : Tag → ℕ) → ((g : Tag) → is_formatting g ≡ true → w g ≡ 0) → sum_by w (open_tags b) ≤ sum_by w (open_tags a)

-- some of the last elements were closed, and no other
abbrev pub HasFewer : State → State → Type 0
HasFewer a b = (k : ℕ) × (open_tags b ≡ drop k (open_tags a))

-- formatting elements were opened, and nothing was closed
pub record HasReopened (a b : State) : Type 0 where
  pub opened : List Tag
  pub formatting : list_all is_formatting opened ≡ true
  pub tags_are : open_tags b ≡ opened ++ open_tags a

-- the tags from the first that passes on
abbrev pub back_to : (Tag → Bool) → List Tag → List Tag
back_to p tags = drop (position_or_len p tags) tags

-- one of a group comes before one that ends the search
abbrev pub is_tag_in_scope : Group → Stop → List Tag → Bool
is_tag_in_scope g e [] = false
is_tag_in_scope g e (h ∷ rest) = cond (in_group g h) true (cond (is_stop e h) false (is_tag_in_scope g e rest))

-- an element of the group was closed: where each of its tags weighs m at least, what is open weighs at least m less
abbrev pub HasClosed : Group → State → State → Type 0
HasClosed g a b = (w : Tag → ℕ) (m : ℕ) → ((h : Tag) → in_group g h ≡ true → m ≤ w h) → sum_by w (open_tags b) + m ≤ sum_by w (open_tags a)

-- the current node is one back to which the stack is cleared
abbrev pub HasContext : TableContext → State → Type 0
HasContext c b = (g : Tag) (rest : List Tag) → open_tags b ≡ g ∷ rest → is_context c g ≡ true
