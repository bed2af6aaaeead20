-- Claimed, but for this crate's own functions: is_sought_at.
-- Searches from the current node down the stack of open elements (13.2.4.2).
use Rattle.std.specs.Prelude.{ℕ, ◌==◌, Bool, cond, ◌||◌, List, Option, Some, None}
use Rattle.std.specs.Cmp.Lexicographic.{pointwise}
use Rattle.html_names.specs.declared.tag.Tag.{Tag}
use Rattle.html_names.specs.Sets.{is_special}
use Rattle.html_arena.specs.Data.{name_in}
use Rattle.html_arena.specs.Siblings.{last_of}
use Rattle.html_arena.specs.Tree.{Tree, label_of, named, tag_at}
use Rattle.html_open.specs.Lists.{last_index}
use Rattle.html_open.specs.Scopes.{in_scope, stays}
use Rattle.html_tree.specs.declared.groups.Group.{Group}
use Rattle.html_tree.specs.declared.groups.Stop.{Stop}
use Rattle.html_tree.specs.declared.groups.TableContext.{TableContext}
use Rattle.html_tree.specs.declared.search.Sought.{Sought}
use Rattle.html_tree.specs.declared.search.Sought.TheVariants as sought
use Rattle.html_tree.specs.Groups.{in_group, is_context, is_stop}
use Rattle.html_tree.specs.States.{State}

-- the index of the last element that passes, unless one that ends the search stands after it
abbrev pub index_before : (ℕ → Bool) → (ℕ → Bool) → List ℕ → Option ℕ
index_before p end stack = cond (in_scope p end stack) (last_index p stack) None

abbrev pub is_member : Tree → Group → ℕ → Bool
is_member t g x = in_group g (tag_at t x)

abbrev pub stops : Tree → Stop → ℕ → Bool
stops t e x = is_stop e (tag_at t x)

-- the index of the last open element of a group, unless one that ends the search stands after it
abbrev pub found : State → Group → Stop → Option ℕ
found a g e = index_before (is_member a.tree g) (stops a.tree e) a.stack

-- a search stops at an element of the group, or at one that ends it
abbrev pub member_or_stop : Tree → Group → Stop → ℕ → Bool
member_or_stop t g e x = is_member t g x || stops t e x

-- the elements back to which the stack is cleared
abbrev pub context_at : Tree → TableContext → ℕ → Bool
context_at t c x = is_context c (tag_at t x)

-- at which elements a search stops
abbrev pub is_sought_at : Tree → Sought → ℕ → Bool
is_sought_at t (sought.Member g e) x = member_or_stop t g e x
is_sought_at t (sought.Context c) x = context_at t c x
is_sought_at t (sought.Staying except) x = stays t except x
is_sought_at t (sought.Tag g) x = named t g x

-- a search for a name stops at an element of the name, or at a special one
abbrev pub has_name : Tree → List ℕ → ℕ → Bool
has_name t name x = pointwise ◌==◌ (name_in (label_of t x)) name

abbrev pub is_special_at : Tree → ℕ → Bool
is_special_at t x = is_special (tag_at t x)

abbrev pub name_or_special : Tree → List ℕ → ℕ → Bool
name_or_special t name x = has_name t name x || is_special_at t x

-- the index of the last open element of a name, unless a special one stands after it
abbrev pub found_name : State → List ℕ → Option ℕ
found_name a name = index_before (has_name a.tree name) (is_special_at a.tree) a.stack

abbrev pub tag_if : Tree → Option ℕ → Option Tag
tag_if t None = None
tag_if t (Some x) = Some (tag_at t x)

-- the tag of the current node
abbrev pub current_tag : State → Option Tag
current_tag a = tag_if a.tree (last_of a.stack)
