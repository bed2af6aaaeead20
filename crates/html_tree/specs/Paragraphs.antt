-- Claimed, but for this crate's own functions: is_p.
-- Where a p element in button scope is sought (13.2.4.2).
use Rattle.std.specs.Prelude.{ℕ, Bool, true, false, ◌&&◌, ◌||◌, List, drop, filter, Option, Some, None}
use Rattle.html_names.specs.declared.sets.Scope.{Scope}
use Rattle.html_names.specs.declared.sets.Scope.TheVariants as scope
use Rattle.html_names.specs.declared.tag.Tag.{Tag}
use Rattle.html_names.specs.declared.tag.Tag.TheVariants as tag
use Rattle.html_names.specs.Sets.{ends_scope}
use Rattle.html_names.specs.Tags.{is_same}
use Rattle.html_arena.specs.Tree.{Tree, named, tag_at}
use Rattle.html_tree.specs.declared.groups.Group.{Group}
use Rattle.html_tree.specs.declared.groups.Group.TheVariants as group
use Rattle.html_tree.specs.declared.groups.Stop.{Stop}
use Rattle.html_tree.specs.declared.groups.Stop.TheVariants as stop

abbrev pub is_button_scope : Scope → Bool
is_button_scope scope.Button = true
is_button_scope scope.Default = false
is_button_scope scope.ListItem = false
is_button_scope scope.Table = false
is_button_scope scope.Select = false

abbrev pub is_button_stop : Stop → Bool
is_button_stop (stop.EndOf s) = is_button_scope s
is_button_stop stop.Never = false
is_button_stop stop.PastItem = false

-- what is sought is a p in button scope
abbrev pub seeks_p : Group → Stop → Bool
seeks_p (group.Named g) e = is_same g tag.P && is_button_stop e
seeks_p group.Heading e = false
seeks_p group.Section e = false
seeks_p group.Cell e = false
seeks_p group.Definition e = false

-- the search ends at an element of this tag: a p, or one that ends the button scope
abbrev pub ends_p_search : Tag → Bool
ends_p_search g = is_same g tag.P || ends_scope scope.Button g

abbrev pub is_p_end : Tree → ℕ → Bool
is_p_end t x = ends_p_search (tag_at t x)

-- the elements of a stack at which the search ends, without the first, an html, at which it ends in any case
abbrev pub p_ends_of : Tree → List ℕ → List ℕ
p_ends_of t s = filter (is_p_end t) (drop 1 s)

-- the last of them is a p
abbrev pub is_p : Tree → Option ℕ → Bool
is_p t None = false
is_p t (Some x) = named t tag.P x
