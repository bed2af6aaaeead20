-- Claimed.
-- Elements in scope, and implied end tags (13.2.4.2 and 13.2.6.3).
use Rattle.std.specs.Prelude.{ℕ, ◌+◌, ◌*◌, Bool, false, cond, eqb, not, ◌||◌, ◌&&◌, List, length, Option, Some, None}
use Rattle.std.specs.List.{list_any}
use Rattle.html_names.specs.declared.tag.Tag.{Tag}
use Rattle.html_names.specs.declared.sets.Scope.{Scope}
use Rattle.html_names.specs.Sets.{ends_scope, is_implied}
use Rattle.html_names.specs.Tags.{is_same}
use Rattle.html_arena.specs.Tree.{Tree, tag_at, named}
use Rattle.html_open.specs.Lists.{above}

-- some element passes, and no element after the last such is an end
abbrev pub in_scope : (ℕ → Bool) → (ℕ → Bool) → List ℕ → Bool
in_scope p end stack = list_any p stack && not (list_any end (above p stack))

abbrev pub ends : Tree → Scope → ℕ → Bool
ends t scope x = ends_scope scope (tag_at t x)

-- the elements at which a search for a name in a scope stops
abbrev pub match_or_end : Tree → Tag → Scope → ℕ → Bool
match_or_end t name scope x = named t name x || ends t scope x

-- the elements at which a search for x in a scope stops
abbrev pub element_or_end : Tree → ℕ → Scope → ℕ → Bool
element_or_end t x scope y = eqb x y || ends t scope y

-- the tag is the excepted one
abbrev pub is_excepted : Option Tag → Tag → Bool
is_excepted None g = false
is_excepted (Some name) g = is_same g name

-- an element stays unless its end tag is implied and its name is not the excepted one
abbrev pub tag_stays : Option Tag → Tag → Bool
tag_stays except g = not (is_implied g) || is_excepted except g

abbrev pub stays : Tree → Option Tag → ℕ → Bool
stays t except x = tag_stays except (tag_at t x)

-- one for each look at a current node, and one for each that is popped
abbrev pub implied_steps : Tree → Option Tag → List ℕ → ℕ
implied_steps t except stack = 2 * length (above (stays t except) stack) + cond (list_any (stays t except) stack) 1 0
