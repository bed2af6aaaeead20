-- Claimed.
-- Which elements are opened and may hold children, and which are never made (13.1.2, 13.2.6.4.7).
use Rattle.std.specs.Prelude.{◌≡◌, ℕ, Bool, true, false, cond, []}
use Rattle.html_names.specs.declared.tag.Tag.{Tag}
use Rattle.html_names.specs.declared.tag.Tag.TheVariants as tag
use Rattle.html_names.specs.Sets.{is_void}
use Rattle.html_arena.specs.Siblings.{has}
use Rattle.html_arena.specs.Tree.{children_of, tag_at}
use Rattle.html_tree.specs.States.{State}

-- the names of the roots of foreign content, which no HTML element has
abbrev pub is_foreign_root : Tag → Bool
is_foreign_root tag.Svg = true
is_foreign_root tag.Math = true
is_foreign_root _ = false

-- an element of this tag is opened when it is made: it is not void, and no root of foreign content
abbrev pub opens : Tag → Bool
opens g = cond (is_void g) false (cond (is_foreign_root g) false true)

-- the node x has no name of a root of foreign content, and where it is a void element, it is not open and has no children
pub record IsProper (a : State) (x : ℕ) : Type 0 where
  pub own : is_foreign_root (tag_at a.tree x) ≡ false
  pub shut : is_void (tag_at a.tree x) ≡ true → has x a.stack ≡ false
  pub empty : is_void (tag_at a.tree x) ≡ true → children_of a.tree x ≡ []
