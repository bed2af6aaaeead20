-- Claimed, but for this crate's own functions: IsFirstIndex, IsPlain, IsOutOfScope, IsOffStack, IsFound.
-- What the adoption agency looks for (13.2.6.4.7): the formatting element, and the furthest block, which is the first special element after it.
use Rattle.std.specs.Prelude.{◌≡◌, ℕ, ◌+◌, ◌<◌, Bool, true, false, eqb, List, length, drop, take, slice_index, Option, Some, None}
use Rattle.std.specs.List.{list_any}
use Rattle.html_names.specs.declared.tag.Tag.{Tag}
use Rattle.html_names.specs.declared.sets.Scope.TheVariants as scope
use Rattle.html_names.specs.Sets.{is_special}
use Rattle.html_arena.specs.Siblings.{has}
use Rattle.html_arena.specs.Tree.{Tree, tag_at}
use Rattle.html_open.specs.declared.adoption.find.Found.{Found}
use Rattle.html_open.specs.declared.adoption.find.Found.TheVariants as found
use Rattle.html_open.specs.Entries.{last_named}
use Rattle.html_open.specs.Lists.{above, last_index}
use Rattle.html_open.specs.Opened.{Open}
use Rattle.html_open.specs.Scopes.{ends, in_scope}

abbrev pub special : Tree → ℕ → Bool
special t x = is_special (tag_at t x)

-- the element is on the stack, and no element after it ends the default scope
abbrev pub element_in_scope : Tree → ℕ → List ℕ → Bool
element_in_scope t x stack = in_scope (eqb x) (ends t scope.Default) stack

-- no element of the list passes from one index up to before another, and the one there passes
pub record IsFirstFrom (p : ℕ → Bool) (xs : List ℕ) (from at : ℕ) : Type 0 where
  pub within : at < length xs
  pub after : from < at + 1
  pub passes : p (slice_index xs at) ≡ true
  pub none_before : list_any p (drop from (take at xs)) ≡ false

-- the first index from which on an element passes, if there is one
abbrev pub IsFirstIndex : (ℕ → Bool) → List ℕ → ℕ → Option ℕ → Type 0
IsFirstIndex p xs from None = list_any p (drop from xs) ≡ false
IsFirstIndex p xs from (Some at) = IsFirstFrom p xs from at

-- the formatting element stands on the stack in scope, at an index
pub record IsFormatting (subject : Tag) (o : Open) (formatting_element at : ℕ) : Type 0 where
  pub entry : last_named o.tree subject o.list ≡ Some formatting_element
  pub on_stack : has formatting_element o.stack ≡ true
  pub index_is : last_index (eqb formatting_element) o.stack ≡ Some at
  pub within : at < length o.stack
  pub element_is : slice_index o.stack at ≡ formatting_element
  pub in_scope : element_in_scope o.tree formatting_element o.stack ≡ true

-- no special element stands after it: there is no furthest block
pub record IsPlain (subject : Tag) (o : Open) (formatting_element at : ℕ) : Type 0 where
  pub formatting : IsFormatting subject o formatting_element at
  pub no_special : list_any (special o.tree) (above (eqb formatting_element) o.stack) ≡ false

-- the furthest block, the first special element after it, stands at another index
pub record IsBlock (subject : Tag) (o : Open) (at block_at : ℕ) : Type 0 where
  pub formatting : IsFormatting subject o (slice_index o.stack at) at
  pub block : IsFirstFrom (special o.tree) o.stack (at + 1) block_at

-- the formatting element is on the stack and not in scope
pub record IsOutOfScope (subject : Tag) (o : Open) (formatting_element : ℕ) : Type 0 where
  pub entry : last_named o.tree subject o.list ≡ Some formatting_element
  pub on_stack : has formatting_element o.stack ≡ true
  pub not_in_scope : element_in_scope o.tree formatting_element o.stack ≡ false

-- the formatting element is not on the stack
pub record IsOffStack (subject : Tag) (o : Open) (formatting_element : ℕ) : Type 0 where
  pub entry : last_named o.tree subject o.list ≡ Some formatting_element
  pub off_stack : has formatting_element o.stack ≡ false

abbrev pub IsFound : Tag → Open → Found → Type 0
IsFound name o found.NoEntry = last_named o.tree name o.list ≡ None
IsFound name o (found.OffStack formatting_element) = IsOffStack name o formatting_element
IsFound name o found.OutOfScope = (formatting_element : ℕ) × IsOutOfScope name o formatting_element
IsFound name o (found.NoFurthestBlock formatting_element at) = IsPlain name o formatting_element at
IsFound name o (found.FurthestBlock at block_at) = IsBlock name o at block_at
