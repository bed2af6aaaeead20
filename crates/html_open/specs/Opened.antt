-- Claimed.
-- The stack of open elements, the list of active formatting elements and the tree together: what is true of them between calls (13.2.4).
use Rattle.std.specs.Prelude.{◌≡◌, ℕ, ◌<◌, true, false, List, [], ◌∷◌, length}
use Rattle.html_names.specs.Sets.{is_formatting}
use Rattle.html_arena.specs.declared.data.NodeData.{NodeData}
use Rattle.html_arena.specs.declared.data.Origin.{Origin}
use Rattle.html_arena.specs.declared.data.Origin.TheVariants.{Token}
use Rattle.html_arena.specs.declared.marks.Mark.{Mark}
use Rattle.html_arena.specs.declared.marks.Mark.TheVariants.{OnStack, InList}
use Rattle.html_arena.specs.Data.{IsElement, origin_in}
use Rattle.html_arena.specs.Siblings.{has, Distinct}
use Rattle.html_arena.specs.Tree.{Tree, label_of, tag_at, marked, ancestors}
use Rattle.html_open.specs.declared.entry.Entry.{Entry}
use Rattle.html_open.specs.Entries.{has_node, nodes_of}

-- the stack with the current node last, the list with the latest entry last, and the tree
pub record Open : Type 0 where
  pub stack : List ℕ
  pub list : List Entry
  pub tree : Tree

abbrev pub open_at : List ℕ → List Entry → Tree → Open
open_at s l t = record { stack = s; list = l; tree = t }

-- each is a node of the tree
abbrev pub AreNodes : Tree → List ℕ → Type 0
AreNodes t xs = (x : ℕ) → has x xs ≡ true → x < length t.labels

abbrev pub origin_at : Tree → ℕ → Origin
origin_at t x = origin_in (label_of t x)

-- no later element is an ancestor of an earlier one
abbrev pub IsOrdered : Tree → List ℕ → Type 0
IsOrdered t [] = Unit {0}
IsOrdered t (x ∷ xs) = ((y : ℕ) → has y xs ≡ true → has y (ancestors t x) ≡ false) × IsOrdered t xs

-- x is no element of the stack, nor above one
abbrev pub IsApart : Tree → List ℕ → ℕ → Type 0
IsApart t stack x = (y : ℕ) → has y stack ≡ true → has x (y ∷ ancestors t y) ≡ false

-- a mark tells who is in a list
abbrev pub IsMarked : Tree → Mark → List ℕ → Type 0
IsMarked t m xs = (x : ℕ) → marked t m x ≡ has x xs

-- an element of the first list and one of the second that come from one token are one element
abbrev pub AreOneByOrigin : Tree → List ℕ → List ℕ → Type 0
AreOneByOrigin t xs ys =
    (i x y : ℕ) → has x xs ≡ true → has y ys ≡ true → origin_at t x ≡ Token i → origin_at t y ≡ Token i → x ≡ y

-- what is true between calls
pub record IsOpen (o : Open) : Type 0 where
  -- the stack holds elements of the tree, each once, and no later one is an ancestor of an earlier one
  pub stack_in : AreNodes o.tree o.stack
  pub elements : (x : ℕ) → has x o.stack ≡ true → IsElement (label_of o.tree x)
  pub stack_once : Distinct o.stack
  pub ordered : IsOrdered o.tree o.stack
  -- the list holds formatting elements of the tree, each once, and markers
  pub list_in : AreNodes o.tree (nodes_of o.list)
  pub formatting : (x : ℕ) → has_node x o.list ≡ true → is_formatting (tag_at o.tree x) ≡ true
  pub list_once : Distinct (nodes_of o.list)
  -- the marks of the nodes tell which are there
  pub on_stack : IsMarked o.tree OnStack o.stack
  pub in_list : IsMarked o.tree InList (nodes_of o.list)
  -- at most one element of each token is on the stack, at most one in the list, and these are one element
  pub stack_origins : AreOneByOrigin o.tree o.stack o.stack
  pub list_origins : AreOneByOrigin o.tree (nodes_of o.list) (nodes_of o.list)
  pub shared_origins : AreOneByOrigin o.tree (nodes_of o.list) o.stack

-- x is an element that may be pushed onto the stack: no element is there that it is above, or that comes from its token
pub record CanPush (o : Open) (x : ℕ) : Type 0 where
  pub node_in : x < length o.tree.labels
  pub element : IsElement (label_of o.tree x)
  pub absent : has x o.stack ≡ false
  pub not_above : (y : ℕ) → has y o.stack ≡ true → has x (ancestors o.tree y) ≡ false
  pub origin_new : (i y : ℕ) → has y o.stack ≡ true → origin_at o.tree x ≡ Token i → origin_at o.tree y ≡ Token i → ⊥
  pub shared : (i y : ℕ) → has_node y o.list ≡ true → origin_at o.tree x ≡ Token i → origin_at o.tree y ≡ Token i → y ≡ x

-- x is a formatting element that may be pushed onto the list: no entry is there that comes from its token
pub record CanList (o : Open) (x : ℕ) : Type 0 where
  pub node_in : x < length o.tree.labels
  pub formatting : is_formatting (tag_at o.tree x) ≡ true
  pub absent : has_node x o.list ≡ false
  pub origin_new : (i y : ℕ) → has_node y o.list ≡ true → origin_at o.tree x ≡ Token i → origin_at o.tree y ≡ Token i → ⊥
  pub shared : (i y : ℕ) → has y o.stack ≡ true → origin_at o.tree x ≡ Token i → origin_at o.tree y ≡ Token i → x ≡ y

-- no element of the stack or of the list comes from the token of d
pub record IsUnseen (o : Open) (d : NodeData) : Type 0 where
  pub on_stack : (i y : ℕ) → has y o.stack ≡ true → origin_in d ≡ Token i → origin_at o.tree y ≡ Token i → ⊥
  pub in_list : (i y : ℕ) → has_node y o.list ≡ true → origin_in d ≡ Token i → origin_at o.tree y ≡ Token i → ⊥
