-- Claimed.
-- What calls keep of a tree under construction.
use Rattle.std.specs.Prelude.{◌≡◌, ℕ, ◌+◌, ◌<◌, ◌≤◌, true, false, [], length, min, Some, None, ◌⊎◌}
use Rattle.html_names.specs.declared.tag.Tag.TheVariants as tag
use Rattle.html_arena.specs.declared.data.NodeData.{NodeData}
use Rattle.html_arena.specs.declared.data.NodeData.TheVariants.{Document, Contents, Element, Text, Comment, Doctype}
use Rattle.html_arena.specs.Data.{IsElement}
use Rattle.html_arena.specs.Siblings.{first_of, has}
use Rattle.html_arena.specs.Tree.{Tree, children_of, host_at, label_of, more, named, parent_of}
use Rattle.html_open.specs.Reopening.{HoldsNoElement}
use Rattle.html_tree.specs.Proper.{IsProper}
use Rattle.html_tree.specs.States.{State}

-- what stays of a node for good: all but the attributes of an element, to which others are merged, and the code points of a text, which
-- others follow
abbrev pub essence : NodeData → NodeData
essence (Element e) = Element (record e { attrs = [] })
essence (Text s) = Text []
essence Document = Document
essence (Contents h) = Contents h
essence (Comment s i) = Comment s i
essence (Doctype n p s i) = Doctype n p s i

-- x is an element that was closed, and not the head, into which later rules insert
pub record IsClosed (a : State) (x : ℕ) : Type 0 where
  pub node_in : x < length a.tree.labels
  pub element : IsElement (label_of a.tree x)
  pub not_head : named a.tree tag.Head x ≡ false
  pub off : has x a.stack ≡ false

-- x is a template's Contents node
abbrev pub IsContents : State → ℕ → Type 0
IsContents a x = (h : ℕ) × (host_at a.tree x ≡ Some h)

-- a frameset was made
abbrev pub HasFrameset : Tree → Type 0
HasFrameset t = (y : ℕ) × (y < length t.labels) × (named t tag.Frameset y ≡ true)

-- Of a state and a later one. The first open element stays first; nodes stay what they are; what was closed stays closed, and where it holds
-- no element it keeps its children and their texts; a node without a parent had none before, or is a template's contents, or is the
-- body that a frameset took the place of; where it took its place since, this is so; each node is proper that was so where it was there; node 0 stays
-- without a parent; steps are not fewer, up to the greatest number that is counted.
pub record SinceBy (framed : Type 0) (a b : State) : Type 0 where
  pub first : (x : ℕ) → first_of a.stack ≡ Some x → first_of b.stack ≡ Some x
  pub no_fewer : length a.tree.labels ≤ length b.tree.labels
  pub tokens : a.tokens ≤ b.tokens
  pub labels : (x : ℕ) → x < length a.tree.labels → essence (label_of b.tree x) ≡ essence (label_of a.tree x)
  pub off : (x : ℕ) → IsClosed a x → has x b.stack ≡ false
  pub children : (x : ℕ) → IsClosed a x → HoldsNoElement a.tree x → children_of b.tree x ≡ children_of a.tree x
  pub texts : (x y : ℕ) → IsClosed a x → HoldsNoElement a.tree x → has y (children_of a.tree x) ≡ true → label_of b.tree y ≡ label_of a.tree y
  pub linked : (x : ℕ) → x < length b.tree.labels → parent_of b.tree x ≡ None
      → IsContents b x ⊎ ((b.detached ≡ Some x) ⊎ ((x < length a.tree.labels) × (parent_of a.tree x ≡ None)))
  pub root : parent_of a.tree 0 ≡ None → parent_of b.tree 0 ≡ None
  pub detached : (x : ℕ) → a.detached ≡ Some x → b.detached ≡ Some x
  pub replaced : (x : ℕ) → b.detached ≡ Some x → (a.detached ≡ Some x) ⊎ framed
  pub proper : (x : ℕ) → (x < length a.tree.labels → IsProper a x) → x < length b.tree.labels → IsProper b x
  pub steps : more a.steps 0 ≤ b.steps

-- a body that was replaced since was replaced by a frameset
abbrev pub Since : State → State → Type 0
Since a b = SinceBy (HasFrameset b.tree) a b

-- what was so since an earlier state is so still
abbrev pub Keeps : State → State → Type 0
Keeps a b = (s : State) → Since s a → Since s b

-- at most so many more nodes, open elements, entries and held code points, and an element is open where one was
pub record Grown (nodes open_elements entries held : ℕ) (a b : State) : Type 0 where
  pub nodes_least : length a.tree.labels ≤ length b.tree.labels
  pub nodes_most : length b.tree.labels ≤ length a.tree.labels + nodes
  pub open_most : length b.stack ≤ length a.stack + open_elements
  pub entries_most : length b.list ≤ length a.list + entries
  pub held_most : b.tree.held ≤ a.tree.held + held
  pub open_least : min 1 (length a.stack) ≤ length b.stack
