-- Claimed, but for this crate's own functions: IsNode.
-- What callers see of a tree under construction (13.2.4), and what is always true of it.
use Rattle.std.specs.Prelude.{◌≡◌, ℕ, ◌<◌, true, List, [], ◌∷◌, length, Option, Some, None}
use Rattle.html_names.specs.declared.tag.Tag.{Tag}
use Rattle.html_names.specs.declared.tag.Tag.TheVariants as tag
use Rattle.html_names.specs.Names.{name_of}
use Rattle.html_names.specs.Sets.{is_formatting}
use Rattle.html_arena.specs.declared.arena.Limits.{Limits}
use Rattle.html_arena.specs.declared.data.NewNode.TheVariants.{Document, Element}
use Rattle.html_arena.specs.declared.data.Origin.TheVariants.{Implied, Token}
use Rattle.html_arena.specs.Data.{IsElement}
use Rattle.html_arena.specs.Make.{made}
use Rattle.html_arena.specs.Siblings.{Distinct, first_of, has}
use Rattle.html_arena.specs.Tree.{Tree, empty_tree, label_of, named, tag_at}
use Rattle.html_open.specs.declared.entry.Entry.{Entry}
use Rattle.html_open.specs.Entries.{has_node, nodes_of}
use Rattle.html_open.specs.Marking.{bare}
use Rattle.html_open.specs.Opened.{AreNodes, AreOneByOrigin, IsOpen, IsOrdered, open_at, origin_at}

-- the stack of open elements with the current node last, the list of active formatting elements with the latest entry last, the tree
-- without marks and steps, the steps so far, the number of the first token that no node comes from, the element pointers (13.2.4.4), and
-- the body that a frameset took the place of
pub record State : Type 0 where
  pub stack : List ℕ
  pub list : List Entry
  pub tree : Tree
  pub steps : ℕ
  pub tokens : ℕ
  pub head : Option ℕ
  pub form : Option ℕ
  pub detached : Option ℕ

abbrev pub state_of : List ℕ → List Entry → Tree → ℕ → Option ℕ → Option ℕ → Option ℕ → State
state_of s l t n h f d = record { stack = s; list = l; tree = bare t; steps = t.steps; tokens = n; head = h; form = f; detached = d }

-- it is a node
abbrev pub IsNode : Tree → Option ℕ → Type 0
IsNode t o = (x : ℕ) → o ≡ Some x → x < length t.labels

-- it is an element of this name
abbrev pub IsNamed : Tree → Tag → Option ℕ → Type 0
IsNamed t g o = (x : ℕ) → o ≡ Some x → (x < length t.labels) × (named t g x ≡ true)

-- What fits together; the first open element is an html, and it is node 0 where that is an element; all nodes were made for the first n
-- tokens; the pointers are elements of their names.
pub record IsUnderWay (s : List ℕ) (l : List Entry) (t : Tree) (n : ℕ) (h f d : Option ℕ) : Type 0 where
  pub is_open : IsOpen (open_at s l t)
  pub some_node : 0 < length t.labels
  pub first : IsNamed t tag.Html (first_of s)
  pub root : IsElement (label_of t 0) → first_of s ≡ Some 0
  pub tokens : (x i : ℕ) → origin_at t x ≡ Token i → i < n
  pub head : IsNamed t tag.Head h
  pub form : IsNamed t tag.Form f
  pub detached : IsNamed t tag.Body d

-- a document in which nothing is open, after so many steps
abbrev pub document_state : Option Limits → ℕ → State
document_state limits k =
    record {
      stack = [];
      list = [];
      tree = bare (made (empty_tree limits) Document);
      steps = k;
      tokens = 0;
      head = None;
      form = None;
      detached = None;
    }

-- the root of a fragment, opened, after so many steps (13.4)
abbrev pub fragment_state : Option Limits → ℕ → State
fragment_state limits k =
    record {
      stack = 0 ∷ [];
      list = [];
      tree = bare (made (empty_tree limits) (Element (name_of tag.Html) [] Implied));
      steps = k;
      tokens = 0;
      head = None;
      form = None;
      detached = None;
    }

-- What is always true. The stack holds elements, each once, and no later one is an ancestor of an earlier one; the first is an html, and
-- node 0 where that is an element; the list holds formatting elements, each once, and markers; at most one element of each token is on
-- the stack, at most one in the list, and these are one element; all nodes come from earlier tokens; the pointers point to nodes of
-- their names.
pub record IsSound (a : State) : Type 0 where
  pub stack_in : AreNodes a.tree a.stack
  pub elements : (x : ℕ) → has x a.stack ≡ true → IsElement (label_of a.tree x)
  pub stack_once : Distinct a.stack
  pub ordered : IsOrdered a.tree a.stack
  pub first : IsNamed a.tree tag.Html (first_of a.stack)
  pub root : IsElement (label_of a.tree 0) → first_of a.stack ≡ Some 0
  pub some_node : 0 < length a.tree.labels
  pub list_in : AreNodes a.tree (nodes_of a.list)
  pub formatting : (x : ℕ) → has_node x a.list ≡ true → is_formatting (tag_at a.tree x) ≡ true
  pub list_once : Distinct (nodes_of a.list)
  pub stack_origins : AreOneByOrigin a.tree a.stack a.stack
  pub list_origins : AreOneByOrigin a.tree (nodes_of a.list) (nodes_of a.list)
  pub shared_origins : AreOneByOrigin a.tree (nodes_of a.list) a.stack
  pub tokens : (x i : ℕ) → origin_at a.tree x ≡ Token i → i < a.tokens
  pub head : IsNamed a.tree tag.Head a.head
  pub form : IsNamed a.tree tag.Form a.form
  pub detached : IsNamed a.tree tag.Body a.detached
