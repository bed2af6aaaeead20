-- Claimed.
-- Where a budget is told: what was to be added next, and which limit that would pass. Nodes are looked at before held code points.
use Rattle.std.specs.Prelude.{ℕ, ◌≡◌, ◌+◌, ◌≤◌, true, List, [], length, slice_index, Option, Err}
use Rattle.html_names.specs.declared.foreign.Space.{Space}
use Rattle.html_names.specs.declared.tag.Tag.{Tag}
use Rattle.html_names.specs.Groups.{is_outermost}
use Rattle.html_names.specs.Names.{name_of}
use Rattle.html_arena.specs.declared.arena.ArenaError.{ArenaError}
use Rattle.html_arena.specs.declared.arena.Limits.{Limits}
use Rattle.html_arena.specs.declared.data.NewNode.{NewNode}
use Rattle.html_arena.specs.declared.data.NewNode.TheVariants.{Document, Element, CloneOf, Text, Comment, Doctype}
use Rattle.html_arena.specs.declared.data.Origin.{Origin}
use Rattle.html_arena.specs.declared.data.Origin.TheVariants.{Implied, Nothing, Token}
use Rattle.html_arena.specs.Budget.{budget_of}
use Rattle.html_arena.specs.Data.{attrs_in}
use Rattle.html_arena.specs.Make.{made_weight, nodes_made}
use Rattle.html_arena.specs.Merge.{lacking}
use Rattle.html_arena.specs.Tree.{label_of, more}
use Rattle.html_arena.specs.Weight.{attrs_weight, capped}
use Rattle.html_tokens.specs.declared.attributes.Attr.{Attr}
use Rattle.html_tokens.specs.declared.token.TokenKind.{TokenKind}
use Rattle.html_open.specs.Entries.{has_node}
use Rattle.html_ledger.specs.declared.symbol.Symbol.TheVariants as symbol
use Rattle.html_ledger.specs.Runs.{last_of}
use Rattle.html_ledger.specs.Symbols.{symbol_of}
use Rattle.html_arena.specs.declared.arena.ArenaError.TheVariants.{OutOfMemory, NodeBudget, HeldBudget}
use Rattle.html_construction.specs.Built.{Handed, IsBuilt}
use Rattle.html_construction.specs.Origins.{foreign_if, is_made_alone}
use Rattle.html_construction.specs.States.{State}
use Rattle.html_construction.specs.Tokens.{attrs_of, data_of, element_name, foreign_attrs, foreign_name, name_id, public_id, system_id, tag_name}

-- the name and the attributes of the element that a start tag asks for
pub record IsOwn (t : TokenKind) (name : List ℕ) (attrs : List Attr) : Type 0 where
  pub name_tag : Tag
  pub start : symbol_of t ≡ symbol.Start name_tag
  pub name_is : name ≡ element_name name_tag t
  pub attrs_are : attrs ≡ attrs_of t

-- the name of an element that no token asks for
pub record IsUnasked (name : List ℕ) (attrs : List Attr) : Type 0 where
  pub name_tag : Tag
  pub alone : is_made_alone name_tag ≡ true
  pub name_is : name ≡ name_of name_tag
  pub no_attrs : attrs ≡ []

pub record IsOwnComment (t : TokenKind) (text : List ℕ) : Type 0 where
  pub comment : symbol_of t ≡ symbol.Comment
  pub text_is : text ≡ data_of t

pub record IsOwnDoctype (t : TokenKind) (name public_text system_text : Option (List ℕ)) : Type 0 where
  pub doctype : symbol_of t ≡ symbol.Doctype
  pub name_is : name ≡ name_id t
  pub public_is : public_text ≡ public_id t
  pub system_is : system_text ≡ system_id t

-- by its origin
abbrev pub IsNextElement : TokenKind → Origin → List ℕ → List Attr → Type 0
IsNextElement t (Token i) name attrs = IsOwn t name attrs
IsNextElement t Implied name attrs = IsUnasked name attrs
IsNextElement t Nothing name attrs = ⊥

-- What may be made next, with a token in hand: its own node, an element that no token asks for, a clone of an element in the list of active
-- formatting elements, a text (13.2.6.1).
abbrev pub IsNextNode : TokenKind → State → NewNode → Type 0
IsNextNode t a Document = ⊥
IsNextNode t a (Element name attrs o) = IsNextElement t o name attrs
IsNextNode t a (CloneOf x) = has_node x a.tree.list ≡ true
IsNextNode t a Text = Unit {0}
IsNextNode t a (Comment text i) = IsOwnComment t text
IsNextNode t a (Doctype name public_text system_text i) = IsOwnDoctype t name public_text system_text

-- the element of foreign content of a start tag
abbrev pub foreign_node : Space → TokenKind → ℕ → NewNode
foreign_node s t i = Element (foreign_name s (tag_name t)) (foreign_attrs s (attrs_of t)) (Token i)

-- So many nodes and held code points may be added next: those of a node, of which a template is made with its contents; those of an element of foreign
-- content, where such a one was to be made of the last token that has a fate; a code point of a text; the attributes of a start tag html or body that
-- the first or the second open element lacks.
pub data MayAdd (t : TokenKind) (a : State) : ℕ → ℕ → Type 0 where
  a_node : (new : NewNode) → IsNextNode t a new → MayAdd t a (nodes_made new) (made_weight a.tree.tree new)
  a_foreign_element : (g : Tag) (s : Space) (i : ℕ) → symbol_of t ≡ symbol.Start g → foreign_if (last_of a.ledger.fates) ≡ true → MayAdd t a (nodes_made (foreign_node s t i)) (made_weight a.tree.tree (foreign_node s t i))
  a_code_point : MayAdd t a 0 1
  lacking_attrs : (g : Tag) (i : ℕ) → symbol_of t ≡ symbol.Start g → is_outermost g ≡ true → i ≤ 1 → MayAdd t a 0 (capped (attrs_weight (lacking (attrs_in (label_of a.tree.tree (slice_index a.tree.stack i))) (attrs_of t))))

-- With what is to be added next the nodes, or the held code points, that there are now would be more than the limit.
pub record IsPassed (limits : Option Limits) (t : TokenKind) (a : State) (limit : ArenaError) : Type 0 where
  pub nodes : ℕ
  pub held : ℕ
  pub added : MayAdd t a nodes held
  pub answer_is : budget_of limits (length a.tree.tree.labels + nodes) (more a.tree.tree.held held) ≡ Err limit

abbrev pub IsReason : Option Limits → TokenKind → State → ArenaError → Type 0
IsReason limits t a OutOfMemory = Unit {0}
IsReason limits t a NodeBudget = IsPassed limits t a NodeBudget
IsReason limits t a HeldBudget = IsPassed limits t a HeldBudget

-- A budget is told only where the next node, or the next code points, would pass it. Of want of memory nothing is said.
pub record IsRefused (limits : Option Limits) (t : TokenKind) (a : State) (e : ArenaError) : Type 0 where
  pub reason : IsReason limits t a e

-- so of the limits that were handed in, from one state to a later one, in which the call was refused, with a token in hand
abbrev pub Refuses : TokenKind → ArenaError → State → State → Type 0
Refuses t e a b = (h : Handed) → IsBuilt h a → IsRefused h.limits t b e

-- the same whatever the token in hand: nothing of it was to be added
pub record IsRefusedAny (limits : Option Limits) (a : State) (e : ArenaError) : Type 0 where
  pub any : (t : TokenKind) → IsRefused limits t a e

abbrev pub RefusesAny : ArenaError → State → State → Type 0
RefusesAny e a b = (h : Handed) → IsBuilt h a → IsRefusedAny h.limits b e
