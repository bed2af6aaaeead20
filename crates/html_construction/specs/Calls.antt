-- Claimed.
-- What one call makes of the tree and of the ledger.
use Rattle.std.specs.Prelude.{◌==◌, ◌&&◌, ◌≡◌, ℕ, ◌+◌, List, [], ◌∷◌, Bool, cond, length, Option, Some, None}
use Rattle.html_names.specs.declared.foreign.Space.{Space}
use Rattle.html_names.specs.declared.tag.Tag.{Tag}
use Rattle.html_names.specs.declared.tag.Tag.TheVariants as tag
use Rattle.html_names.specs.Names.{name_of}
use Rattle.html_names.specs.Groups.{is_definition}
use Rattle.html_arena.specs.declared.data.NewNode.{NewNode}
use Rattle.html_arena.specs.declared.data.NewNode.TheVariants.{Element, Comment, Doctype}
use Rattle.html_arena.specs.declared.data.Origin.TheVariants.{Implied, Token}
use Rattle.html_tokens.specs.declared.attributes.Attr.{Attr}
use Rattle.html_open.specs.declared.adoption.AdoptEnd.{AdoptEnd}
use Rattle.html_open.specs.declared.adoption.AdoptEnd.TheVariants.{Done, OtherEndTag}
use Rattle.html_open.specs.AdoptFinding.{element_in_scope}
use Rattle.html_open.specs.Entries.{last_named, pushed, without_node}
use Rattle.html_open.specs.Lists.{up_to}
use Rattle.html_open.specs.Scopes.{stays}
use Rattle.html_tokens.specs.declared.token.TokenKind.{TokenKind}
use Rattle.html_tree.specs.declared.groups.Group.{Group}
use Rattle.html_tree.specs.declared.groups.Group.TheVariants as group
use Rattle.html_tree.specs.declared.groups.Target.{Target}
use Rattle.html_tree.specs.declared.groups.Target.TheVariants as target
use Rattle.html_tree.specs.Groups.{in_group}
use Rattle.html_tree.specs.Closing.{before_index, remaining}
use Rattle.html_tree.specs.Inserting.{with_new, with_open}
use Rattle.html_tree.specs.Listing.{IsAdopted}
use Rattle.html_tree.specs.Searching.{found_name}
use Rattle.html_tree.specs.States.{State as Tree}
use Rattle.html_tree.specs.Targets.{place_for}
use Rattle.html_ledger.specs.declared.fate.Fate.{Fate}
use Rattle.html_ledger.specs.declared.symbol.Symbol.{Symbol}
use Rattle.html_ledger.specs.Entries.{given, number_of}
use Rattle.html_construction.specs.States.{State}
use Rattle.html_construction.specs.Tokens.{attrs_of, data_of, element_name, foreign_attrs, foreign_name, name_id, public_id, system_id, tag_name}

-- the tree is this one, but for its steps
pub record IsTree (t : Tree) (z : State) : Type 0 where
  pub tree_is : z.tree ≡ record t { steps = z.tree.steps }

-- the next token was given this fate, and no other
pub record HasFate (y : Symbol) (f : Fate) (a z : State) : Type 0 where
  pub ledger_is : z.ledger ≡ given a.ledger y f

-- a node is made and put at a target, and opened
abbrev pub opened_at : NewNode → Target → Tree → Tree
opened_at new g t = record t { stack = with_open t; tree = with_new t.tree (place_for t g) new }

-- a node is made and put at a target
abbrev pub placed_at : NewNode → Target → Tree → Tree
placed_at new g t = record t { tree = with_new t.tree (place_for t g) new }

-- so many tokens have nodes at most
abbrev pub counting : ℕ → Tree → Tree
counting n t = record t { tokens = n }

-- the element of a start tag
abbrev pub element_of : State → TokenKind → NewNode
element_of a token = Element (tag_name token) (attrs_of token) (Token (number_of a.ledger))

-- the same, where a void element of the name image is an img
abbrev pub void_of : State → Tag → TokenKind → NewNode
void_of a t token = Element (element_name t token) (attrs_of token) (Token (number_of a.ledger))

-- the element of foreign content of a start tag
abbrev pub foreign_of : State → Space → TokenKind → NewNode
foreign_of a space token = Element (foreign_name space (tag_name token)) (foreign_attrs space (attrs_of token)) (Token (number_of a.ledger))

abbrev pub root_of : State → TokenKind → NewNode
root_of a token = Element (name_of tag.Html) (attrs_of token) (Token (number_of a.ledger))

abbrev pub implied_of : Tag → NewNode
implied_of t = Element (name_of t) [] Implied

abbrev pub comment_of : State → TokenKind → NewNode
comment_of a token = Comment (data_of token) (number_of a.ledger)

abbrev pub doctype_of : State → TokenKind → NewNode
doctype_of a token = Doctype (name_id token) (public_id token) (system_id token) (number_of a.ledger)

-- the end tag of a formatting element: the adoption agency, and where it says so the rules for any other end tag (13.2.6.4.7)
pub record HasEnded (t : Tag) (foster : Bool) (a z : Tree) : Type 0 where
  pub end : AdoptEnd
  pub middle : Tree
  pub adopted : IsAdopted t foster end a middle
  pub done : end ≡ Done → z ≡ record middle { steps = z.steps }
  pub other : end ≡ OtherEndTag → z ≡ record middle { stack = before_index (found_name middle (name_of t)) middle.stack; steps = z.steps }

-- Where an a element is listed after the last marker, the adoption agency was run for it, and it was taken off the list and, unless it is the first
-- element, off the stack (13.2.6.4.7, a start tag "a"); else nothing changed.
pub record IsLinkClosed (foster : Bool) (a z : Tree) : Type 0 where
  pub none : last_named a.tree tag.A a.list ≡ None → z ≡ record a { steps = z.steps }
  pub some : (x : ℕ) → last_named a.tree tag.A a.list ≡ Some x → (m : Tree) × HasEnded tag.A foster a m × (z ≡ record m { list = without_node x m.list; stack = remaining x m.stack; steps = z.steps })

-- the list items that one of this name closes (13.2.6.4.7)
abbrev pub item_group : Tag → Group
item_group t = cond (is_definition t) group.Definition (group.Named t)

-- the form element pointer is at none
abbrev pub formless : Tree → Tree
formless t = record t { form = None }

-- The form element pointer is at none any more, and the form at which it was is closed, where it is in scope: implied end tags are generated, and it is
-- taken off the stack, unless it is the first element (13.2.6.4.7, an end tag "form").
abbrev pub form_closed : Tree → Option ℕ → Tree
form_closed t None = formless t
form_closed t (Some x) = cond (element_in_scope t.tree x t.stack) (record (formless t) { stack = remaining x (up_to (stays t.tree None) t.stack) }) (formless t)

-- the current node is of a group
abbrev pub is_first : Group → List Tag → Bool
is_first g [] = in_group g tag.Other
is_first g (t ∷ s) = in_group g t

-- the rules for the token in hand took nothing off the stack of open elements and made no node so far
abbrev pub is_idle : State → Bool
is_idle a = (length a.stack == a.depth) && (length a.tree.tree.labels == a.nodes)

-- the same, by the stack of the tree
abbrev pub is_unmoved : State → Bool
is_unmoved a = (length a.tree.stack == a.depth) && (length a.tree.tree.labels == a.nodes)

-- the element of a formatting start tag is made, put at the place for the current node, opened and listed
abbrev pub listed_at : Bool → List ℕ → List Attr → ℕ → Tree → Tree
listed_at foster name attrs k t = record (opened_at (Element name attrs (Token k)) (target.Current foster) (counting (k + 1) t)) {
  list = pushed (with_new t.tree (place_for t (target.Current foster)) (Element name attrs (Token k))) (length t.tree.labels) t.list;
}
