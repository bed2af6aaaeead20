-- Claimed.
-- What an edit of a page asks for, and what it comes to (DOM 4.2.3, mutation algorithms, and 4.9, attributes).
use Rattle.std.specs.Prelude.{◌≡◌, ◌≢◌, ℕ, eqb, nat_lt, not, List, [], length, Option, None, Some, IfSome, MatchOption}
use Rattle.std.specs.Str.{chars}
use Rattle.html_arena.specs.Below.{or_self}
use Rattle.html_arena.specs.Data.{attrs_in, contents_in, host_in}
use Rattle.html_arena.specs.Make.{made}
use Rattle.html_arena.specs.Tree.{Tree as Nodes, added, detached, label_of, parent_of, with_replaced}
use Rattle.html_arena.specs.Weight.{capped, weight}
use Rattle.html_arena.specs.declared.data.NewNode.TheVariants as new_node
use Rattle.html_arena.specs.declared.data.NodeData.TheVariants as node_data
use Rattle.html_arena.specs.declared.data.Origin.TheVariants as origin
use Rattle.html_dom.specs.Attributes.{with_value, without_name}
use Rattle.html_dom.specs.Edits.{IsCause, IsUnwrapped, append_fault, appended_to, element_fault, gathered, insert_fault, or_fault, put_to, set_fault, unless, unwrap_fault}
use Rattle.html_dom.specs.Names.{is_element_name}
use Rattle.html_dom.specs.declared.error.EditError.{EditError}
use Rattle.html_dom.specs.declared.error.EditError.TheVariants.{NoNode, NotElement, BadName, NotLinkable, NoParent, Cycle, OutOfMemory, NodeBudget, HeldBudget}
use Rattle.html_parser.specs.declared.page.Tree.{Tree}
use Rattle.zilqumet_c.specs.Reads.{HasPage, tree_in}
use Rattle.zilqumet_c.specs.declared.changes.Edit.{Edit}
use Rattle.zilqumet_c.specs.declared.changes.Edit.TheVariants.{SetAttr, RemoveAttr, Remove, Unwrap, Append, InsertBefore, MakeElement, MakeText}
use Rattle.zilqumet_c.specs.declared.held.Held.{Held}

-- the number of a refusal
abbrev pub edit_status : EditError → ℕ
edit_status OutOfMemory = 1
edit_status NodeBudget = 6
edit_status HeldBudget = 7
edit_status NoNode = 13
edit_status NotElement = 17
edit_status BadName = 18
edit_status NotLinkable = 19
edit_status NoParent = 20
edit_status Cycle = 21

-- the root of a page stays its root
abbrev pub root_fault : ℕ → ℕ → Option EditError
root_fault r c = unless (not (eqb c r)) NotLinkable

-- the template of its contents, else the node itself
abbrev pub host_or_self : Nodes → ℕ → ℕ
host_or_self t x = or_self x (host_in (label_of t x))

-- why nodes with the root r can't be changed so, if they can't
abbrev pub fault_in : Edit → Nodes → ℕ → Option EditError
fault_in (SetAttr x name value) t r = set_fault t x (chars name.now)
fault_in (RemoveAttr x name) t r = element_fault t x
fault_in (Remove x) t r = unless (nat_lt x (length t.labels)) NoNode
fault_in (Unwrap x) t r = unwrap_fault t x
fault_in (Append p c) t r = or_fault (root_fault r c) (append_fault t (host_or_self t p) c)
fault_in (InsertBefore c n) t r = or_fault (root_fault r c) (insert_fault t c n)
fault_in (MakeElement name) t r = unless (is_element_name (chars name.now)) BadName
fault_in (MakeText text) t r = None

-- the nodes after it
abbrev pub IsEdited : Edit → Nodes → Nodes → Type 0
IsEdited (SetAttr x name value) a b = b ≡ with_replaced a x (with_value (chars name.now) (chars value.now) (attrs_in (label_of a x)))
IsEdited (RemoveAttr x name) a b = b ≡ with_replaced a x (without_name (chars name.now) (attrs_in (label_of a x)))
IsEdited (Remove x) a b = b ≡ detached a x (parent_of a x)
IsEdited (Unwrap x) a b = IfSome (parent_of a x) (λ p. IsUnwrapped (gathered a x (contents_in (label_of a x))) b x p)
IsEdited (Append p c) a b = b ≡ appended_to a (host_or_self a p) c
IsEdited (InsertBefore c n) a b = b ≡ put_to a c n
IsEdited (MakeElement name) a b = b ≡ made a (new_node.Element (chars name.now) [] origin.Nothing)
IsEdited (MakeText text) a b = b ≡ added a (node_data.Text (chars text.now)) (capped (weight (node_data.Text (chars text.now))))

-- the page with other nodes
abbrev pub with_nodes : Tree → Nodes → Tree
with_nodes t a = record t { arena = a }

-- An edit of a page: the handle before and after it, why nodes with a root can't be changed so, if they can't, what is so of the nodes before and after
-- it, and what was answered.
pub record IsEdit (old new : Option Held) (fault : Nodes → ℕ → Option EditError) (Done : Nodes → Nodes → Type 0) (status : ℕ) : Type 0 where
  -- It was done: nothing forbade it, and of the page the nodes alone are others.
  pub good : status ≡ 0 → HasPage old (λ t. fault t.arena t.root ≡ None)
  pub done : status ≡ 0 → HasPage old (λ t. HasPage new (λ u. (u ≡ with_nodes t u.arena) × Done t.arena u.arena))
  -- It was refused: for what forbids it, else for want of memory or for a limit; or there is no page.
  pub cause : status ≢ 0 → MatchOption (tree_in old) (status ≡ 12) (λ t. (e : EditError) × IsCause (fault t.arena t.root) e × (status ≡ edit_status e))
  -- The page is then as it was, and so is all else that the handle may hold.
  pub kept : status ≢ 0 → tree_in new ≡ tree_in old
  pub other : tree_in old ≡ None → (status ≡ 12) × (new ≡ old)
