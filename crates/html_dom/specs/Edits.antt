-- Claimed.
-- Why an edit is refused, and what it leaves.
use Rattle.std.specs.Prelude.{◌≡◌, ℕ, Bool, true, false, cond, eqb, not, ◌&&◌, nat_lt, List, [], ◌∷◌, ◌++◌, length, Option, Some, None, Result, Ok, Err}
use Rattle.html_arena.specs.declared.arena.ArenaError.{ArenaError}
use Rattle.html_arena.specs.declared.arena.ArenaError.TheVariants as arena
use Rattle.html_arena.specs.Below.{or_self}
use Rattle.html_arena.specs.Data.{attrs_in, contents_in, is_linkable}
use Rattle.html_arena.specs.Siblings.{has}
use Rattle.html_arena.specs.Tree.{Tree, WellFormed, ancestors, appended, children_of, detached, inserted, label_of, moved, parent_of}
use Rattle.html_tokens.specs.declared.attributes.Attr.{Attr}
use Rattle.html_dom.specs.Attributes.{can_replace, is_own_or_good}
use Rattle.html_dom.specs.declared.error.EditError.{EditError}
use Rattle.html_dom.specs.declared.error.EditError.TheVariants.{NoNode, NotElement, BadName, NotLinkable, NoParent, Cycle, OutOfMemory, NodeBudget, HeldBudget}
use Rattle.html_dom.specs.Places.{would_cycle}
use Rattle.html_dom.specs.Reads.{is_element}

-- an arena's refusal, as one of an edit
abbrev pub of_arena : ArenaError → EditError
of_arena arena.OutOfMemory = OutOfMemory
of_arena arena.NodeBudget = NodeBudget
of_arena arena.HeldBudget = HeldBudget

-- why x is no element of the tree, if it is none
abbrev pub element_fault : Tree → ℕ → Option EditError
element_fault t x = cond (nat_lt x (length t.labels)) (cond (is_element (label_of t x)) None (Some NotElement)) (Some NoNode)

-- why x is no node of the tree that may have a parent
abbrev pub child_fault : Tree → ℕ → Option EditError
child_fault t x = cond (nat_lt x (length t.labels)) (cond (is_linkable (label_of t x)) None (Some NotLinkable)) (Some NoNode)

abbrev pub or_fault : Option EditError → Option EditError → Option EditError
or_fault None f = f
or_fault (Some e) f = Some e

-- a cause, where a test is not passed
abbrev pub unless : Bool → EditError → Option EditError
unless true e = None
unless false e = Some e

-- the outcome of a call that nothing else refuses
abbrev pub outcome : Option EditError → Result (Unit {0}) EditError
outcome None = Ok tt
outcome (Some e) = Err e

-- the cause is the fault; or there is none, and memory or a budget refused
abbrev pub IsCause : Option EditError → EditError → Type 0
IsCause (Some f) e = e ≡ f
IsCause None e = (a : ArenaError) × (e ≡ of_arena a)

-- why x can't have an attribute of this name
abbrev pub set_fault : Tree → ℕ → List ℕ → Option EditError
set_fault t x name = or_fault (element_fault t x) (unless (is_own_or_good (attrs_in (label_of t x)) name) BadName)

-- why x can't have these attributes in place of its own
abbrev pub replace_fault : Tree → ℕ → List Attr → Option EditError
replace_fault t x attrs = or_fault (element_fault t x) (unless (can_replace (attrs_in (label_of t x)) attrs) BadName)

-- why c can't be linked below p
abbrev pub append_fault : Tree → ℕ → ℕ → Option EditError
append_fault t p c = or_fault (unless (nat_lt p (length t.labels)) NoNode) (or_fault (child_fault t c) (unless (not (would_cycle t c p)) Cycle))

-- c, taken from where it stood, is the last node just below p; below a template that is in its contents
abbrev pub appended_to : Tree → ℕ → ℕ → Tree
appended_to t p c = appended (detached t c (parent_of t c)) (or_self p (contents_in (label_of t p))) c

abbrev pub has_parent : Option ℕ → Bool
has_parent None = false
has_parent (Some p) = true

-- why c can't be put before n
abbrev pub insert_fault : Tree → ℕ → ℕ → Option EditError
insert_fault t c n = or_fault (unless (nat_lt n (length t.labels)) NoNode) (or_fault (child_fault t c) (or_fault (unless (has_parent (parent_of t n)) NoParent) (unless (not (would_cycle t c n)) Cycle)))

-- c, taken from where it stood, is just before n
abbrev pub put_to : Tree → ℕ → ℕ → Tree
put_to t c n = inserted (detached t c (parent_of t c)) c n (parent_of t n)

-- the list with the nodes ks in the place of x
abbrev pub in_place : ℕ → List ℕ → List ℕ → List ℕ
in_place x ks [] = []
in_place x ks (y ∷ ys) = cond (eqb x y) (ks ++ ys) (y ∷ in_place x ks ys)

-- a node stands in what holds its own contents, if it has any
abbrev pub is_inside : Option ℕ → List ℕ → Bool
is_inside None above = false
is_inside (Some c) above = has c above

-- each of the nodes may have a parent
abbrev pub are_linkable : Tree → List ℕ → Bool
are_linkable t [] = true
are_linkable t (x ∷ xs) = is_linkable (label_of t x) && are_linkable t xs

-- the children of a template's contents
abbrev pub held_by : Tree → Option ℕ → List ℕ
held_by t None = []
held_by t (Some c) = children_of t c

-- why x can't be unwrapped; that its children are linkable is so of all that the calls of an arena make
abbrev pub unwrap_fault : Tree → ℕ → Option EditError
unwrap_fault t x =
    or_fault (element_fault t x) (or_fault (unless (has_parent (parent_of t x)) NoParent) (or_fault (unless (not (is_inside (contents_in (label_of t x)) (ancestors t x))) Cycle)
    (unless (are_linkable t (children_of t x) && are_linkable t (held_by t (contents_in (label_of t x)))) NotLinkable)))

-- what a template's contents hold are the last children of x itself, where x has contents
abbrev pub gathered : Tree → ℕ → Option ℕ → Tree
gathered t x None = t
gathered t x (Some c) = moved t c x

-- the children of x are in its place among those of p, and x stands alone, without children
pub record IsUnwrapped (old new : Tree) (x p : ℕ) : Type 0 where
  pub well_formed : WellFormed new
  pub parent_is : (y : ℕ) → parent_of new y ≡ cond (has y (children_of old x)) (Some p) (cond (eqb y x) None (parent_of old y))
  pub children_are : (y : ℕ) → children_of new y ≡ cond (eqb y p) (in_place x (children_of old x) (children_of old p)) (cond (eqb y x) [] (children_of old y))
  pub same_labels : new.labels ≡ old.labels
  pub same_marks : new.marks ≡ old.marks
