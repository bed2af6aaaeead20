-- Claimed, but for this crate's own functions: IsRegrouped, IsKept, IsTurn.
-- The adoption agency (13.2.6.4.7): what an end tag of a formatting name leaves of the stack, the list and the tree.
use Rattle.std.specs.Prelude.{◌≡◌, ℕ, zero, suc, ◌+◌, ◌-◌, ◌<◌, ◌≤◌, Bool, true, false, cond, eqb, ◌&&◌, not, List, [], ◌∷◌, ◌++◌, length, map, filter, reverse, drop, take, slice_index, Option, Some, None}
use Rattle.std.specs.List.{flat_map, list_any}
use Rattle.html_names.specs.declared.tag.Tag.{Tag}
use Rattle.html_arena.specs.Data.{cloned}
use Rattle.html_arena.specs.Siblings.{has, is_in, first_of, last_of}
use Rattle.html_arena.specs.Tree.{Tree, WellFormed, label_of, named, children_of, parent_of, tag_at}
use Rattle.html_open.specs.declared.adoption.AdoptEnd.{AdoptEnd}
use Rattle.html_open.specs.declared.adoption.AdoptEnd.TheVariants.{Done, OtherEndTag}
use Rattle.html_open.specs.declared.entry.Entry.{Entry}
use Rattle.html_open.specs.declared.entry.Entry.TheVariants.{Marker, Node}
use Rattle.html_arena.specs.declared.arena.ArenaError.{ArenaError}
use Rattle.html_open.specs.declared.places.Place.{Place}
use Rattle.html_open.specs.AdoptFinding.{IsBlock, element_in_scope, special}
use Rattle.html_open.specs.Cloning.{IsCut}
use Rattle.html_open.specs.Entries.{has_node, is_marker, last_named, without_node}
use Rattle.html_open.specs.Hanging.{chain_top, chained, hung_parent, with_put}
use Rattle.html_open.specs.Lists.{above, below}
use Rattle.html_open.specs.Marking.{IsSameTree}
use Rattle.html_open.specs.Opened.{IsOpen, Open}
use Rattle.html_open.specs.Placing.{place_at}

-- there is no furthest block: the stack ends before the formatting element, and that is out of the list
pub record Closed (subject : Tag) (old new : Open) : Type 0 where
  pub formatting_element : ℕ
  pub formatting : last_named old.tree subject old.list ≡ Some formatting_element
  pub on_stack : has formatting_element old.stack ≡ true
  pub in_scope : element_in_scope old.tree formatting_element old.stack ≡ true
  pub no_special : list_any (special old.tree) (above (eqb formatting_element) old.stack) ≡ false
  pub stack_is : new.stack ≡ below (eqb formatting_element) old.stack
  pub list_is : new.list ≡ without_node formatting_element old.list
  pub tree_is : IsSameTree old.tree new.tree

abbrev pub last_three : {X : Type 0} → List X → List X
last_three xs = drop (length xs - 3) xs

-- the elements that are cloned: of the last three between the formatting element and the furthest block those in the list, the nearest to
-- the furthest block first
abbrev pub originals : (ℕ → Bool) → List ℕ → List ℕ
originals listed inner = reverse (filter listed (last_three inner))

-- the number of the clone of x, that of the first being n
abbrev pub clone_number : ℕ → List ℕ → ℕ → ℕ
clone_number n [] x = n
clone_number n (y ∷ ys) x = cond (eqb x y) n (clone_number (n + 1) ys x)

-- the clones, the last of the c first
abbrev pub clones_down : ℕ → ℕ → List ℕ
clones_down n zero = []
clones_down n (suc c) = (n + c) ∷ clones_down n c

-- the new element, which is the formatting element's clone, where no other is cloned
abbrev pub alone : List ℕ → ℕ → List ℕ
alone [] new_element = new_element ∷ []
alone (y ∷ ys) new_element = []

-- the new element, where x is the element nearest to the furthest block that is cloned
abbrev pub after_nearest : List ℕ → ℕ → ℕ → List ℕ
after_nearest cloned_elements x new_element = cond (is_in x (first_of cloned_elements)) (new_element ∷ []) []

-- What stands in the list for an element x: the formatting element goes, and the new element stands at the bookmark, just after the clone
-- nearest to the furthest block, or in the formatting element's place where no other element is cloned. An element that is cloned stays as
-- its clone, the first of which is n, and any other where it passes the test.
abbrev pub heirs : ℕ → (ℕ → Bool) → List ℕ → ℕ → ℕ → ℕ → List ℕ
heirs formatting_element stays cloned_elements n new_element x =
    cond (eqb x formatting_element) (alone cloned_elements new_element)
    (cond (has x cloned_elements) (clone_number n cloned_elements x ∷ after_nearest cloned_elements x new_element)
    (cond (stays x) (x ∷ []) []))

-- the same of an entry
abbrev pub relisted : ℕ → (ℕ → Bool) → List ℕ → ℕ → ℕ → Entry → List Entry
relisted formatting_element stays cloned_elements n new_element Marker = Marker ∷ []
relisted formatting_element stays cloned_elements n new_element (Node x) = map Node (heirs formatting_element stays cloned_elements n new_element x)

-- The furthest block is the first special element after the formatting element: it goes with what it holds into clones of the elements
-- between them, and the topmost of these to the place for the common ancestor.
pub record Round (subject : Tag) (foster : Bool) (old new : Open) : Type 0 where
  -- the stack: the common ancestor stands just before the formatting element
  pub lower : List ℕ
  pub common_ancestor : ℕ
  pub formatting_element : ℕ
  pub inner : List ℕ
  pub furthest_block : ℕ
  pub upper : List ℕ
  pub stack_was : old.stack ≡ lower ++ (common_ancestor ∷ formatting_element ∷ (inner ++ (furthest_block ∷ upper)))
  pub formatting : last_named old.tree subject old.list ≡ Some formatting_element
  pub in_scope : element_in_scope old.tree formatting_element old.stack ≡ true
  pub none_between : list_any (special old.tree) inner ≡ false
  pub block_special : special old.tree furthest_block ≡ true
  -- the elements that are cloned; their clones are the next nodes, and the formatting element's is the one after them
  pub cloned_elements : List ℕ
  pub cloned_are : cloned_elements ≡ originals (λ x. has_node x old.list) inner
  pub new_element : ℕ
  pub new_element_is : new_element ≡ length old.tree.labels + length cloned_elements
  pub stack_is : new.stack ≡ lower ++ (common_ancestor ∷ (clones_down (length old.tree.labels) (length cloned_elements) ++ (furthest_block ∷ new_element ∷ upper)))
  pub list_is : new.list ≡ flat_map (relisted formatting_element (λ x. not (has x inner)) cloned_elements (length old.tree.labels) new_element) old.list
  pub labels_are : new.tree.labels ≡ old.tree.labels ++ map (λ x. cloned (label_of old.tree x)) (cloned_elements ++ formatting_element ∷ [])
  pub children_are : (x : ℕ) → children_of new.tree x
      ≡ with_put old.tree (place_at old.tree old.stack common_ancestor foster) (chain_top furthest_block (length old.tree.labels) new_element) x
      (chained old.tree furthest_block (length old.tree.labels) new_element x)
  pub limits_are : new.tree.limits ≡ old.tree.limits
  -- what is left is a tree, with what is true between calls: the lists of children tell the parents
  pub well_formed : WellFormed new.tree
  pub is_open : IsOpen new

-- the same for the elements at two indices of the stack, and what is put at a place
pub record IsRegrouped (at b : ℕ) (target : Place) (old new : Open) : Type 0 where
  pub cloned_elements : List ℕ
  pub cloned_are : cloned_elements ≡ originals (λ x. has_node x old.list) (take (b - (at + 1)) (drop (at + 1) old.stack))
  pub stack_is : new.stack ≡ take at old.stack ++ (clones_down (length old.tree.labels) (length cloned_elements) ++ (slice_index old.stack b ∷ (length old.tree.labels + length cloned_elements) ∷ drop (b + 1) old.stack))
  pub list_is : new.list ≡ flat_map (relisted (slice_index old.stack at) (λ x. not (has x (take (b - (at + 1)) (drop (at + 1) old.stack)))) cloned_elements (length old.tree.labels) (length old.tree.labels + length cloned_elements)) old.list
  pub labels_are : new.tree.labels ≡ old.tree.labels ++ map (λ x. cloned (label_of old.tree x)) (cloned_elements ++ slice_index old.stack at ∷ [])
  pub parents_are : (x : ℕ) → parent_of new.tree x
      ≡ hung_parent old.tree (slice_index old.stack b) (length old.tree.labels) (length old.tree.labels + length cloned_elements) target x
  pub children_are : (x : ℕ) → children_of new.tree x
      ≡ with_put old.tree target (chain_top (slice_index old.stack b) (length old.tree.labels) (length old.tree.labels + length cloned_elements)) x (chained old.tree (slice_index old.stack b) (length old.tree.labels) (length old.tree.labels + length cloned_elements) x)
  pub limits_are : new.tree.limits ≡ old.tree.limits

-- x has its parent and its tag, and is no more in the list than it was
pub record IsKept (old new : Tree) (before after : List Entry) (x : ℕ) : Type 0 where
  pub parent_is : parent_of new x ≡ parent_of old x
  pub tag_is : tag_at new x ≡ tag_at old x
  pub unlisted : has_node x before ≡ false → has_node x after ≡ false

-- the first element of a stack is not in the list
abbrev pub IsFirstFree : List ℕ → List Entry → Type 0
IsFirstFree stack list = (x : ℕ) → first_of stack ≡ Some x → has_node x list ≡ false

-- all nodes that there were keep their labels, and those that were made are clones of elements in the list: the name, the attributes and
-- the token of each are those of its original
pub record MadeClones (old : Open) (new : Tree) : Type 0 where
  pub elements : List ℕ
  pub listed : (x : ℕ) → has x elements ≡ true → has_node x old.list ≡ true
  pub labels_are : new.labels ≡ old.tree.labels ++ map (λ x. cloned (label_of old.tree x)) elements

-- nothing changes
pub record IsUnchanged (old new : Open) : Type 0 where
  pub stack_is : new.stack ≡ old.stack
  pub list_is : new.list ≡ old.list
  pub tree_is : IsSameTree old.tree new.tree

-- the formatting element is off the stack: its entry goes
pub record Forgotten (subject : Tag) (old new : Open) : Type 0 where
  pub formatting_element : ℕ
  pub formatting : last_named old.tree subject old.list ≡ Some formatting_element
  pub off_stack : has formatting_element old.stack ≡ false
  pub stack_is : new.stack ≡ old.stack
  pub list_is : new.list ≡ without_node formatting_element old.list
  pub tree_is : IsSameTree old.tree new.tree

-- the formatting element is on the stack and not in scope: nothing changes
pub record OutOfScope (subject : Tag) (old new : Open) : Type 0 where
  pub formatting_element : ℕ
  pub formatting : last_named old.tree subject old.list ≡ Some formatting_element
  pub on_stack : has formatting_element old.stack ≡ true
  pub not_in_scope : element_in_scope old.tree formatting_element old.stack ≡ false
  pub unchanged : IsUnchanged old new

-- there is no such entry
pub record NoEntry (subject : Tag) (old new : Open) : Type 0 where
  pub none : last_named old.tree subject old.list ≡ None
  pub unchanged : IsUnchanged old new

-- the current node has the name and is not in the list: it is popped
pub record Popped (subject : Tag) (old new : Open) : Type 0 where
  pub current : ℕ
  pub stack_was : old.stack ≡ new.stack ++ current ∷ []
  pub is_named : named old.tree subject current ≡ true
  pub not_listed : has_node current old.list ≡ false
  pub list_is : new.list ≡ old.list
  pub tree_is : IsSameTree old.tree new.tree

-- the current node is popped at once
abbrev pub pops_at_once : Tag → Open → Option ℕ → Bool
pops_at_once name o None = false
pops_at_once name o (Some x) = named o.tree name x && not (has_node x o.list)

-- n rounds, one after another
pub data Rounds (subject : Tag) (foster : Bool) : ℕ → Open → Open → Type 0 where
  no_round : (o : Open) → Rounds subject foster zero o o
  one_more : (n : ℕ) (o p q : Open) → Rounds subject foster n o p → Round subject foster p q → Rounds subject foster (suc n) o q

-- how fewer than eight rounds end
pub data Ends (subject : Tag) : AdoptEnd → Open → Open → Type 0 where
  closes : (o p : Open) → Closed subject o p → Ends subject Done o p
  forgets : (o p : Open) → Forgotten subject o p → Ends subject Done o p
  out_of_scope : (o p : Open) → OutOfScope subject o p → Ends subject Done o p
  no_entry : (o p : Open) → NoEntry subject o p → Ends subject OtherEndTag o p

-- one round, or an end
abbrev pub IsTurn : Tag → Bool → Option AdoptEnd → Open → Open → Type 0
IsTurn name foster None o p = Round name foster o p
IsTurn name foster (Some end) o p = Ends name end o p

pub data Adopted (subject : Tag) (foster : Bool) : AdoptEnd → Open → Open → Type 0 where
  popped : (o p : Open) → Popped subject o p → Adopted subject foster Done o p
  eight : (o p : Open) → pops_at_once subject o (last_of o.stack) ≡ false → Rounds subject foster 8 o p → Adopted subject foster Done o p
  fewer : (end : AdoptEnd) (n : ℕ) (o p q : Open) → pops_at_once subject o (last_of o.stack) ≡ false → n < 8 → Rounds subject foster n o p → Ends subject end p q
      → Adopted subject foster end o q

-- The special elements of the stack are the same, in order, and so are the markers of the list. What else stands on the stack or in the
-- list stood there before, or is new.
pub record Survives (old new : Open) : Type 0 where
  pub no_fewer : length old.tree.labels ≤ length new.tree.labels
  pub special_are : filter (special new.tree) new.stack ≡ filter (special old.tree) old.stack
  pub markers_are : filter is_marker new.list ≡ filter is_marker old.list
  pub on_stack : (x : ℕ) → x < length old.tree.labels → has x new.stack ≡ true → has x old.stack ≡ true
  pub in_list : (x : ℕ) → x < length old.tree.labels → has_node x new.list ≡ true → has_node x old.list ≡ true

-- the elements that a round clones, in order, where the formatting element and the first special element stand at two indices
abbrev pub round_originals : Open → ℕ → ℕ → List ℕ
round_originals o at b = originals (λ x. has_node x o.list) (take (b - (at + 1)) (drop (at + 1) o.stack)) ++ slice_index o.stack at ∷ []

-- a round was begun and could not be ended: the stack and the list are as they were
pub record IsStopped (subject : Tag) (old new : Open) (e : ArenaError) : Type 0 where
  pub at : ℕ
  pub b : ℕ
  pub block : IsBlock subject old at b
  pub stack_is : new.stack ≡ old.stack
  pub list_is : new.list ≡ old.list
  pub cut : IsCut old.tree new.tree (round_originals old at b) e

-- why an adoption was refused, and what it left: less than eight rounds were done, and the next could not be ended
pub record IsRefusal (subject : Tag) (foster : Bool) (old new : Open) (e : ArenaError) : Type 0 where
  pub not_popped : pops_at_once subject old (last_of old.stack) ≡ false
  pub n : ℕ
  pub few : n < 8
  pub p : Open
  pub rounds : Rounds subject foster n old p
  pub stopped : IsStopped subject p new e
