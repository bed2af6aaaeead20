-- Reconstruction (13.2.4.3) and adoption (13.2.6.4.7) of a tree under construction each have one outcome, marks and counts apart.
use Rattle.std.proofs.Common.{◌≡◌, ℕ, ◌+◌, Bool, ◌++◌, length, map, Option, Some, None, refl, sym, ◌∙◌, ap, subst, le_refl}
use Rattle.std.specs.List.{range_with_len}
use Rattle.html_names.specs.declared.tag.Tag.{Tag}
use Rattle.html_names.specs.declared.tag.Tag.TheVariants as tag
use Rattle.html_names.specs.Names.{name_of}
use Rattle.html_arena.specs.Siblings.{Distinct}
use Rattle.html_arena.specs.Tree.{Tree as Nodes}
use Rattle.html_open.specs.declared.adoption.AdoptEnd.{AdoptEnd}
use Rattle.html_open.specs.declared.adoption.AdoptEnd.TheVariants.{Done, OtherEndTag}
use Rattle.html_open.specs.declared.entry.Entry.TheVariants.{Node}
use Rattle.html_open.specs.Entries.{last_named, without_node}
use Rattle.html_open.specs.Lists.{up_to}
use Rattle.html_open.specs.Marking.{bare}
use Rattle.html_open.specs.Opened.{Open, open_at}
use Rattle.html_open.specs.Outcome.{IsAlike}
use Rattle.html_open.specs.Reopening.{closed, fresh, stands, with_clones}
use Rattle.html_tree.specs.Closing.{before_index, remaining}
use Rattle.html_tree.specs.Listing.{IsAdopted, IsReopened}
use Rattle.html_tree.specs.Searching.{found_name, has_name, index_before, is_special_at}
use Rattle.html_tree.specs.States.{State as Tree}
use Rattle.html_construction.specs.Calls.{HasEnded, IsLinkClosed}
use Rattle.html_construction.specs.Plans.{IsMoved}
use Rattle.html_construction.specs.States.{State}
use Rattle.html_laws.specs.Outcomes.{AreOnce, IsOnce}
use Rattle.html_laws.specs.Likeness.{core, uncounted, uncounted_tree}
use Rattle.html_laws.proofs.Adoptions.{adopted-once, adopted-one}
use Rattle.html_laws.proofs.Nodes.{clones-core, clones-longer}
use Rattle.html_laws.proofs.Stacks.{once-part, once-range, part-before, part-remaining}

-- the stack, the list and the nodes, without marks and counts
abbrev pub bared : Open → Open
bared o = open_at o.stack o.list (uncounted o.tree)

abbrev pub opened : Tree → Open
opened u = open_at u.stack u.list (uncounted u.tree)

-- other open elements, another list and other nodes
abbrev with_open : State → Open → State
with_open a o = record a { tree = record a.tree { stack = o.stack; list = o.list; tree = o.tree } }

moved-core : (a b : State) → IsMoved a b → core b ≡ with_open (core a) (opened b.tree)
moved-core a b k = ap core k.rest ∙ ap (λ (u : Tree). record (core a) { tree = uncounted_tree u }) k.pointers

pub moved-one : (a a' b b' : State) → core a ≡ core a' → IsMoved a b → IsMoved a' b' → opened b.tree ≡ opened b'.tree → core b ≡ core b'
moved-one a a' b b' e k k' f =
    moved-core a b k ∙ ap (λ v. with_open v (opened b.tree)) e ∙ ap (with_open (core a')) f ∙ sym (moved-core a' b' k')

pub opened-one : (a b : State) → core a ≡ core b → opened a.tree ≡ opened b.tree
opened-one a b e = ap (λ (v : State). opened v.tree) e

-- RECONSTRUCTION

abbrev after_reopening : Bool → Open → Open
after_reopening foster o = open_at (o.stack ++ fresh o.tree (length (closed o))) (up_to (stands o.stack) o.list ++ map Node (fresh o.tree (length (closed o)))) (uncounted (with_clones o.tree o.stack foster (closed o)))

-- trees under construction with these marks and counts
at-open : (u : Tree) (t : Nodes) → bare t ≡ u.tree → bared (open_at u.stack u.list t) ≡ opened u
at-open u t e = ap (λ (v : Nodes). open_at u.stack u.list (uncounted v)) e

reopened-is : (foster : Bool) (u v : Tree) → IsReopened foster u v → opened v ≡ after_reopening foster (opened u)
reopened-is foster u v k =
    let o = open_at u.stack u.list k.old in
    let nodes : uncounted v.tree ≡ uncounted (with_clones (uncounted k.old) u.stack foster (closed o)) =
    ap uncounted (sym k.new_is) ∙ ap uncounted k.reopened.tree_is ∙ sym (clones-core (closed o) k.old u.stack foster) in
    ap (λ s. open_at s v.list (uncounted v.tree)) k.reopened.stack_is
    ∙ ap (λ l. open_at (u.stack ++ fresh k.old (length (closed o))) l (uncounted v.tree)) k.reopened.list_is
    ∙ ap (λ t. open_at (u.stack ++ fresh k.old (length (closed o))) (up_to (stands u.stack) u.list ++ map Node (fresh k.old (length (closed o)))) t) nodes
    ∙ ap (after_reopening foster) (at-open u k.old k.old_is)

pub reopened-one : (foster foster' : Bool) (u u' v v' : Tree) → foster ≡ foster' → opened u ≡ opened u' → IsReopened foster u v → IsReopened foster' u' v' → opened v ≡ opened v'
reopened-one foster foster' u u' v v' f e k k' =
    reopened-is foster u v k ∙ ap (λ b. after_reopening b (opened u)) f ∙ ap (after_reopening foster') e ∙ sym (reopened-is foster' u' v' k')

pub reopened-once : (foster : Bool) (u v : Tree) → IsReopened foster u v → IsOnce u → IsOnce v
reopened-once foster u v k o =
    let n = length u.tree.labels in
    let xs = closed (open_at u.stack u.list k.old) in
    let same : k.old.labels ≡ u.tree.labels = ap (λ (t : Nodes). t.labels) k.old_is in
    let grown : length v.tree.labels ≡ n + length xs =
    sym (ap (λ (t : Nodes). length t.labels) k.new_is) ∙ ap (λ (t : Nodes). length t.labels) k.reopened.tree_is ∙ clones-longer xs k.old u.stack foster ∙ ap (λ ls. length ls + length xs) same in
    subst (λ m. AreOnce m v.stack) (sym grown)
    (subst (AreOnce (n + length xs)) (sym (k.reopened.stack_is ∙ ap (λ ls. u.stack ++ range_with_len (length ls) (length xs)) same)) (once-range n (length xs) u.stack o))

-- ADOPTION

alike : (p q : Open) → bared p ≡ bared q → IsAlike p q
alike p q e = record {
  same_stack = sym (ap (λ (v : Open). v.stack) e);
  same_list = sym (ap (λ (v : Open). v.list) e);
  same_labels = sym (ap (λ (v : Open). v.tree.labels) e);
  same_parents = sym (ap (λ (v : Open). v.tree.parents) e);
  same_children = sym (ap (λ (v : Open). v.tree.children) e);
  same_limits = sym (ap (λ (v : Open). v.tree.limits) e);
}

bared-one : (p q : Open) → IsAlike p q → bared q ≡ bared p
bared-one p q k =
    ap (λ v. record (bared q) { stack = v }) k.same_stack
    ∙ ap (λ v. record (bared q) { stack = p.stack; list = v }) k.same_list
    ∙ ap (λ v. record (bared q) { stack = p.stack; list = p.list; tree = record (uncounted q.tree) { labels = v } }) k.same_labels
    ∙ ap (λ v. record (bared q) { stack = p.stack; list = p.list; tree = record (uncounted q.tree) { labels = p.tree.labels; parents = v } }) k.same_parents
    ∙ ap (λ v. record (bared q) { stack = p.stack; list = p.list; tree = record (uncounted q.tree) { labels = p.tree.labels; parents = p.tree.parents; children = v } }) k.same_children
    ∙ ap (λ v. record (bared q) { stack = p.stack; list = p.list; tree = record (uncounted q.tree) { labels = p.tree.labels; parents = p.tree.parents; children = p.tree.children; limits = v } }) k.same_limits

pub adoption-one : (g : Tag) (foster : Bool) (end end' : AdoptEnd) (u u' v v' : Tree) → Distinct u.stack → opened u ≡ opened u' → IsAdopted g foster end u v → IsAdopted g foster end' u' v' → (end ≡ end') × (opened v ≡ opened v')
adoption-one g foster end end' u u' v v' d e k k' =
    let o = open_at u.stack u.list k.old in
    let o' = open_at u'.stack u'.list k'.old in
    let p = open_at v.stack v.list k.new in
    let q = open_at v'.stack v'.list k'.new in
    let r = adopted-one g foster end end' o o' p q d (alike o o' (at-open u k.old k.old_is ∙ e ∙ sym (at-open u' k'.old k'.old_is))) k.adopted k'.adopted in
    (r.0, sym (at-open v k.new k.new_is) ∙ sym (bared-one p q r.1) ∙ at-open v' k'.new k'.new_is)

adoption-once : (g : Tag) (foster : Bool) (end : AdoptEnd) (u v : Tree) → IsAdopted g foster end u v → IsOnce u → IsOnce v
adoption-once g foster end u v k o =
    let r = adopted-once g foster end (open_at u.stack u.list k.old) (open_at v.stack v.list k.new) k.adopted (subst (λ (t : Nodes). AreOnce (length t.labels) u.stack) (sym k.old_is) o) in
    subst (λ (t : Nodes). AreOnce (length t.labels) v.stack) k.new_is r

-- the rules for any other end tag, where they are to be followed
abbrev after_adoption : Tag → AdoptEnd → Open → Open
after_adoption g Done o = o
after_adoption g OtherEndTag o = record o { stack = before_index (index_before (has_name o.tree (name_of g)) (is_special_at o.tree) o.stack) o.stack }

ended-is : (g : Tag) (foster : Bool) (u z : Tree) (k : HasEnded g foster u z) → opened z ≡ after_adoption g k.end (opened k.middle)
ended-is g foster u z k = by k.end refl
  where
    by : (e : AdoptEnd) → k.end ≡ e → opened z ≡ after_adoption g e (opened k.middle)
    by Done e = ap opened (k.done e)
    by OtherEndTag e = ap opened (k.other e)

pub ended-one : (g : Tag) (foster foster' : Bool) (u u' z z' : Tree) → Distinct u.stack → foster ≡ foster' → opened u ≡ opened u' → HasEnded g foster u z → HasEnded g foster' u' z' → opened z ≡ opened z'
ended-one g foster foster' u u' z z' d f e k k' =
    let r = adoption-one g foster k.end k'.end u u' k.middle k'.middle d e k.adopted (subst (λ b. IsAdopted g b k'.end u' k'.middle) (sym f) k'.adopted) in
    ended-is g foster u z k ∙ ap (λ v. after_adoption g v (opened k.middle)) r.0 ∙ ap (after_adoption g k'.end) r.1 ∙ sym (ended-is g foster' u' z' k')

pub ended-once : (g : Tag) (foster : Bool) (u z : Tree) → HasEnded g foster u z → IsOnce u → IsOnce z
ended-once g foster u z k o = by k.end refl
  where
    m : IsOnce k.middle
    m = adoption-once g foster k.end u k.middle k.adopted o

    by : (e : AdoptEnd) → k.end ≡ e → IsOnce z
    by Done e = subst IsOnce (sym (k.done e)) m
    by OtherEndTag e = subst IsOnce (sym (k.other e)) (once-part _ _ _ k.middle.stack (le_refl _) (part-before (found_name k.middle (name_of g)) k.middle.stack) m)

-- taken off the list, and, unless it is the first element, off the stack
abbrev without_link : ℕ → Open → Open
without_link x o = record o { stack = remaining x o.stack; list = without_node x o.list }

pub closed-one : (foster foster' : Bool) (u u' z z' : Tree) → Distinct u.stack → foster ≡ foster' → opened u ≡ opened u' → IsLinkClosed foster u z → IsLinkClosed foster' u' z' → opened z ≡ opened z'
closed-one foster foster' u u' z z' d f e k k' = by (last_named u.tree tag.A u.list) refl (sym (ap (λ (v : Open). last_named v.tree tag.A v.list) e))
  where
    by : (o : Option ℕ) → last_named u.tree tag.A u.list ≡ o → last_named u'.tree tag.A u'.list ≡ o → opened z ≡ opened z'
    by None i j = ap opened (k.none i) ∙ e ∙ sym (ap opened (k'.none j))
    by (Some x) i j =
        let s = k.some x i in
        let s' = k'.some x j in
        ap opened s.2 ∙ ap (without_link x) (ended-one tag.A foster foster' u u' s.0 s'.0 d f e s.1 s'.1) ∙ sym (ap opened s'.2)

pub closed-once : (foster : Bool) (u z : Tree) → IsLinkClosed foster u z → IsOnce u → IsOnce z
closed-once foster u z k o = by (last_named u.tree tag.A u.list) refl
  where
    by : (l : Option ℕ) → last_named u.tree tag.A u.list ≡ l → IsOnce z
    by None i = subst IsOnce (sym (k.none i)) o
    by (Some x) i =
        let s = k.some x i in
        subst IsOnce (sym s.2) (once-part _ _ _ s.0.stack (le_refl _) (part-remaining x s.0.stack) (ended-once tag.A foster u s.0 s.1 o))
