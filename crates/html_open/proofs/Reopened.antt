-- Entries are opened anew, one after another.
use mathlib.Core.Path.{fun_ext}
use Rattle.std.proofs.Common.{◌≡◌, ◌≢◌, ℕ, zero, suc, ◌+◌, ◌^◌, ◌<◌, ◌≤◌, Bool, true, false, cond, List, [], ◌∷◌, ◌++◌, length, map, get_or, nat_lt, set, Option, Some, None, Result, Ok, Err, inl, inr, refl, sym, ◌∙◌, ap, subst, append_assoc, length-append, arith}
use Rattle.std.proofs.lemmas.List.{append-nil, length-map, length-set, length-take-le}
use Rattle.std.specs.List.{list_any, range_with_len}
use Rattle.html_arena.specs.declared.arena.ArenaError.{ArenaError}
use Rattle.html_arena.specs.declared.arena.Limits.{Limits}
use Rattle.html_arena.specs.declared.data.NodeData.TheVariants.{Document}
use Rattle.html_arena.specs.declared.data.NewNode.TheVariants.{CloneOf}
use Rattle.html_arena.specs.declared.marks.Mark.TheVariants.{OnStack}
use Rattle.html_arena.specs.Budget.{budget, budget_of}
use Rattle.html_arena.specs.Data.{IsElement, cloned, label_in}
use Rattle.html_arena.specs.Make.{made, made_weight}
use Rattle.html_arena.specs.Siblings.{first_of, has}
use Rattle.html_arena.specs.Tree.{Tree, WellFormed, children_of, inserted, label_of, more, parent_of}
use Rattle.html_open.specs.declared.entry.Entry.{Entry}
use Rattle.html_open.specs.declared.entry.Entry.TheVariants.{Marker, Node}
use Rattle.html_arena.specs.declared.arena.ArenaError.TheVariants.{OutOfMemory, NodeBudget, HeldBudget}
use Rattle.html_open.specs.declared.places.Place.{Place}
use Rattle.html_open.specs.declared.places.Place.TheVariants.{Last, Before}
use Rattle.html_open.specs.Adopting.{IsFirstFree, MadeClones}
use Rattle.html_open.specs.Entries.{has_node, nodes_of}
use Rattle.html_open.specs.Lists.{above, after_index, below, last_index, last_where, up_to}
use Rattle.html_open.specs.Marking.{bare, charged}
use Rattle.html_open.specs.Opened.{IsMarked, IsOpen, Open, open_at}
use Rattle.html_open.specs.Placing.{CanPlace, by_table, fosters, outside_table, place_of, place_steps, put, table, target_of, template}
use Rattle.html_open.specs.Reopening.{IsCause, IsNextClone, IsPassed, IsTold, ClonedFirst, KeepsClosed, Reopened, ReopenedFirst, clone_steps, clones_of, closed, fresh, reopen_steps, search_steps, stands, with_clone, with_clones}
use Rattle.html_open.specs.ReopenedEntry.{IsCloneTold, IsRefused, IsTried, with_reopened}
use Rattle.html_open.specs.Rooting.{KeepsParents}
use Rattle.html_open.specs.Searches.{open_or_marker}
use Rattle.html_open.proofs.Clones.{map-append}
use Rattle.html_open.proofs.Hangs.{ge-of, lt-of}
use Rattle.html_open.proofs.Inserted.{get-before, get-default}
use Rattle.html_open.proofs.Keeps.{cases_bool, cases_eqb, eqb-self, has-append, nodes-append, open-charged}
use Rattle.html_open.proofs.Limits.{clones-limits}
use Rattle.html_open.proofs.Lists.{after-length, after-up_to, get_or-default, node-at}
use Rattle.html_open.proofs.Standing.{element-in}

-- what is the same for the same tree
bare-put : (t : Tree) (p : Place) (c : ℕ) → bare (put t p c) ≡ bare (put (bare t) p c)
bare-put t (Last p) c = refl
bare-put t (Before b) c = by (parent_of t b)
  where
    by : (o : Option ℕ) → bare (inserted t c b o) ≡ bare (inserted (bare t) c b o)
    by None = refl
    by (Some p) = refl

bare-clone : (t : Tree) (s : List ℕ) (f : Bool) (x : ℕ) → bare (with_clone t s f x) ≡ bare (with_clone (bare t) s f x)
bare-clone t s f x = bare-put (made t (CloneOf x)) (place_of t s None f) (length t.labels) ∙ sym (bare-put (made (bare t) (CloneOf x)) (place_of t s None f) (length t.labels))

same-clone : (t u : Tree) (s : List ℕ) (f : Bool) (x : ℕ) → bare t ≡ bare u → bare (with_clone t s f x) ≡ bare (with_clone u s f x)
same-clone t u s f x e = bare-clone t s f x ∙ ap (λ (v : Tree). bare (with_clone v s f x)) e ∙ sym (bare-clone u s f x)

same-clones : (xs : List ℕ) (t u : Tree) (s : List ℕ) (f : Bool) → bare t ≡ bare u → bare (with_clones t s f xs) ≡ bare (with_clones u s f xs)
same-clones [] t u s f e = e
same-clones (x ∷ xs) t u s f e =
    same-clones xs (with_clone t s f x) (with_clone u s f x) (s ++ length t.labels ∷ []) f (same-clone t u s f x e)
    ∙ ap (λ (v : Tree). bare (with_clones (with_clone u s f x) (s ++ length v.labels ∷ []) f xs)) e

same-steps : (xs : List ℕ) (t u : Tree) (s : List ℕ) (f : Bool) → bare t ≡ bare u → clone_steps t s f xs ≡ clone_steps u s f xs
same-steps [] t u s f e = refl
same-steps (x ∷ xs) t u s f e =
    ap (λ n. place_steps t s None f + 4 + n) (same-steps xs (with_clone t s f x) (with_clone u s f x) (s ++ length t.labels ∷ []) f (same-clone t u s f x e))
    ∙ ap (λ (v : Tree). place_steps v s None f + 4 + clone_steps (with_clone u s f x) (s ++ length v.labels ∷ []) f xs) e

same-budget : (t u : Tree) (x : ℕ) → bare t ≡ bare u → budget t 1 (made_weight t (CloneOf x)) ≡ budget u 1 (made_weight u (CloneOf x))
same-budget t u x e = ap (λ (v : Tree). budget v 1 (made_weight v (CloneOf x))) e

same-passed : (t u : Tree) (s : List ℕ) (f : Bool) (xs : List ℕ) (e : Result (Unit {0}) ArenaError) → bare t ≡ bare u → IsNextClone t s f xs e → IsNextClone u s f xs e
same-passed t u s f xs e q p = record {
  done = p.done;
  next = p.next;
  rest = p.rest;
  elements_are = p.elements_are;
  answer_is = sym (same-budget (with_clones t s f p.done) (with_clones u s f p.done) p.next (same-clones p.done t u s f q)) ∙ p.answer_is;
}

-- the tree in which an entry was opened anew is that with its clone
bare-reopened : (t : Tree) (s : List ℕ) (f : Bool) (x : ℕ) → bare (with_reopened t s f x) ≡ bare (with_clone t s f x)
bare-reopened t s f x = same-clone (charged t (place_steps t s None f)) t s f x refl

-- counts add up
more-more : (s a b : ℕ) → more (more s a) b ≡ more s (a + b)
more-more s a b = omega arith

limited : (a b : ℕ) → more a b < 2 ^ 128
limited a b = omega arith

more-none : (a : ℕ) → a < 2 ^ 128 → more a 0 ≡ a
more-none a l = omega arith

-- a place before a node is one where the node has a parent
abbrev HasParent : Tree → Place → Type 0
HasParent t (Last p) = Unit {0}
HasParent t (Before b) = parent_of t b ≢ None

outside-parent : (t : Tree) (s : List ℕ) → HasParent t (outside_table t s (last_where (table t) s))
outside-parent t s = by (last_where (table t) s)
  where
    table-parent : (b : ℕ) (o : Option ℕ) → parent_of t b ≡ o → HasParent t (by_table t (below (table t) s) b o)
    table-parent b None e = tt
    table-parent b (Some p) e = λ q. absurd (let k = sym e ∙ q in cc)

    by : (o : Option ℕ) → HasParent t (outside_table t s o)
    by None = tt
    by (Some b) = table-parent b (parent_of t b) refl

pub place-parent : (t : Tree) (s : List ℕ) (f : Bool) → HasParent t (place_of t s None f)
place-parent t s f = elim (cases_bool (fosters t (target_of s None) f)) [
  | inl a ↦ elim (cases_bool (list_any (template t) (above (table t) s))) [
    | inl b ↦ rw (a, b) tt
    | inr b ↦ rw (a, b) (outside-parent t s)
  ]
  | inr a ↦ rw a tt
]

pub steps-put : (t : Tree) (p : Place) (c : ℕ) → HasParent t p → (put t p c).steps ≡ more t.steps 1
steps-put t (Last p) c h = refl
steps-put t (Before b) c h = by (parent_of t b) h
  where
    by : (o : Option ℕ) → o ≢ None → (inserted t c b o).steps ≡ more t.steps 1
    by None k = absurd (k refl)
    by (Some p) k = refl

pub has-parent-made : (t : Tree) (k x : ℕ) (p : Place) → HasParent t p → HasParent (made (charged t k) (CloneOf x)) p
has-parent-made t k x (Last p) h = tt
has-parent-made t k x (Before b) h = λ q. h (sym (get-default t.parents b None) ∙ q)

steps-reopened : (t : Tree) (s : List ℕ) (f : Bool) (x : ℕ) → (with_reopened t s f x).steps ≡ more t.steps (place_steps t s None f + 4)
steps-reopened t s f x =
    let k = place_steps t s None f in
    let e = steps-put (made (charged t k) (CloneOf x)) (place_of t s None f) (length t.labels) (has-parent-made t k x (place_of t s None f) (place-parent t s f)) in
    ap (λ n. more (more n 1) 1) e ∙ five t.steps k
  where
    five : (s a : ℕ) → more (more (more (more (more s a) 1) 1) 1) 1 ≡ more s (a + 4)
    five s a = omega arith

labels-put : (t : Tree) (p : Place) (c : ℕ) → (put t p c).labels ≡ t.labels
labels-put t (Last p) c = refl
labels-put t (Before b) c = by (parent_of t b)
  where
    by : (o : Option ℕ) → (inserted t c b o).labels ≡ t.labels
    by None = refl
    by (Some p) = refl

labels-reopened : (t : Tree) (s : List ℕ) (f : Bool) (x : ℕ) → (with_reopened t s f x).labels ≡ t.labels ++ cloned (label_of t x) ∷ []
labels-reopened t s f x = labels-put (made (charged t (place_steps t s None f)) (CloneOf x)) (place_of t s None f) (length t.labels)

-- the entries that are opened anew are elements off the stack
pub none-above : {X : Type 0} (p : X → Bool) (xs : List X) → list_any p (above p xs) ≡ false
none-above p [] = refl
none-above p (x ∷ xs) = elim (cases_bool (list_any p xs)) [
  | inl a ↦ rw a (none-above p xs)
  | inr a ↦ elim (cases_bool (p x)) [
    | inl b ↦ rw (a, b) a
    | inr b ↦ rw (a, b) (rw (b, a) refl)
  ]
]

pub split-above : {X : Type 0} (p : X → Bool) (xs : List X) → xs ≡ up_to p xs ++ above p xs
split-above p [] = refl
split-above p (x ∷ xs) = elim (cases_bool (list_any p xs)) [
  | inl a ↦ rw a (ap (λ v. x ∷ v) (split-above p xs))
  | inr a ↦ elim (cases_bool (p x)) [ inl b ↦ rw (a, b) refl | inr b ↦ rw (a, b) refl ]
]

pub all-nodes : (s : List ℕ) (es : List Entry) → list_any (stands s) es ≡ false → es ≡ map Node (nodes_of es)
all-nodes s [] h = refl
all-nodes s (Marker ∷ es) h = absurd cc
all-nodes s (Node x ∷ es) h = elim (cases_bool (has x s)) [
  | inl a ↦ absurd (let k = rw a at h in cc)
  | inr a ↦ ap (λ v. Node x ∷ v) (all-nodes s es (rw a at h))
]

off-stack : (s : List ℕ) (es : List Entry) (x : ℕ) → list_any (stands s) es ≡ false → has x (nodes_of es) ≡ true → has x s ≡ false
off-stack s [] x h i = absurd cc
off-stack s (Marker ∷ es) x h i = absurd cc
off-stack s (Node y ∷ es) x h i = elim (cases_bool (has y s)) [
  | inl a ↦ absurd (let k = rw a at h in cc)
  | inr a ↦ elim (cases_eqb x y) [
    | inl e ↦ subst (λ v. has v s ≡ false) (sym e.1) a
    | inr e ↦ off-stack s es x (rw a at h) (rw e.0 at i)
  ]
]

-- they are elements of the list
closed-listed : (o : Open) (x : ℕ) → has x (closed o) ≡ true → has_node x o.list ≡ true
closed-listed o x h =
    ap (has x) (ap nodes_of (split-above (stands o.stack) o.list) ∙ nodes-append (up_to (stands o.stack) o.list) (above (stands o.stack) o.list))
    ∙ has-append x (nodes_of (up_to (stands o.stack) o.list)) (closed o) ∙ either (has x (nodes_of (up_to (stands o.stack) o.list))) h
  where
    either : (b : Bool) {c : Bool} → c ≡ true → cond b true c ≡ true
    either true h = refl
    either false h = h

-- one number more
range-more : (a n : ℕ) → range_with_len a (suc n) ≡ range_with_len a n ++ (a + n) ∷ []
range-more a zero = ap (λ v. v ∷ []) (let e : a ≡ a + 0 = omega arith in e)
range-more a (suc n) = ap (λ v. a ∷ v) (range-more (a + 1) n ∙ ap (λ v. range_with_len (a + 1) n ++ v ∷ []) (let e : (a + 1) + n ≡ a + suc n = omega arith in e))

fresh-more : (t : Tree) (xs : List ℕ) (x c : ℕ) → c ≡ length t.labels + length xs → fresh t (length (xs ++ x ∷ [])) ≡ fresh t (length xs) ++ c ∷ []
fresh-more t xs x c e =
    let k = length-append xs (x ∷ []) in
    let m : length (xs ++ x ∷ []) ≡ suc (length xs) = omega (arith, k) in
    ap (fresh t) m ∙ range-more (length t.labels) (length xs) ∙ ap (λ v. fresh t (length xs) ++ v ∷ []) (sym e)

-- a mark tells what is on the stack
pub by-mark : (t : Tree) (s : List ℕ) → IsMarked t OnStack s → open_or_marker t ≡ stands s
by-mark t s m = fun_ext (λ e. same e)
  where
    same : (e : Entry) → open_or_marker t e ≡ stands s e
    same Marker = refl
    same (Node x) = m x

-- parents that are kept twice
pub parents-then : (t u v : Tree) → length t.labels ≤ length u.labels → KeepsParents t u → KeepsParents u v → KeepsParents t v
parents-then t u v l h k = record {
  same = λ x b. k.same x (omega arith) ∙ h.same x b;
  linked = λ x a b q. elim (cases_bool (nat_lt x (length u.labels))) [
    | inl e ↦ (let i = lt-of x (length u.labels) e in h.linked x a i (sym (k.same x i) ∙ q))
    | inr e ↦ k.linked x (ge-of x (length u.labels) e) b q
  ];
  templates = λ n. k.templates (h.templates n);
}

-- so far, the entries before an index are done
pub record UnderWay (f : Bool) (o : Open) (i : ℕ) (s : List ℕ) (l : List Entry) (t : Tree) : Type 0 where
  pub front : List Entry
  pub done : List ℕ
  pub rest : List ℕ
  pub all : closed o ≡ done ++ rest
  pub rest_in : (x : ℕ) → has x rest ≡ true → x < length o.tree.labels
  pub list_is : l ≡ front ++ map Node rest
  pub front_is : front ≡ up_to (stands o.stack) o.list ++ map Node (fresh o.tree (length done))
  pub stack_is : s ≡ o.stack ++ fresh o.tree (length done)
  pub labels_are : t.labels ≡ o.tree.labels ++ map (λ x. cloned (label_of o.tree x)) done
  pub index_is : length front ≡ i
  pub is_open : IsOpen (open_at s l t)
  pub can_place : CanPlace t s
  pub absent : (x : ℕ) → has x rest ≡ true → has x s ≡ false
  pub list_end : front ++ map Node (fresh t (length rest)) ≡ up_to (stands o.stack) o.list ++ map Node (fresh o.tree (length (closed o)))
  pub stack_end : s ++ fresh t (length rest) ≡ o.stack ++ fresh o.tree (length (closed o))
  pub tree_end : bare (with_clones t s f rest) ≡ bare (with_clones o.tree o.stack f (closed o))
  pub steps_end : more t.steps (clone_steps t s f rest) ≡ more o.tree.steps (reopen_steps o f)
  pub small : t.steps < 2 ^ 128
  pub labels_end : t.labels ++ map (λ x. cloned (label_of t x)) rest ≡ o.tree.labels ++ clones_of o
  pub longer : length o.tree.labels ≤ length t.labels
  pub same_labels : (y : ℕ) → y < length o.tree.labels → label_of t y ≡ label_of o.tree y
  pub same_off : (y : ℕ) → y < length o.tree.labels → has y o.stack ≡ false → has y s ≡ false
  pub keeps_closed : KeepsClosed o t
  pub parents : KeepsParents o.tree t
  pub causes : (e : Result (Unit {0}) ArenaError) → IsNextClone t s f rest e → IsNextClone o.tree o.stack f (closed o) e

pub reopening-begin : (f : Bool) (s : List ℕ) (l : List Entry) (t : Tree) (i k : ℕ) → IsOpen (open_at s l t) → CanPlace t s
    → i ≡ length (up_to (stands s) l) → k ≡ search_steps (stands s) l → UnderWay f (open_at s l t) i s l (charged t k)
reopening-begin f s l t i k h c e g =
    let o = open_at s l t in
    let n = none-above (stands s) l in
    record {
      front = up_to (stands s) l;
      done = [];
      rest = closed o;
      all = refl;
      rest_in = λ x j. h.list_in x (closed-listed o x j);
      list_is = split-above (stands s) l ∙ ap (λ v. up_to (stands s) l ++ v) (all-nodes s (above (stands s) l) n);
      front_is = sym (append-nil (up_to (stands s) l));
      stack_is = sym (append-nil s);
      labels_are = sym (append-nil t.labels);
      index_is = sym e;
      is_open = open-charged s l t k h;
      can_place = can s c;
      absent = λ x j. off-stack s (above (stands s) l) x n j;
      list_end = refl;
      stack_end = refl;
      tree_end = same-clones (closed o) (charged t k) t s f refl;
      steps_end = more-more t.steps k (clone_steps (charged t k) s f (closed o))
          ∙ ap (λ v. more t.steps v) (ap (λ v. k + v) (same-steps (closed o) (charged t k) t s f refl) ∙ ap (λ v. v + clone_steps t s f (closed o)) g);
      small = limited t.steps k;
      labels_end = refl;
      longer = omega arith;
      same_labels = λ y j. refl;
      same_off = λ y j q. q;
      keeps_closed = λ y el off none. refl;
      parents = record { same = λ y j. refl; linked = λ y a b q. absurd (omega arith); templates = λ n. n };
      causes = λ a p. same-passed (charged t k) t s f (closed o) a refl p;
    }
  where
    can : (xs : List ℕ) → CanPlace t xs → CanPlace (charged t k) xs
    can [] q = q
    can (x ∷ xs) q = q

map-members : {Y : Type 0} (g h : ℕ → Y) (xs : List ℕ) → ((x : ℕ) → has x xs ≡ true → g x ≡ h x) → map g xs ≡ map h xs
map-members g h [] e = refl
map-members g h (x ∷ xs) e =
    ap (λ v. v ∷ map g xs) (e x (rw (eqb-self x) refl))
    ∙ ap (λ v. h x ∷ v) (map-members g h xs (λ y j. e y (elim (cases_eqb y x) [ inl q ↦ rw q.0 refl | inr q ↦ rw q.0 j ])))

nodes-map : (xs : List ℕ) → nodes_of (map Node xs) ≡ xs
nodes-map [] = refl
nodes-map (x ∷ xs) = ap (λ v. x ∷ v) (nodes-map xs)

get-middle : (xs ys : List Entry) (i : ℕ) (y d : Entry) → length xs ≡ i → get_or (xs ++ y ∷ ys) i d ≡ y
get-middle xs ys i y d e = ap (λ n. get_or (xs ++ y ∷ ys) n d) (sym e) ∙ by xs
  where
    by : (xs : List Entry) → get_or (xs ++ y ∷ ys) (length xs) d ≡ y
    by [] = refl
    by (x ∷ xs) = by xs

set-middle : (xs ys : List Entry) (i : ℕ) (y z : Entry) → length xs ≡ i → set (xs ++ y ∷ ys) i z ≡ xs ++ z ∷ ys
set-middle xs ys i y z e = ap (λ n. set (xs ++ y ∷ ys) n z) (sym e) ∙ by xs
  where
    by : (xs : List Entry) → set (xs ++ y ∷ ys) (length xs) z ≡ xs ++ z ∷ ys
    by [] = refl
    by (x ∷ xs) = ap (λ v. x ∷ v) (by xs)

off-longer : (y c : ℕ) (s : List ℕ) → y < c → has y s ≡ false → has y (s ++ c ∷ []) ≡ false
off-longer y c s l h = elim (cases_eqb y c) [
  | inl e ↦ absurd (let q = e.1 in omega arith)
  | inr e ↦ (has-append y s (c ∷ []) ∙ rw (h, e.0) refl)
]

-- the next entry is that of the next element
pub next-is : (f : Bool) (o : Open) (i : ℕ) (s : List ℕ) (l : List Entry) (t : Tree) (u : UnderWay f o i s l t) (d e : Entry) → i < length l → get_or l i d ≡ e
    → (x : ℕ) × (xs : List ℕ) × (u.rest ≡ x ∷ xs) × (e ≡ Node x)
next-is f o i s l t u d e b h = by u.rest refl
  where
    by : (r : List ℕ) → u.rest ≡ r → (x : ℕ) × (xs : List ℕ) × (u.rest ≡ x ∷ xs) × (e ≡ Node x)
    by [] q = absurd (
        let k : length l ≡ length u.front + 0 = ap length u.list_is ∙ length-append u.front (map Node u.rest) ∙ ap (λ v. length u.front + length (map Node v)) q in
        let w = u.index_is in omega arith)
    by (x ∷ xs) q = (
      x,
      xs,
      q,
      sym h ∙ ap (λ v. get_or v i d) (u.list_is ∙ ap (λ v. u.front ++ map Node v) q) ∙ get-middle u.front (map Node xs) i (Node x) d u.index_is,
    )

pub next-element : (f : Bool) (o : Open) (i : ℕ) (s : List ℕ) (l : List Entry) (t : Tree) (u : UnderWay f o i s l t) (d : Entry) (x : ℕ) → i < length l → get_or l i d ≡ Node x
    → (xs : List ℕ) × (u.rest ≡ x ∷ xs)
next-element f o i s l t u d x b h =
    let r = next-is f o i s l t u d (Node x) b h in
    let q : x ≡ r.0 = (let k = r.3 in cc) in
    (r.1, r.2 ∙ ap (λ v. v ∷ r.1) (sym q))

pub no-marker : (f : Bool) (o : Open) (i : ℕ) (s : List ℕ) (l : List Entry) (t : Tree) (u : UnderWay f o i s l t) (d : Entry) → i < length l → get_or l i d ≡ Marker → ⊥
no-marker f o i s l t u d b h = absurd (let r = next-is f o i s l t u d Marker b h in let k = r.3 in cc)

pub next-absent : (f : Bool) (o : Open) (i : ℕ) (s : List ℕ) (l : List Entry) (t : Tree) (u : UnderWay f o i s l t) (d : Entry) (x : ℕ) → i < length l → get_or l i d ≡ Node x → has x s ≡ false
next-absent f o i s l t u d x b h =
    let r = next-element f o i s l t u d x b h in
    u.absent x (subst (λ v. has x v ≡ true) (sym r.1) (rw (eqb-self x) refl))

-- what is told is the budget of the next clone, or want of memory where it has room
pub cause-is : (f : Bool) (o : Open) (i : ℕ) (s : List ℕ) (l : List Entry) (t : Tree) (u : UnderWay f o i s l t) (d : Entry) (x : ℕ) (e : ArenaError) → i < length l → get_or l i d ≡ Node x
    → IsRefused t x e → IsCause o f e
cause-is f o i s l t u d x OutOfMemory b h k =
    let r = next-element f o i s l t u d x b h in
    u.causes (Ok tt) (record { done = []; next = x; rest = r.0; elements_are = r.1; answer_is = k })
cause-is f o i s l t u d x NodeBudget b h k =
    let r = next-element f o i s l t u d x b h in
    u.causes (Err NodeBudget) (record { done = []; next = x; rest = r.0; elements_are = r.1; answer_is = k })
cause-is f o i s l t u d x HeldBudget b h k =
    let r = next-element f o i s l t u d x b h in
    u.causes (Err HeldBudget) (record { done = []; next = x; rest = r.0; elements_are = r.1; answer_is = k })

-- the limits are as they were
under-way-limits : (f : Bool) (o : Open) (i : ℕ) (s : List ℕ) (l : List Entry) (t : Tree) → UnderWay f o i s l t → t.limits ≡ o.tree.limits
under-way-limits f o i s l t u = sym (clones-limits t s f u.rest) ∙ ap (λ (v : Tree). v.limits) u.tree_end ∙ clones-limits o.tree o.stack f (closed o)

-- one clone more would pass them: of an element in the list
module _ (f : Bool) (o : Open) (i : ℕ) (s s' : List ℕ) (l l' : List Entry) (t v : Tree) (u : UnderWay f o i s l t) (d : Entry) (x : ℕ) (b : i < length l) (h : get_or l i d ≡ Node x) (q : l' ≡ l) where
  passed-by : (cause : ArenaError) → budget_of t.limits (length v.labels + 1) (more v.held (made_weight v (CloneOf x))) ≡ Err cause → IsPassed o.tree.limits (open_at s' l' v) cause
  passed-by cause k = record {
    next = x;
    listed = ap (has_node x) q ∙ node-at l i x d h b;
    answer_is = ap (λ (m : Option Limits). budget_of m (length v.labels + 1) (more v.held (made_weight v (CloneOf x)))) (sym (under-way-limits f o i s l t u)) ∙ k;
  }

  pub told-is : (e : ArenaError) → IsCloneTold t.limits v x e → IsTold o.tree.limits (open_at s' l' v) e
  told-is OutOfMemory k = tt
  told-is NodeBudget k = passed-by NodeBudget k
  told-is HeldBudget k = passed-by HeldBudget k

-- what one entry more changes
pub record IsStep (f : Bool) (s s' : List ℕ) (l l' : List Entry) (t t' : Tree) (i x : ℕ) : Type 0 where
  pub list : l' ≡ set l i (Node (length t.labels))
  pub stack : s' ≡ s ++ length t.labels ∷ []
  pub tree : t' ≡ with_reopened t s f x
  pub keeps : IsOpen (open_at s' l' t')
  pub can_place : CanPlace t' s'
  pub closed_kept : KeepsClosed (open_at s l t) t'
  pub parents_kept : KeepsParents t t'

-- what stays closed in a later tree stayed so from the start
pub closed-then : (f : Bool) (o : Open) (i : ℕ) (s : List ℕ) (l : List Entry) (t v : Tree) → WellFormed o.tree → UnderWay f o i s l t → KeepsClosed (open_at s l t) v → KeepsClosed o v
closed-then f o i s l t v w u k = λ y el off none.
    let e = u.keeps_closed y el off none in
    let b = element-in o.tree y el in
    k y (subst IsElement (sym (u.same_labels y b)) el) (u.same_off y b off)
    (λ a h g.
    let m : has a (children_of o.tree y) ≡ true = subst (λ v. has a v ≡ true) e h in
    none a m (subst IsElement (u.same_labels a (w.child_in y a m)) g))
    ∙ e

module _ (f : Bool) (o : Open) (i : ℕ) (s s' : List ℕ) (l l' : List Entry) (t t' : Tree) where
  one-more : (x : ℕ) (xs : List ℕ) (w : WellFormed o.tree) (u : UnderWay f o i s l t) → u.rest ≡ x ∷ xs → IsStep f s s' l l' t t' i x → UnderWay f o (i + 1) s' l' t'
  one-more x xs w u r st =
      let c = length t.labels in
      let clone = with_clone t s f x in
      let labels : t'.labels ≡ t.labels ++ cloned (label_of t x) ∷ [] = ap (λ (v : Tree). v.labels) st.tree ∙ labels-reopened t s f x in
      let more_labels : length t'.labels ≡ c + 1 = ap length labels ∙ length-append t.labels (cloned (label_of t x) ∷ []) in
      let same : bare t' ≡ bare clone = ap bare st.tree ∙ bare-reopened t s f x in
      let old : (y : ℕ) → y < c → label_of t' y ≡ label_of t y =
      λ y j. ap (λ v. label_in v y) labels ∙ get-before t.labels (cloned (label_of t x) ∷ []) y Document j in
      let fresh_is : (n : ℕ) → fresh t (suc n) ≡ c ∷ fresh t' n = λ n. ap (λ v. c ∷ range_with_len v n) (sym more_labels) in
      let in_rest : (y : ℕ) → has y xs ≡ true → has y u.rest ≡ true =
      λ y j. subst (λ v. has y v ≡ true) (sym r) (elim (cases_eqb y x) [ inl q ↦ rw q.0 refl | inr q ↦ rw q.0 j ]) in
      let in_list : (y : ℕ) → has y xs ≡ true → y < c =
      λ y j. u.is_open.list_in y (subst (λ v. has y v ≡ true) (sym (ap nodes_of u.list_is ∙ nodes-append u.front (map Node u.rest) ∙ ap (λ v. nodes_of u.front ++ v) (nodes-map u.rest)))
      (has-append y (nodes_of u.front) u.rest ∙ after (has y (nodes_of u.front)) (in_rest y j))) in
      let steps : t'.steps ≡ more t.steps (place_steps t s None f + 4) = ap (λ (v : Tree). v.steps) st.tree ∙ steps-reopened t s f x in
      let first : has x u.rest ≡ true = subst (λ v. has x v ≡ true) (sym r) (rw (eqb-self x) refl) in
      let up = up_to (stands o.stack) o.list in
      let made = map (λ y. cloned (label_of o.tree y)) u.done in
      let grown = fresh-more o.tree u.done x c (ap length u.labels_are ∙ length-append o.tree.labels made ∙ ap (λ n. length o.tree.labels + n) (length-map u.done (λ y. cloned (label_of o.tree y)))) in
      record {
        front = u.front ++ Node c ∷ [];
        done = u.done ++ x ∷ [];
        rest = xs;
        all = u.all ∙ ap (λ v. u.done ++ v) r ∙ sym (append_assoc u.done (x ∷ []) xs);
        rest_in = λ y j. u.rest_in y (in_rest y j);
        front_is = ap (λ v. v ++ Node c ∷ []) u.front_is ∙ append_assoc up (map Node (fresh o.tree (length u.done))) (Node c ∷ [])
            ∙ ap (λ v. up ++ v) (sym (map-append Node (fresh o.tree (length u.done)) (c ∷ []))) ∙ ap (λ v. up ++ map Node v) (sym grown);
        stack_is = st.stack ∙ ap (λ v. v ++ c ∷ []) u.stack_is ∙ append_assoc o.stack (fresh o.tree (length u.done)) (c ∷ []) ∙ ap (λ v. o.stack ++ v) (sym grown);
        labels_are = labels ∙ ap (λ v. v ++ cloned (label_of t x) ∷ []) u.labels_are ∙ append_assoc o.tree.labels made (cloned (label_of t x) ∷ [])
            ∙ ap (λ d. o.tree.labels ++ (made ++ cloned d ∷ [])) (u.same_labels x (u.rest_in x first))
            ∙ ap (λ v. o.tree.labels ++ v) (sym (map-append (λ y. cloned (label_of o.tree y)) u.done (x ∷ [])));
        list_is = st.list ∙ ap (λ v. set v i (Node c)) (u.list_is ∙ ap (λ v. u.front ++ map Node v) r)
            ∙ set-middle u.front (map Node xs) i (Node x) (Node c) u.index_is ∙ sym (append_assoc u.front (Node c ∷ []) (map Node xs));
        index_is = length-append u.front (Node c ∷ []) ∙ (let k = u.index_is in omega arith);
        is_open = st.keeps;
        can_place = st.can_place;
        absent = λ y j. ap (has y) st.stack ∙ off-longer y c s (in_list y j) (u.absent y (in_rest y j));
        list_end = append_assoc u.front (Node c ∷ []) (map Node (fresh t' (length xs)))
            ∙ ap (λ v. u.front ++ map Node v) (sym (fresh_is (length xs))) ∙ ap (λ v. u.front ++ map Node (fresh t (length v))) (sym r) ∙ u.list_end;
        stack_end = ap (λ v. v ++ fresh t' (length xs)) st.stack ∙ append_assoc s (c ∷ []) (fresh t' (length xs))
            ∙ ap (λ v. s ++ v) (sym (fresh_is (length xs))) ∙ ap (λ v. s ++ fresh t (length v)) (sym r) ∙ u.stack_end;
        tree_end = ap (λ v. bare (with_clones t' v f xs)) st.stack ∙ same-clones xs t' clone (s ++ c ∷ []) f same ∙ ap (λ v. bare (with_clones t s f v)) (sym r) ∙ u.tree_end;
        steps_end = ap (λ v. more t'.steps (clone_steps t' v f xs)) st.stack
            ∙ ap (λ n. more t'.steps n) (same-steps xs t' clone (s ++ c ∷ []) f same)
            ∙ ap (λ n. more n (clone_steps clone (s ++ c ∷ []) f xs)) steps
            ∙ more-more t.steps (place_steps t s None f + 4) (clone_steps clone (s ++ c ∷ []) f xs)
            ∙ ap (λ v. more t.steps (clone_steps t s f v)) (sym r) ∙ u.steps_end;
        small = subst (λ n. n < 2 ^ 128) (sym steps) (limited t.steps (place_steps t s None f + 4));
        labels_end = ap (λ v. v ++ map (λ y. cloned (label_of t' y)) xs) labels
            ∙ append_assoc t.labels (cloned (label_of t x) ∷ []) (map (λ y. cloned (label_of t' y)) xs)
            ∙ ap (λ v. t.labels ++ cloned (label_of t x) ∷ v) (map-members (λ y. cloned (label_of t' y)) (λ y. cloned (label_of t y)) xs (λ y j. ap cloned (old y (in_list y j))))
            ∙ ap (λ v. t.labels ++ map (λ y. cloned (label_of t y)) v) (sym r) ∙ u.labels_end;
        longer = let k = u.longer in omega arith;
        same_labels = λ y j. old y (let k = u.longer in omega arith) ∙ u.same_labels y j;
        same_off = λ y j q. ap (has y) st.stack ∙ off-longer y c s (let k = u.longer in omega arith) (u.same_off y j q);
        keeps_closed = closed-then f o i s l t t' w u st.closed_kept;
        parents = parents-then o.tree t t' u.longer u.parents st.parents_kept;
        causes = λ e p. u.causes e (subst (λ v. IsNextClone t s f v e) (sym r)
            (passed-more (same-passed t' clone (s ++ c ∷ []) f xs e same (subst (λ v. IsNextClone t' v f xs e) st.stack p))));
      }
    where
      after : (b : Bool) {c : Bool} → c ≡ true → cond b true c ≡ true
      after true h = refl
      after false h = h

      passed-more : {e : Result (Unit {0}) ArenaError} → IsNextClone (with_clone t s f x) (s ++ length t.labels ∷ []) f xs e → IsNextClone t s f (x ∷ xs) e
      passed-more p = record { done = x ∷ p.done; next = p.next; rest = p.rest; elements_are = ap (λ v. x ∷ v) p.elements_are; answer_is = p.answer_is }

  pub reopening-step : (d : Entry) (x : ℕ) → WellFormed o.tree → UnderWay f o i s l t → i < length l → get_or l i d ≡ Node x → IsStep f s s' l l' t t' i x → UnderWay f o (i + 1) s' l' t'
  reopening-step d x w u b h st = let r = next-element f o i s l t u d x b h in one-more x r.0 w u r.1 st

-- in the end no entry is left to be done
module _ (f : Bool) (o : Open) (i : ℕ) (s : List ℕ) (l : List Entry) (t : Tree) (u : UnderWay f o i s l t) where
  none-left : length l ≤ i → u.rest ≡ []
  none-left b = by u.rest refl
    where
      by : (r : List ℕ) → u.rest ≡ r → u.rest ≡ []
      by [] q = q
      by (x ∷ xs) q = absurd (
          let k : length l ≡ length u.front + suc (length (map Node xs)) =
          ap length u.list_is ∙ length-append u.front (map Node u.rest) ∙ ap (λ v. length u.front + length (map Node v)) q in
          let w = u.index_is in omega arith)

  pub reopened-is : length l ≤ i → Reopened f o (open_at s l t)
  reopened-is b =
      let r = none-left b in
      record {
        list_is = u.list_is ∙ ap (λ v. u.front ++ map Node v) r ∙ ap (λ v. u.front ++ map Node (fresh t (length v))) (sym r) ∙ u.list_end;
        stack_is = sym (append-nil s) ∙ ap (λ v. s ++ fresh t (length v)) (sym r) ∙ u.stack_end;
        tree_is = sym (ap (λ v. bare (with_clones t s f v)) r) ∙ u.tree_end;
      }

  pub steps-are : length l ≤ i → t.steps ≡ more o.tree.steps (reopen_steps o f)
  steps-are b = sym (more-none t.steps u.small) ∙ ap (λ v. more t.steps (clone_steps t s f v)) (sym (none-left b)) ∙ u.steps_end

  pub labels-are : length l ≤ i → t.labels ≡ o.tree.labels ++ clones_of o
  labels-are b = sym (append-nil t.labels) ∙ ap (λ v. t.labels ++ map (λ x. cloned (label_of t x)) v) (sym (none-left b)) ∙ u.labels_end

-- at every turn the first entries are done
module _ (f : Bool) (o : Open) (i : ℕ) (s : List ℕ) (l : List Entry) (t : Tree) (u : UnderWay f o i s l t) where
  pub so-far : ReopenedFirst o (open_at s l t)
  so-far = record { done = u.done; rest = u.rest; all = u.all; list_is = u.list_is ∙ ap (λ v. v ++ map Node u.rest) u.front_is; stack_is = u.stack_is }

  done-listed : (x : ℕ) → has x u.done ≡ true → has_node x o.list ≡ true
  done-listed x h = closed-listed o x (ap (has x) u.all ∙ has-append x u.done u.rest ∙ rw h refl)

  pub made-so-far : MadeClones o t
  made-so-far = record { elements = u.done; listed = done-listed; labels_are = u.labels_are }

  pub in-order : ClonedFirst (closed o) o.tree t
  in-order = record { done = u.done; rest = u.rest; all = u.all; labels_are = u.labels_are }

  pub in-order-tried : (d : Entry) (x : ℕ) (v : Tree) → i < length l → get_or l i d ≡ Node x → IsTried t v x → ClonedFirst (closed o) o.tree v
  in-order-tried d x v b h k =
      let r = next-element f o i s l t u d x b h in
      let first : has x u.rest ≡ true = subst (λ ys. has x ys ≡ true) (sym r.1) (rw (eqb-self x) refl) in
      let made = map (λ y. cloned (label_of o.tree y)) u.done in
      elim (cases_bool k.is_made) [
        | inl e ↦ record {
          done = u.done ++ x ∷ [];
          rest = r.0;
          all = u.all ∙ ap (λ ys. u.done ++ ys) r.1 ∙ sym (append_assoc u.done (x ∷ []) r.0);
          labels_are = k.labels_are ∙ rw e (ap (λ w. w ++ cloned (label_of t x) ∷ []) u.labels_are ∙ append_assoc o.tree.labels made (cloned (label_of t x) ∷ [])
              ∙ ap (λ n. o.tree.labels ++ (made ++ cloned n ∷ [])) (u.same_labels x (u.rest_in x first))
              ∙ ap (λ w. o.tree.labels ++ w) (sym (map-append (λ y. cloned (label_of o.tree y)) u.done (x ∷ []))));
        }
        | inr e ↦ record { done = u.done; rest = u.rest; all = u.all; labels_are = k.labels_are ∙ rw e (append-nil t.labels) ∙ u.labels_are }
      ]

  -- the clone of the next element may have been made
  pub made-tried : (d : Entry) (x : ℕ) (v : Tree) → i < length l → get_or l i d ≡ Node x → IsTried t v x → MadeClones o v
  made-tried d x v b h k =
      let r = next-element f o i s l t u d x b h in
      let first : has x u.rest ≡ true = subst (λ ys. has x ys ≡ true) (sym r.1) (rw (eqb-self x) refl) in
      let made = map (λ y. cloned (label_of o.tree y)) u.done in
      elim (cases_bool k.is_made) [
        | inl e ↦ record {
          elements = u.done ++ x ∷ [];
          listed = λ y j. elim (cases_bool (has y u.done)) [
            | inl q ↦ done-listed y q
            | inr q ↦ (let p : has y (x ∷ []) ≡ true = (let m = sym (has-append y u.done (x ∷ [])) ∙ j in rw q at m) in
                elim (cases_eqb y x) [
                  | inl z ↦ subst (λ n. has_node n o.list ≡ true) (sym z.1) (closed-listed o x (ap (has x) u.all ∙ has-append x u.done u.rest ∙ after (has x u.done) first))
                  | inr z ↦ absurd (let w = rw z.0 at p in cc)
                ])
          ];
          labels_are = k.labels_are ∙ rw e (ap (λ w. w ++ cloned (label_of t x) ∷ []) u.labels_are ∙ append_assoc o.tree.labels made (cloned (label_of t x) ∷ [])
              ∙ ap (λ n. o.tree.labels ++ (made ++ cloned n ∷ [])) (u.same_labels x (u.rest_in x first))
              ∙ ap (λ w. o.tree.labels ++ w) (sym (map-append (λ y. cloned (label_of o.tree y)) u.done (x ∷ []))));
        }
        | inr e ↦ record { elements = u.done; listed = done-listed; labels_are = k.labels_are ∙ rw e (append-nil t.labels) ∙ u.labels_are }
      ]
    where
      after : (b : Bool) {c : Bool} → c ≡ true → cond b true c ≡ true
      after true h = refl
      after false h = h

pub so-far-as : (f : Bool) (o : Open) (i : ℕ) (s s' : List ℕ) (l l' : List Entry) (t t' : Tree) → UnderWay f o i s l t → s' ≡ s → l' ≡ l → ReopenedFirst o (open_at s' l' t')
so-far-as f o i s s' l l' t t' u a b =
    let k = so-far f o i s l t u in
    record { done = k.done; rest = k.rest; all = k.all; list_is = b ∙ k.list_is; stack_is = a ∙ k.stack_is }

-- the first element stays first, and stays out of the list
first-longer : (t : Tree) (s ys : List ℕ) → CanPlace t s → first_of (s ++ ys) ≡ first_of s
first-longer t [] ys h = absurd h
first-longer t (x ∷ xs) ys h = refl

module _ (o p : Open) (h : IsOpen o) (c : CanPlace o.tree o.stack) (k : ReopenedFirst o p) where
  pub first-is : first_of p.stack ≡ first_of o.stack
  first-is = ap first_of k.stack_is ∙ first-longer o.tree o.stack (fresh o.tree (length k.done)) c

  pub apart : (x a n : ℕ) → x < a → has x (range_with_len a n) ≡ false
  apart x a zero l = refl
  apart x a (suc n) l = elim (cases_eqb x a) [ inl e ↦ absurd (let q = e.1 in omega arith) | inr e ↦ rw e.0 (apart x (a + 1) n (omega arith)) ]

  out : (x : ℕ) (xs : List ℕ) → ((y : ℕ) → has y xs ≡ true → has_node y o.list ≡ true) → has_node x o.list ≡ false → has x xs ≡ false
  out x xs g n = elim (cases_bool (has x xs)) [ inl e ↦ absurd (let w = g x e in cc) | inr e ↦ e ]

  pub up-listed : (y : ℕ) → has y (nodes_of (up_to (stands o.stack) o.list)) ≡ true → has_node y o.list ≡ true
  up-listed y e =
      ap (has y) (ap nodes_of (split-above (stands o.stack) o.list) ∙ nodes-append (up_to (stands o.stack) o.list) (above (stands o.stack) o.list))
      ∙ has-append y (nodes_of (up_to (stands o.stack) o.list)) (closed o) ∙ rw e refl

  pub rest-listed : (y : ℕ) → has y k.rest ≡ true → has_node y o.list ≡ true
  rest-listed y e = closed-listed o y (ap (has y) k.all ∙ has-append y k.done k.rest ∙ elim (cases_bool (has y k.done)) [ inl q ↦ rw q refl | inr q ↦ rw q e ])

  pub list-nodes : nodes_of p.list ≡ (nodes_of (up_to (stands o.stack) o.list) ++ fresh o.tree (length k.done)) ++ k.rest
  list-nodes =
      ap nodes_of k.list_is ∙ nodes-append (up_to (stands o.stack) o.list ++ map Node (fresh o.tree (length k.done))) (map Node k.rest)
      ∙ ap (λ v. v ++ nodes_of (map Node k.rest)) (nodes-append (up_to (stands o.stack) o.list) (map Node (fresh o.tree (length k.done))))
      ∙ ap (λ v. (nodes_of (up_to (stands o.stack) o.list) ++ v) ++ nodes_of (map Node k.rest)) (nodes-map (fresh o.tree (length k.done)))
      ∙ ap (λ v. (nodes_of (up_to (stands o.stack) o.list) ++ fresh o.tree (length k.done)) ++ v) (nodes-map k.rest)

  pub free-is : IsFirstFree o.stack o.list → IsFirstFree p.stack p.list
  free-is free = λ x e.
      let q : first_of o.stack ≡ Some x = sym first-is ∙ e in
      let n = free x q in
      ap (has x) list-nodes ∙ has-append x (nodes_of (up_to (stands o.stack) o.list) ++ fresh o.tree (length k.done)) k.rest
      ∙ rw (
        has-append x (nodes_of (up_to (stands o.stack) o.list)) (fresh o.tree (length k.done)),
        out x (nodes_of (up_to (stands o.stack) o.list)) up-listed n,
        apart x (length o.tree.labels) (length k.done) (h.stack_in x (first-in x o.stack q)),
        out x k.rest rest-listed n,
      ) refl
    where
      first-in : (x : ℕ) (s : List ℕ) → first_of s ≡ Some x → has x s ≡ true
      first-in x [] e = absurd (let w = e in cc)
      first-in x (y ∷ ys) e = (let q : x ≡ y = (let w : Some y ≡ Some x = e in cc) in rw q (rw (eqb-self y) refl))

-- the entries before the first that is opened anew
start-is : (p : Entry → Bool) (l : List Entry) (i : ℕ) → i ≡ after_index (last_index p l) → i ≡ length (up_to p l)
start-is p l i e =
    let n = after-length p l (last_index p l) (length l) refl refl in
    let k = length-take-le (after_index (last_index p l)) l n.1 in
    e ∙ sym k ∙ ap length (after-up_to p l (last_index p l) refl)

pub reopening-starts : (f : Bool) (s : List ℕ) (l : List Entry) (t u : Tree) (i : ℕ) → IsOpen (open_at s l t) → CanPlace t s
    → i ≡ after_index (last_index (open_or_marker t) l) → u ≡ charged t (search_steps (open_or_marker t) l) → UnderWay f (open_at s l t) i s l u
reopening-starts f s l t u i h c e g =
    let m = by-mark t s h.on_stack in
    subst (λ (v : Tree). UnderWay f (open_at s l t) i s l v) (sym g)
    (reopening-begin f s l t i (search_steps (open_or_marker t) l) h c (start-is (stands s) l i (e ∙ ap (λ p. after_index (last_index p l)) m)) (ap (λ p. search_steps p l) m))

-- the entry that a turn looks at
pub entry-is : (items l : List Entry) (i : ℕ) (d e : Entry) → items ≡ l → i < length l → d ≡ get_or items i d → d ≡ e → get_or l i Marker ≡ e
entry-is items l i d e v b g h = get_or-default l i Marker d b ∙ ap (λ w. get_or w i d) (sym v) ∙ sym g ∙ h

pub same-length : (l l' : List Entry) (i n : ℕ) (e : Entry) → length l ≡ n → l' ≡ set l i e → length l' ≡ n
same-length l l' i n e h k = ap length k ∙ length-set l i e ∙ h

pub way-as : (f : Bool) (o : Open) (i : ℕ) (s s' : List ℕ) (l l' : List Entry) (t t' : Tree) → s' ≡ s → l' ≡ l → t' ≡ t → UnderWay f o i s l t → UnderWay f o i s' l' t'
way-as f o i s s' l l' t t' a b c u =
    subst (λ v. UnderWay f o i v l' t') (sym a) (subst (λ v. UnderWay f o i s v t') (sym b) (subst (λ (v : Tree). UnderWay f o i s l v) (sym c) u))
