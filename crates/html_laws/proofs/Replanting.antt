-- Reopening, and what is closed: the open elements stand where they should.
use Rattle.std.proofs.Common.{◌≡◌, ◌<◌, ◌≤◌, ℕ, ◌+◌, Bool, true, false, cond, List, [], ◌∷◌, ◌++◌, length, append_assoc, append-nil, map, Option, Some, None, inl, inr, refl, sym, ◌∙◌, ap, subst, arith}
use Rattle.std.specs.List.{range_with_len}
use Rattle.std.proofs.lemmas.Bool.{false≢true}
use Rattle.html_arena.specs.declared.data.NewNode.TheVariants as new
use Rattle.html_arena.specs.Make.{label_for}
use Rattle.html_arena.specs.Siblings.{Distinct, first_of, has, last_of, or_else}
use Rattle.html_arena.specs.Tree.{Tree as Nodes, contents_at, host_at, tag_at}
use Rattle.html_arena.proofs.Siblings.{Distinct-remove, cases_eqb, eqb-self, has-append}
use Rattle.html_open.specs.declared.entry.Entry.{Entry}
use Rattle.html_open.specs.declared.entry.Entry.TheVariants.{Node}
use Rattle.html_open.specs.Entries.{nodes_of}
use Rattle.html_open.specs.Lists.{above, up_to}
use Rattle.html_names.specs.Sets.{is_template}
use Rattle.html_open.specs.Marking.{bare}
use Rattle.html_open.specs.Opened.{Open}
use Rattle.html_open.specs.Placing.{get, parent_at, place_at, place_of}
use Rattle.html_open.specs.Reopening.{Reopened, closed, fresh, stands, with_clone, with_clones}
use Rattle.html_open.proofs.Finding.{above-node}
use Rattle.html_open.proofs.Keeps.{nodes-append}
use Rattle.html_open.proofs.Reopened.{split-above}
use Rattle.html_laws.proofs.Hosts.{AreBased, IsTied, base}
use Rattle.html_laws.proofs.Basing.{IsPlaced, based-both, based-join, last_of-split, target-placed}
use Rattle.html_laws.proofs.Laying.{AreSimple, IsAdded, added-contents, added-simple, insert-other, long, new-simple, pushed-tied}
use Rattle.html_laws.proofs.Planting.{IsAlikeIn, alike-tied, clone-fresh, put-added}

-- FRONTS OF THE STACK

has-left : (x : ℕ) (xs ys : List ℕ) → has x xs ≡ true → has x (xs ++ ys) ≡ true
has-left x xs ys h = has-append x xs ys ∙ ap (λ b. cond b true (has x ys)) h

pub distinct-left : (xs ys : List ℕ) → Distinct (xs ++ ys) → Distinct xs
distinct-left [] ys d = tt
distinct-left (x ∷ xs) ys d = (not-there (has x xs) refl, distinct-left xs ys d.1)
  where
    not-there : (b : Bool) → has x xs ≡ b → has x xs ≡ false
    not-there true e = absurd (let k = has-left x xs ys e in let m = d.0 in cc)
    not-there false e = e

first-left : (x : ℕ) (xs ys : List ℕ) → first_of xs ≡ Some x → first_of (xs ++ ys) ≡ Some x
first-left x [] ys h = absurd (let k = h in cc)
first-left x (y ∷ xs) ys h = h

pub front-tied : (t : Nodes) (xs ys : List ℕ) → IsTied t (xs ++ ys) → IsTied t xs
front-tied t xs ys k = record {
  laid = k.laid;
  inside = λ x h. k.inside x (has-left x xs ys h);
  once = distinct-left xs ys k.once;
  first = λ x h. k.first x (first-left x xs ys h);
  rooted = λ x h. k.rooted x (first-left x xs ys h);
  based = (based-both t 0 xs ys k.based).0;
}

-- an element that is no template is taken from between others
pub between-tied : (t : Nodes) (xs ys : List ℕ) (x : ℕ) → IsTied t (xs ++ x ∷ ys) → contents_at t x ≡ None → first_of (xs ++ ys) ≡ first_of (xs ++ x ∷ ys) → IsTied t (xs ++ ys)
between-tied t xs ys x k h f = record {
  laid = k.laid;
  inside = λ y g. k.inside y (there y g);
  once = (Distinct-remove x xs ys k.once).0;
  first = λ y g. k.first y (sym f ∙ g);
  rooted = λ y g. k.rooted y (sym f ∙ g);
  based = based;
}
  where
    there : (y : ℕ) → has y (xs ++ ys) ≡ true → has y (xs ++ x ∷ ys) ≡ true
    there y g = elim (cases_eqb y x) as (λ _. has y (xs ++ x ∷ ys) ≡ true) [
      | inl e ↦ subst (λ (v : ℕ). has v (xs ++ x ∷ ys) ≡ true) (sym e.1) (mid xs)
      | inr e ↦ insert-other y x xs ys e.0 ∙ g
    ]
      where
        mid : (us : List ℕ) → has x (us ++ x ∷ ys) ≡ true
        mid us = has-append x us (x ∷ ys) ∙ by (has x us) (rw (eqb-self x) refl)
          where
            by : (b : Bool) → has x (x ∷ ys) ≡ true → cond b true (has x (x ∷ ys)) ≡ true
            by true g = refl
            by false g = g

    based : AreBased t 0 (xs ++ ys)
    based = (let b = based-both t 0 xs (x ∷ ys) k.based in based-join t 0 xs ys b.0 (subst (λ o. AreBased t (get o (base t 0 xs)) ys) h b.1.1))

-- REOPENING

abbrev pub is_any : List ℕ → Bool
is_any [] = false
is_any (x ∷ s) = true

any-pushed : (s : List ℕ) (x : ℕ) → is_any (s ++ x ∷ []) ≡ true
any-pushed [] x = refl
any-pushed (y ∷ s) x = refl

-- something is open: there is a current node
pub current-of : (s : List ℕ) → is_any s ≡ true → (x : ℕ) × (last_of s ≡ Some x)
current-of [] h = absurd (false≢true h)
current-of (y ∷ s) h = by (last_of s)
  where
    by : (o : Option ℕ) → (x : ℕ) × (or_else o (Some y) ≡ Some x)
    by None = (y, refl)
    by (Some x) = (x, refl)

-- the place for the current node
pub current-placed : (t : Nodes) (s : List ℕ) (foster : Bool) → IsTied t s → is_any s ≡ true → IsPlaced t s (parent_at t (place_of t s None foster))
current-placed t s foster k h =
    let c = current-of s h in
    let d = last_of-split s c.0 c.1 in
    ap-placed (sym (ap (λ o. parent_at t (place_at t s (get o 0) foster)) c.1)) (target-placed t s k d.0 [] c.0 d.1 refl foster)
  where
    ap-placed : {o p : Option ℕ} → o ≡ p → IsPlaced t s o → IsPlaced t s p
    ap-placed e q = subst (IsPlaced t s) e q

clone-added : (t : Nodes) (s : List ℕ) (foster : Bool) (x : ℕ) → (k : IsTied t s) → (h : is_any s ≡ true) → AreSimple t (x ∷ [])
    → IsAdded t (with_clone t s foster x) (current-placed t s foster k h).0 (label_for t (new.CloneOf x)) false
clone-added t s foster x k h m =
    let p = current-placed t s foster k h in
    let here : has x (x ∷ []) ≡ true = rw (eqb-self x) refl in
    put-added t (new.CloneOf x) k.laid (clone-fresh t x (m.no_host x here) (m.no_template x here)) (place_of t s None foster) p.0 p.1 p.2

-- what is left of such a list
pub part-simple : (t : Nodes) (xs ys : List ℕ) → ((x : ℕ) → has x ys ≡ true → has x xs ≡ true) → AreSimple t xs → AreSimple t ys
part-simple t xs ys f k = record { inside = λ x h. k.inside x (f x h); no_host = λ x h. k.no_host x (f x h); no_template = λ x h. k.no_template x (f x h) }

-- The clones are opened one after another; what else is simple stays so, and so are the clones.
pub record HasReopened (t u : Nodes) (s ys zs : List ℕ) : Type 0 where
  pub tied : IsTied u s
  pub simple : AreSimple u (ys ++ zs)
  pub longer : length t.labels ≤ length u.labels
  pub kept : (x : ℕ) → x < length t.labels → contents_at u x ≡ contents_at t x

pub clones-tied : (xs : List ℕ) (t : Nodes) (s ys : List ℕ) (foster : Bool) → IsTied t s → is_any s ≡ true → AreSimple t xs → AreSimple t ys
    → HasReopened t (with_clones t s foster xs) (s ++ fresh t (length xs)) ys (fresh t (length xs))
clones-tied [] t s ys foster k h m l = record { tied = subst (IsTied t) (sym (append-nil s)) k; simple = subst (AreSimple t) (sym (append-nil ys)) l; longer = omega arith; kept = λ x i. refl }
clones-tied (x ∷ xs) t s ys foster k h m l =
    let own = part-simple t (x ∷ xs) (x ∷ []) (λ y g. head y g) m in
    let p = current-placed t s foster k h in
    let a = clone-added t s foster x k h own in
    let d = label_for t (new.CloneOf x) in
    let u = with_clone t s foster x in
    let tied = pushed-tied t u p.0 d false k.laid p.2 a s k (λ e. absurd (false≢true (sym (ap is_any e) ∙ h))) (λ e. p.3) in
    let rest = part-simple t (x ∷ xs) xs (λ y g. tail y g) m in
    let r = clones-tied xs u (s ++ length t.labels ∷ []) (length t.labels ∷ ys) foster tied (any-pushed s (length t.labels)) (added-simple t u p.0 d false k.laid p.2 a xs rest) (new-simple t u p.0 d false k.laid p.2 a ys refl l) in
    let more : length u.labels ≡ length t.labels + 1 = (let e = long t u p.0 d false k.laid p.2 a in omega (arith, e)) in
    let same : fresh u (length xs) ≡ range_with_len (length t.labels + 1) (length xs) = ap (λ n. range_with_len n (length xs)) more in
    record {
      tied = subst (IsTied (with_clones u (s ++ length t.labels ∷ []) foster xs)) (append_assoc s (length t.labels ∷ []) (fresh u (length xs)) ∙ ap (λ v. s ++ length t.labels ∷ v) same) r.tied;
      simple = part-simple (with_clones u (s ++ length t.labels ∷ []) foster xs) ((length t.labels ∷ ys) ++ fresh u (length xs)) (ys ++ length t.labels ∷ range_with_len (length t.labels + 1) (length xs))
          (λ y g. ap (λ v. has y (length t.labels ∷ (ys ++ v))) same ∙ around y g) r.simple;
      longer = (let e = r.longer in omega (arith, e, more));
      kept = λ y i. r.kept y (omega (arith, i, more)) ∙ added-contents t u p.0 d false k.laid p.2 a y i;
    }
  where
    head : (y : ℕ) → has y (x ∷ []) ≡ true → has y (x ∷ xs) ≡ true
    head y g = elim (cases_eqb y x) as (λ _. has y (x ∷ xs) ≡ true) [ inl w ↦ rw w.0 refl | inr w ↦ absurd (let f : has y (x ∷ []) ≡ false = rw w.0 refl in cc) ]

    tail : (y : ℕ) → has y xs ≡ true → has y (x ∷ xs) ≡ true
    tail y g = elim (cases_eqb y x) as (λ _. has y (x ∷ xs) ≡ true) [ inl w ↦ rw w.0 refl | inr w ↦ rw w.0 g ]

    around : (y : ℕ) → has y (ys ++ length t.labels ∷ range_with_len (length t.labels + 1) (length xs)) ≡ true → has y (length t.labels ∷ (ys ++ range_with_len (length t.labels + 1) (length xs))) ≡ true
    around y g = elim (cases_eqb y (length t.labels)) as (λ _. has y (length t.labels ∷ (ys ++ range_with_len (length t.labels + 1) (length xs))) ≡ true) [
      | inl w ↦ rw w.0 refl
      | inr w ↦ rw w.0 (sym (insert-other y (length t.labels) ys (range_with_len (length t.labels + 1) (length xs)) w.0) ∙ g)
    ]

-- THE SAME TREE

pub same-alike : (t u : Nodes) → bare u ≡ bare t → IsAlikeIn t u
same-alike t u e = record {
  as_many = ap (λ (v : Nodes). length v.labels) e;
  parents_are = ap (λ (v : Nodes). v.parents) e;
  children_are = ap (λ (v : Nodes). v.children) e;
  contents_are = λ x. ap (λ (v : Nodes). contents_at v x) e;
  hosts_are = λ x. ap (λ (v : Nodes). host_at v x) e;
  tags_are = λ x. ap (λ (v : Nodes). tag_at v x) e;
}

pub alike-simple : (t u : Nodes) (xs : List ℕ) → IsAlikeIn t u → AreSimple t xs → AreSimple u xs
alike-simple t u xs a k = record {
  inside = λ x h. (let e = k.inside x h in let f = a.as_many in omega (arith, e, f));
  no_host = λ x h. a.hosts_are x ∙ k.no_host x h;
  no_template = λ x h. ap is_template (a.tags_are x) ∙ k.no_template x h;
}

-- REOPENING

up_to-node : (p : Entry → Bool) (l : List Entry) (x : ℕ) → has x (nodes_of (up_to p l)) ≡ true → has x (nodes_of l) ≡ true
up_to-node p l x h =
    ap (λ es. has x (nodes_of es)) (split-above p l) ∙ ap (has x) (nodes-append (up_to p l) (above p l)) ∙ has-left x (nodes_of (up_to p l)) (nodes_of (above p l)) h

nodes-map : (xs : List ℕ) → nodes_of (map Node xs) ≡ xs
nodes-map [] = refl
nodes-map (x ∷ xs) = ap (λ v. x ∷ v) (nodes-map xs)

pub reopened-tied : (foster : Bool) (o p : Open) → IsTied o.tree o.stack → is_any o.stack ≡ true → AreSimple o.tree (nodes_of o.list) → Reopened foster o p
    → IsTied p.tree p.stack × AreSimple p.tree (nodes_of p.list) × (is_any p.stack ≡ true) × (length o.tree.labels ≤ length p.tree.labels)
    × ((x : ℕ) → x < length o.tree.labels → contents_at p.tree x ≡ contents_at o.tree x)
reopened-tied foster o p k h m r =
    let old = part-simple o.tree (nodes_of o.list) (nodes_of (up_to (stands o.stack) o.list)) (λ x g. up_to-node (stands o.stack) o.list x g) m in
    let c = clones-tied (closed o) o.tree o.stack (nodes_of (up_to (stands o.stack) o.list)) foster k h (part-simple o.tree (nodes_of o.list) (closed o) (λ x g. above-node (stands o.stack) o.list x g) m) old in
    let a = same-alike (with_clones o.tree o.stack foster (closed o)) p.tree r.tree_is in
    let n : nodes_of p.list ≡ nodes_of (up_to (stands o.stack) o.list) ++ fresh o.tree (length (closed o)) =
    ap nodes_of r.list_is ∙ nodes-append (up_to (stands o.stack) o.list) (map Node (fresh o.tree (length (closed o)))) ∙ ap (λ v. nodes_of (up_to (stands o.stack) o.list) ++ v) (nodes-map (fresh o.tree (length (closed o)))) in (
      subst (IsTied p.tree) (sym r.stack_is) (alike-tied (with_clones o.tree o.stack foster (closed o)) p.tree a (o.stack ++ fresh o.tree (length (closed o))) c.tied),
      subst (AreSimple p.tree) (sym n) (alike-simple (with_clones o.tree o.stack foster (closed o)) p.tree (nodes_of (up_to (stands o.stack) o.list) ++ fresh o.tree (length (closed o))) a c.simple),
      ap is_any r.stack_is ∙ more o.stack h,
      (let e = c.longer in let f = a.as_many in omega (arith, e, f)),
      λ x i. a.contents_are x ∙ c.kept x i,
    )
  where
    more : (s : List ℕ) → is_any s ≡ true → is_any (s ++ fresh o.tree (length (closed o))) ≡ true
    more [] g = absurd (false≢true g)
    more (x ∷ s) g = refl
