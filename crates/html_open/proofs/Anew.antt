-- One entry is opened anew: what is true between calls is kept.
use Rattle.std.proofs.Common.{◌≡◌, ◌≢◌, ℕ, zero, suc, ◌<◌, Bool, true, false, List, [], ◌∷◌, ◌++◌, length, take, drop, get_or, set, None, inl, inr, refl, sym, ◌∙◌, ap, subst, arith}
use Rattle.std.proofs.lemmas.List.{append-nil, get_or-set_other, length-set, set_comm}
use Rattle.html_names.specs.Sets.{is_formatting}
use Rattle.html_names.specs.Tags.{is_same}
use Rattle.html_names.specs.declared.tag.Tag.TheVariants as tag
use Rattle.html_arena.specs.declared.data.Origin.TheVariants.{Token}
use Rattle.html_arena.specs.declared.marks.Mark.TheVariants.{OnStack, InList}
use Rattle.html_arena.specs.declared.marks.Mark.{Mark}
use Rattle.html_arena.specs.Data.{IsElement, label_in, origin_in, tag_in}
use Rattle.html_arena.specs.declared.marks.Marks.{Marks}
use Rattle.html_arena.specs.Marks.{no_marks, with_mark}
use Rattle.html_arena.specs.Siblings.{has}
use Rattle.html_arena.specs.Tree.{Tree, marks_of, more, tag_at, with_marked}
use Rattle.html_open.specs.declared.entry.Entry.{Entry}
use Rattle.html_open.specs.declared.entry.Entry.TheVariants.{Node}
use Rattle.html_open.specs.declared.places.Place.{Place}
use Rattle.html_open.specs.Entries.{nodes_of}
use Rattle.html_open.specs.Marking.{charged}
use Rattle.html_open.specs.Opened.{AreNodes, AreOneByOrigin, IsOpen, IsOrdered, open_at, origin_at}
use Rattle.html_open.specs.Placing.{CanPlace}
use Rattle.html_open.specs.ReopenedEntry.{IsInserted}
use Rattle.html_open.proofs.Inserted.{element-new, label-old, longer, origin-new, tag-new}
use Rattle.html_open.proofs.Keeps.{Core, Distinct-remove, cases_bool, cases_eqb, core, core-charged, core-drop_list, core-list, core-push, core_by, eqb-self, has-insert, has-less, has-more, nodes-append, whole, whole_by}

pub split-at : (xs : List Entry) (i : ℕ) (x : ℕ) (d : Entry) → i < length xs → get_or xs i d ≡ Node x → xs ≡ take i xs ++ Node x ∷ drop (suc i) xs
split-at [] i x d l e = absurd (omega arith)
split-at (y ∷ ys) zero x d l e = ap (λ v. v ∷ ys) e
split-at (y ∷ ys) (suc i) x d l e = ap (λ v. y ∷ v) (split-at ys i x d (omega arith) e)

pub set-at : (xs : List Entry) (i : ℕ) (e : Entry) → i < length xs → set xs i e ≡ take i xs ++ e ∷ drop (suc i) xs
set-at [] i e l = absurd (omega arith)
set-at (y ∷ ys) zero e l = refl
set-at (y ∷ ys) (suc i) e l = ap (λ v. y ∷ v) (set-at ys i e (omega arith))

pub fresh-absent : (t : Tree) (xs : List ℕ) → AreNodes t xs → has (length t.labels) xs ≡ false
fresh-absent t xs n = elim (cases_bool (has (length t.labels) xs)) [
  | inl e ↦ absurd (let k = n (length t.labels) e in omega arith)
  | inr e ↦ e
]

pub can-same : (t u : Tree) (s : List ℕ) → u.labels ≡ t.labels → u.parents ≡ t.parents → CanPlace t s → CanPlace u s
can-same t u [] e f h = h
can-same t u (y ∷ ys) e f h = λ a b. h (ap (λ ds. is_same (tag_in (label_in ds y)) tag.Table) (sym e) ∙ a) (ap (λ ps. get_or ps y None) (sym f) ∙ b)

module _ (t new : Tree) (at : Place) (x : ℕ) (r : IsInserted t new at x) where
  pub origin-old : (y : ℕ) → y < length t.labels → origin_at new y ≡ origin_at t y
  origin-old y l = ap origin_in (label-old t new at x r y l)

  ordered-inserted : (xs : List ℕ) → AreNodes t xs → IsOrdered t xs → IsOrdered new xs
  ordered-inserted [] n h = tt
  ordered-inserted (y ∷ ys) n h = (
    λ z e. ap (has z) (r.same_ancestors y (n y (rw (eqb-self y) refl))) ∙ h.0 z e,
    ordered-inserted ys (λ z e. n z (elim (cases_eqb z y) [ inl q ↦ rw q.0 refl | inr q ↦ rw q.0 e ])) h.1,
  )

  origins-inserted : (xs ys : List ℕ) → AreNodes t xs → AreNodes t ys → AreOneByOrigin t xs ys → AreOneByOrigin new xs ys
  origins-inserted xs ys m n h = λ i a b p q e f. h i a b p q (sym (origin-old a (m a p)) ∙ e) (sym (origin-old b (n b q)) ∙ f)

  pub core-inserted : (s l : List ℕ) → Core s l t → Core s l new
  core-inserted s l k =
      let more = longer t new at x r in
      record {
        stack_in = λ y h. let a = k.stack_in y h in omega arith;
        elements = λ y h. subst IsElement (sym (label-old t new at x r y (k.stack_in y h))) (k.elements y h);
        stack_once = k.stack_once;
        ordered = ordered-inserted s k.stack_in k.ordered;
        list_in = λ y h. let a = k.list_in y h in omega arith;
        formatting = λ y h. ap (λ d. is_formatting (tag_in d)) (label-old t new at x r y (k.list_in y h)) ∙ k.formatting y h;
        list_once = k.list_once;
        on_stack = λ y. r.same_marks OnStack y ∙ k.on_stack y;
        in_list = λ y. r.same_marks InList y ∙ k.in_list y;
        stack_origins = origins-inserted s s k.stack_in k.stack_in k.stack_origins;
        list_origins = origins-inserted l l k.list_in k.list_in k.list_origins;
        shared_origins = origins-inserted l s k.list_in k.stack_in k.shared_origins;
      }

  many-marked : (m : Mark) (c : ℕ) (b : Bool) (u : Tree) → length u.marks ≡ length u.labels → length (with_marked u m c b).marks ≡ length (with_marked u m c b).labels
  many-marked m c b u e = length-set u.marks c (with_mark m b (marks_of u c)) ∙ e

  pub core-reopened : (s n1 n2 : List ℕ) → length new.marks ≡ length new.labels → has x s ≡ false → Core s (n1 ++ x ∷ n2) t
      → Core (s ++ length t.labels ∷ []) (n1 ++ length t.labels ∷ n2)
      (charged (with_marked (charged (with_marked (with_marked new InList x false) OnStack (length t.labels) true) 1) InList (length t.labels) true) 1)
  core-reopened s n1 n2 many off k =
      let c = length t.labels in
      let more = longer t new at x r in
      let t2 = with_marked new InList x false in
      let t3 = charged (with_marked t2 OnStack c true) 1 in
      let d = Distinct-remove x n1 n2 k.list_once in
      let here : has x (n1 ++ x ∷ n2) ≡ true = has-insert x x n1 n2 ∙ rw (eqb-self x) refl in
      let f : is_formatting (tag_at t x) ≡ true = k.formatting x here in
      let from_stack : (i y : ℕ) → has y s ≡ true → origin_at new c ≡ Token i → origin_at new y ≡ Token i → ⊥ =
      λ i y h e g. absurd (let q : x ≡ y = k.shared_origins i x y here h (sym (origin-new t new at x r) ∙ e) (sym (origin-old y (k.stack_in y h)) ∙ g) in
      let p : has x s ≡ true = subst (λ v. has v s ≡ true) (sym q) h in let w = sym p ∙ off in cc) in
      let from_list : (i y : ℕ) → has y (n1 ++ n2) ≡ true → origin_at new c ≡ Token i → origin_at new y ≡ Token i → ⊥ =
      λ i y h e g. absurd (let j = has-more y x n1 n2 h in
      let q : y ≡ x = k.list_origins i y x j here (sym (origin-old y (k.list_in y j)) ∙ g) (sym (origin-new t new at x r) ∙ e) in
      let p : has x (n1 ++ n2) ≡ true = subst (λ v. has v (n1 ++ n2) ≡ true) q h in let w = sym p ∙ d.1 in cc) in
      let k2 = core-drop_list s n1 n2 x new many (core-inserted s (n1 ++ x ∷ n2) k) in
      let k3 = core-push s (n1 ++ n2) c t2 (many-marked InList x false new many) k2 (record {
        node_in = omega arith;
        absent = fresh-absent t s k.stack_in;
        origin_new = from_stack;
        shared = λ i y h e g. absurd (from_list i y h e g);
      }) (element-new t new at x r f) (λ y h. r.not_above y (k.stack_in y h)) in
      let k4 = core-charged (s ++ c ∷ []) (n1 ++ n2) (with_marked t2 OnStack c true) 1 k3 in
      core-charged (s ++ c ∷ []) (n1 ++ c ∷ n2) (with_marked t3 InList c true) 1
      (core-list (s ++ c ∷ []) n1 n2 c t3 (many-marked OnStack c true t2 (many-marked InList x false new many)) k4 (record {
        node_in = omega arith;
        absent = fresh-absent t (n1 ++ n2) (λ y h. k.list_in y (has-more y x n1 n2 h));
        origin_new = from_list;
        shared = λ i y h e g. elim (has-less y c s [] h) [
          | inl q ↦ q
          | inr q ↦ absurd (from_stack i y (subst (λ v. has y v ≡ true) (nil s) q) e g)
        ];
      }) (ap is_formatting (tag-new t new at x r) ∙ f))
    where
      nil : (v : List ℕ) → v ++ [] ≡ v
      nil [] = refl
      nil (a ∷ v) = ap (λ w. a ∷ w) (nil v)

  pub reopened-keeps : (s : List ℕ) (l1 l2 l : List Entry) → length new.marks ≡ length new.labels → has x s ≡ false → l ≡ l1 ++ Node x ∷ l2 → IsOpen (open_at s l t)
      → IsOpen (open_at (s ++ length t.labels ∷ []) (l1 ++ Node (length t.labels) ∷ l2)
      (charged (with_marked (charged (with_marked (with_marked new InList x false) OnStack (length t.labels) true) 1) InList (length t.labels) true) 1))
  reopened-keeps s l1 l2 l many off e k =
      whole_by (s ++ length t.labels ∷ []) (nodes_of l1 ++ length t.labels ∷ nodes_of l2) (l1 ++ Node (length t.labels) ∷ l2) _ (nodes-append l1 (Node (length t.labels) ∷ l2))
      (core-reopened s (nodes_of l1) (nodes_of l2) many off
      (core_by s (nodes_of l1 ++ x ∷ nodes_of l2) l t (ap nodes_of e ∙ nodes-append l1 (Node x ∷ l2)) k))

  -- the first element can still take what has no better place
  pub can-place : (s ys : List ℕ) → AreNodes t s → CanPlace t s → CanPlace new (s ++ ys)
  can-place [] ys n h = absurd h
  can-place (y ∷ s) ys n h = λ e q.
      let l : y < length t.labels = n y (rw (eqb-self y) refl) in
      h (ap (λ d. is_same (tag_in d) tag.Table) (sym (label-old t new at x r y l)) ∙ e) (sym (r.same_parents y l) ∙ q)

  -- the clone alone is there
  pub inserted-keeps : (s : List ℕ) (l : List Entry) → IsOpen (open_at s l t) → IsOpen (open_at s l new)
  inserted-keeps s l k = whole s l new (core-inserted s (nodes_of l) (core (open_at s l t) k))

  pub can-place-inserted : (s : List ℕ) → AreNodes t s → CanPlace t s → CanPlace new s
  can-place-inserted s n h = subst (CanPlace new) (append-nil s) (can-place s [] n h)

-- marks of two nodes are set in any order
pub marks-swapped : (t : Tree) (x c : ℕ) → x ≢ c → with_marked (charged (with_marked t OnStack c true) 1) InList x false ≡ charged (with_marked (with_marked t InList x false) OnStack c true) 1
marks-swapped t x c ne =
    ap (λ (ms : List Marks). record t { marks = ms; steps = more t.steps 1 })
    (ap (λ (m : Marks). set (set t.marks c (with_mark OnStack true (marks_of t c))) x (with_mark InList false m)) (get_or-set_other t.marks c x (with_mark OnStack true (marks_of t c)) no_marks ne)
    ∙ set_comm t.marks c x (with_mark OnStack true (marks_of t c)) (with_mark InList false (marks_of t x)) (λ e. ne (sym e))
    ∙ ap (λ (m : Marks). set (set t.marks x (with_mark InList false (marks_of t x))) c (with_mark OnStack true m)) (sym (get_or-set_other t.marks x c (with_mark InList false (marks_of t x)) no_marks (λ e. ne (sym e)))))
