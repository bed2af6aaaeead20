-- What is true of a page under way is kept.
use Rattle.std.proofs.Common.{◌≡◌, ◌≢◌, ℕ, zero, suc, ◌+◌, ◌<◌, Bool, true, false, cond, eqb, List, [], ◌∷◌, ◌++◌, length, map, get_or, slice_index, Option, Some, None, Result, Ok, Err, OnOk, OnErr, ◌⊎◌, inl, inr, refl, sym, ◌∙◌, ap, subst, arith}
use Rattle.std.proofs.lemmas.Bool.Decides.{nat_tests}
use Rattle.html_names.specs.Sets.{is_formatting, is_template}
use Rattle.html_names.specs.Names.{tag_of}
use Rattle.html_names.specs.declared.tag.Tag.TheVariants as tag
use Rattle.html_tokens.specs.declared.attributes.Attr.{Attr}
use Rattle.html_arena.specs.declared.arena.ArenaError.{ArenaError}
use Rattle.html_arena.specs.declared.arena.Limits.{Limits}
use Rattle.html_arena.specs.declared.data.NodeData.{NodeData}
use Rattle.html_arena.specs.declared.data.NodeData.TheVariants as node
use Rattle.html_arena.specs.declared.data.NewNode.TheVariants.{Element}
use Rattle.html_arena.specs.declared.data.Origin.TheVariants.{Nothing, Token}
use Rattle.html_arena.specs.declared.marks.Mark.{Mark}
use Rattle.html_arena.specs.declared.marks.Mark.TheVariants.{OnStack, InList}
use Rattle.html_arena.specs.declared.marks.Marks.{Marks}
use Rattle.html_arena.specs.Data.{IsElement, cloned, label_in, origin_in, tag_in}
use Rattle.html_arena.specs.Laws.{IsGrown, IsLinked}
use Rattle.html_arena.specs.Make.{label_for, made}
use Rattle.html_arena.specs.Marks.{has_mark, no_marks}
use Rattle.html_arena.specs.Siblings.{first_of, has}
use Rattle.html_arena.specs.Tree.{Tree, WellFormed, ancestors, ancestors_within, appended, children_of, empty_tree, label_of, marked, more, named, parent_of, tag_at, with_marked}
use Rattle.html_open.specs.declared.entry.Entry.{Entry}
use Rattle.html_open.specs.Entries.{has_node}
use Rattle.html_open.specs.Marking.{all_unmarked, charged, unmarked}
use Rattle.html_open.specs.Opened.{AreNodes, CanList, CanPush, IsOpen, IsOrdered, open_at, origin_at}
use Rattle.html_open.specs.Placing.{CanPlace}
use Rattle.html_open.specs.Reopening.{clones_of, closed}
use Rattle.test_open.specs.Pages.{IsNewest, IsPage}

cases_eqb : (x y : ℕ) → ((eqb x y ≡ true) × (x ≡ y)) ⊎ ((eqb x y ≡ false) × (x ≢ y))
cases_eqb x y = grind (arith, nat_tests)

eqb-self : (x : ℕ) → eqb x x ≡ true
eqb-self x = grind (arith, nat_tests)

none-token : {i : ℕ} → Nothing ≡ Token i → ⊥
none-token e = absurd (let q : Nothing ≡ Token _ = e in cc)

-- a page without nodes
pub empty-page : (l : Option Limits) → IsPage [] [] (empty_tree l) 0 None
empty-page l = record {
  is_open = record {
    stack_in = λ x h. absurd cc;
    elements = λ x h. absurd cc;
    stack_once = tt;
    ordered = tt;
    list_in = λ x h. absurd cc;
    formatting = λ x h. absurd cc;
    list_once = tt;
    on_stack = λ x. refl;
    in_list = λ x. refl;
    stack_origins = λ i x y h j e f. absurd cc;
    list_origins = λ i x y h j e f. absurd cc;
    shared_origins = λ i x y h j e f. absurd cc;
  };
  tokens = λ x i e. absurd (let k = e in cc);
  alone = tt;
}

-- a call that leaves the labels alone
same-newest : (t u : Tree) (n : ℕ) (w : Option ℕ) → u.labels ≡ t.labels → IsNewest t n w → IsNewest u n w
same-newest t u n None e h = tt
same-newest t u n (Some x) e h = (
  λ i g. h.0 i (ap (λ ds. origin_in (label_in ds x)) (sym e) ∙ g),
  λ y i g. h.1 y i (ap (λ ds. origin_in (label_in ds y)) (sym e) ∙ g),
)

pub same-labels : (s s' : List ℕ) (l l' : List Entry) (t u : Tree) (n : ℕ) (w : Option ℕ) → u.labels ≡ t.labels → IsOpen (open_at s' l' u) → IsPage s l t n w → IsPage s' l' u n w
same-labels s s' l l' t u n w e k p = record {
  is_open = k;
  tokens = λ x i g. p.tokens x i (ap (λ ds. origin_in (label_in ds x)) (sym e) ∙ g);
  alone = same-newest t u n w e p.alone;
}

ordered-steps : (t : Tree) (k : ℕ) (xs : List ℕ) → IsOrdered t xs → IsOrdered (record t { steps = k }) xs
ordered-steps t k [] h = tt
ordered-steps t k (x ∷ xs) h = (h.0, ordered-steps t k xs h.1)

open-steps : (s : List ℕ) (l : List Entry) (t : Tree) (k : ℕ) → IsOpen (open_at s l t) → IsOpen (open_at s l (record t { steps = k }))
open-steps s l t k h = record {
  stack_in = h.stack_in;
  elements = h.elements;
  stack_once = h.stack_once;
  ordered = ordered-steps t k s h.ordered;
  list_in = h.list_in;
  formatting = h.formatting;
  list_once = h.list_once;
  on_stack = h.on_stack;
  in_list = h.in_list;
  stack_origins = h.stack_origins;
  list_origins = h.list_origins;
  shared_origins = h.shared_origins;
}

pub page-steps : (s : List ℕ) (l : List Entry) (t u : Tree) (k n : ℕ) (w : Option ℕ) → u ≡ record t { steps = k } → IsPage s l t n w → IsPage s l u n w
page-steps s l t u k n w e p =
    subst (λ (v : Tree). IsPage s l v n w) (sym e) (same-labels s s l l t (record t { steps = k }) n w refl (open-steps s l t k p.is_open) p)

pub page-charged : (s : List ℕ) (l : List Entry) (t u : Tree) (k n : ℕ) (w : Option ℕ) → u ≡ charged t k → IsPage s l t n w → IsPage s l u n w
page-charged s l t u k n w e p = page-steps s l t u (more t.steps k) n w e p

-- marks alone change
unmarked-labels : (t : Tree) (m : Mark) (o : Option ℕ) → (unmarked t m o).labels ≡ t.labels
unmarked-labels t m None = refl
unmarked-labels t m (Some x) = refl

all_unmarked-labels : (t : Tree) (m : Mark) (xs : List ℕ) → (all_unmarked t m xs).labels ≡ t.labels
all_unmarked-labels t m [] = refl
all_unmarked-labels t m (x ∷ xs) = all_unmarked-labels t m xs

pub page-unmarked : (s s' : List ℕ) (l l' : List Entry) (t u : Tree) (m : Mark) (o : Option ℕ) (k n : ℕ) (w : Option ℕ) → u ≡ charged (unmarked t m o) k → IsOpen (open_at s' l' u)
    → IsPage s l t n w → IsPage s' l' u n w
page-unmarked s s' l l' t u m o k n w e h p = same-labels s s' l l' t u n w (ap (λ (v : Tree). v.labels) e ∙ unmarked-labels t m o) h p

pub page-all_unmarked : (s s' : List ℕ) (l l' : List Entry) (t u : Tree) (m : Mark) (xs : List ℕ) (k n : ℕ) (w : Option ℕ) → u ≡ charged (all_unmarked t m xs) k → IsOpen (open_at s' l' u)
    → IsPage s l t n w → IsPage s' l' u n w
page-all_unmarked s s' l l' t u m xs k n w e h p = same-labels s s' l l' t u n w (ap (λ (v : Tree). v.labels) e ∙ all_unmarked-labels t m xs) h p

-- a push that was made, or refused
pub page-opened : (r : Result (Unit {0}) ArenaError) (s s' : List ℕ) (l : List Entry) (t u : Tree) (x n : ℕ) (w : Option ℕ)
    → OnOk r (u ≡ charged (with_marked t OnStack x true) 1)
    → OnOk r ((m : List Entry) → IsOpen (open_at s m t) → CanPush (open_at s m t) x → IsOpen (open_at s' m u))
    → OnErr r (s' ≡ s) → OnErr r (u ≡ t) → CanPush (open_at s l t) x → IsPage s l t n w → IsPage s' l u n w
page-opened (Ok v) s s' l t u x n w e h a c k p = same-labels s s' l l t u n w (ap (λ (v : Tree). v.labels) e) (h l p.is_open k) p
page-opened (Err q) s s' l t u x n w e h a c k p = subst (λ v. IsPage v l u n w) (sym a) (subst (λ (v : Tree). IsPage s l v n w) (sym c) p)

pub page-listed : (r : Result (Unit {0}) ArenaError) (s : List ℕ) (l l' : List Entry) (t u : Tree) (o : Option ℕ) (x k n : ℕ) (w : Option ℕ)
    → OnOk r (u ≡ charged (with_marked (unmarked t InList o) InList x true) k)
    → OnOk r ((m : List ℕ) → IsOpen (open_at m l t) → CanList (open_at m l t) x → IsOpen (open_at m l' u))
    → OnErr r (l' ≡ l) → OnErr r (u ≡ t) → CanList (open_at s l t) x → IsPage s l t n w → IsPage s l' u n w
page-listed (Ok v) s l l' t u o x k n w e h a c q p = same-labels s s l l' t u n w (ap (λ (v : Tree). v.labels) e ∙ unmarked-labels t InList o) (h s p.is_open q) p
page-listed (Err z) s l l' t u o x k n w e h a c q p = subst (λ v. IsPage s v u n w) (sym a) (subst (λ (v : Tree). IsPage s l v n w) (sym c) p)

-- what holds of two lists holds of one after the other
pub both : (P : NodeData → Type 0) (d : NodeData) (xs ys : List NodeData) → ((y : ℕ) → P (get_or xs y d)) → ((y : ℕ) → P (get_or ys y d)) → (y : ℕ) → P (get_or (xs ++ ys) y d)
both P d [] ys h k y = k y
both P d (x ∷ xs) ys h k zero = h 0
both P d (x ∷ xs) ys h k (suc y) = both P d xs ys (λ z. h (suc z)) k y

pub of-map : (P : NodeData → Type 0) (d : NodeData) (f : ℕ → NodeData) (xs : List ℕ) → P d → ((x : ℕ) → P (f x)) → (y : ℕ) → P (get_or (map f xs) y d)
of-map P d f [] h k y = h
of-map P d f (x ∷ xs) h k zero = k x
of-map P d f (x ∷ xs) h k (suc y) = of-map P d f xs h k y

pub cloned-origin : (d : NodeData) → origin_in (cloned d) ≡ origin_in d
cloned-origin (node.Element e) = refl
cloned-origin node.Document = refl
cloned-origin (node.Contents h) = refl
cloned-origin (node.Text s) = refl
cloned-origin (node.Comment s i) = refl
cloned-origin (node.Doctype n p s i) = refl

-- clones come from the tokens of their originals
pub page-reopened : (s s' : List ℕ) (l l' : List Entry) (t u : Tree) (n : ℕ) (w : Option ℕ) → IsOpen (open_at s' l' u) → u.labels ≡ t.labels ++ clones_of (open_at s l t)
    → IsPage s l t n w → IsPage s' l' u n None
page-reopened s s' l l' t u n w k e p = record {
  is_open = k;
  tokens = λ x. subst (λ (ds : List NodeData). Is (get_or ds x node.Document)) (sym e)
      (both Is node.Document t.labels (clones_of (open_at s l t)) p.tokens
      (of-map Is node.Document (λ y. cloned (label_of t y)) (closed (open_at s l t)) (λ i g. absurd (let q = g in cc)) (λ y i g. p.tokens y i (sym (cloned-origin (label_of t y)) ∙ g))) x);
  alone = tt;
}
  where
    Is : NodeData → Type 0
    Is d = (i : ℕ) → origin_in d ≡ Token i → i < n

-- an element is made
get-default : (xs : List Marks) (i : ℕ) (d : Marks) → get_or (xs ++ d ∷ []) i d ≡ get_or xs i d
get-default [] zero d = refl
get-default [] (suc i) d = refl
get-default (x ∷ xs) zero d = refl
get-default (x ∷ xs) (suc i) d = get-default xs i d

get-defaults : (xs : List Marks) (i : ℕ) (d : Marks) → get_or (xs ++ d ∷ d ∷ []) i d ≡ get_or xs i d
get-defaults [] zero d = refl
get-defaults [] (suc zero) d = refl
get-defaults [] (suc (suc i)) d = refl
get-defaults (x ∷ xs) zero d = refl
get-defaults (x ∷ xs) (suc i) d = get-defaults xs i d

-- the label of its contents if it is a template
abbrev rest_of : ℕ → Bool → List NodeData
rest_of h b = cond b (node.Contents h ∷ []) []

module _ (t u : Tree) (name : List ℕ) (attrs : List Attr) (n : ℕ) where
  made-marks : u ≡ made t (Element name attrs (Token n)) → (m : Mark) (x : ℕ) → marked u m x ≡ marked t m x
  made-marks e m x = ap (λ (v : Tree). marked v m x) e ∙ by (is_template (tag_of name)) refl
    where
      by : (b : Bool) → is_template (tag_of name) ≡ b → marked (made t (Element name attrs (Token n))) m x ≡ marked t m x
      by true h = rw h (ap (has_mark m) (get-defaults t.marks x no_marks))
      by false h = rw h (ap (has_mark m) (get-default t.marks x no_marks))

  open-grown : (s : List ℕ) (l : List Entry) (k : ℕ) → IsGrown t u k → ((m : Mark) (x : ℕ) → marked u m x ≡ marked t m x) → IsOpen (open_at s l t) → IsOpen (open_at s l u)
  open-grown s l k g m h =
      let more = g.longer in
      let origin : (y : ℕ) → y < length t.labels → origin_at u y ≡ origin_at t y = λ y b. ap origin_in (g.same_label y b) in
      record {
        stack_in = λ y b. let a = h.stack_in y b in omega arith;
        elements = λ y b. subst IsElement (sym (g.same_label y (h.stack_in y b))) (h.elements y b);
        stack_once = h.stack_once;
        ordered = ordered s h.stack_in h.ordered;
        list_in = λ y b. let a = h.list_in y b in omega arith;
        formatting = λ y b. ap (λ d. is_formatting (tag_in d)) (g.same_label y (h.list_in y b)) ∙ h.formatting y b;
        list_once = h.list_once;
        on_stack = λ y. m OnStack y ∙ h.on_stack y;
        in_list = λ y. m InList y ∙ h.in_list y;
        stack_origins = λ i x y a b e f. h.stack_origins i x y a b (sym (origin x (h.stack_in x a)) ∙ e) (sym (origin y (h.stack_in y b)) ∙ f);
        list_origins = λ i x y a b e f. h.list_origins i x y a b (sym (origin x (h.list_in x a)) ∙ e) (sym (origin y (h.list_in y b)) ∙ f);
        shared_origins = λ i x y a b e f. h.shared_origins i x y a b (sym (origin x (h.list_in x a)) ∙ e) (sym (origin y (h.stack_in y b)) ∙ f);
      }
    where
      ordered : (xs : List ℕ) → AreNodes t xs → IsOrdered t xs → IsOrdered u xs
      ordered [] a h = tt
      ordered (x ∷ xs) a h = (
        λ y e. ap (has y) (g.same_ancestors x (a x (rw (eqb-self x) refl))) ∙ h.0 y e,
        ordered xs (λ y e. a y (elim (cases_eqb y x) [ inl q ↦ rw q.0 refl | inr q ↦ rw q.0 e ])) h.1,
      )

  made-labels : u ≡ made t (Element name attrs (Token n)) → u.labels ≡ t.labels ++ label_for t (Element name attrs (Token n)) ∷ rest_of (length t.labels) (is_template (tag_of name))
  made-labels e = ap (λ (v : Tree). v.labels) e ∙ by (is_template (tag_of name)) refl
    where
      by : (b : Bool) → is_template (tag_of name) ≡ b
          → (made t (Element name attrs (Token n))).labels ≡ t.labels ++ label_for t (Element name attrs (Token n)) ∷ rest_of (length t.labels) (is_template (tag_of name))
      by true h = rw h refl
      by false h = rw h refl

  element-origin : origin_in (label_for t (Element name attrs (Token n))) ≡ Token n
  element-origin = by (is_template (tag_of name)) refl
    where
      by : (b : Bool) → is_template (tag_of name) ≡ b → origin_in (label_for t (Element name attrs (Token n))) ≡ Token n
      by true h = rw h refl
      by false h = rw h refl

  no-token : (b : Bool) (y i : ℕ) → origin_in (get_or (rest_of (length t.labels) b) y node.Document) ≡ Token i → ⊥
  no-token true zero i e = none-token e
  no-token true (suc y) i e = none-token e
  no-token false y i e = none-token e

  beyond : (b : Bool) (d : NodeData) (xs : List NodeData) (y i : ℕ) → length xs < y → origin_in (get_or (xs ++ d ∷ rest_of (length t.labels) b) y node.Document) ≡ Token i → ⊥
  beyond b d [] zero i l e = absurd (omega arith)
  beyond b d [] (suc y) i l e = no-token b y i e
  beyond b d (x ∷ xs) zero i l e = absurd (omega arith)
  beyond b d (x ∷ xs) (suc y) i l e = beyond b d xs y i (omega arith) e

  get-here : (d : NodeData) (xs ys : List NodeData) → get_or (xs ++ d ∷ ys) (length xs) node.Document ≡ d
  get-here d [] ys = refl
  get-here d (x ∷ xs) ys = get-here d xs ys

  pub page-made : (s : List ℕ) (l : List Entry) (k m : ℕ) (w : Option ℕ) → u ≡ made t (Element name attrs (Token n)) → IsGrown t u k → m ≡ n + 1 → IsPage s l t n w
      → IsPage s l u m (Some (length t.labels))
  page-made s l k m w e g f p =
      let labels = made-labels e in
      let d = label_for t (Element name attrs (Token n)) in
      let b = is_template (tag_of name) in
      let here : origin_at u (length t.labels) ≡ Token n =
      ap (λ ds. origin_in (label_in ds (length t.labels))) labels ∙ ap origin_in (get-here d t.labels (rest_of (length t.labels) b)) ∙ element-origin in
      let old : (y i : ℕ) → y < length t.labels → origin_at u y ≡ Token i → i < n = λ y i j h. p.tokens y i (sym (ap origin_in (g.same_label y j)) ∙ h) in
      let late : (y i : ℕ) → length t.labels < y → origin_at u y ≡ Token i → ⊥ =
      λ y i j h. beyond b d t.labels y i j (sym (ap (λ ds. origin_in (label_in ds y)) labels) ∙ h) in
      record {
        is_open = open-grown s l k g (made-marks e) p.is_open;
        tokens = λ y i h. elim (order y (length t.labels)) [
          | inl j ↦ (let q = old y i j h in omega arith)
          | inr j ↦ elim j [
            | inl r ↦ (let q : n ≡ i = (let k = sym here ∙ subst (λ v. origin_at u v ≡ Token i) r h in cc) in omega arith)
            | inr r ↦ absurd (late y i r h)
          ]
        ];
        alone = (
          λ i h. (let q : n ≡ i = (let k = sym here ∙ h in cc) in omega arith),
          λ y i h a. elim (order y (length t.labels)) [
            | inl j ↦ absurd (let q = old y i j h in omega arith)
            | inr j ↦ elim j [
              | inl r ↦ r
              | inr r ↦ absurd (late y i r h)
            ]
          ],
        );
      }
    where
      order : (a b : ℕ) → (a < b) ⊎ ((a ≡ b) ⊎ (b < a))
      order a b = grind arith

-- an element without children is above no node
no-child : (xs : List ℕ) → first_of xs ≡ None → xs ≡ []
no-child [] h = refl
no-child (x ∷ xs) h = absurd (let k = h in cc)

pub none-below : (t : Tree) (c : ℕ) → WellFormed t → children_of t c ≡ [] → (y : ℕ) → has c (ancestors t y) ≡ false
none-below t c w e y = by (length t.labels) y
  where
    up : (fuel : ℕ) → ((z : ℕ) → has c (ancestors_within fuel t.parents (parent_of t z)) ≡ false) → (z : ℕ) (o : Option ℕ) → parent_of t z ≡ o → has c (ancestors_within (suc fuel) t.parents o) ≡ false
    up fuel h z None q = refl
    up fuel h z (Some p) q = elim (cases_eqb c p) [
      | inl r ↦ absurd (let k : has z (children_of t p) ≡ true = w.parent_has_child p z q in let m : children_of t p ≡ [] = subst (λ v. children_of t v ≡ []) r.1 e in let j = rw m at k in cc)
      | inr r ↦ rw r.0 (h p)
    ]

    by : (fuel : ℕ) (z : ℕ) → has c (ancestors_within fuel t.parents (parent_of t z)) ≡ false
    by zero z = refl
    by (suc fuel) z = up fuel (by fuel) z (parent_of t z) refl

pub apart-from : (c p : ℕ) (xs : List ℕ) → c ≢ p → has c xs ≡ false → has c (p ∷ xs) ≡ false
apart-from c p xs n h = elim (cases_eqb c p) [ inl q ↦ absurd (n q.1) | inr q ↦ rw q.0 h ]

-- an element without children that is not open is linked
pub page-linked : (s : List ℕ) (l : List Entry) (t u : Tree) (p c n : ℕ) (w : Option ℕ) (xs : List ℕ) → WellFormed t → u ≡ appended t p c → IsLinked t u c p xs → children_of t c ≡ [] → marked t OnStack c ≡ false
    → IsPage s l t n w → IsPage s l u n w
page-linked s l t u p c n w xs wf e k none off g =
    let h = g.is_open in
    let labels : u.labels ≡ t.labels = ap (λ (v : Tree). v.labels) e in
    let marks : u.marks ≡ t.marks = ap (λ (v : Tree). v.marks) e in
    let same : (y : ℕ) → label_of u y ≡ label_of t y = λ y. ap (λ ds. label_in ds y) labels in
    let count : length u.labels ≡ length t.labels = ap length labels in
    same-labels s s l l t u n w labels (record {
      stack_in = λ y b. let a = h.stack_in y b in omega arith;
      elements = λ y b. subst IsElement (sym (same y)) (h.elements y b);
      stack_once = h.stack_once;
      ordered = ordered s h.stack_in (λ y b. b) h.ordered;
      list_in = λ y b. let a = h.list_in y b in omega arith;
      formatting = λ y b. ap (λ d. is_formatting (tag_in d)) (same y) ∙ h.formatting y b;
      list_once = h.list_once;
      on_stack = λ y. ap (λ ms. has_mark OnStack (get_or ms y no_marks)) marks ∙ h.on_stack y;
      in_list = λ y. ap (λ ms. has_mark InList (get_or ms y no_marks)) marks ∙ h.in_list y;
      stack_origins = λ i x y a b q r. h.stack_origins i x y a b (sym (ap origin_in (same x)) ∙ q) (sym (ap origin_in (same y)) ∙ r);
      list_origins = λ i x y a b q r. h.list_origins i x y a b (sym (ap origin_in (same x)) ∙ q) (sym (ap origin_in (same y)) ∙ r);
      shared_origins = λ i x y a b q r. h.shared_origins i x y a b (sym (ap origin_in (same x)) ∙ q) (sym (ap origin_in (same y)) ∙ r);
    }) g
  where
    apart : (x : ℕ) → has x s ≡ true → has c (x ∷ ancestors t x) ≡ false
    apart x b = elim (cases_eqb c x) [
      | inl q ↦ absurd (let a : has c s ≡ true = subst (λ v. has v s ≡ true) (sym q.1) b in let m = g.is_open.on_stack c in let z = sym a ∙ sym m ∙ off in cc)
      | inr q ↦ rw q.0 (none-below t c wf none x)
    ]

    ordered : (ys : List ℕ) → AreNodes t ys → ((y : ℕ) → has y ys ≡ true → has y s ≡ true) → IsOrdered t ys → IsOrdered u ys
    ordered [] a i h = tt
    ordered (x ∷ ys) a i h =
        let self : has x (x ∷ ys) ≡ true = rw (eqb-self x) refl in (
          λ y q. ap (has y) (k.above_others x (a x self) (apart x (i x self))) ∙ h.0 y q,
          ordered ys (λ y q. a y (tail y x q)) (λ y q. i y (tail y x q)) h.1,
        )
      where
        tail : (y x : ℕ) → has y ys ≡ true → has y (x ∷ ys) ≡ true
        tail y x q = elim (cases_eqb y x) [ inl r ↦ rw r.0 refl | inr r ↦ rw r.0 q ]

-- the newest element may be opened, and listed
pub can-push : (s : List ℕ) (l : List Entry) (t : Tree) (n c : ℕ) (w : Option ℕ) → WellFormed t → w ≡ Some c → c < length t.labels → IsElement (label_of t c) → children_of t c ≡ [] → marked t OnStack c ≡ false
    → IsPage s l t n w → CanPush (open_at s l t) c
can-push s l t n c w wf e b el none off p =
    let a : IsNewest t n (Some c) = subst (IsNewest t n) e p.alone in
    let absent : has c s ≡ false = sym (p.is_open.on_stack c) ∙ off in
    record {
      node_in = b;
      element = el;
      absent = absent;
      not_above = λ y h. none-below t c wf none y;
      origin_new = λ i y h f g. absurd (let q : y ≡ c = a.1 y i g (a.0 i f) in let r : has c s ≡ true = subst (λ v. has v s ≡ true) q h in let z = sym r ∙ absent in cc);
      shared = λ i y h f g. a.1 y i g (a.0 i f);
    }

pub can-list : (s : List ℕ) (l : List Entry) (t : Tree) (n c : ℕ) (w : Option ℕ) → w ≡ Some c → c < length t.labels → is_formatting (tag_at t c) ≡ true → marked t InList c ≡ false
    → IsPage s l t n w → CanList (open_at s l t) c
can-list s l t n c w e b el off p =
    let a : IsNewest t n (Some c) = subst (IsNewest t n) e p.alone in
    let absent : has_node c l ≡ false = sym (p.is_open.in_list c) ∙ off in
    record {
      node_in = b;
      formatting = el;
      absent = absent;
      origin_new = λ i y h f g. absurd (let q : y ≡ c = a.1 y i g (a.0 i f) in let r : has_node c l ≡ true = subst (λ v. has_node v l ≡ true) q h in let z = sym r ∙ absent in cc);
      shared = λ i y h f g. sym (a.1 y i g (a.0 i f));
    }

-- the first element
pub first-in : (t : Tree) (s : List ℕ) → AreNodes t s → 0 < length s → slice_index s 0 < length t.labels
first-in t [] n b = absurd (omega arith)
first-in t (x ∷ s) n b = n x (rw (eqb-self x) refl)

pub first-can : (t : Tree) (s : List ℕ) → 0 < length s → named t tag.Table (slice_index s 0) ≡ false → CanPlace t s
first-can t [] b h = absurd (omega arith)
first-can t (y ∷ s) b h = λ q. absurd (let z = sym q ∙ h in cc)
