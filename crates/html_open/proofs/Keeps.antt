-- What is true between calls is kept where an element is added or taken out, and where steps are counted.
use Rattle.std.proofs.Common.{◌≡◌, ◌≢◌, ℕ, ◌<◌, Bool, true, false, cond, eqb, List, [], ◌∷◌, ◌++◌, length, get_or, set, Option, Some, None, ◌⊎◌, inl, inr, refl, sym, ◌∙◌, ap, subst, arith}
use Rattle.std.proofs.lemmas.Bool.Decides.{nat_tests}
use Rattle.std.proofs.lemmas.List.{get_or-set_same, get_or-set_other, set-get_or, append-nil}
use Rattle.html_names.specs.Sets.{is_formatting}
use Rattle.html_arena.specs.declared.data.Origin.TheVariants.{Token}
use Rattle.html_arena.specs.declared.marks.Mark.{Mark}
use Rattle.html_arena.specs.declared.marks.Mark.TheVariants.{OnStack, InList}
use Rattle.html_arena.specs.declared.marks.Marks.{Marks}
use Rattle.html_arena.specs.Data.{IsElement}
use Rattle.html_arena.specs.Marks.{has_mark, with_mark, no_marks}
use Rattle.html_arena.specs.Siblings.{has, Distinct}
use Rattle.html_arena.specs.Tree.{Tree, label_of, tag_at, marked, marks_of, ancestors, with_marked}
use Rattle.html_open.specs.declared.entry.Entry.{Entry}
use Rattle.html_open.specs.declared.entry.Entry.TheVariants.{Marker, Node}
use Rattle.html_open.specs.Entries.{is_node, node_in, nodes_of}
use Rattle.html_open.specs.Opened.{Open, open_at, AreNodes, origin_at, IsOrdered, IsMarked, AreOneByOrigin, IsOpen, CanPush}
use Rattle.html_open.specs.Marking.{charged, unmarked}
use Rattle.html_open.specs.Lists.{above, below, with_last, without_last}
use Rattle.html_open.proofs.Lists.{any-has}
use Rattle.std.specs.List.{list_any}

pub cases_eqb : (x y : ℕ) → ((eqb x y ≡ true) × (x ≡ y)) ⊎ ((eqb x y ≡ false) × (x ≢ y))
cases_eqb x y = grind (arith, nat_tests)

pub cases_bool : (b : Bool) → (b ≡ true) ⊎ (b ≡ false)
cases_bool true = inl refl
cases_bool false = inr refl

pub eqb-self : (x : ℕ) → eqb x x ≡ true
eqb-self x = grind (arith, nat_tests)

pub eqb-swap : (x y : ℕ) → eqb x y ≡ false → eqb y x ≡ false
eqb-swap x y h = grind (arith, nat_tests)

-- membership
pub has-append : (x : ℕ) (xs ys : List ℕ) → has x (xs ++ ys) ≡ cond (has x xs) true (has x ys)
has-append x [] ys = refl
has-append x (y ∷ xs) ys = elim (cases_eqb x y) [ inl e ↦ rw e.0 refl | inr e ↦ rw e.0 (has-append x xs ys) ]

pub has-insert : (x c : ℕ) (xs ys : List ℕ) → has x (xs ++ c ∷ ys) ≡ cond (eqb x c) true (has x (xs ++ ys))
has-insert x c [] ys = refl
has-insert x c (y ∷ xs) ys =
    elim (cases_eqb x y) [ inl e ↦ rw e.0 (grind arith) | inr e ↦ rw e.0 (has-insert x c xs ys) ]

pub has-tail : (x y : ℕ) (ys : List ℕ) → has x (y ∷ ys) ≡ false → (eqb x y ≡ false) × (has x ys ≡ false)
has-tail x y ys h = elim (cases_eqb x y) [ inl e ↦ let t : eqb x y ≡ true = e.0 in absurd (grind arith) | inr e ↦ let t : eqb x y ≡ false = e.0 in (t, rw t at h) ]

Distinct-insert : (c : ℕ) (xs ys : List ℕ) → Distinct (xs ++ ys) → has c (xs ++ ys) ≡ false → Distinct (xs ++ c ∷ ys)
Distinct-insert c [] ys d h = (h, d)
Distinct-insert c (y ∷ xs) ys d h =
    let t = has-tail c y (xs ++ ys) h in
    let e : eqb y c ≡ false = eqb-swap c y t.0 in
    ((has-insert y c xs ys) ∙ rw e d.0, Distinct-insert c xs ys d.1 t.1)

pub Distinct-remove : (c : ℕ) (xs ys : List ℕ) → Distinct (xs ++ c ∷ ys) → Distinct (xs ++ ys) × (has c (xs ++ ys) ≡ false)
Distinct-remove c [] ys d = (d.1, d.0)
Distinct-remove c (y ∷ xs) ys d =
    let r = Distinct-remove c xs ys d.1 in
    elim (cases_eqb y c) [
      | inl e ↦ let t : eqb y c ≡ true = e.0 in absurd (let k = has-insert y c xs ys in let k2 = d.0 in grind arith)
      | inr e ↦
          let t : eqb y c ≡ false = e.0 in
          let k : has y (xs ++ ys) ≡ false = sym (let k = has-insert y c xs ys in rw t at k) ∙ d.0 in
          ((k, r.0), rw (eqb-swap y c t) r.1)
    ]

-- a member of the shorter list is one of the longer
pub has-more : (x c : ℕ) (xs ys : List ℕ) → has x (xs ++ ys) ≡ true → has x (xs ++ c ∷ ys) ≡ true
has-more x c xs ys h = has-insert x c xs ys ∙ elim (cases_eqb x c) [ inl e ↦ rw e.0 refl | inr e ↦ rw e.0 h ]

-- a member of the longer list is the one more, or a member of the shorter
pub has-less : (x c : ℕ) (xs ys : List ℕ) → has x (xs ++ c ∷ ys) ≡ true → (x ≡ c) ⊎ (has x (xs ++ ys) ≡ true)
has-less x c xs ys h = elim (cases_eqb x c) [
  | inl e ↦ inl e.1
  | inr e ↦ inr (let t : eqb x c ≡ false = e.0 in let k = has-insert x c xs ys in let m = rw t at k in sym m ∙ h)
]

-- a mark that is set or cleared
marked-set : (t : Tree) (m : Mark) (c : ℕ) (b : Bool) → c < length t.marks → (x : ℕ) → marked (with_marked t m c b) m x ≡ cond (eqb x c) b (marked t m x)
marked-set t m c b l x = elim (cases_eqb x c) [
  | inl e ↦ rw (e.0, e.1) (ap (has_mark m) (get_or-set_same t.marks c (with_mark m b (marks_of t c)) no_marks l) ∙ same m (marks_of t c))
  | inr e ↦ rw e.0 (ap (has_mark m) (get_or-set_other t.marks c x (with_mark m b (marks_of t c)) no_marks e.1))
]
  where
    same : (m : Mark) (k : Marks) → has_mark m (with_mark m b k) ≡ b
    same OnStack k = refl
    same InList k = refl

-- the other mark stays
abbrev other : Mark → Mark
other OnStack = InList
other InList = OnStack

marked-other : (t : Tree) (m : Mark) (c : ℕ) (b : Bool) → c < length t.marks → (x : ℕ) → marked (with_marked t m c b) (other m) x ≡ marked t (other m) x
marked-other t m c b l x = elim (cases_eqb x c) [
  | inl e ↦ rw e.1 (ap (has_mark (other m)) (get_or-set_same t.marks c (with_mark m b (marks_of t c)) no_marks l) ∙ same m (marks_of t c))
  | inr e ↦ ap (has_mark (other m)) (get_or-set_other t.marks c x (with_mark m b (marks_of t c)) no_marks e.1)
]
  where
    same : (m : Mark) (k : Marks) → has_mark (other m) (with_mark m b k) ≡ has_mark (other m) k
    same OnStack k = refl
    same InList k = refl

-- what is true between calls, of the elements of the stack and the elements of the list
pub record Core (s l : List ℕ) (t : Tree) : Type 0 where
  pub stack_in : AreNodes t s
  pub elements : (x : ℕ) → has x s ≡ true → IsElement (label_of t x)
  pub stack_once : Distinct s
  pub ordered : IsOrdered t s
  pub list_in : AreNodes t l
  pub formatting : (x : ℕ) → has x l ≡ true → is_formatting (tag_at t x) ≡ true
  pub list_once : Distinct l
  pub on_stack : IsMarked t OnStack s
  pub in_list : IsMarked t InList l
  pub stack_origins : AreOneByOrigin t s s
  pub list_origins : AreOneByOrigin t l l
  pub shared_origins : AreOneByOrigin t l s

pub core : (o : Open) → IsOpen o → Core o.stack (nodes_of o.list) o.tree
core o k = record {
  stack_in = k.stack_in;
  elements = k.elements;
  stack_once = k.stack_once;
  ordered = k.ordered;
  list_in = k.list_in;
  formatting = k.formatting;
  list_once = k.list_once;
  on_stack = k.on_stack;
  in_list = k.in_list;
  stack_origins = k.stack_origins;
  list_origins = k.list_origins;
  shared_origins = k.shared_origins;
}

pub whole : (s : List ℕ) (es : List Entry) (t : Tree) → Core s (nodes_of es) t → IsOpen (open_at s es t)
whole s es t k = record {
  stack_in = k.stack_in;
  elements = k.elements;
  stack_once = k.stack_once;
  ordered = k.ordered;
  list_in = k.list_in;
  formatting = k.formatting;
  list_once = k.list_once;
  on_stack = k.on_stack;
  in_list = k.in_list;
  stack_origins = k.stack_origins;
  list_origins = k.list_origins;
  shared_origins = k.shared_origins;
}

-- counted steps change nothing of it
pub core-charged : (s l : List ℕ) (t : Tree) (n : ℕ) → Core s l t → Core s l (charged t n)
core-charged s l t n k = record {
  stack_in = k.stack_in;
  elements = k.elements;
  stack_once = k.stack_once;
  ordered = ordered-charged s k.ordered;
  list_in = k.list_in;
  formatting = k.formatting;
  list_once = k.list_once;
  on_stack = k.on_stack;
  in_list = k.in_list;
  stack_origins = k.stack_origins;
  list_origins = k.list_origins;
  shared_origins = k.shared_origins;
}
  where
    ordered-charged : (xs : List ℕ) → IsOrdered t xs → IsOrdered (charged t n) xs
    ordered-charged [] h = tt
    ordered-charged (x ∷ xs) h = (h.0, ordered-charged xs h.1)

ordered-remove : (t : Tree) (c : ℕ) (xs ys : List ℕ) → IsOrdered t (xs ++ c ∷ ys) → IsOrdered t (xs ++ ys)
ordered-remove t c [] ys h = h.1
ordered-remove t c (x ∷ xs) ys h = (λ y e. h.0 y (has-more y c xs ys e), ordered-remove t c xs ys h.1)

ordered-push : (t : Tree) (c : ℕ) (xs : List ℕ) → IsOrdered t xs → ((y : ℕ) → has y xs ≡ true → has c (ancestors t y) ≡ false) → IsOrdered t (xs ++ c ∷ [])
ordered-push t c [] h n = (λ y e. absurd cc, tt)
ordered-push t c (x ∷ xs) h n = (
  λ y e. elim (has-less y c xs [] e) [
    | inl q ↦ subst (λ (v : ℕ). has v (ancestors t x) ≡ false) (sym q) (n x (rw (eqb-self x) refl))
    | inr q ↦ h.0 y (subst (λ (v : List ℕ). has y v ≡ true) (append-nil xs) q)
  ],
  ordered-push t c xs h.1 (λ y e. n y (elim (cases_eqb y x) [ inl q ↦ rw q.0 refl | inr q ↦ rw q.0 e ])),
)

ordered-marked : (t : Tree) (m : Mark) (c : ℕ) (b : Bool) (xs : List ℕ) → IsOrdered t xs → IsOrdered (with_marked t m c b) xs
ordered-marked t m c b [] h = tt
ordered-marked t m c b (x ∷ xs) h = (h.0, ordered-marked t m c b xs h.1)

-- an element is taken off the stack
pub core-drop_stack : (s1 s2 l : List ℕ) (c : ℕ) (t : Tree) → length t.marks ≡ length t.labels → Core (s1 ++ c ∷ s2) l t → Core (s1 ++ s2) l (with_marked t OnStack c false)
core-drop_stack s1 s2 l c t many k =
    let here : has c (s1 ++ c ∷ s2) ≡ true = has-insert c c s1 s2 ∙ rw (eqb-self c) refl in
    let within = k.stack_in c here in
    let room : c < length t.marks = omega arith in
    let d = Distinct-remove c s1 s2 k.stack_once in
    record {
      stack_in = λ x h. k.stack_in x (has-more x c s1 s2 h);
      elements = λ x h. k.elements x (has-more x c s1 s2 h);
      stack_once = d.0;
      ordered = ordered-marked t OnStack c false (s1 ++ s2) (ordered-remove t c s1 s2 k.ordered);
      list_in = k.list_in;
      formatting = k.formatting;
      list_once = k.list_once;
      on_stack = λ x. marked-set t OnStack c false room x ∙ elim (cases_eqb x c) as (λ _. cond (eqb x c) false (marked t OnStack x) ≡ has x (s1 ++ s2)) [
        | inl e ↦ rw (e.0, e.1) (sym d.1)
        | inr e ↦ rw e.0 (k.on_stack x ∙ has-insert x c s1 s2 ∙ rw e.0 refl)
      ];
      in_list = λ x. marked-other t OnStack c false room x ∙ k.in_list x;
      stack_origins = λ i x y h j. k.stack_origins i x y (has-more x c s1 s2 h) (has-more y c s1 s2 j);
      list_origins = k.list_origins;
      shared_origins = λ i x y h j. k.shared_origins i x y h (has-more y c s1 s2 j);
    }

-- an element is taken out of the list
pub core-drop_list : (s l1 l2 : List ℕ) (c : ℕ) (t : Tree) → length t.marks ≡ length t.labels → Core s (l1 ++ c ∷ l2) t → Core s (l1 ++ l2) (with_marked t InList c false)
core-drop_list s l1 l2 c t many k =
    let here : has c (l1 ++ c ∷ l2) ≡ true = has-insert c c l1 l2 ∙ rw (eqb-self c) refl in
    let within = k.list_in c here in
    let room : c < length t.marks = omega arith in
    let d = Distinct-remove c l1 l2 k.list_once in
    record {
      stack_in = k.stack_in;
      elements = k.elements;
      stack_once = k.stack_once;
      ordered = ordered-marked t InList c false s k.ordered;
      list_in = λ x h. k.list_in x (has-more x c l1 l2 h);
      formatting = λ x h. k.formatting x (has-more x c l1 l2 h);
      list_once = d.0;
      on_stack = λ x. marked-other t InList c false room x ∙ k.on_stack x;
      in_list = λ x. marked-set t InList c false room x ∙ elim (cases_eqb x c) as (λ _. cond (eqb x c) false (marked t InList x) ≡ has x (l1 ++ l2)) [
        | inl e ↦ rw (e.0, e.1) (sym d.1)
        | inr e ↦ rw e.0 (k.in_list x ∙ has-insert x c l1 l2 ∙ rw e.0 refl)
      ];
      stack_origins = k.stack_origins;
      list_origins = λ i x y h j. k.list_origins i x y (has-more x c l1 l2 h) (has-more y c l1 l2 j);
      shared_origins = λ i x y h. k.shared_origins i x y (has-more x c l1 l2 h);
    }

-- what may be pushed
pub record CanAdd (s l : List ℕ) (t : Tree) (c : ℕ) : Type 0 where
  pub node_in : c < length t.labels
  pub absent : has c s ≡ false
  pub origin_new : (i y : ℕ) → has y s ≡ true → origin_at t c ≡ Token i → origin_at t y ≡ Token i → ⊥
  pub shared : (i y : ℕ) → has y l ≡ true → origin_at t c ≡ Token i → origin_at t y ≡ Token i → y ≡ c

-- an element is pushed onto the stack
pub core-push : (s l : List ℕ) (c : ℕ) (t : Tree) → length t.marks ≡ length t.labels → Core s l t → CanAdd s l t c → IsElement (label_of t c)
    → ((y : ℕ) → has y s ≡ true → has c (ancestors t y) ≡ false) → Core (s ++ c ∷ []) l (with_marked t OnStack c true)
core-push s l c t many k p el above =
    let within = p.node_in in
    let room : c < length t.marks = omega arith in
    let old : (x : ℕ) → has x (s ++ []) ≡ true → has x s ≡ true = λ x h. subst (λ (v : List ℕ). has x v ≡ true) (append-nil s) h in
    record {
      stack_in = λ x h. elim (has-less x c s [] h) [ inl e ↦ (let q : x ≡ c = e in omega arith) | inr e ↦ k.stack_in x (old x e) ];
      elements = λ x h. elim (has-less x c s [] h) [ inl e ↦ subst (λ (v : ℕ). IsElement (label_of t v)) (sym e) el | inr e ↦ k.elements x (old x e) ];
      stack_once = Distinct-insert c s [] (subst Distinct (sym (append-nil s)) k.stack_once) (subst (λ (v : List ℕ). has c v ≡ false) (sym (append-nil s)) p.absent);
      ordered = ordered-marked t OnStack c true (s ++ c ∷ []) (ordered-push t c s k.ordered above);
      list_in = k.list_in;
      formatting = k.formatting;
      list_once = k.list_once;
      on_stack = λ x. marked-set t OnStack c true room x ∙ ap (cond (eqb x c) true) (k.on_stack x ∙ ap (has x) (sym (append-nil s))) ∙ sym (has-insert x c s []);
      in_list = λ x. marked-other t OnStack c true room x ∙ k.in_list x;
      stack_origins = λ i x y h j e f. elim (has-less x c s [] h) [
        | inl q ↦ elim (has-less y c s [] j) [
          | inl r ↦ q ∙ sym r
          | inr r ↦ absurd (p.origin_new i y (old y r) (subst (λ (v : ℕ). origin_at t v ≡ Token i) q e) f)
        ]
        | inr q ↦ elim (has-less y c s [] j) [
          | inl r ↦ absurd (p.origin_new i x (old x q) (subst (λ (v : ℕ). origin_at t v ≡ Token i) r f) e)
          | inr r ↦ k.stack_origins i x y (old x q) (old y r) e f
        ]
      ];
      list_origins = k.list_origins;
      shared_origins = λ i x y h j e f. elim (has-less y c s [] j) [
        | inl r ↦ p.shared i x h (subst (λ (v : ℕ). origin_at t v ≡ Token i) r f) e ∙ sym r
        | inr r ↦ k.shared_origins i x y h (old y r) e f
      ];
    }

-- an element is put into the list
pub core-list : (s l1 l2 : List ℕ) (c : ℕ) (t : Tree) → length t.marks ≡ length t.labels → Core s (l1 ++ l2) t → CanAdd (l1 ++ l2) s t c → is_formatting (tag_at t c) ≡ true
    → Core s (l1 ++ c ∷ l2) (with_marked t InList c true)
core-list s l1 l2 c t many k p el =
    let within = p.node_in in
    let room : c < length t.marks = omega arith in
    record {
      stack_in = k.stack_in;
      elements = k.elements;
      stack_once = k.stack_once;
      ordered = ordered-marked t InList c true s k.ordered;
      list_in = λ x h. elim (has-less x c l1 l2 h) [ inl e ↦ (let q : x ≡ c = e in omega arith) | inr e ↦ k.list_in x e ];
      formatting = λ x h. elim (has-less x c l1 l2 h) [ inl e ↦ subst (λ (v : ℕ). is_formatting (tag_at t v) ≡ true) (sym e) el | inr e ↦ k.formatting x e ];
      list_once = Distinct-insert c l1 l2 k.list_once p.absent;
      on_stack = λ x. marked-other t InList c true room x ∙ k.on_stack x;
      in_list = λ x. marked-set t InList c true room x ∙ ap (cond (eqb x c) true) (k.in_list x) ∙ sym (has-insert x c l1 l2);
      stack_origins = k.stack_origins;
      list_origins = λ i x y h j e f. elim (has-less x c l1 l2 h) [
        | inl q ↦ elim (has-less y c l1 l2 j) [
          | inl r ↦ q ∙ sym r
          | inr r ↦ absurd (p.origin_new i y r (subst (λ (v : ℕ). origin_at t v ≡ Token i) q e) f)
        ]
        | inr q ↦ elim (has-less y c l1 l2 j) [
          | inl r ↦ absurd (p.origin_new i x q (subst (λ (v : ℕ). origin_at t v ≡ Token i) r f) e)
          | inr r ↦ k.list_origins i x y q r e f
        ]
      ];
      shared_origins = λ i x y h j e f. elim (has-less x c l1 l2 h) [
        | inl q ↦ q ∙ sym (p.shared i y j (subst (λ (v : ℕ). origin_at t v ≡ Token i) q e) f)
        | inr q ↦ k.shared_origins i x y q j e f
      ];
    }

pub moved_stack : (s s' : List ℕ) (l : List Entry) (t t' : Tree) → s' ≡ s → t' ≡ t → IsOpen (open_at s l t) → IsOpen (open_at s' l t')
moved_stack s s' l t t' e f k = subst (λ (v : List ℕ). IsOpen (open_at v l t')) (sym e) (subst (λ (u : Tree). IsOpen (open_at s l u)) (sym f) k)

pub moved_list : (s : List ℕ) (l l' : List Entry) (t t' : Tree) → l' ≡ l → t' ≡ t → IsOpen (open_at s l t) → IsOpen (open_at s l' t')
moved_list s l l' t t' e f k = subst (λ (v : List Entry). IsOpen (open_at s v t')) (sym e) (subst (λ (u : Tree). IsOpen (open_at s l u)) (sym f) k)

pub open-charged : (s : List ℕ) (l : List Entry) (t : Tree) (n : ℕ) → IsOpen (open_at s l t) → IsOpen (open_at s l (charged t n))
open-charged s l t n k = whole s l (charged t n) (core-charged s (nodes_of l) t n (core (open_at s l t) k))

pub charged_keeps : (s : List ℕ) (l : List Entry) (t t' : Tree) (n : ℕ) → t' ≡ charged t n → IsOpen (open_at s l t) → IsOpen (open_at s l t')
charged_keeps s l t t' n e k = moved_stack s s l (charged t n) t' refl e (open-charged s l t n k)

-- the calls on the stack
pub push-keeps : (s s' : List ℕ) (l : List Entry) (t t' : Tree) (c n : ℕ) → length t.marks ≡ length t.labels
    → s' ≡ s ++ c ∷ [] → t' ≡ charged (with_marked t OnStack c true) n → IsOpen (open_at s l t) → CanPush (open_at s l t) c → IsOpen (open_at s' l t')
push-keeps s s' l t t' c n many e f k p =
    moved_stack (s ++ c ∷ []) s' l (charged (with_marked t OnStack c true) n) t' e f
    (open-charged (s ++ c ∷ []) l (with_marked t OnStack c true) n
    (whole (s ++ c ∷ []) l (with_marked t OnStack c true)
    (core-push s (nodes_of l) c t many (core (open_at s l t) k) (record { node_in = p.node_in; absent = p.absent; origin_new = p.origin_new; shared = p.shared }) p.element p.not_above)))

-- an element is taken off, wherever it stands
pub drop-keeps : (s1 s2 s s' : List ℕ) (l : List Entry) (t t' : Tree) (c n : ℕ) → length t.marks ≡ length t.labels
    → s ≡ s1 ++ c ∷ s2 → s' ≡ s1 ++ s2 → t' ≡ charged (with_marked t OnStack c false) n → IsOpen (open_at s l t) → IsOpen (open_at s' l t')
drop-keeps s1 s2 s s' l t t' c n many e f g k =
    moved_stack (s1 ++ s2) s' l (charged (with_marked t OnStack c false) n) t' f g
    (open-charged (s1 ++ s2) l (with_marked t OnStack c false) n
    (whole (s1 ++ s2) l (with_marked t OnStack c false)
    (core-drop_stack s1 s2 (nodes_of l) c t many (core (open_at (s1 ++ c ∷ s2) l t) (subst (λ (v : List ℕ). IsOpen (open_at v l t)) e k)))))

pub pop-keeps : (s s' : List ℕ) (l : List Entry) (t t' : Tree) (o : Option ℕ) (n : ℕ) → length t.marks ≡ length t.labels
    → s ≡ with_last s' o → t' ≡ charged (unmarked t OnStack o) n → IsOpen (open_at s l t) → IsOpen (open_at s' l t')
pop-keeps s s' l t t' None n many e f k = moved_stack s s' l (charged t n) t' (sym e) f (open-charged s l t n k)
pop-keeps s s' l t t' (Some c) n many e f k = drop-keeps s' [] s s' l t t' c n many e (sym (append-nil s')) f k

-- a mark that was not set is cleared
set-same : {X : Type 0} (xs : List X) (i : ℕ) (d v : X) → get_or xs i d ≡ v → set xs i v ≡ xs
set-same xs i d v e = ap (set xs i) (sym e) ∙ set-get_or xs i d

clear-same : (m : Mark) (k : Marks) → has_mark m k ≡ false → with_mark m false k ≡ k
clear-same OnStack k e = rw (sym e) refl
clear-same InList k e = rw (sym e) refl

pub unset-same : (t : Tree) (m : Mark) (c : ℕ) → marked t m c ≡ false → with_marked t m c false ≡ t
unset-same t m c e = ap (λ (ms : List Marks). record t { marks = ms }) (set-same t.marks c no_marks (with_mark m false (marks_of t c)) (sym (clear-same m (marks_of t c) e)))

-- the list without the last one that passes, where one does
pub split-last : {X : Type 0} (p : X → Bool) (xs : List X) → list_any p xs ≡ true → (x : X) × (xs ≡ below p xs ++ x ∷ above p xs) × (p x ≡ true)
split-last p [] h = absurd cc
split-last p (x ∷ xs) h = elim (cases_bool (list_any p xs)) [
  | inl e ↦ (let r = split-last p xs e in (r.0, rw e (ap (λ ys. x ∷ ys) r.1), r.2))
  | inr e ↦ elim (cases_bool (p x)) [
    | inl f ↦ (x, rw (e, f) refl, f)
    | inr f ↦ absurd (let g : list_any p (x ∷ xs) ≡ false = rw (f, e) refl in cc)
  ]
]

pub eqb-true : (x y : ℕ) → eqb x y ≡ true → x ≡ y
eqb-true x y e = grind (arith, nat_tests)

pub remove-keeps : (s s' : List ℕ) (l : List Entry) (t t' : Tree) (c n : ℕ) → length t.marks ≡ length t.labels
    → s' ≡ without_last (eqb c) s → t' ≡ charged (with_marked t OnStack c false) n → IsOpen (open_at s l t) → IsOpen (open_at s' l t')
remove-keeps s s' l t t' c n many e f k = elim (cases_bool (list_any (eqb c) s)) [
  | inl a ↦
      let r = split-last (eqb c) s a in
      let g : s ≡ below (eqb c) s ++ c ∷ above (eqb c) s = r.1 ∙ ap (λ v. below (eqb c) s ++ v ∷ above (eqb c) s) (sym (eqb-true c r.0 r.2)) in
      drop-keeps (below (eqb c) s) (above (eqb c) s) s s' l t t' c n many g (e ∙ rw a refl) f k
  | inr a ↦
      let m : marked t OnStack c ≡ false = k.on_stack c ∙ sym (any-has c s) ∙ a in
      moved_stack s s' l (charged t n) t' (e ∙ rw a refl) (f ∙ ap (λ u. charged u n) (unset-same t OnStack c m)) (open-charged s l t n k)
]

-- the calls on the list
pub nodes-append : (l m : List Entry) → nodes_of (l ++ m) ≡ nodes_of l ++ nodes_of m
nodes-append [] m = refl
nodes-append (Marker ∷ l) m = nodes-append l m
nodes-append (Node x ∷ l) m = ap (λ xs. x ∷ xs) (nodes-append l m)

pub whole_by : (s xs : List ℕ) (l : List Entry) (t : Tree) → nodes_of l ≡ xs → Core s xs t → IsOpen (open_at s l t)
whole_by s xs l t e k = whole s l t (subst (λ (v : List ℕ). Core s v t) (sym e) k)

pub core_by : (s xs : List ℕ) (l : List Entry) (t : Tree) → nodes_of l ≡ xs → IsOpen (open_at s l t) → Core s xs t
core_by s xs l t e k = subst (λ (v : List ℕ). Core s v t) e (core (open_at s l t) k)

pub marker-keeps : (s : List ℕ) (l l' : List Entry) (t t' : Tree) (n : ℕ) → l' ≡ l ++ Marker ∷ [] → t' ≡ charged t n → IsOpen (open_at s l t) → IsOpen (open_at s l' t')
marker-keeps s l l' t t' n e f k =
    moved_list s (l ++ Marker ∷ []) l' (charged t n) t' e f (open-charged s (l ++ Marker ∷ []) t n
    (whole_by s (nodes_of l) (l ++ Marker ∷ []) t (nodes-append l (Marker ∷ []) ∙ append-nil (nodes_of l)) (core (open_at s l t) k)))

pub drop_list-keeps : (s : List ℕ) (l1 l2 l l' : List Entry) (t t' : Tree) (c n : ℕ) → length t.marks ≡ length t.labels
    → l ≡ l1 ++ Node c ∷ l2 → l' ≡ l1 ++ l2 → t' ≡ charged (with_marked t InList c false) n → IsOpen (open_at s l t) → IsOpen (open_at s l' t')
drop_list-keeps s l1 l2 l l' t t' c n many e f g k =
    moved_list s (l1 ++ l2) l' (charged (with_marked t InList c false) n) t' f g
    (open-charged s (l1 ++ l2) (with_marked t InList c false) n
    (whole_by s (nodes_of l1 ++ nodes_of l2) (l1 ++ l2) (with_marked t InList c false) (nodes-append l1 l2)
    (core-drop_list s (nodes_of l1) (nodes_of l2) c t many (core_by s (nodes_of l1 ++ c ∷ nodes_of l2) l t (ap nodes_of e ∙ nodes-append l1 (Node c ∷ l2)) k))))

pub drop_marker-keeps : (s : List ℕ) (l1 l2 l l' : List Entry) (t t' : Tree) (n : ℕ)
    → l ≡ l1 ++ Marker ∷ l2 → l' ≡ l1 ++ l2 → t' ≡ charged t n → IsOpen (open_at s l t) → IsOpen (open_at s l' t')
drop_marker-keeps s l1 l2 l l' t t' n e f g k =
    moved_list s (l1 ++ l2) l' (charged t n) t' f g
    (open-charged s (l1 ++ l2) t n
    (whole_by s (nodes_of l) (l1 ++ l2) t (nodes-append l1 l2 ∙ sym (nodes-append l1 (Marker ∷ l2)) ∙ ap nodes_of (sym e)) (core (open_at s l t) k)))

-- the entry of an element is taken out
pub remove_list-keeps : (s : List ℕ) (l l' : List Entry) (t t' : Tree) (c n : ℕ) → length t.marks ≡ length t.labels
    → l' ≡ without_last (is_node c) l → t' ≡ charged (with_marked t InList c false) n → IsOpen (open_at s l t) → IsOpen (open_at s l' t')
remove_list-keeps s l l' t t' c n many e f k = elim (cases_bool (list_any (is_node c) l)) [
  | inl a ↦
      let r = split-last (is_node c) l a in
      let g : l ≡ below (is_node c) l ++ Node c ∷ above (is_node c) l = r.1 ∙ ap (λ v. below (is_node c) l ++ v ∷ above (is_node c) l) (is_node-true c r.0 r.2) in
      drop_list-keeps s (below (is_node c) l) (above (is_node c) l) l l' t t' c n many g (e ∙ rw a refl) f k
  | inr a ↦
      let m : marked t InList c ≡ false = k.in_list c ∙ none-node c l a in
      moved_list s l l' (charged t n) t' (e ∙ rw a refl) (f ∙ ap (λ u. charged u n) (unset-same t InList c m)) (open-charged s l t n k)
]
  where
    is_node-true : (x : ℕ) (e : Entry) → is_node x e ≡ true → e ≡ Node x
    is_node-true x Marker h = absurd cc
    is_node-true x (Node y) h = ap Node (sym (eqb-true x y h))

    none-node : (x : ℕ) (es : List Entry) → list_any (is_node x) es ≡ false → has x (nodes_of es) ≡ false
    none-node x [] h = refl
    none-node x (Marker ∷ es) h = none-node x es h
    none-node x (Node y ∷ es) h = elim (cases_bool (eqb x y)) [
      | inl a ↦ absurd (let g : list_any (is_node x) (Node y ∷ es) ≡ true = rw a refl in cc)
      | inr a ↦ rw a (none-node x es (rw a at h))
    ]

-- what is displaced by a push goes, and the element is added
pub push_list-keeps : (s : List ℕ) (l l' : List Entry) (t t' : Tree) (c n : ℕ) → length t.marks ≡ length t.labels
    → l' ≡ l ++ Node c ∷ [] → t' ≡ charged (with_marked t InList c true) n → IsOpen (open_at s l t) → CanAdd (nodes_of l) s t c → is_formatting (tag_at t c) ≡ true
    → IsOpen (open_at s l' t')
push_list-keeps s l l' t t' c n many e f k p g =
    moved_list s (l ++ Node c ∷ []) l' (charged (with_marked t InList c true) n) t' e f
    (open-charged s (l ++ Node c ∷ []) (with_marked t InList c true) n
    (whole_by s (nodes_of l ++ c ∷ []) (l ++ Node c ∷ []) (with_marked t InList c true) (nodes-append l (Node c ∷ []))
    (core-list s (nodes_of l) [] c t many (core_by s (nodes_of l ++ []) l t (sym (append-nil (nodes_of l))) k)
    (subst (λ (v : List ℕ). CanAdd v s t c) (sym (append-nil (nodes_of l))) p) g)))

pub take-keeps : (s s' : List ℕ) (l : List Entry) (t t' : Tree) (o : Option ℕ) → length t.marks ≡ length t.labels
    → s ≡ with_last s' o → t' ≡ unmarked t OnStack o → IsOpen (open_at s l t) → IsOpen (open_at s' l t')
take-keeps s s' l t t' None many e f k = moved_stack s s' l t t' (sym e) f k
take-keeps s s' l t t' (Some c) many e f k =
    moved_stack s' s' l (with_marked t OnStack c false) t' refl f
    (whole s' l (with_marked t OnStack c false)
    (subst (λ (v : List ℕ). Core v (nodes_of l) (with_marked t OnStack c false)) (append-nil s')
    (core-drop_stack s' [] (nodes_of l) c t many (core (open_at (s' ++ c ∷ []) l t) (subst (λ (v : List ℕ). IsOpen (open_at v l t)) e k)))))

pub take_list-keeps : (s : List ℕ) (l l' : List Entry) (t t' : Tree) (e : Entry) → length t.marks ≡ length t.labels
    → l ≡ l' ++ e ∷ [] → t' ≡ unmarked t InList (node_in (Some e)) → IsOpen (open_at s l t) → IsOpen (open_at s l' t')
take_list-keeps s l l' t t' Marker many e f k =
    moved_list s l' l' t t' refl f
    (whole_by s (nodes_of l) l' t (sym (ap nodes_of e ∙ nodes-append l' (Marker ∷ []) ∙ append-nil (nodes_of l'))) (core (open_at s l t) k))
take_list-keeps s l l' t t' (Node c) many e f k =
    moved_list s l' l' (with_marked t InList c false) t' refl f
    (whole_by s (nodes_of l' ++ []) l' (with_marked t InList c false) (sym (append-nil (nodes_of l')))
    (core-drop_list s (nodes_of l') [] c t many (core_by s (nodes_of l' ++ c ∷ []) l t (ap nodes_of e ∙ nodes-append l' (Node c ∷ [])) k)))
