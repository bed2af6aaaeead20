-- What adding, relabelling and unlinking nodes leaves of the links and the contents of templates.
use Rattle.std.proofs.Common.{◌≡◌, ◌<◌, ◌≤◌, ◌⊎◌, ◌≢◌, ℕ, zero, suc, ◌+◌, ◌-◌, Bool, true, false, cond, eqb, List, [], ◌∷◌, ◌++◌, get_or, length, length-append, append-nil, Some, None, is_some, inl, inr, refl, sym, ◌∙◌, ap, subst, arith}
use Rattle.std.proofs.Math.ListN.{get_or-append}
use Rattle.std.proofs.Math.Seq.{get_or-append_right, get_or-append_seam}
use Rattle.std.proofs.lemmas.Bool.{cases_lt, false≢true}
use Rattle.std.proofs.lemmas.List.{get_or_past}
use Rattle.html_names.specs.declared.tag.Tag.TheVariants as tag
use Rattle.html_names.specs.Sets.{is_special, is_template}
use Rattle.html_arena.specs.declared.data.NodeData.{NodeData}
use Rattle.html_arena.specs.declared.data.NodeData.TheVariants.{Contents, Document}
use Rattle.html_arena.specs.Data.{contents_in, host_in, tag_in}
use Rattle.html_arena.specs.Siblings.{Distinct, first_of, has}
use Rattle.html_arena.specs.Tree.{Tree as Nodes, children_of, contents_at, host_at, label_of, parent_of, tag_at}
use Rattle.html_arena.proofs.Siblings.{Distinct-insert, cases_bool, cases_eqb, eqb-self, has-insert}
use Rattle.html_open.specs.Placing.{get}
use Rattle.html_laws.specs.Contents.{IsOver, above as upon, itself}
use Rattle.html_laws.proofs.Hosts.{AreBased, IsLaid, IsTied, base}
use Rattle.html_laws.proofs.Basing.{based-join}

-- NODES THAT ARE NOT THERE

module _ (t : Nodes) (l : IsLaid t) where
  pub no-parent : (x : ℕ) → length t.labels ≤ x → parent_of t x ≡ None
  no-parent x b = (let n = l.as_many_parents in get_or_past t.parents x None (omega (arith, n, b)))

  pub parent-in : (x p : ℕ) → parent_of t x ≡ Some p → x < length t.labels
  parent-in x p e = elim (cases_lt x (length t.labels)) [
    | inl b ↦ b
    | inr b ↦ absurd (let k = sym (no-parent x b) ∙ e in cc)
  ]

  -- what is over a node is a node
  pub over-in : (r x : ℕ) → IsOver t r x → x < length t.labels → r < length t.labels
  over-in r _ itself b = b
  over-in r _ (upon x p e o) b = over-in r p o (l.parent_in x p e)

-- LISTS

pub first-has : (x : ℕ) (s : List ℕ) → first_of s ≡ Some x → has x s ≡ true
first-has x [] h = absurd (let k = h in cc)
first-has x (y ∷ s) h = (let e : x ≡ y = (let k = h in cc) in ap (λ (v : ℕ). has v (y ∷ s)) e ∙ rw (eqb-self y) refl)

pub insert-other : (x n : ℕ) (xs ys : List ℕ) → eqb x n ≡ false → has x (xs ++ n ∷ ys) ≡ has x (xs ++ ys)
insert-other x n xs ys e = has-insert x n xs ys ∙ rw e refl

pub has-pushed : (x n : ℕ) (s : List ℕ) → has x (s ++ n ∷ []) ≡ true → (has x s ≡ true) ⊎ (x ≡ n)
has-pushed x n s h = elim (cases_eqb x n) [
  | inl e ↦ inr e.1
  | inr e ↦ inl (sym (ap (has x) (append-nil s)) ∙ sym (insert-other x n s [] e.0) ∙ h)
]

first-pushed : (x : ℕ) (s : List ℕ) {n : ℕ} → first_of (s ++ n ∷ []) ≡ Some x → (first_of s ≡ Some x) ⊎ ((s ≡ []) × (x ≡ n))
first-pushed x [] h = inr (refl, (let k = h in cc))
first-pushed x (y ∷ s) h = inl h

-- what may be cloned: nodes that are no templates and no contents
pub record AreSimple (t : Nodes) (xs : List ℕ) : Type 0 where
  pub inside : (x : ℕ) → has x xs ≡ true → x < length t.labels
  pub no_host : (x : ℕ) → has x xs ≡ true → host_at t x ≡ None
  pub no_template : (x : ℕ) → has x xs ≡ true → is_template (tag_at t x) ≡ false

-- AN ADDED NODE

-- the next node, with its contents where it is a template, is a child of q
pub record IsAdded (t u : Nodes) (q : ℕ) (d : NodeData) (b : Bool) : Type 0 where
  pub labels_are : u.labels ≡ t.labels ++ d ∷ cond b (Contents (length t.labels) ∷ []) []
  pub host_none : host_in d ≡ None
  pub contents_are : contents_in d ≡ cond b (Some (length t.labels + 1)) None
  pub template_is : is_template (tag_in d) ≡ b
  pub as_many_parents : length u.parents ≡ length u.labels
  pub as_many_lists : length u.children ≡ length u.labels
  pub parents_are : (x : ℕ) → parent_of u x ≡ cond (eqb x (length t.labels)) (Some q) (parent_of t x)
  pub front : List ℕ
  pub back : List ℕ
  pub children_were : children_of t q ≡ front ++ back
  pub children_are : (p : ℕ) → children_of u p ≡ cond (eqb p q) (front ++ length t.labels ∷ back) (children_of t p)

module _ (t u : Nodes) (q : ℕ) (d : NodeData) (b : Bool) (l : IsLaid t) (in_t : q < length t.labels) (a : IsAdded t u q d b) where
  abbrev n : ℕ
  n = length t.labels

  abbrev rest : List NodeData
  rest = cond b (Contents n ∷ []) []

  rest-long : (c : Bool) → length (cond c (Contents n ∷ []) []) ≡ cond c 1 0
  rest-long true = refl
  rest-long false = refl

  pub long : length u.labels ≡ n + 1 + cond b 1 0
  long = (let e = ap length a.labels_are ∙ length-append t.labels (d ∷ rest) in let f = rest-long b in omega (arith, e, f))

  pub longer : n < length u.labels
  longer = (let e = long in omega (arith, e))

  old-label : (x : ℕ) → x < n → label_of u x ≡ label_of t x
  old-label x h = ap (λ v. get_or v x Document) a.labels_are ∙ get_or-append t.labels (d ∷ rest) Document x h

  new-label : label_of u n ≡ d
  new-label = ap (λ v. get_or v n Document) a.labels_are ∙ get_or-append_seam t.labels d rest Document

  late-label : (x : ℕ) → n < x → label_of u x ≡ get_or rest (x - (n + 1)) Document
  late-label x h =
      ap (λ v. get_or v x Document) a.labels_are ∙ get_or-append_right t.labels (d ∷ rest) x Document (omega (arith, h))
      ∙ ap (λ k. get_or (d ∷ rest) k Document) (let m : x - n ≡ suc (x - (n + 1)) = omega (arith, h) in m)

  late-by : (c : Bool) (k : ℕ) → (get_or (cond c (Contents n ∷ []) []) k Document ≡ Document) ⊎ ((c ≡ true) × (k ≡ 0) × (get_or (cond c (Contents n ∷ []) []) k Document ≡ Contents n))
  late-by true zero = inr (refl, refl, refl)
  late-by true (suc k) = inl refl
  late-by false k = inl refl

  late : (x : ℕ) → n < x → (label_of u x ≡ Document) ⊎ ((b ≡ true) × (x ≡ n + 1) × (label_of u x ≡ Contents n))
  late x h = elim (late-by b (x - (n + 1))) [
    | inl e ↦ inl (late-label x h ∙ e)
    | inr e ↦ inr (e.0, (let k = e.1 in omega (arith, k, h)), late-label x h ∙ e.2)
  ]

  contents-label : b ≡ true → label_of u (n + 1) ≡ Contents n
  contents-label e = late-label (n + 1) (omega arith) ∙ ap (λ k. get_or rest k Document) (let m : n + 1 - (n + 1) ≡ 0 = omega arith in m) ∙ by b e
    where
      by : (c : Bool) → c ≡ true → get_or (cond c (Contents n ∷ []) []) 0 Document ≡ Contents n
      by true f = refl
      by false f = absurd (false≢true f)

  pub added-contents : (x : ℕ) → x < n → contents_at u x ≡ contents_at t x
  added-contents x h = ap contents_in (old-label x h)

  pub new-contents : contents_at u n ≡ cond b (Some (n + 1)) None
  new-contents = ap contents_in new-label ∙ a.contents_are

  old-parent : (x : ℕ) → x ≢ n → parent_of u x ≡ parent_of t x
  old-parent x h = a.parents_are x ∙ by (cases_eqb x n)
    where
      by : ((eqb x n ≡ true) × (x ≡ n)) ⊎ ((eqb x n ≡ false) × (x ≢ n)) → cond (eqb x n) (Some q) (parent_of t x) ≡ parent_of t x
      by (inl k) = absurd (h k.1)
      by (inr k) = rw k.0 refl

  pub new-parent : parent_of u n ≡ Some q
  new-parent = a.parents_are n ∙ rw (eqb-self n) refl

  apart : (x p : ℕ) → parent_of t x ≡ Some p → x ≢ n
  apart x p e f = (let k = parent-in t l x p e in omega (arith, k, f))

  below : (x : ℕ) → x < n → x ≢ n
  below x h f = omega (arith, h, f)

  pub added-over : (r x : ℕ) → IsOver t r x → IsOver u r x
  added-over r _ itself = itself
  added-over r _ (upon x p e o) = upon x p (old-parent x (apart x p e) ∙ e) (added-over r p o)

  over-old : (r x : ℕ) → x < n → IsOver u r x → IsOver t r x
  over-old r _ h itself = itself
  over-old r _ h (upon x p e o) = (let f = sym (old-parent x (below x h)) ∙ e in upon x p f (over-old r p (l.parent_in x p f) o))

  -- what is over the new node
  over-new : (r x : ℕ) → x ≡ n → IsOver u r x → (r ≡ n) ⊎ IsOver t r q
  over-new r _ f itself = inl f
  over-new r _ f (upon x p g o) =
      let k : p ≡ q = (let m = sym (subst (λ (v : ℕ). parent_of u v ≡ Some p) f g) ∙ new-parent in cc) in
      inr (over-old r q in_t (subst (IsOver u r) k o))

  -- nothing is over what stands alone
  over-late : (r x : ℕ) → n < x → IsOver u r x → r ≡ x
  over-late r x h o = over-past r x (old-parent x (λ f. omega (arith, h, f)) ∙ no-parent t l x (omega (arith, h))) o
    where
      over-past : (r x : ℕ) → parent_of u x ≡ None → IsOver u r x → r ≡ x
      over-past r _ k itself = refl
      over-past r _ k (upon x p g o) = absurd (let m = sym k ∙ g in cc)

  old-host : (c : ℕ) → c < n → host_at u c ≡ host_at t c
  old-host c h = ap host_in (old-label c h)

  new-host : host_at u n ≡ None
  new-host = ap host_in new-label ∙ a.host_none

  host-cases : (c h : ℕ) → host_at u c ≡ Some h → ((c < n) × (host_at t c ≡ Some h)) ⊎ ((b ≡ true) × (c ≡ n + 1) × (h ≡ n))
  host-cases c h e = elim (cases_lt c n) [
    | inl k ↦ inl (k, sym (old-host c k) ∙ e)
    | inr k ↦ elim (cases_eqb c n) [
      | inl f ↦ absurd (let m = sym (subst (λ (v : ℕ). host_at u v ≡ Some h) f.1 e) ∙ new-host in cc)
      | inr f ↦ elim (late c (let w = f.1 in past w k)) [
        | inl g ↦ absurd (let m = sym (ap host_in g) ∙ e in cc)
        | inr g ↦ inr (g.0, g.1, (let m = sym e ∙ ap host_in g.2 in cc))
      ]
    ]
  ]
    where
      past : c ≢ n → n ≤ c → n < c
      past w k = elim (cases_lt n c) [ inl m ↦ m | inr m ↦ absurd (w (omega (arith, k, m))) ]

  no-older : (c h x : ℕ) → host_at u c ≡ Some h → IsOver u c x → c ≤ x
  no-older c h x e o = elim (cases_lt x n) [
    | inl k ↦
        let v = over-old c x k o in
        let m = over-in t l c x v k in
        l.no_older c h x (sym (old-host c m) ∙ e) v
    | inr k ↦ elim (cases_lt n x) [
      | inl m ↦ (let f = over-late c x m o in omega (arith, f))
      | inr m ↦ elim (over-new c x (omega (arith, k, m)) o) [
        | inl f ↦ omega (arith, f, k)
        | inr v ↦ (let f = over-in t l c q v in_t in omega (arith, f, k))
      ]
    ]
  ]

  child-parent : (p x : ℕ) → has x (children_of u p) ≡ true → parent_of u x ≡ Some p
  child-parent p x h = elim (cases_eqb p q) [
    | inl e ↦ elim (cases_eqb x n) [
      | inl f ↦ subst (λ (v : ℕ). parent_of u v ≡ Some p) (sym f.1) (new-parent ∙ ap Some (sym e.1))
      | inr f ↦
          let k : has x (children_of t q) ≡ true = ap (has x) a.children_were ∙ sym (insert-other x n a.front a.back f.0) ∙ sym (ap (has x) (a.children_are p ∙ rw e.0 refl)) ∙ h in
          old-parent x f.1 ∙ l.child_has_parent q x k ∙ ap Some (sym e.1)
    ]
    | inr e ↦
        let k : has x (children_of t p) ≡ true = sym (ap (has x) (a.children_are p ∙ rw e.0 refl)) ∙ h in
        let m = l.child_has_parent p x k in
        old-parent x (apart x p m) ∙ m
  ]

  parent-child : (p x : ℕ) → parent_of u x ≡ Some p → has x (children_of u p) ≡ true
  parent-child p x h = elim (cases_eqb x n) [
    | inl f ↦
        let e : p ≡ q = (let m = sym (subst (λ (v : ℕ). parent_of u v ≡ Some p) f.1 h) ∙ new-parent in cc) in
        let k : children_of u p ≡ a.front ++ n ∷ a.back = a.children_are p ∙ ap (λ (v : ℕ). cond (eqb v q) (a.front ++ n ∷ a.back) (children_of t p)) e ∙ rw (eqb-self q) refl in
        ap (has x) k ∙ has-insert x n a.front a.back ∙ rw f.0 refl
    | inr f ↦
        let k = l.parent_has_child p x (sym (old-parent x f.1) ∙ h) in
        elim (cases_eqb p q) [
          | inl e ↦
              let m : has x (a.front ++ a.back) ≡ true = sym (ap (has x) a.children_were) ∙ subst (λ (v : ℕ). has x (children_of t v) ≡ true) e.1 k in
              ap (has x) (a.children_are p ∙ rw e.0 refl) ∙ has-insert x n a.front a.back ∙ rw f.0 m
          | inr e ↦ ap (has x) (a.children_are p ∙ rw e.0 refl) ∙ k
        ]
  ]

  not-child : has n (children_of t q) ≡ false
  not-child = elim (cases_bool (has n (children_of t q))) [
    | inl e ↦ absurd (let k = sym (no-parent t l n (omega arith)) ∙ l.child_has_parent q n e in cc)
    | inr e ↦ e
  ]

  each-once : (p : ℕ) → Distinct (children_of u p)
  each-once p = elim (cases_eqb p q) [
    | inl e ↦
        subst Distinct (sym (a.children_are p ∙ rw e.0 refl))
        (Distinct-insert n a.front a.back (subst Distinct a.children_were (l.once q)) (ap (has n) (sym a.children_were) ∙ not-child))
    | inr e ↦ subst Distinct (sym (a.children_are p ∙ rw e.0 refl)) (l.once p)
  ]

  has-hosts : (x : ℕ) → is_some (contents_at u x) ≡ is_template (tag_at u x)
  has-hosts x = elim (cases_lt x n) [
    | inl k ↦ ap (λ (d : NodeData). is_some (contents_in d)) (old-label x k) ∙ l.hosts x ∙ sym (ap (λ (d : NodeData). is_template (tag_in d)) (old-label x k))
    | inr k ↦ elim (cases_lt n x) [
      | inl m ↦ elim (late x m) [
        | inl g ↦ ap (λ (d : NodeData). is_some (contents_in d)) g ∙ sym (ap (λ (d : NodeData). is_template (tag_in d)) g)
        | inr g ↦ ap (λ (d : NodeData). is_some (contents_in d)) g.2 ∙ sym (ap (λ (d : NodeData). is_template (tag_in d)) g.2)
      ]
      | inr m ↦
          let e : x ≡ n = omega (arith, k, m) in
          let f : label_of u x ≡ d = ap (label_of u) e ∙ new-label in
          ap (λ (v : NodeData). is_some (contents_in v)) f ∙ ap is_some a.contents_are ∙ by b ∙ sym a.template_is ∙ sym (ap (λ (v : NodeData). is_template (tag_in v)) f)
    ]
  ]
    where
      by : (c : Bool) → is_some (cond c (Some (n + 1)) None) ≡ c
      by true = refl
      by false = refl

  has-contents : (x c : ℕ) → contents_at u x ≡ Some c → (c < length u.labels) × (host_at u c ≡ Some x)
  has-contents x c e = elim (cases_lt x n) [
    | inl k ↦ (let m = l.contents_is x c (sym (added-contents x k) ∙ e) in ((let f = longer in let g = m.0 in omega (arith, f, g)), old-host c m.0 ∙ m.1))
    | inr k ↦ elim (cases_lt n x) [
      | inl m ↦ elim (late x m) [
        | inl g ↦ absurd (let w = sym (ap contents_in g) ∙ e in cc)
        | inr g ↦ absurd (let w = sym (ap contents_in g.2) ∙ e in cc)
      ]
      | inr m ↦ at b refl (omega (arith, k, m))
    ]
  ]
    where
      at : (v : Bool) → b ≡ v → x ≡ n → (c < length u.labels) × (host_at u c ≡ Some x)
      at true f g =
          let w : Some (n + 1) ≡ Some c = ap (λ v. cond v (Some (n + 1)) None) (sym f) ∙ sym new-contents ∙ sym (ap (contents_at u) g) ∙ e in
          let y : c ≡ n + 1 = cc in
          ((let z = long in let r = ap (λ v. cond {A = ℕ} v 1 0) f in omega (arith, y, z, r)), ap (host_at u) y ∙ ap host_in (contents-label f) ∙ ap Some (sym g))
      at false f g = absurd (let w : None ≡ Some c = ap (λ v. cond v (Some (n + 1)) None) (sym f) ∙ sym new-contents ∙ sym (ap (contents_at u) g) ∙ e in cc)

  pub added-laid : IsLaid u
  added-laid = record {
    some = (let e = longer in omega (arith, e));
    as_many_parents = a.as_many_parents;
    as_many_lists = a.as_many_lists;
    parent_in = λ x p e. elim (cases_eqb x n) [
      | inl f ↦ (let k : p ≡ q = (let m = sym (subst (λ (v : ℕ). parent_of u v ≡ Some p) f.1 e) ∙ new-parent in cc) in let z = longer in omega (arith, k, z, in_t))
      | inr f ↦ (let k = l.parent_in x p (sym (old-parent x f.1) ∙ e) in let z = longer in omega (arith, k, z))
    ];
    child_has_parent = child-parent;
    parent_has_child = parent-child;
    once = each-once;
    hosts = has-hosts;
    contents_is = has-contents;
    younger = λ c h e. elim (host-cases c h e) [ inl k ↦ l.younger c h k.1 | inr k ↦ (let f = k.1 in let g = k.2 in omega (arith, f, g)) ];
    alone = λ c h e. elim (host-cases c h e) [
      | inl k ↦ old-parent c (below c k.0) ∙ l.alone c h k.1
      | inr k ↦ (let f = k.1 in old-parent c (λ g. omega (arith, f, g)) ∙ no-parent t l c (omega (arith, f)))
    ];
    root_alone = old-parent 0 (λ g. let k = l.some in omega (arith, g, k)) ∙ l.root_alone;
    root_host = old-host 0 l.some ∙ l.root_host;
    root_tag = λ h. ap tag_in (old-label 0 l.some) ∙ l.root_tag (sym (ap (λ (d : NodeData). is_special (tag_in d)) (old-label 0 l.some)) ∙ h);
    no_older = no-older;
  }

  -- THE STACK

  pub added-base : (r : ℕ) (s : List ℕ) → ((x : ℕ) → has x s ≡ true → x < n) → base u r s ≡ base t r s
  added-base r [] i = refl
  added-base r (x ∷ s) i =
      ap (λ o. base u (get o r) s) (added-contents x (i x (rw (eqb-self x) refl)))
      ∙ added-base (get (contents_at t x) r) s (λ y h. i y (elim (cases_eqb y x) as (λ _. has y (x ∷ s) ≡ true) [ inl e ↦ rw e.0 refl | inr e ↦ rw e.0 h ]))

  pub added-based : (r : ℕ) (s : List ℕ) → ((x : ℕ) → has x s ≡ true → x < n) → AreBased t r s → AreBased u r s
  added-based r [] i k = tt
  added-based r (x ∷ s) i k =
      let f = added-contents x (i x (rw (eqb-self x) refl)) in
      let g = λ (y : ℕ) (h : has y s ≡ true). i y (elim (cases_eqb y x) as (λ _. has y (x ∷ s) ≡ true) [ inl e ↦ rw e.0 refl | inr e ↦ rw e.0 h ]) in
      (λ e. added-over r x (k.0 (sym f ∙ e)), subst (λ o. AreBased u (get o r) s) (sym f) (added-based (get (contents_at t x) r) s g k.1))

  pub added-tied : (s : List ℕ) → IsTied t s → IsTied u s
  added-tied s k = record {
    laid = added-laid;
    inside = λ x h. (let e = k.inside x h in let z = longer in omega (arith, e, z));
    once = k.once;
    first = λ x h. ap tag_in (old-label x (k.inside x (first-has x s h))) ∙ k.first x h;
    rooted = λ x h. elim (k.rooted x h) [ inl e ↦ inl e | inr e ↦ inr (old-parent x (apart x 0 e) ∙ e) ];
    based = added-based 0 s k.inside k.based;
  }

  -- it is opened, and stands below what it should
  pub pushed-tied : (s : List ℕ) → IsTied t s → (s ≡ [] → (tag_in d ≡ tag.Html) × (q ≡ 0)) → (b ≡ false → IsOver t (base t 0 s) q) → IsTied u (s ++ n ∷ [])
  pushed-tied s k empty over = record {
    laid = added-laid;
    inside = λ x h. elim (has-pushed x n s h) [ inl e ↦ (let f = k.inside x e in let z = longer in omega (arith, f, z)) | inr e ↦ (let z = longer in omega (arith, e, z)) ];
    once = Distinct-insert n s [] (subst Distinct (sym (append-nil s)) k.once) (ap (has n) (append-nil s) ∙ not-in);
    first = λ x h. elim (first-pushed x s h) [
      | inl e ↦ ap tag_in (old-label x (k.inside x (first-has x s e))) ∙ k.first x e
      | inr e ↦ ap (tag_at u) e.1 ∙ ap tag_in new-label ∙ (empty e.0).0
    ];
    rooted = λ x h. elim (first-pushed x s h) [
      | inl e ↦ elim (k.rooted x e) [ inl f ↦ inl f | inr f ↦ inr (old-parent x (apart x 0 f) ∙ f) ]
      | inr e ↦ inr (ap (parent_of u) e.1 ∙ new-parent ∙ ap Some (empty e.0).1)
    ];
    based = based-join u 0 s (n ∷ []) (added-based 0 s k.inside k.based) (based-new, tt);
  }
    where
      not-in : has n s ≡ false
      not-in = elim (cases_bool (has n s)) [ inl e ↦ absurd (let f = k.inside n e in omega (arith, f)) | inr e ↦ e ]

      none-by : (v : Bool) → cond v (Some (n + 1)) None ≡ None → v ≡ false
      none-by true e = absurd (let m = e in cc)
      none-by false e = refl

      based-new : contents_at u n ≡ None → IsOver u (base u 0 s) n
      based-new e = upon n q new-parent (subst (λ (v : ℕ). IsOver u v q) (sym (added-base 0 s k.inside)) (added-over (base t 0 s) q (over (none-by b (sym new-contents ∙ e)))))

  pub added-simple : (xs : List ℕ) → AreSimple t xs → AreSimple u xs
  added-simple xs k = record {
    inside = λ x h. (let e = k.inside x h in let z = longer in omega (arith, e, z));
    no_host = λ x h. old-host x (k.inside x h) ∙ k.no_host x h;
    no_template = λ x h. ap (λ (v : NodeData). is_template (tag_in v)) (old-label x (k.inside x h)) ∙ k.no_template x h;
  }

  pub new-simple : (xs : List ℕ) → b ≡ false → AreSimple t xs → AreSimple u (n ∷ xs)
  new-simple xs f k = record {
    inside = λ x h. elim (cases_eqb x n) [ inl e ↦ (let w = e.1 in let z = longer in omega (arith, w, z)) | inr e ↦ (added-simple xs k).inside x (other x e.0 h) ];
    no_host = λ x h. elim (cases_eqb x n) [ inl e ↦ ap (host_at u) e.1 ∙ new-host | inr e ↦ (added-simple xs k).no_host x (other x e.0 h) ];
    no_template = λ x h. elim (cases_eqb x n) [
      | inl e ↦ ap (λ (v : ℕ). is_template (tag_at u v)) e.1 ∙ ap (λ (v : NodeData). is_template (tag_in v)) new-label ∙ a.template_is ∙ f
      | inr e ↦ (added-simple xs k).no_template x (other x e.0 h)
    ];
  }
    where
      other : (x : ℕ) → eqb x n ≡ false → has x (n ∷ xs) ≡ true → has x xs ≡ true
      other x e h = ap (λ c. cond c true (has x xs)) (sym e) ∙ h
