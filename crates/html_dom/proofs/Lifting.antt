-- An element's children on their way to its place.
use Rattle.std.proofs.Common.{◌≡◌, ℕ, ◌<◌, Bool, true, false, ◌&&◌, IfSome, cond, eqb, List, [], ◌∷◌, ◌++◌, length, Option, Some, None, inl, inr, refl, sym, ◌∙◌, ap, subst, arith, append_assoc, append-nil}
use Rattle.html_arena.specs.Laws.{IsLinked, IsUnlinked}
use Rattle.html_arena.specs.Siblings.{first_of, has, put_before, without}
use Rattle.html_arena.specs.Tree.{Climbs, Tree, WellFormed, ancestors, children_of, label_of, parent_of}
use Rattle.html_arena.specs.Walking.{Upward}
use Rattle.html_arena.proofs.Laws.{ancestors-climb, climbs-closed, not_child, without-none}
use Rattle.html_arena.proofs.Siblings.{cases_bool, cases_eqb, eqb-self, has-append, put_before-split, without-split}
use Rattle.html_arena.proofs.Upward.{not_above_itself}
use Rattle.html_arena.specs.Data.{is_linkable, label_in}
use Rattle.html_dom.specs.Edits.{IsUnwrapped, are_linkable, in_place}
use Rattle.html_dom.specs.Lifting.{IsPartRaised, IsRaised, in_front}

climbs-upward : (t : Tree) (x : ℕ) (us : List ℕ) → Climbs t x us → Upward (parent_of t) x us
climbs-upward t x [] a = a
climbs-upward t x (u ∷ us) a = (a.0, climbs-upward t u us a.1)

module _ (t : Tree) (w : WellFormed t) where
  not_own : (x : ℕ) → x < length t.labels → has x (ancestors t x) ≡ false
  not_own x b = not_above_itself (parent_of t) x (ancestors t x) (climbs-upward t x (ancestors t x) (ancestors-climb t w x b).0)

  -- a child is not above its parent
  pub child-apart : (c x : ℕ) → x < length t.labels → parent_of t c ≡ Some x → has c (x ∷ ancestors t x) ≡ false
  child-apart c x b e = elim (cases_bool (has c (x ∷ ancestors t x))) [
    | inl h ↦ absurd (
        let k = climbs-closed t c x x (ancestors t x) (ancestors-climb t w x b).0 h e in
        let m = not_own x b in
        cc)
    | inr h ↦ h
  ]

  pub not_parent : (x p : ℕ) → x < length t.labels → parent_of t x ≡ Some p → eqb p x ≡ false
  not_parent x p b e = elim (cases_eqb p x) [
    | inl k ↦ absurd (
        let o : parent_of t x ≡ Some x = subst (λ (v : ℕ). parent_of t x ≡ Some v) k.1 e in
        let m : has x (x ∷ ancestors t x) ≡ true = rw (eqb-self x) refl in
        let n = child-apart x x b o in
        cc)
    | inr k ↦ k.0
  ]

  pub not_own_child : (x p : ℕ) → x < length t.labels → parent_of t x ≡ Some p → has x (children_of t x) ≡ false
  not_own_child x p b e = elim (cases_bool (has x (children_of t x))) [
    | inl h ↦ absurd (
        let o = w.child_has_parent x x h in
        let m = not_parent x x b o in
        let n = eqb-self x in
        cc)
    | inr h ↦ h
  ]

eqb-flip : (x y : ℕ) → eqb x y ≡ false → eqb y x ≡ false
eqb-flip x y e = elim (cases_eqb y x) [
  | inl k ↦ absurd (let m : eqb x x ≡ false = subst (λ (v : ℕ). eqb x v ≡ false) k.1 e in let n = eqb-self x in cc)
  | inr k ↦ k.0
]

-- c has left t for u, and come back before x in v
pub raised : (t u v : Tree) (c x p : ℕ) → WellFormed t → x < length t.labels → parent_of t c ≡ Some x → parent_of t x ≡ Some p → IsUnlinked t u c → IsLinked u v c p (put_before c x (children_of u p)) → IsRaised t v c x p
raised t u v c x p w b up q a l =
    let other : has c (children_of t p) ≡ false = not_child t w c p (λ h. let e : x ≡ p = (let k = up in let m = h in cc) in let n = not_parent t w x p b q in let o = eqb-self x in let z : eqb x x ≡ false = subst (λ (y : ℕ). eqb y x ≡ false) (sym e) n in cc) in
    let same : children_of u p ≡ children_of t p = a.children_are p ∙ without-none c (children_of t p) other in
    record {
      well_formed = l.well_formed;
      parent_is = λ y. l.parent_is y ∙ elim (cases_eqb y c) as (λ _. cond (eqb y c) (Some p) (parent_of u y) ≡ cond (eqb y c) (Some p) (parent_of t y)) [
        | inl e ↦ rw e.0 refl
        | inr e ↦ rw e.0 (a.parent_is y ∙ rw e.0 refl)
      ];
      children_are = λ y. l.children_are y ∙ ap (λ z. cond (eqb y p) (put_before c x z) (children_of u y)) same ∙ ap (λ z. cond (eqb y p) (put_before c x (children_of t p)) z) (a.children_are y);
      same_labels = l.same_labels ∙ a.same_labels;
      same_marks = l.same_marks ∙ a.same_marks;
    }

in_front-put : (done : List ℕ) (c x : ℕ) (l : List ℕ) → has x done ≡ false → put_before c x (in_front done x l) ≡ in_front (done ++ c ∷ []) x l
in_front-put done c x [] h = refl
in_front-put done c x (y ∷ ys) h = elim (cases_eqb x y) [
  | inl e ↦
      let split : put_before c x (done ++ x ∷ ys) ≡ done ++ c ∷ x ∷ ys = put_before-split c x done ys h in
      let there : put_before c x (done ++ y ∷ ys) ≡ done ++ c ∷ y ∷ ys = subst (λ (v : ℕ). put_before c x (done ++ v ∷ ys) ≡ done ++ c ∷ v ∷ ys) e.1 split in
      let join : done ++ c ∷ y ∷ ys ≡ (done ++ c ∷ []) ++ y ∷ ys = sym (append_assoc done (c ∷ []) (y ∷ ys)) in
      rw e.0 (there ∙ join)
  | inr e ↦ rw e.0 (rw e.0 (ap (λ zs. y ∷ zs) (in_front-put done c x ys h)))
]

in_front-without : (ks : List ℕ) (x : ℕ) (l : List ℕ) → has x ks ≡ false → without x (in_front ks x l) ≡ in_place x ks l
in_front-without ks x [] h = refl
in_front-without ks x (y ∷ ys) h = elim (cases_eqb x y) [
  | inl e ↦
      let split : without x (ks ++ x ∷ ys) ≡ ks ++ ys = without-split x ks ys h in
      let there : without x (ks ++ y ∷ ys) ≡ ks ++ ys = subst (λ (v : ℕ). without x (ks ++ v ∷ ys) ≡ ks ++ ys) e.1 split in
      rw e.0 there
  | inr e ↦ rw e.0 (rw e.0 (ap (λ zs. y ∷ zs) (in_front-without ks x ys h)))
]

in_front-none : (x : ℕ) (l : List ℕ) → in_front [] x l ≡ l
in_front-none x [] = refl
in_front-none x (y ∷ ys) = elim (cases_eqb x y) [
  | inl e ↦ rw e.0 refl
  | inr e ↦ rw e.0 (ap (λ zs. y ∷ zs) (in_front-none x ys))
]

has-front : (x : ℕ) (xs ys : List ℕ) → has x (xs ++ ys) ≡ false → has x xs ≡ false
has-front x xs ys h = elim (cases_bool (has x xs)) [
  | inl e ↦ absurd (let k = has-append x xs ys in let m : cond (has x xs) true (has x ys) ≡ true = rw e refl in cc)
  | inr e ↦ e
]

first-is : (xs : List ℕ) (c : ℕ) → first_of xs ≡ Some c → (ys : List ℕ) × (xs ≡ c ∷ ys)
first-is [] c e = absurd cc
first-is (y ∷ ys) c e = (ys, let k : y ≡ c = cc in ap (λ z. z ∷ ys) k)

without-first : (c : ℕ) (ys : List ℕ) → without c (c ∷ ys) ≡ ys
without-first c ys = rw (eqb-self c) refl

one-more : (y c : ℕ) (done : List ℕ) (a b : Option ℕ) → cond (eqb y c) a (cond (has y done) a b) ≡ cond (has y (done ++ c ∷ [])) a b
one-more y c done a b = rw (has-append y done (c ∷ [])) (elim (cases_bool (has y done)) as (λ _. cond (eqb y c) a (cond (has y done) a b) ≡ cond (cond (has y done) true (cond (eqb y c) true false)) a b) [
  | inl e ↦ rw e (elim (cases_bool (eqb y c)) as (λ _. cond (eqb y c) a a ≡ a) [ inl f ↦ rw f refl | inr f ↦ rw f refl ])
  | inr e ↦ rw e (elim (cases_bool (eqb y c)) as (λ _. cond (eqb y c) a b ≡ cond (cond (eqb y c) true false) a b) [ inl f ↦ rw f refl | inr f ↦ rw f refl ])
])

linkable-both : (a b : Bool) → (a && b) ≡ true → (a ≡ true) × (b ≡ true)
linkable-both true b e = (refl, e)
linkable-both false b e = absurd cc

linkable-rest : (u : Tree) (xs : List ℕ) (c : ℕ) (ys : List ℕ) → xs ≡ c ∷ ys → are_linkable u xs ≡ true → (is_linkable (label_of u c) ≡ true) × (are_linkable u ys ≡ true)
linkable-rest u xs c ys e k = linkable-both (is_linkable (label_of u c)) (are_linkable u ys) (ap (are_linkable u) (sym e) ∙ k)

pub first-linkable : (u : Tree) (xs : List ℕ) (c : ℕ) → first_of xs ≡ Some c → are_linkable u xs ≡ true → is_linkable (label_of u c) ≡ true
first-linkable u xs c f k = let g = first-is xs c f in (linkable-rest u xs c g.0 g.1 k).0

are_linkable-labels : (u v : Tree) (xs : List ℕ) → v.labels ≡ u.labels → are_linkable v xs ≡ are_linkable u xs
are_linkable-labels u v [] e = refl
are_linkable-labels u v (x ∷ xs) e = ap (λ ds. is_linkable (label_in ds x) && are_linkable v xs) e ∙ ap (λ b. is_linkable (label_of u x) && b) (are_linkable-labels u v xs e)

pub linkable-all : (u v : Tree) (xs ys : List ℕ) → v.labels ≡ u.labels → are_linkable u xs ≡ true → are_linkable u ys ≡ true → are_linkable v (xs ++ ys) ≡ true
linkable-all u v [] ys e a b = are_linkable-labels u v ys e ∙ b
linkable-all u v (x ∷ xs) ys e a b =
    let k = linkable-both (is_linkable (label_of u x)) (are_linkable u xs) a in
    let l : is_linkable (label_of v x) ≡ true = ap (λ ds. is_linkable (label_in ds x)) e ∙ k.0 in
    rw (l, linkable-all u v xs ys e k.1 b) refl

pub linkable-same : (u v : Tree) (xs : List ℕ) → v.labels ≡ u.labels → are_linkable u xs ≡ true → are_linkable v xs ≡ true
linkable-same u v xs e a = are_linkable-labels u v xs e ∙ a

pub none-first : (xs : List ℕ) → first_of xs ≡ None → xs ≡ []
none-first [] e = refl
none-first (x ∷ xs) e = absurd cc

pub some-in : (o : Option ℕ) (p : ℕ) (P : ℕ → Type 0) → o ≡ Some p → IfSome o P → P p
some-in None p P e h = absurd cc
some-in (Some q) p P e h = let k : q ≡ p = cc in subst P k h

pub kept-parent : (t u : Tree) (c x p : ℕ) → WellFormed t → x < length t.labels → parent_of t c ≡ Some x → parent_of t x ≡ Some p → IsUnlinked t u c → parent_of u x ≡ Some p
kept-parent t u c x p w b up q a = a.parent_is x ∙ elim (cases_eqb x c) as (λ _. cond (eqb x c) None (parent_of t x) ≡ Some p) [
  | inl e ↦ absurd (
      let o : parent_of t c ≡ Some c = up ∙ ap Some e.1 in
      let z : c < length t.labels = subst (λ (v : ℕ). v < length t.labels) e.1 b in
      let m : has c (c ∷ ancestors t c) ≡ true = rw (eqb-self c) refl in
      let n = child-apart t w c c z o in
      cc)
  | inr e ↦ rw e.0 q
]

module _ (t : Tree) (w : WellFormed t) (x p : ℕ) (b : x < length t.labels) (q : parent_of t x ≡ Some p) where
  x_not_p : eqb x p ≡ false
  x_not_p = eqb-flip p x (not_parent t w x p b q)

  pub part-none : IsPartRaised t t x p
  part-none = record {
    done = [];
    rest = children_of t x;
    split = refl;
    well_formed = w;
    parent_is = λ y. refl;
    children_are = λ y. elim (cases_eqb y p) as (λ _. children_of t y ≡ cond (eqb y p) (in_front [] x (children_of t p)) (cond (eqb y x) (children_of t x) (children_of t y))) [
      | inl e ↦ rw e.0 (ap (children_of t) e.1 ∙ sym (in_front-none x (children_of t p)))
      | inr e ↦ rw e.0 (elim (cases_eqb y x) as (λ _. children_of t y ≡ cond (eqb y x) (children_of t x) (children_of t y)) [
        | inl f ↦ rw f.0 (ap (children_of t) f.1)
        | inr f ↦ rw f.0 refl
      ])
    ];
    same_labels = refl;
    same_marks = refl;
  }

  pub rest-is : (u : Tree) (r : IsPartRaised t u x p) → children_of u x ≡ r.rest
  rest-is u r = r.children_are x ∙ rw x_not_p (rw (eqb-self x) refl)

  pub still_parent : (u : Tree) → IsPartRaised t u x p → parent_of u x ≡ Some p
  still_parent u r = r.parent_is x ∙ elim (cases_bool (has x r.done)) as (λ _. cond (has x r.done) (Some p) (parent_of t x) ≡ Some p) [ inl e ↦ rw e refl | inr e ↦ rw e q ]

  done_without : (u : Tree) (r : IsPartRaised t u x p) → has x r.done ≡ false
  done_without u r = has-front x r.done r.rest (subst (λ (l : List ℕ). has x l ≡ false) r.split (not_own_child t w x p b q))

  more : (u v : Tree) (c : ℕ) (ys : List ℕ) (r : IsPartRaised t u x p) → IsRaised u v c x p → r.rest ≡ c ∷ ys → IsPartRaised t v x p
  more u v c ys r a e =
      let split : children_of t x ≡ (r.done ++ c ∷ []) ++ ys = r.split ∙ ap (λ l. r.done ++ l) e ∙ sym (append_assoc r.done (c ∷ []) ys) in
      let here : has c (children_of t x) ≡ true =
      ap (has c) (r.split ∙ ap (λ l. r.done ++ l) e) ∙ has-append c r.done (c ∷ ys) ∙ elim (cases_bool (has c r.done)) [ inl k ↦ rw k refl | inr k ↦ rw (k, eqb-self c) refl ] in
      let up = w.child_has_parent x c here in
      record {
        done = r.done ++ c ∷ [];
        rest = ys;
        split = split;
        well_formed = a.well_formed;
        parent_is = λ y. a.parent_is y ∙ ap (λ o. cond (eqb y c) (Some p) o) (r.parent_is y) ∙ one-more y c r.done (Some p) (parent_of t y);
        children_are = λ y. a.children_are y ∙ elim (cases_eqb y p) as (λ _. cond (eqb y p) (put_before c x (children_of u p)) (without c (children_of u y)) ≡ cond (eqb y p) (in_front (r.done ++ c ∷ []) x (children_of t p)) (cond (eqb y x) ys (children_of t y))) [
          | inl k ↦ rw k.0 (ap (put_before c x) (r.children_are p ∙ rw (eqb-self p) refl) ∙ in_front-put r.done c x (children_of t p) (done_without u r))
          | inr k ↦ rw k.0 (ap (without c) (r.children_are y ∙ rw k.0 refl) ∙ elim (cases_eqb y x) as (λ _. without c (cond (eqb y x) r.rest (children_of t y)) ≡ cond (eqb y x) ys (children_of t y)) [
            | inl f ↦ rw f.0 (ap (without c) e ∙ without-first c ys)
            | inr f ↦ rw f.0 (without-none c (children_of t y) (not_child t w c y (λ h. f.1 (let m = up in cc))))
          ])
        ];
        same_labels = a.same_labels ∙ r.same_labels;
        same_marks = a.same_marks ∙ r.same_marks;
      }

  pub part-more : (u v : Tree) (c : ℕ) → IsPartRaised t u x p → IsRaised u v c x p → first_of (children_of u x) ≡ Some c → are_linkable u (children_of u x) ≡ true
      → IsPartRaised t v x p × (length (children_of v x) < length (children_of u x)) × (are_linkable v (children_of v x) ≡ true)
  part-more u v c r a f k =
      let g = first-is r.rest c (ap first_of (sym (rest-is u r)) ∙ f) in
      let m = more u v c g.0 r a g.1 in
      let l : children_of v x ≡ g.0 = a.children_are x ∙ rw x_not_p (ap (without c) (rest-is u r ∙ g.1) ∙ without-first c g.0) in
      let i = ap length l in
      let j = ap length (rest-is u r ∙ g.1) in
      let n = linkable-rest u (children_of u x) c g.0 (rest-is u r ∙ g.1) k in
      (m, omega arith, rw l (are_linkable-labels u v g.0 a.same_labels ∙ n.1))

  -- all are before x, and x is gone
  pub unwrapped : (u v : Tree) (r : IsPartRaised t u x p) → children_of u x ≡ [] → IsUnlinked u v x → IsUnwrapped t v x p
  unwrapped u v r z a =
      let none : r.rest ≡ [] = sym (rest-is u r) ∙ z in
      let all : r.done ≡ children_of t x = sym (r.split ∙ ap (λ l. r.done ++ l) none ∙ append-nil r.done) in
      let gone : has x (children_of t x) ≡ false = not_own_child t w x p b q in
      record {
        well_formed = a.well_formed;
        parent_is = λ y. a.parent_is y ∙ elim (cases_eqb y x) as (λ _. cond (eqb y x) None (parent_of u y) ≡ cond (has y (children_of t x)) (Some p) (cond (eqb y x) None (parent_of t y))) [
          | inl e ↦ (let k : has y (children_of t x) ≡ false = subst (λ (v : ℕ). has v (children_of t x) ≡ false) (sym e.1) gone in rw e.0 (rw k refl))
          | inr e ↦ rw e.0 (r.parent_is y ∙ ap (λ l. cond (has y l) (Some p) (parent_of t y)) all)
        ];
        children_are = λ y. a.children_are y ∙ elim (cases_eqb y p) as (λ _. without x (children_of u y) ≡ cond (eqb y p) (in_place x (children_of t x) (children_of t p)) (cond (eqb y x) [] (children_of t y))) [
          | inl e ↦ rw e.0 (ap (without x) (r.children_are y ∙ rw e.0 refl) ∙ in_front-without r.done x (children_of t p) (done_without u r) ∙ ap (λ l. in_place x l (children_of t p)) all)
          | inr e ↦ rw e.0 (ap (without x) (r.children_are y ∙ rw e.0 refl) ∙ elim (cases_eqb y x) as (λ _. without x (cond (eqb y x) r.rest (children_of t y)) ≡ cond (eqb y x) [] (children_of t y)) [
            | inl f ↦ rw f.0 (ap (without x) none)
            | inr f ↦ rw f.0 (without-none x (children_of t y) (not_child t w x y (λ h. e.1 (let m = q in cc))))
          ])
        ];
        same_labels = a.same_labels ∙ r.same_labels;
        same_marks = a.same_marks ∙ r.same_marks;
      }
