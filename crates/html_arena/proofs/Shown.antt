-- What stands just below a node, and what stands below a root.
use Rattle.std.proofs.Common.{◌≡◌, ℕ, zero, suc, ◌+◌, ◌<◌, ◌≤◌, true, false, List, [], ◌∷◌, ◌++◌, length, Option, Some, None, ◌⊎◌, inl, inr, refl, sym, ◌∙◌, ap, subst, arith}
use Rattle.html_arena.specs.Siblings.{has, Distinct, first_of, after}
use Rattle.html_arena.specs.Tree.{Tree, WellFormed, label_of, children_of, parent_of, sibling}
use Rattle.html_arena.proofs.Siblings.{cases_eqb, cases_bool, eqb-self, after-here, Distinct-remove, has-append}
use Rattle.html_arena.specs.declared.walk.Show.{Show}
use Rattle.html_arena.specs.Forest.{Forest}
use Rattle.html_arena.specs.Forest.Forest.{empty, tree}
use Rattle.html_arena.specs.Data.{contents_in, host_in}
use Rattle.html_arena.specs.Below.{kids, hides, above, above_of, or_self, row, levels_below, below, IsForestAt}
use Rattle.html_arena.specs.Walking.{Upward}
use Rattle.html_arena.proofs.Upward.{Upward-length}

pub cases_option : (o : Option ℕ) → (o ≡ None) ⊎ ((x : ℕ) × (o ≡ Some x))
cases_option None = inl refl
cases_option (Some x) = inr (x, refl)

-- the forest of a list of roots is that list's alone
pub IsForestAt-same : (s : Show) (t : Tree) (xs : List ℕ) (f g : Forest ℕ) → IsForestAt s t xs f → IsForestAt s t xs g → f ≡ g
IsForestAt-same s t [] empty empty a b = refl
IsForestAt-same s t [] empty (tree y g h) a b = absurd b
IsForestAt-same s t [] (tree y g h) k a b = absurd a
IsForestAt-same s t (x ∷ xs) empty g a b = absurd a
IsForestAt-same s t (x ∷ xs) (tree y f h) empty a b = absurd b
IsForestAt-same s t (x ∷ xs) (tree y f h) (tree z k m) a b =
    let e = IsForestAt-same s t (kids s t x) f k a.1 b.1 in
    let d = IsForestAt-same s t xs h m a.2 b.2 in
    let l : y ≡ z = a.0 ∙ sym b.0 in
    rw (l, e, d) refl

module _ (s : Show) (t : Tree) (w : WellFormed t) where
  -- no node that a walk enters is a Contents node
  abbrev pub Plain : ℕ → Type 0
  Plain x = host_in (label_of t x) ≡ None

  pub above_in : (x p : ℕ) → above t x ≡ Some p → p < length t.labels
  above_in x p h = elim (cases_option (parent_of t x)) [
    | inl e ↦ absurd (let k = ap (above_of t) e in cc)
    | inr e ↦ elim (cases_option (host_in (label_of t e.0))) [
      | inl f ↦ (let k : p ≡ e.0 = (let a = ap (above_of t) e.1 in let b = ap (or_self e.0) f in cc) in let b = w.parent_in e.0 x e.1 in omega arith)
      | inr f ↦ (let k : p ≡ f.0 = (let a = ap (above_of t) e.1 in let b = ap (or_self e.0) f.1 in cc) in let b = (w.templates.host_is e.0 f.0 f.1).0 in omega arith)
    ]
  ]

  pub record IsKid (p x : ℕ) : Type 0 where
    pub inside : x < length t.labels
    pub up : above t x ≡ Some p
    pub plain : Plain x
    pub home : parent_of t x ≡ Some (or_self p (contents_in (label_of t p)))

  shown : (p x : ℕ) → has x (kids s t p) ≡ true → has x (children_of t (or_self p (contents_in (label_of t p)))) ≡ true
  shown p x h = elim (cases_bool (hides s (label_of t p))) [
    | inl e ↦ absurd (let k : hides s (label_of t p) ≡ true = e in let b = rw k at h in cc)
    | inr e ↦ (let k : hides s (label_of t p) ≡ false = e in rw k at h)
  ]

  home_of : (p : ℕ) → Plain p → or_self (or_self p (contents_in (label_of t p))) (host_in (label_of t (or_self p (contents_in (label_of t p))))) ≡ p
  home_of p n = elim (cases_option (contents_in (label_of t p))) [
    | inl e ↦ rw (e, n) refl
    | inr e ↦ (let k = (w.templates.contents_is p e.0 e.1).1 in rw (e.1, k) refl)
  ]

  pub kid : (p x : ℕ) → Plain p → has x (kids s t p) ≡ true → IsKid p x
  kid p x n h =
      let q = or_self p (contents_in (label_of t p)) in
      let c = shown p x h in
      let o = w.child_has_parent q x c in
      record {
        inside = w.child_in q x c;
        up = ap (above_of t) o ∙ ap Some (home_of p n);
        plain = elim (cases_option (host_in (label_of t x))) [
          | inl e ↦ e
          | inr e ↦ absurd (let k = w.contents_alone x e.0 e.1 in cc)
        ];
        home = o;
      }

  -- the node after one of those just below p
  pub kid_after : (p x : ℕ) (done ys : List ℕ) → Plain p → kids s t p ≡ done ++ x ∷ ys → IsKid p x → sibling after (parent_of t x) t x ≡ first_of ys
  kid_after p x done ys n e k = elim (cases_bool (hides s (label_of t p))) [
    | inl b ↦ absurd (
        let q : hides s (label_of t p) ≡ true = b in
        let f : [] ≡ done ++ x ∷ ys = rw q at e in
        let i = ap (has x) f in
        let j = has-append x done (x ∷ ys) in
        let l = eqb-self x in
        elim (cases_bool (has x done)) [
          | inl v ↦ (let z = rw v at j in cc)
          | inr v ↦ (let z = rw (v, l) at j in cc)
        ])
    | inr b ↦
        let q : hides s (label_of t p) ≡ false = b in
        let c = or_self p (contents_in (label_of t p)) in
        let f : children_of t c ≡ done ++ x ∷ ys = rw q at e in
        let d : Distinct (done ++ x ∷ ys) = subst Distinct f (w.once c) in
        let r = Distinct-remove x done ys d in
        ap (λ o. sibling after o t x) k.home ∙ ap (after x) f ∙ after-here x done ys r.1
  ]

  row_is : (g : ℕ → Forest ℕ) (xs : List ℕ) → ((x : ℕ) → has x xs ≡ true → IsForestAt s t (kids s t x) (g x)) → IsForestAt s t xs (row g xs)
  row_is g [] h = tt
  row_is g (x ∷ xs) h = (refl, h x (rw (eqb-self x) refl), row_is g xs (λ y i. h y (elim (cases_eqb y x) [ inl e ↦ rw e.0 refl | inr e ↦ rw e.0 i ])))

  -- as many steps above p as there are nodes: nothing is below it
  lowest : (p : ℕ) (us xs : List ℕ) → Plain p → Upward (above t) p us → length t.labels ≤ length us + 1 → kids s t p ≡ xs → IsForestAt s t xs empty
  lowest p us [] n a b e = tt
  lowest p us (x ∷ xs) n a b e =
      let i = kid p x n (ap (has x) e ∙ rw (eqb-self x) refl) in
      let o = i.inside in
      let l = Upward-length (above t) (length t.labels) above_in x (p ∷ us) (i.up, a) i.inside in
      absurd (omega arith)

  levels_are : (n p : ℕ) (us : List ℕ) → Plain p → Upward (above t) p us → length t.labels ≤ length us + 1 + n → IsForestAt s t (kids s t p) (levels_below n s t p)
  levels_are zero p us n a b = lowest p us (kids s t p) n a (omega arith) refl
  levels_are (suc k) p us n a b = row_is (levels_below k s t) (kids s t p) (λ x h.
      let i = kid p x n h in
      levels_are k x (p ∷ us) i.plain (i.up, a) (omega arith))

  -- below a node above which the nodes come to an end stands what its forest says
  pub below_is : (r : ℕ) (us : List ℕ) → Plain r → Upward (above t) r us → IsForestAt s t (kids s t r) (below s t r)
  below_is r us n a = levels_are (length t.labels) r us n a (omega arith)
