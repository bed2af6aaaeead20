-- What an end tag of the current node closes in a plain page: that node, whichever of its rules it comes to.
use Rattle.std.proofs.Common.{◌≡◌, ℕ, zero, suc, Bool, true, false, not, cond, eqb, ◌&&◌, List, [], ◌∷◌, ◌++◌, length, length-append, Some, None, inl, inr, refl, sym, ◌∙◌, ap, subst, arith}
use Rattle.std.specs.List.{list_any}
use Rattle.std.proofs.lemmas.List.{append_assoc}
use Rattle.html_names.specs.declared.tag.Tag.{Tag}
use Rattle.html_arena.specs.Siblings.{Distinct, has, last_of}
use Rattle.html_arena.specs.Tree.{Tree, named}
use Rattle.html_open.specs.declared.adoption.AdoptEnd.{AdoptEnd}
use Rattle.html_open.specs.declared.adoption.AdoptEnd.TheVariants.{Done}
use Rattle.html_open.specs.declared.entry.Entry.{Entry}
use Rattle.html_open.specs.declared.entry.Entry.TheVariants.{Marker, Node}
use Rattle.html_open.specs.AdoptFinding.{element_in_scope}
use Rattle.html_open.specs.Adopting.{Adopted, Ends, Round, Rounds, closes, eight, fewer, forgets, no_entry, no_round, one_more, out_of_scope, popped as pops, pops_at_once}
use Rattle.html_open.specs.Entries.{entry_named, has_node, is_marker, is_node, last_named, nodes_of, without_node}
use Rattle.html_open.specs.Lists.{above, below, last_index}
use Rattle.html_open.specs.Marking.{IsSameTree}
use Rattle.html_open.specs.Opened.{Open as AnyOpen}
use Rattle.html_open.specs.Scopes.{ends, in_scope}
use Rattle.html_names.specs.declared.sets.Scope.TheVariants as scope
use Rattle.html_open.proofs.Closing.{last-pushed}
use Rattle.html_open.proofs.Keeps.{cases_bool, cases_eqb, eqb-self, has-append}
use Rattle.html_open.proofs.Lists.{above-push, any-push, below-push, last_index-push, last_where-push, none-above}
use Rattle.html_open.proofs.Ordering.{distinct-cross}
use Rattle.html_modes.specs.Plain.{AreListed}
use Rattle.html_modes.proofs.InBody.{last-split}

-- THE CURRENT NODE

-- a search that the current node passes ends there
pub index-top : (p q : ℕ → Bool) (xs : List ℕ) (x : ℕ) → p x ≡ true → (in_scope p q (xs ++ x ∷ []) ≡ true) × (last_index p (xs ++ x ∷ []) ≡ Some (length xs))
index-top p q xs x h = (rw (any-push p xs x, above-push p xs x, h) refl, rw (last_index-push p xs x, h) refl)

-- two lists with a last element each
pub snoc-same : (xs ys : List ℕ) (x y : ℕ) → xs ++ x ∷ [] ≡ ys ++ y ∷ [] → (xs ≡ ys) × (x ≡ y)
snoc-same [] [] x y h = (refl, (let k = h in cc))
snoc-same [] (z ∷ []) x y h = absurd (let k = ap length h in let l : 1 ≡ 2 = k in omega (arith, l))
snoc-same [] (z ∷ w ∷ ys) x y h = absurd (let k = ap length h in let l = length-append (w ∷ ys) (y ∷ []) in omega (arith, k, l))
snoc-same (z ∷ []) [] x y h = absurd (let k = ap length h in let l : 2 ≡ 1 = k in omega (arith, l))
snoc-same (z ∷ w ∷ xs) [] x y h = absurd (let k = ap length h in let l = length-append (w ∷ xs) (x ∷ []) in omega (arith, k, l))
snoc-same (z ∷ xs) (w ∷ ys) x y h =
    let e : z ≡ w = (let k : z ∷ (xs ++ x ∷ []) ≡ w ∷ (ys ++ y ∷ []) = h in cc) in
    let t : xs ++ x ∷ [] ≡ ys ++ y ∷ [] = (let k : z ∷ (xs ++ x ∷ []) ≡ w ∷ (ys ++ y ∷ []) = h in cc) in
    let r = snoc-same xs ys x y t in
    (ap (λ v. v ∷ xs) e ∙ ap (λ v. w ∷ v) r.0, r.1)

-- WHAT IS LISTED LAST

pub has-last : (x : ℕ) (xs : List ℕ) → has x (xs ++ x ∷ []) ≡ true
has-last x xs = has-append x xs (x ∷ []) ∙ elim (cases_bool (has x xs)) [ inl e ↦ rw e refl | inr e ↦ rw (e, eqb-self x) refl ]

pub listed-last : (es : List Entry) (xs : List ℕ) (x : ℕ) → AreListed es (xs ++ x ∷ []) → Distinct (xs ++ x ∷ []) → has_node x es ≡ true → (fs : List Entry) × (es ≡ fs ++ Node x ∷ [])
listed-last [] xs x a d h = absurd (let k : has x [] ≡ true = h in cc)
listed-last (e ∷ es) [] x a d h = elim a [
  | inl b ↦ ([], by es b.1 b.0)
  | inr b ↦ absurd b
]
  where
    by : (fs : List Entry) → AreListed fs [] → e ≡ Node x → e ∷ fs ≡ Node x ∷ []
    by [] l q = ap (λ v. v ∷ []) q
    by (f ∷ fs) l q = absurd l
listed-last (e ∷ es) (y ∷ ys) x a d h = elim a [
  | inl b ↦ (
      let r = listed-last es ys x b.1 d.1 (by e b.0 h) in
      (e ∷ r.0, ap (λ v. e ∷ v) r.1)
      )
  | inr b ↦ listed-last (e ∷ es) ys x b d.1 h
]
  where
    by : (e : Entry) → e ≡ Node y → has_node x (e ∷ es) ≡ true → has_node x es ≡ true
    by Marker q k = k
    by (Node z) q k =
        let z-is : z ≡ y = (let j = q in cc) in
        elim (cases_eqb x z) [
          | inl c ↦ absurd (let m = has-last x ys in let n : has y (ys ++ x ∷ []) ≡ false = d.0 in let o : x ≡ y = c.1 ∙ z-is in let s : has y (ys ++ x ∷ []) ≡ true = subst (λ v. has v (ys ++ x ∷ []) ≡ true) o m in let u : true ≡ false = sym s ∙ n in cc)
          | inr c ↦ (let g : cond (eqb x z) true (has x (nodes_of es)) ≡ true = k in rw c.0 at g)
        ]

no-marker : (es : List Entry) (s : List ℕ) → AreListed es s → list_any is_marker es ≡ false
no-marker [] s a = refl
no-marker (e ∷ es) [] a = absurd a
no-marker (e ∷ es) (x ∷ s) a = elim a [
  | inl b ↦ rw b.0 (no-marker es s b.1)
  | inr b ↦ no-marker (e ∷ es) s b
]

-- of the current node's name it is the last that is listed
pub named-last : (t : Tag) (tr : Tree) (es : List Entry) (xs : List ℕ) (x : ℕ) → AreListed es (xs ++ x ∷ []) → Distinct (xs ++ x ∷ []) → has_node x es ≡ true → named tr t x ≡ true
    → last_named tr t es ≡ Some x
named-last t tr es xs x a d h n =
    let r = listed-last es xs x a d h in
    let k : above is_marker es ≡ es = none-above is_marker es (no-marker es (xs ++ x ∷ []) a) in
    rw k (rw r.1 (rw (last_where-push (entry_named tr t) r.0 (Node x), n) refl))

-- THE ADOPTION AGENCY (13.2.6.4.7)

-- the current node is closed, and taken off the list where it stands there
pub record IsPopped (x : ℕ) (xs : List ℕ) (o p : AnyOpen) : Type 0 where
  pub stack_is : p.stack ≡ xs
  pub list_is : p.list ≡ without_node x o.list
  pub tree_is : IsSameTree o.tree p.tree

not-listed : (x : ℕ) (es : List Entry) → has_node x es ≡ false → list_any (is_node x) es ≡ false
not-listed x [] h = refl
not-listed x (Marker ∷ es) h = not-listed x es h
not-listed x (Node y ∷ es) h = elim (cases_eqb x y) [
  | inl e ↦ absurd (let g : cond (eqb x y) true (has x (nodes_of es)) ≡ false = h in let k = rw e.0 at g in cc)
  | inr e ↦ (let g : cond (eqb x y) true (has x (nodes_of es)) ≡ false = h in rw e.0 (not-listed x es (rw e.0 at g)))
]

first-round : (t : Tag) (foster : Bool) (n : ℕ) (o q : AnyOpen) → Rounds t foster (suc n) o q → (p : AnyOpen) × Round t foster o p
first-round t foster zero _ _ (one_more _ o p q rs r) = by p q rs r
  where
    by : (p q : AnyOpen) → Rounds t foster zero o p → Round t foster p q → (z : AnyOpen) × Round t foster o z
    by _ q (no_round o) r = (q, r)
first-round t foster (suc n) _ _ (one_more _ o p q rs r) = first-round t foster n o p rs

module _ (t : Tag) (foster : Bool) (o : AnyOpen) (xs : List ℕ) (x : ℕ) (s : o.stack ≡ xs ++ x ∷ []) (d : Distinct o.stack) (a : AreListed o.list o.stack) (n : named o.tree t x ≡ true) where
  is-last : has_node x o.list ≡ true → last_named o.tree t o.list ≡ Some x
  is-last h = named-last t o.tree o.list xs x (subst (λ v. AreListed o.list v) s a) (subst Distinct s d) h n

  -- nothing stands after it
  no-round : has_node x o.list ≡ true → (p : AnyOpen) → Round t foster o p → ⊥
  no-round h p r =
      let f-is : r.formatting_element ≡ x = (let k : Some r.formatting_element ≡ Some x = sym r.formatting ∙ is-last h in cc) in
      let m = length-append r.inner (r.furthest_block ∷ r.upper) in
      let l = last-split (r.inner ++ (r.furthest_block ∷ r.upper)) (omega (arith, m)) in
      let split : xs ++ x ∷ [] ≡ (r.lower ++ (r.common_ancestor ∷ r.formatting_element ∷ l.0)) ++ l.1 ∷ [] =
      sym s ∙ r.stack_was ∙ ap (λ v. r.lower ++ (r.common_ancestor ∷ r.formatting_element ∷ v)) l.2 ∙ sym (append_assoc r.lower (r.common_ancestor ∷ r.formatting_element ∷ l.0) (l.1 ∷ [])) in
      let e = snoc-same xs (r.lower ++ (r.common_ancestor ∷ r.formatting_element ∷ l.0)) x l.1 split in
      let before : has x xs ≡ true = subst (λ v. has v xs ≡ true) f-is (ap (has r.formatting_element) e.0 ∙ in-middle r.formatting_element r.lower r.common_ancestor l.0) in
      distinct-cross xs (x ∷ []) (subst Distinct s d) x x before (rw (eqb-self x) refl) refl
    where
      in-middle : (f : ℕ) (lower : List ℕ) (b : ℕ) (ts : List ℕ) → has f (lower ++ (b ∷ f ∷ ts)) ≡ true
      in-middle f lower b ts = has-append f lower (b ∷ f ∷ ts) ∙ elim (cases_bool (has f lower)) [
        | inl e ↦ rw e refl
        | inr e ↦ rw e (elim (cases_bool (eqb f b)) [ inl g ↦ rw g refl | inr g ↦ rw (g, eqb-self f) refl ])
      ]

  scope-top : element_in_scope o.tree x o.stack ≡ true
  scope-top = rw s (index-top (eqb x) (ends o.tree scope.Default) xs x (eqb-self x)).0

  ends-so : has_node x o.list ≡ true → (end : AdoptEnd) (p : AnyOpen) → Ends t end o p → (end ≡ Done) × IsPopped x xs o p
  ends-so h _ p (closes _ _ c) =
      let f-is : c.formatting_element ≡ x = (let k : Some c.formatting_element ≡ Some x = sym c.formatting ∙ is-last h in cc) in (
        refl,
        record {
          stack_is = c.stack_is ∙ ap (λ v. below (eqb v) o.stack) f-is ∙ ap (below (eqb x)) s ∙ (below-push (eqb x) xs x ∙ ap (λ b. cond b xs (below (eqb x) xs)) (eqb-self x));
          list_is = c.list_is ∙ ap (λ v. without_node v o.list) f-is;
          tree_is = c.tree_is;
        },
      )
  ends-so h _ p (forgets _ _ c) =
      let f-is : c.formatting_element ≡ x = (let k : Some c.formatting_element ≡ Some x = sym c.formatting ∙ is-last h in cc) in
      absurd (let k : has x o.stack ≡ false = subst (λ v. has v o.stack ≡ false) f-is c.off_stack in let l : has x o.stack ≡ true = ap (has x) s ∙ has-last x xs in let m : true ≡ false = sym l ∙ k in cc)
  ends-so h _ p (out_of_scope _ _ c) =
      let f-is : c.formatting_element ≡ x = (let k : Some c.formatting_element ≡ Some x = sym c.formatting ∙ is-last h in cc) in
      absurd (let k : element_in_scope o.tree x o.stack ≡ false = subst (λ v. element_in_scope o.tree v o.stack ≡ false) f-is c.not_in_scope in let m : true ≡ false = sym scope-top ∙ k in cc)
  ends-so h _ p (no_entry _ _ c) = absurd (let k : Some x ≡ None = sym (is-last h) ∙ c.none in cc)

  is-listed : pops_at_once t o (last_of o.stack) ≡ false → has_node x o.list ≡ true
  is-listed h =
      let l : last_of o.stack ≡ Some x = ap last_of s ∙ last-pushed xs x in
      let k : (named o.tree t x && not (has_node x o.list)) ≡ false = sym (ap (pops_at_once t o) l) ∙ h in
      elim (cases_bool (has_node x o.list)) [
        | inl e ↦ e
        | inr e ↦ absurd (let m = rw (n, e) at k in cc)
      ]

  pub adopted-top : (end : AdoptEnd) (p : AnyOpen) → Adopted t foster end o p → (end ≡ Done) × IsPopped x xs o p
  adopted-top _ p (pops _ _ h) =
      let e = snoc-same xs p.stack x h.current (sym s ∙ h.stack_was) in
      let k : has_node x o.list ≡ false = subst (λ v. has_node v o.list ≡ false) (sym e.1) h.not_listed in (
        refl,
        record {
          stack_is = sym e.0;
          list_is = h.list_is ∙ sym (ap (λ b. cond b (below (is_node x) o.list ++ above (is_node x) o.list) o.list) (not-listed x o.list k));
          tree_is = h.tree_is;
        },
      )
  adopted-top _ p (eight _ _ h r) = (let f = first-round t foster 7 o p r in absurd (no-round (is-listed h) f.0 f.1))
  adopted-top end p (fewer _ zero _ q _ h k r e) = by q r e
    where
      by : (q : AnyOpen) → Rounds t foster zero o q → Ends t end q p → (end ≡ Done) × IsPopped x xs o p
      by _ (no_round _) e = ends-so (is-listed h) end p e
  adopted-top end p (fewer _ (suc m) _ q _ h k r e) = (let f = first-round t foster m o q r in absurd (no-round (is-listed h) f.0 f.1))
