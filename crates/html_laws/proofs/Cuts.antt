-- What is closed of the open elements, by tags from the current node down.
use Rattle.std.proofs.Common.{◌≡◌, ◌⊎◌, ℕ, suc, ◌+◌, ◌-◌, Bool, true, false, not, ◌||◌, List, [], ◌∷◌, ◌++◌, length, take, min, max, Some, None, inl, inr, refl, sym, ◌∙◌, ap, append_assoc, length-append, arith}
use Rattle.std.specs.List.{list_any}
use Rattle.std.proofs.Math.Seq.{take-append_seam}
use Rattle.std.proofs.lemmas.Bool.{false≢true}
use Rattle.html_names.specs.declared.tag.Tag.{Tag}
use Rattle.html_arena.specs.Tree.{Tree as Nodes, tag_at}
use Rattle.html_open.specs.Lists.{above, after_index, below, last_index, up_to}
use Rattle.html_open.specs.Scopes.{in_scope}
use Rattle.html_tree.specs.Closing.{before_index, first_few, kept_to, popped}
use Rattle.html_tree.specs.OpenTags.{tags_down}
use Rattle.html_tree.specs.Searching.{index_before}
use Rattle.html_tree.proofs.OpenTags.{append-tags, cons-tags, push-tags}
use Rattle.html_laws.proofs.Chains.{any-append, both, cases, either, right}

-- NODES

-- the last that passes, with what stands before and after it
pub record IsLast (p : ℕ → Bool) (s : List ℕ) : Type 0 where
  pub node : ℕ
  pub stack_is : s ≡ below p s ++ node ∷ above p s
  pub passes : p node ≡ true
  pub none_after : list_any p (above p s) ≡ false

pub last-of : (p : ℕ → Bool) (s : List ℕ) → list_any p s ≡ true → IsLast p s
last-of p [] h = absurd (false≢true h)
last-of p (y ∷ ys) h = by (cases (list_any p ys)) (last-of p ys)
  where
    by : ((list_any p ys ≡ true) ⊎ (list_any p ys ≡ false)) → (list_any p ys ≡ true → IsLast p ys) → IsLast p (y ∷ ys)
    by (inl e) i = (let k = i e in record { node = k.node; stack_is = rw e (ap (λ v. y ∷ v) k.stack_is); passes = k.passes; none_after = rw e k.none_after })
    by (inr e) i = (let q : p y ≡ true = elim (either (p y) (list_any p ys) h) [ inl a ↦ a | inr a ↦ absurd (false≢true (sym e ∙ a)) ] in record { node = y; stack_is = rw (e, q) refl; passes = q; none_after = rw (e, q) e })

pub first-few-of : (b : ℕ) (bs xs : List ℕ) → first_few (length (b ∷ bs)) ((b ∷ bs) ++ xs) ≡ b ∷ bs
first-few-of b bs xs = ap (λ n. take n ((b ∷ bs) ++ xs)) kept ∙ take-append_seam (b ∷ bs) xs
  where
    few : (n m : ℕ) → min (suc n + m) (max 1 (suc n)) ≡ suc n
    few n m = omega arith

    kept : kept_to (length ((b ∷ bs) ++ xs)) (length (b ∷ bs)) ≡ length (b ∷ bs)
    kept = ap (λ n. kept_to n (length (b ∷ bs))) (length-append (b ∷ bs) xs) ∙ few (length bs) (length xs)

-- TAGS

module _ (t : Nodes) where
  pub any-tags : (q : Tag → Bool) (s : List ℕ) → list_any q (tags_down t s) ≡ list_any (λ x. q (tag_at t x)) s
  any-tags q [] = refl
  any-tags q (x ∷ s) = ap (list_any q) (cons-tags t x s) ∙ any-append q (tags_down t s) (tag_at t x ∷ []) ∙ ap (λ b. b || (q (tag_at t x) || false)) (any-tags q s) ∙ turn (list_any (λ y. q (tag_at t y)) s) (q (tag_at t x))
    where
      turn : (a b : Bool) → (a || (b || false)) ≡ (b || a)
      turn true true = refl
      turn true false = refl
      turn false true = refl
      turn false false = refl

  pub split-tags : (bs us : List ℕ) (x : ℕ) → tags_down t (bs ++ x ∷ us) ≡ tags_down t us ++ tag_at t x ∷ tags_down t bs
  split-tags bs us x = append-tags t bs (x ∷ us) ∙ ap (λ v. v ++ tags_down t bs) (cons-tags t x us) ∙ append_assoc (tags_down t us) (tag_at t x ∷ []) (tags_down t bs)

  pub empty-tags : (s : List ℕ) → tags_down t s ≡ [] → s ≡ []
  empty-tags [] e = refl
  empty-tags (x ∷ s) e = absurd (not-empty (tags_down t s) (tag_at t x) (sym (cons-tags t x s) ∙ e))
    where
      not-empty : (gs : List Tag) (g : Tag) → gs ++ g ∷ [] ≡ [] → ⊥
      not-empty [] g e = absurd (let k = e in cc)
      not-empty (h ∷ gs) g e = absurd (let k = e in cc)

-- An element that passes was closed, and all above it, where one stands below it: none of these ends the search, and none passes.
pub record HasCut (t : Nodes) (p e : ℕ → Bool) (s s' : List ℕ) : Type 0 where
  pub node : ℕ
  pub passes : p node ≡ true
  pub over : List ℕ
  pub over_is : over ≡ above p s
  pub no_end : list_any e over ≡ false
  pub none_over : list_any p over ≡ false
  pub under : List Tag
  pub tags_are : tags_down t s ≡ tags_down t over ++ tag_at t node ∷ under
  pub left : (g : Tag) (gs : List Tag) → under ≡ g ∷ gs → tags_down t s' ≡ under

few-left : (t : Nodes) (bs us : List ℕ) (g : Tag) (gs : List Tag) → tags_down t bs ≡ g ∷ gs → first_few (length bs) (bs ++ us) ≡ bs
few-left t [] us g gs e = absurd (let k = e in cc)
few-left t (b ∷ bs) us g gs e = first-few-of b bs us

pub before-cut : (t : Nodes) (p e : ℕ → Bool) (s : List ℕ) → (index_before p e s ≡ None) ⊎ HasCut t p e s (before_index (index_before p e s) s)
before-cut t p e s = by (cases (in_scope p e s))
  where
    cut : in_scope p e s ≡ true → HasCut t p e s (before_index (index_before p e s) s)
    cut k =
        let c = both (list_any p s) (not (list_any e (above p s))) k in
        let l = last-of p s c.0 in
        let i : index_before p e s ≡ Some (length (below p s)) = rw (k, c.0) refl in
        record {
          node = l.node;
          passes = l.passes;
          over = above p s;
          over_is = refl;
          no_end = (let n = c.1 in flip (list_any e (above p s)) n);
          none_over = l.none_after;
          under = tags_down t (below p s);
          tags_are = ap (tags_down t) l.stack_is ∙ split-tags t (below p s) (above p s) l.node;
          left = λ g gs e. ap (tags_down t) (ap (λ o. before_index o s) i ∙ ap (first_few (length (below p s))) l.stack_is ∙ few-left t (below p s) (l.node ∷ above p s) g gs e);
        }
      where
        flip : (b : Bool) → not b ≡ true → b ≡ false
        flip true h = absurd (false≢true h)
        flip false h = refl

    by : ((in_scope p e s ≡ true) ⊎ (in_scope p e s ≡ false)) → (index_before p e s ≡ None) ⊎ HasCut t p e s (before_index (index_before p e s) s)
    by (inl k) = inr (cut k)
    by (inr k) = inl (rw k refl)

-- What stands above the last that passes was closed.
pub record HasCleared (t : Nodes) (p : ℕ → Bool) (s s' : List ℕ) : Type 0 where
  pub node : ℕ
  pub passes : p node ≡ true
  pub over : List ℕ
  pub none_over : list_any p over ≡ false
  pub under : List Tag
  pub tags_are : tags_down t s ≡ tags_down t over ++ tag_at t node ∷ under
  pub left : tags_down t s' ≡ tag_at t node ∷ under

up-to-last : (p : ℕ → Bool) (s : List ℕ) (l : IsLast p s) → list_any p s ≡ true → up_to p s ≡ below p s ++ l.node ∷ []
up-to-last p s l h = up s (above p s) (below p s) l.node l.stack_is l.passes l.none_after
  where
    mid : (bs us : List ℕ) (x : ℕ) → p x ≡ true → list_any p (bs ++ x ∷ us) ≡ true
    mid [] us x q = rw q refl
    mid (b ∷ bs) us x q = right (p b) (list_any p (bs ++ x ∷ us)) (mid bs us x q)

    upto : (bs us : List ℕ) (x : ℕ) → p x ≡ true → list_any p us ≡ false → up_to p (bs ++ x ∷ us) ≡ bs ++ x ∷ []
    upto [] us x q n = rw (n, q) refl
    upto (b ∷ bs) us x q n = rw (mid bs us x q) (ap (λ v. b ∷ v) (upto bs us x q n))

    up : (s us bs : List ℕ) (x : ℕ) → s ≡ bs ++ x ∷ us → p x ≡ true → list_any p us ≡ false → up_to p s ≡ bs ++ x ∷ []
    up s us bs x e q n = ap (up_to p) e ∙ upto bs us x q n

pub up-to-cleared : (t : Nodes) (p : ℕ → Bool) (s : List ℕ) → list_any p s ≡ true → HasCleared t p s (up_to p s)
up-to-cleared t p s h =
    let l = last-of p s h in
    record {
      node = l.node;
      passes = l.passes;
      over = above p s;
      none_over = l.none_after;
      under = tags_down t (below p s);
      tags_are = ap (tags_down t) l.stack_is ∙ split-tags t (below p s) (above p s) l.node;
      left = ap (tags_down t) (up-to-last p s l h) ∙ split-tags t (below p s) [] l.node;
    }

pub few-cleared : (t : Nodes) (p : ℕ → Bool) (s : List ℕ) → list_any p s ≡ true → HasCleared t p s (first_few (after_index (last_index p s)) s)
few-cleared t p s h =
    let l = last-of p s h in
    let i : last_index p s ≡ Some (length (below p s)) = rw h refl in
    record {
      node = l.node;
      passes = l.passes;
      over = above p s;
      none_over = l.none_after;
      under = tags_down t (below p s);
      tags_are = ap (tags_down t) l.stack_is ∙ split-tags t (below p s) (above p s) l.node;
      left = ap (λ o. tags_down t (first_few (after_index o) s)) i
          ∙ ap (λ v. tags_down t (first_few (length (below p s) + 1) v)) l.stack_is
          ∙ ap (tags_down t) (few (below p s) l.node (above p s))
          ∙ split-tags t (below p s) [] l.node;
    }
  where
    first : (v us : List ℕ) (n : ℕ) (x : ℕ) (bs : List ℕ) → v ≡ bs ++ x ∷ [] → n ≡ length v → first_few n (v ++ us) ≡ v
    first [] us n x [] e k = absurd (let q = e in cc)
    first [] us n x (b ∷ bs) e k = absurd (let q = e in cc)
    first (y ∷ v) us n x bs e k = ap (λ m. first_few m ((y ∷ v) ++ us)) k ∙ first-few-of y v us

    few : (bs : List ℕ) (x : ℕ) (us : List ℕ) → first_few (length bs + 1) (bs ++ x ∷ us) ≡ bs ++ x ∷ []
    few bs x us = ap (first_few (length bs + 1)) (sym (append_assoc bs (x ∷ []) us)) ∙ first (bs ++ x ∷ []) us (length bs + 1) x bs refl (sym (length-append bs (x ∷ [])))

-- THE CURRENT NODE IS CLOSED

pub popped-tags : (t : Nodes) (s : List ℕ) (g h : Tag) (gs : List Tag) → tags_down t s ≡ g ∷ h ∷ gs → tags_down t (popped s) ≡ h ∷ gs
popped-tags t s g h gs e = by s (λ x. true) e
  where
    last : (x : ℕ) (xs : List ℕ) → (ys : List ℕ) × (y : ℕ) × (x ∷ xs ≡ ys ++ y ∷ [])
    last x [] = ([], x, refl)
    last x (y ∷ xs) = (let r = last y xs in (x ∷ r.0, r.1, ap (λ v. x ∷ v) r.2))

    tail : (a b : Tag) (us bs : List Tag) → ◌≡◌ {A = List Tag} (a ∷ us) (b ∷ bs) → us ≡ bs
    tail a b us bs k = ap rest k
      where
        rest : List Tag → List Tag
        rest [] = []
        rest (x ∷ xs) = xs

    few : (v : List ℕ) (y : ℕ) → tags_down t v ≡ h ∷ gs → first_few (length (v ++ y ∷ []) - 1) (v ++ y ∷ []) ≡ v
    few [] y k = absurd (let q = k in cc)
    few (b ∷ bs) y k = ap (λ n. first_few n ((b ∷ bs) ++ y ∷ [])) (count (length bs) (length-append (b ∷ bs) (y ∷ []))) ∙ first-few-of b bs (y ∷ [])
      where
        count : (n : ℕ) {m : ℕ} → m ≡ suc n + 1 → m - 1 ≡ suc n
        count n k = omega (arith, k)

    by : (s : List ℕ) → (ℕ → Bool) → tags_down t s ≡ g ∷ h ∷ gs → tags_down t (popped s) ≡ h ∷ gs
    by [] p k = absurd (let q = k in cc)
    by (x ∷ xs) p k =
        let r = last x xs in
        let i : tags_down t r.0 ≡ h ∷ gs = tail (tag_at t r.1) g (tags_down t r.0) (h ∷ gs) (sym (push-tags t r.0 r.1) ∙ ap (tags_down t) (sym r.2) ∙ k) in
        ap (λ v. tags_down t (popped v)) r.2 ∙ ap (tags_down t) (few r.0 r.1 i) ∙ i
