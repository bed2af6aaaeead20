-- Each operation of an arena is one edit of the tree that callers see.
use Rattle.std.proofs.Common.{◌≡◌, ℕ, ◌<◌, false, List, [], ◌∷◌, ◌++◌, length, get_or, Option, Some, None, ◌⊎◌, inl, inr, refl, sym, ◌∙◌, ap, subst, arith}
use Rattle.std.proofs.lemmas.List.{append-nil}
use Rattle.html_arena.specs.declared.links.Links.{Links}
use Rattle.html_arena.specs.declared.data.NodeData.{NodeData}
use Rattle.html_arena.specs.declared.marks.Marks.{Marks}
use Rattle.html_arena.specs.declared.arena.Limits.{Limits}
use Rattle.html_arena.specs.Siblings.{has, Distinct, first_of, last_of, after, before, without, put_before}
use Rattle.html_arena.specs.Links.{parent_at, first_at, last_at, previous_at, next_at, IsBelow, Rejoined}
use Rattle.html_arena.specs.Shape.{kids_of}
use Rattle.html_arena.specs.Tree.{Tree, ancestors, ancestors_within, parent_of, children_of, more, appended, inserted, detached, sibling}
use Rattle.html_arena.specs.Whole.{parents_in, children_in, tree_of, IsWhole}
use Rattle.html_arena.proofs.Siblings.{has-first, split_at, without-split, put_before-split, after-here, before-here, has-after, has-before, has-tail, Distinct-remove}
use Rattle.html_arena.proofs.Whole.{parents_in-at, children_in-at, linked_whole, linked_children, linked_parents, unlinked_whole, unlinked_children, unlinked_parents, ascent, below_option}
use Rattle.html_arena.proofs.Climb.{Ascends-same}

cases_option : (o : Option ℕ) → (o ≡ None) ⊎ ((y : ℕ) × (o ≡ Some y))
cases_option None = inl refl
cases_option (Some y) = inr (y, refl)

module _ (ls : List Links) (ds : List NodeData) (h : ℕ) (w : IsWhole ls ds h) where
  -- the neighbours of a node are nodes
  pub previous_below : (x : ℕ) → IsBelow (length ls) (previous_at ls x)
  previous_below x = elim (cases_option (parent_at ls x)) as (λ _. IsBelow (length ls) (previous_at ls x)) [
    | inl e ↦ rw (w.shape.alone_previous x e) tt
    | inr e ↦ below_option (length ls) (previous_at ls x) (λ y m. (w.shape.kid e.0 y (has-before x y (kids_of ls e.0) (sym (w.shape.previous x e.0 e.1) ∙ m))).0)
  ]

  pub next_below : (x : ℕ) → IsBelow (length ls) (next_at ls x)
  next_below x = elim (cases_option (parent_at ls x)) as (λ _. IsBelow (length ls) (next_at ls x)) [
    | inl e ↦ rw (w.shape.alone_next x e) tt
    | inr e ↦ below_option (length ls) (next_at ls x) (λ y m. (w.shape.kid e.0 y (has-after x y (kids_of ls e.0) (sym (w.shape.next x e.0 e.1) ∙ m))).0)
  ]

  pub parent_below : (x p : ℕ) → parent_at ls x ≡ Some p → p < length ls
  parent_below x p e = (w.shape.up x p e).0

module _ (ls : List Links) (ds : List NodeData) (ms : List Marks) (h s : ℕ) (l : Option Limits) (w : IsWhole ls ds h) where
  pub append_base : (new : List Links) (p c s' : ℕ) → Rejoined ls new c p (last_at ls p) None (Some c) (Some c) (Some p) (last_at ls p) None → s' ≡ more s 1
      → p < length ds → c < length ds → parent_of (tree_of ls ds ms h s l) c ≡ None → has c (p ∷ ancestors (tree_of ls ds ms h s l) p) ≡ false
      → IsWhole new ds h × (tree_of new ds ms h s' l ≡ appended (tree_of ls ds ms h s l) p c)
  append_base new p c s' r st p_in c_in alone not_above =
      let r' : Rejoined ls new c p (last_of (kids_of ls p)) None (Some c) (Some c) (Some p) (last_of (kids_of ls p)) None =
      subst (λ (o : Option ℕ). Rejoined ls new c p o None (Some c) (Some c) (Some p) o None) (w.shape.last p) r in
      let k : kids_of ls p ≡ kids_of ls p ++ [] = sym (append-nil (kids_of ls p)) in (
        linked_whole ls ds h w new c p (kids_of ls p) [] p_in c_in alone not_above k r',
        rw (
          linked_parents ls ds h w new c p (kids_of ls p) [] p_in c_in alone not_above k r',
          linked_children ls ds h w new c p (kids_of ls p) [] p_in c_in alone not_above k r',
          st,
          children_in-at ls p,
        ) refl,
      )

  -- the ancestors of a node are its parent and the parent's ancestors
  ancestors_step : (n p : ℕ) → n < length ds → parent_at ls n ≡ Some p → ancestors (tree_of ls ds ms h s l) n ≡ p ∷ ancestors (tree_of ls ds ms h s l) p
  ancestors_step n p n_in e =
      let same = w.same_length in
      let p_in = parent_below ls ds h w n p e in
      let p_in' : p < length ds = omega arith in
      Ascends-same ls n _ _ (ascent ls ds h w n n_in) (e, ascent ls ds h w p p_in')

  insert_base : (new : List Links) (p c n s' : ℕ) → parent_at ls n ≡ Some p
      → Rejoined ls new c p (previous_at ls n) (Some n) (Some c) (Some c) (Some p) (previous_at ls n) (Some n) → s' ≡ more s 1
      → n < length ds → c < length ds → parent_of (tree_of ls ds ms h s l) c ≡ None → has c (n ∷ ancestors (tree_of ls ds ms h s l) n) ≡ false
      → IsWhole new ds h × (tree_of new ds ms h s' l ≡ inserted (tree_of ls ds ms h s l) c n (parent_of (tree_of ls ds ms h s l) n))
  insert_base new p c n s' up r st n_in c_in alone not_above =
      let same = w.same_length in
      let o = w.shape.up n p up in
      let p_in : p < length ds = omega (arith, o.0) in
      let f = split_at n (kids_of ls p) o.1 in
      let fs = f.0 in
      let bs = f.1 in
      let d = Distinct-remove n fs bs (subst Distinct f.2 (w.shape.distinct p)) in
      let q : previous_at ls n ≡ last_of fs = w.shape.previous n p up ∙ ap (before n) f.2 ∙ before-here n fs bs d.1 in
      let r' : Rejoined ls new c p (last_of fs) (Some n) (Some c) (Some c) (Some p) (last_of fs) (Some n) =
      subst (λ (v : Option ℕ). Rejoined ls new c p v (Some n) (Some c) (Some c) (Some p) v (Some n)) q r in
      let na : has c (p ∷ ancestors (tree_of ls ds ms h s l) p) ≡ false =
      subst (λ (v : List ℕ). has c v ≡ false) (ancestors_step n p n_in up) (has-tail c n (ancestors (tree_of ls ds ms h s l) n) not_above).1 in
      let k : put_before c n (get_or (children_in ls) p []) ≡ fs ++ c ∷ n ∷ bs =
      ap (put_before c n) (children_in-at ls p ∙ f.2) ∙ put_before-split c n fs bs f.3 in (
        linked_whole ls ds h w new c p fs (n ∷ bs) p_in c_in alone na f.2 r',
        rw (
          parents_in-at ls n,
          up,
          k,
          linked_parents ls ds h w new c p fs (n ∷ bs) p_in c_in alone na f.2 r',
          linked_children ls ds h w new c p fs (n ∷ bs) p_in c_in alone na f.2 r',
          st,
        ) refl,
      )

  pub detach_base : (new : List Links) (p c s' : ℕ) → parent_at ls c ≡ Some p
      → Rejoined ls new c p (previous_at ls c) (next_at ls c) (next_at ls c) (previous_at ls c) None None None → s' ≡ more s 1
      → IsWhole new ds h × (tree_of new ds ms h s' l ≡ detached (tree_of ls ds ms h s l) c (parent_of (tree_of ls ds ms h s l) c))
  detach_base new p c s' up r st =
      let o = w.shape.up c p up in
      let f = split_at c (kids_of ls p) o.1 in
      let fs = f.0 in
      let bs = f.1 in
      let d = Distinct-remove c fs bs (subst Distinct f.2 (w.shape.distinct p)) in
      let q : previous_at ls c ≡ last_of fs = w.shape.previous c p up ∙ ap (before c) f.2 ∙ before-here c fs bs d.1 in
      let m : next_at ls c ≡ first_of bs = w.shape.next c p up ∙ ap (after c) f.2 ∙ after-here c fs bs d.1 in
      let r' : Rejoined ls new c p (last_of fs) (first_of bs) (first_of bs) (last_of fs) None None None =
      subst (λ (v : Option ℕ). Rejoined ls new c p v (first_of bs) (first_of bs) v None None None) q
      (subst (λ (v : Option ℕ). Rejoined ls new c p (previous_at ls c) v v (previous_at ls c) None None None) m r) in
      let k : without c (get_or (children_in ls) p []) ≡ fs ++ bs = ap (without c) (children_in-at ls p ∙ f.2) ∙ without-split c fs bs f.3 in (
        unlinked_whole ls ds h w new c p fs bs f.2 r',
        rw (parents_in-at ls c, up, k, unlinked_parents ls ds h w new c p fs bs f.2 r', unlinked_children ls ds h w new c p fs bs f.2 r', st) refl,
      )

  next_base : (x : ℕ) (o : Option ℕ) → parent_at ls x ≡ o → next_at ls x ≡ sibling after o (tree_of ls ds ms h s l) x
  next_base x None e = w.shape.alone_next x e
  next_base x (Some p) e = w.shape.next x p e ∙ ap (after x) (sym (children_in-at ls p))

  previous_base : (x : ℕ) (o : Option ℕ) → parent_at ls x ≡ o → previous_at ls x ≡ sibling before o (tree_of ls ds ms h s l) x
  previous_base x None e = w.shape.alone_previous x e
  previous_base x (Some p) e = w.shape.previous x p e ∙ ap (before x) (sym (children_in-at ls p))

  module _ (t : Tree) (e : tree_of ls ds ms h s l ≡ t) where
    pub append_is : (new : List Links) (p c s' : ℕ) → Rejoined ls new c p (last_at ls p) None (Some c) (Some c) (Some p) (last_at ls p) None → s' ≡ more s 1
        → p < length t.labels → c < length t.labels → parent_of t c ≡ None → has c (p ∷ ancestors t p) ≡ false
        → IsWhole new ds h × (tree_of new ds ms h s' l ≡ appended t p c)
    append_is new p c s' r st =
        subst (λ (t : Tree). p < length t.labels → c < length t.labels → parent_of t c ≡ None → has c (p ∷ ancestors t p) ≡ false
        → IsWhole new ds h × (tree_of new ds ms h s' l ≡ appended t p c)) e (append_base new p c s' r st)

    pub first_child_is : (x : ℕ) → first_at ls x ≡ first_of (children_of t x)
    first_child_is x = w.shape.first x ∙ ap first_of (sym (children_in-at ls x)) ∙ ap (λ (t : Tree). first_of (children_of t x)) e

    pub last_child_is : (x : ℕ) → last_at ls x ≡ last_of (children_of t x)
    last_child_is x = w.shape.last x ∙ ap last_of (sym (children_in-at ls x)) ∙ ap (λ (t : Tree). last_of (children_of t x)) e

    pub insert_is : (new : List Links) (p c n s' : ℕ) → parent_at ls n ≡ Some p
        → Rejoined ls new c p (previous_at ls n) (Some n) (Some c) (Some c) (Some p) (previous_at ls n) (Some n) → s' ≡ more s 1
        → n < length t.labels → c < length t.labels → parent_of t c ≡ None → has c (n ∷ ancestors t n) ≡ false
        → IsWhole new ds h × (tree_of new ds ms h s' l ≡ inserted t c n (parent_of t n))
    insert_is new p c n s' up r st =
        subst (λ (t : Tree). n < length t.labels → c < length t.labels → parent_of t c ≡ None → has c (n ∷ ancestors t n) ≡ false
        → IsWhole new ds h × (tree_of new ds ms h s' l ≡ inserted t c n (parent_of t n))) e (insert_base new p c n s' up r st)

    pub detach_is : (new : List Links) (p c s' : ℕ) → parent_at ls c ≡ Some p
        → Rejoined ls new c p (previous_at ls c) (next_at ls c) (next_at ls c) (previous_at ls c) None None None → s' ≡ more s 1
        → IsWhole new ds h × (tree_of new ds ms h s' l ≡ detached t c (parent_of t c))
    detach_is new p c s' up r st =
        subst (λ (t : Tree). IsWhole new ds h × (tree_of new ds ms h s' l ≡ detached t c (parent_of t c))) e (detach_base new p c s' up r st)

    pub next_is : (x : ℕ) → next_at ls x ≡ sibling after (parent_of t x) t x
    next_is x = subst (λ (t : Tree). next_at ls x ≡ sibling after (parent_of t x) t x) e (next_base x _ (sym (parents_in-at ls x)))

    pub previous_is : (x : ℕ) → previous_at ls x ≡ sibling before (parent_of t x) t x
    previous_is x = subst (λ (t : Tree). previous_at ls x ≡ sibling before (parent_of t x) t x) e (previous_base x _ (sym (parents_in-at ls x)))

    pub ancestors_start : (x : ℕ) → ancestors_within (length ls) (parents_in ls) (parent_at ls x) ≡ ancestors t x
    ancestors_start x =
        ap (λ n. ancestors_within n (parents_in ls) (parent_at ls x)) w.same_length
        ∙ ap (ancestors_within (length ds) (parents_in ls)) (sym (parents_in-at ls x))
        ∙ ap (λ (t : Tree). ancestors t x) e

    pub first_child_parent : (x c : ℕ) → first_at ls x ≡ Some c → (c < length t.labels) × (parent_of t c ≡ Some x)
    first_child_parent x c m =
        let same = w.same_length in
        let o = w.shape.kid x c (has-first c (kids_of ls x) (sym (w.shape.first x) ∙ m)) in
        subst (λ (t : Tree). (c < length t.labels) × (parent_of t c ≡ Some x)) e (omega (arith, o.0), parents_in-at ls c ∙ o.1)

    pub parent_read : (x : ℕ) → parent_at ls x ≡ parent_of t x
    parent_read x = sym (parents_in-at ls x) ∙ ap (λ (t : Tree). parent_of t x) e
