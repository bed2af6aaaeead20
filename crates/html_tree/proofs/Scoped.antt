-- Searches by tags.
use Rattle.std.proofs.Common.{◌≡◌, ℕ, zero, suc, ◌+◌, ◌-◌, Bool, true, false, cond, not, ◌||◌, List, [], ◌∷◌, ◌++◌, length, take, drop, Option, Some, None, is_some, inl, inr, refl, sym, ◌∙◌, ap, arith}
use Rattle.std.specs.List.{after_first, list_any, position_or_len}
use Rattle.std.proofs.lemmas.List.{append_assoc, drop_all}
use Rattle.html_names.specs.declared.tag.Tag.{Tag}
use Rattle.html_names.specs.declared.tag.Tag.TheVariants as tag
use Rattle.html_arena.specs.Tree.{Tree, tag_at}
use Rattle.html_open.specs.Lists.{above, after_index, below, last_index, last_where, up_to}
use Rattle.html_open.specs.Scopes.{in_scope, stays, tag_stays}
use Rattle.html_open.proofs.Keeps.{cases_bool, split-last}
use Rattle.html_open.proofs.Lists.{after-up_to, any-length, in_scope-is, last_index-any, looked-some, passes}
use Rattle.html_open.proofs.Reopened.{none-above}
use Rattle.html_tree.specs.declared.groups.Group.{Group}
use Rattle.html_tree.specs.declared.groups.Stop.{Stop}
use Rattle.html_tree.specs.declared.groups.TableContext.{TableContext}
use Rattle.html_tree.specs.Closing.{cleared_to, first_few, kept_to}
use Rattle.html_tree.specs.Groups.{in_group, is_context, is_stop}
use Rattle.html_tree.specs.OpenTags.{back_to, is_tag_in_scope, open_tags, tags_down}
use Rattle.html_tree.specs.Searching.{context_at, found, index_before, is_member, stops}
use Rattle.html_tree.specs.States.{IsSound, State}
use Rattle.html_tree.proofs.OpenTags.{append-tags, cons-tags, few-is, last-found, later-found, length-tags, some-meets, take-tags}

-- what a test on tags says of elements
any-tags : (p : Tag → Bool) (t : Tree) (s : List ℕ) → list_any p (tags_down t s) ≡ list_any (λ x. p (tag_at t x)) s
any-tags p t [] = refl
any-tags p t (x ∷ s) = ap (list_any p) (cons-tags t x s) ∙ push p (tags_down t s) (tag_at t x) ∙ ap (λ b. b || p (tag_at t x)) (any-tags p t s) ∙ swap (list_any (λ y. p (tag_at t y)) s) (p (tag_at t x))
  where
    push : (p : Tag → Bool) (xs : List Tag) (g : Tag) → list_any p (xs ++ g ∷ []) ≡ list_any p xs || p g
    push p [] g = right (p g)
      where
        right : (b : Bool) → b || false ≡ b
        right true = refl
        right false = refl
    push p (y ∷ ys) g = elim (cases_bool (p y)) [ inl a ↦ rw a refl | inr a ↦ rw a (push p ys g) ]

    swap : (a b : Bool) → a || b ≡ b || a
    swap true true = refl
    swap true false = refl
    swap false true = refl
    swap false false = refl

-- the first tag that passes
position-at : (p : Tag → Bool) (xs : List Tag) (h : Tag) (ys : List Tag) → list_any p xs ≡ false → p h ≡ true → position_or_len p (xs ++ h ∷ ys) ≡ length xs
position-at p [] h ys n e = rw e refl
position-at p (x ∷ xs) h ys n e = elim (cases_bool (p x)) [
  | inl a ↦ absurd (let k : true ≡ false = rw a at n in cc)
  | inr a ↦ (let r = position-at p xs h ys (rw a at n) e in rw a (omega (arith, r)))
]

position-none : (p : Tag → Bool) (xs : List Tag) → list_any p xs ≡ false → position_or_len p xs ≡ length xs
position-none p [] n = refl
position-none p (x ∷ xs) n = elim (cases_bool (p x)) [
  | inl a ↦ absurd (let k : true ≡ false = rw a at n in cc)
  | inr a ↦ (let r = position-none p xs (rw a at n) in rw a (omega (arith, r)))
]

position-above : (p : Tag → Bool) (t : Tree) (s : List ℕ) → list_any (λ x. p (tag_at t x)) s ≡ true → position_or_len p (tags_down t s) ≡ length (above (λ x. p (tag_at t x)) s)
position-above p t s h =
    let q = λ (x : ℕ). p (tag_at t x) in
    let k = split-last q s h in
    let e : tags_down t s ≡ tags_down t (above q s) ++ tag_at t k.0 ∷ tags_down t (below q s) =
    ap (tags_down t) k.1 ∙ append-tags t (below q s) (k.0 ∷ above q s) ∙ ap (λ v. v ++ tags_down t (below q s)) (cons-tags t k.0 (above q s)) ∙ append_assoc (tags_down t (above q s)) (tag_at t k.0 ∷ []) (tags_down t (below q s)) in
    ap (position_or_len p) e ∙ position-at p (tags_down t (above q s)) (tag_at t k.0) (tags_down t (below q s)) (any-tags p t (above q s) ∙ none-above q s) k.2 ∙ length-tags t (above q s)

-- what stands up to the last element that passes
back-up : (p : Tag → Bool) (t : Tree) (s : List ℕ) → tags_down t (up_to (λ x. p (tag_at t x)) s) ≡ back_to p (tags_down t s)
back-up p t s = elim (cases_bool (list_any (λ x. p (tag_at t x)) s)) [
  | inl a ↦ (let q = λ (x : ℕ). p (tag_at t x) in
      let i : last_index q s ≡ Some (length (below q s)) = rw a refl in
      let l = any-length q s a in
      let n : length s - (length (below q s) + 1) ≡ length (above q s) = omega (arith, l) in
      ap (tags_down t) (sym (after-up_to q s (Some (length (below q s))) (sym i))) ∙ take-tags t s (length (below q s) + 1)
      ∙ ap (λ m. drop m (tags_down t s)) (n ∙ sym (position-above p t s a)))
  | inr a ↦ ap (tags_down t) (none-up (λ x. p (tag_at t x)) s a) ∙ sym (let n = position-none p (tags_down t s) (any-tags p t s ∙ a) in ap (λ m. drop m (tags_down t s)) n ∙ drop_all (length (tags_down t s)) (tags_down t s) (omega arith))
]
  where
    none-up : (q : ℕ → Bool) (xs : List ℕ) → list_any q xs ≡ false → up_to q xs ≡ []
    none-up q [] n = refl
    none-up q (x ∷ xs) n = elim (cases_bool (q x)) [
      | inl b ↦ absurd (let k : true ≡ false = rw b at n in cc)
      | inr b ↦ (let m : list_any q xs ≡ false = rw b at n in rw (m, b) refl)
    ]

pub implied-back : (a b : State) (except : Option Tag) → b ≡ record a { stack = up_to (stays a.tree except) a.stack; steps = b.steps } → open_tags b ≡ back_to (tag_stays except) (open_tags a)
implied-back a b except e = ap open_tags e ∙ back-up (tag_stays except) a.tree a.stack

pub cleared-back : (a b : State) (c : TableContext) → IsSound a → b ≡ record a { stack = cleared_to a c; steps = b.steps } → open_tags b ≡ back_to (is_context c) (open_tags a)
cleared-back a b c s e = ap open_tags e ∙ ap (tags_down a.tree) cut ∙ back-up (is_context c) a.tree a.stack
  where
    p : ℕ → Bool
    p x = is_context c (tag_at a.tree x)

    cut : cleared_to a c ≡ up_to (context_at a.tree c) a.stack
    cut = elim (cases_bool (list_any (context_at a.tree c) a.stack)) [
      | inl h ↦ (let i : last_index (context_at a.tree c) a.stack ≡ Some (length (below (context_at a.tree c) a.stack)) = rw h refl in
          let w = (looked-some (context_at a.tree c) a.stack (length (below (context_at a.tree c) a.stack)) i).1 in
          let k : kept_to (length a.stack) (length (below (context_at a.tree c) a.stack) + 1) ≡ length (below (context_at a.tree c) a.stack) + 1 = omega (arith, w) in
          ap (λ o. first_few (after_index o) a.stack) i ∙ ap (λ n. take n a.stack) k ∙ after-up_to (context_at a.tree c) a.stack (Some (length (below (context_at a.tree c) a.stack))) (sym i))
      | inr h ↦ (let n = some-meets a c s h in empty a.stack n)
    ]
      where
        empty : (xs : List ℕ) → length xs ≡ 0 → first_few (after_index (last_index (context_at a.tree c) xs)) xs ≡ up_to (context_at a.tree c) xs
        empty [] n = nil (kept_to 0 (after_index (last_index (context_at a.tree c) [])))
          where
            nil : (m : ℕ) → take {A = ℕ} m [] ≡ []
            nil zero = refl
            nil (suc m) = refl
        empty (x ∷ xs) n = absurd (omega (arith, n))

pub closed-after : (a b : State) (g : Group) (e : Stop) (i : ℕ) → IsSound a → Some i ≡ found a g e → b ≡ record a { stack = first_few i a.stack; steps = b.steps } → in_group g tag.Html ≡ false → open_tags b ≡ after_first (in_group g) (open_tags a)
closed-after a b g e i s h q n =
    let at = last-found a g e i (sym h) in
    let later = later-found a g i s n at in
    let w = last_index-any (is_member a.tree g) a.stack i at in
    let l = any-length (is_member a.tree g) a.stack w.0 in
    let below_is = w.1 in
    let few : length a.stack - kept_to (length a.stack) i ≡ length (above (is_member a.tree g) a.stack) + 1 = omega (arith, l, below_is, later) in
    few-is a b i q ∙ ap (λ m. drop m (open_tags a)) (few ∙ ap (λ m. m + 1) (sym (position-above (in_group g) a.tree a.stack w.0)))

-- whether an element is in scope, by tags
walk-push : (g : Group) (e : Stop) (xs : List Tag) (h : Tag) → is_tag_in_scope g e (xs ++ h ∷ []) ≡ cond (list_any (λ k. in_group g k || is_stop e k) xs) (is_tag_in_scope g e xs) (in_group g h)
walk-push g e [] h = elim (cases_bool (in_group g h)) [ inl a ↦ rw a refl | inr a ↦ rw a (by (is_stop e h)) ]
  where
    by : (b : Bool) → cond b false false ≡ false
    by true = refl
    by false = refl
walk-push g e (x ∷ xs) h = elim (cases_bool (in_group g x)) [
  | inl a ↦ rw a refl
  | inr a ↦ elim (cases_bool (is_stop e x)) [ inl b ↦ rw (a, b) refl | inr b ↦ rw (a, b) (walk-push g e xs h) ]
]

walk-last : (g : Group) (e : Stop) (t : Tree) (s : List ℕ) → is_tag_in_scope g e (tags_down t s) ≡ passes (is_member t g) (last_where (λ x. is_member t g x || stops t e x) s)
walk-last g e t [] = refl
walk-last g e t (x ∷ s) =
    ap (is_tag_in_scope g e) (cons-tags t x s) ∙ walk-push g e (tags_down t s) (tag_at t x) ∙ ap (λ b. cond b (is_tag_in_scope g e (tags_down t s)) (in_group g (tag_at t x))) (any-tags (λ k. in_group g k || is_stop e k) t s)
    ∙ elim (cases_bool (list_any (λ x. is_member t g x || stops t e x) s)) [
      | inl a ↦ rw a (walk-last g e t s)
      | inr a ↦ rw a (elim (cases_bool (is_member t g x)) [
        | inl b ↦ rw b (sym b)
        | inr b ↦ rw b (by b (stops t e x))
      ])
    ]
  where
    by : is_member t g x ≡ false → (c : Bool) → false ≡ passes (is_member t g) (cond c (Some x) None)
    by n true = sym n
    by n false = refl

pub found-scope : (a : State) (g : Group) (e : Stop) → is_some (found a g e) ≡ is_tag_in_scope g e (open_tags a)
found-scope a g e = some-scope (is_member a.tree g) (stops a.tree e) a.stack ∙ in_scope-is (is_member a.tree g) (stops a.tree e) a.stack ∙ sym (walk-last g e a.tree a.stack)
  where
    some-scope : (p q : ℕ → Bool) (s : List ℕ) → is_some (index_before p q s) ≡ in_scope p q s
    some-scope p q s = elim (cases_bool (list_any p s)) [
      | inl a ↦ rw a (by (list_any q (above p s)))
      | inr a ↦ rw a refl
    ]
      where
        by : (b : Bool) → is_some (cond (not b) (Some (length (below p s))) None) ≡ not b
        by true = refl
        by false = refl
