-- What one more element at the end does to what is read from the end.
use Rattle.std.proofs.Common.{◌≡◌, ℕ, zero, suc, ◌+◌, ◌-◌, ◌*◌, ◌<◌, ◌≤◌, Bool, true, false, cond, eqb, ◌||◌, List, [], ◌∷◌, ◌++◌, length, length-append, take, drop, get_or, Option, Some, None, ◌⊎◌, inl, inr, refl, sym, ◌∙◌, ap, arith}
use Rattle.std.specs.List.{list_any, remove}
use Rattle.std.proofs.lemmas.List.{take_more, length-take}
use Rattle.html_open.specs.Lists.{above, up_to, below, last_where, looked, last_index, IsBelow, after_index, removal, steps_down, without_last}
use Rattle.html_open.specs.Scopes.{in_scope}
use Rattle.html_open.specs.Entries.{node_in, nodes_of, removal_steps}
use Rattle.std.proofs.lemmas.Bool.Decides.{nat_tests}
use Rattle.html_arena.specs.Siblings.{has}
use Rattle.html_arena.specs.Tree.{Tree}
use Rattle.html_open.specs.declared.entry.Entry.{Entry}
use Rattle.html_open.specs.declared.entry.Entry.TheVariants.{Marker, Node}
use Rattle.html_open.specs.Opened.{AreNodes}
use Rattle.html_open.specs.Searches.{IsEntry}

pub cases : (b : Bool) → (b ≡ true) ⊎ (b ≡ false)
cases true = inl refl
cases false = inr refl

module _ {X : Type 0} (p : X → Bool) where
  pub any-push : (xs : List X) (x : X) → list_any p (xs ++ x ∷ []) ≡ cond (p x) true (list_any p xs)
  any-push [] x = elim (cases (p x)) [ inl e ↦ rw e refl | inr e ↦ rw e refl ]
  any-push (y ∷ ys) x =
      let e = any-push ys x in
      elim (cases (p x)) [
        | inl a ↦ elim (cases (p y)) [ inl b ↦ rw (a, b) refl | inr b ↦ rw (e, a, b) refl ]
        | inr a ↦ rw (e, a) refl
      ]

  pub above-push : (xs : List X) (x : X) → above p (xs ++ x ∷ []) ≡ cond (p x) [] (above p xs ++ x ∷ [])
  above-push [] x = refl
  above-push (y ∷ ys) x =
      let e = above-push ys x in
      let f = any-push ys x in
      elim (cases (p x)) [
        | inl a ↦ rw (f, a, e, a) refl
        | inr a ↦ elim (cases (list_any p ys)) [
          | inl b ↦ rw (f, a, b, e, a) refl
          | inr b ↦ elim (cases (p y)) [ inl c ↦ rw (f, a, b, c) refl | inr c ↦ rw (f, a, b, c) refl ]
        ]
      ]

  pub below-push : (xs : List X) (x : X) → below p (xs ++ x ∷ []) ≡ cond (p x) xs (below p xs)
  below-push [] x = elim (cases (p x)) [ inl e ↦ rw e refl | inr e ↦ rw e refl ]
  below-push (y ∷ ys) x =
      let e = below-push ys x in
      let f = any-push ys x in
      elim (cases (p x)) [
        | inl a ↦ rw (f, a, e, a) refl
        | inr a ↦ rw (f, a, e, a) refl
      ]

  pub up_to-push : (xs : List X) (x : X) → up_to p (xs ++ x ∷ []) ≡ cond (p x) (xs ++ x ∷ []) (up_to p xs)
  up_to-push [] x = refl
  up_to-push (y ∷ ys) x =
      let e = up_to-push ys x in
      let f = any-push ys x in
      elim (cases (p x)) [
        | inl a ↦ rw (f, a, e, a) refl
        | inr a ↦ rw (f, a, e, a) refl
      ]

  pub last_where-push : (xs : List X) (x : X) → last_where p (xs ++ x ∷ []) ≡ cond (p x) (Some x) (last_where p xs)
  last_where-push [] x = refl
  last_where-push (y ∷ ys) x =
      let e = last_where-push ys x in
      let f = any-push ys x in
      elim (cases (p x)) [
        | inl a ↦ rw (f, a, e, a) refl
        | inr a ↦ rw (f, a, e, a) refl
      ]

  pub looked-push : (xs : List X) (x : X) → looked p (xs ++ x ∷ []) ≡ cond (p x) 1 (looked p xs + 1)
  looked-push xs x =
      elim (cases (p x)) [
        | inl a ↦ rw (any-push xs x, above-push xs x, a) refl
        | inr a ↦ rw (any-push xs x, above-push xs x, a) (let n = length-append (above p xs) (x ∷ []) in omega (arith, n))
      ]

  pub last_index-push : (xs : List X) (x : X) → last_index p (xs ++ x ∷ []) ≡ cond (p x) (Some (length xs)) (last_index p xs)
  last_index-push xs x =
      elim (cases (p x)) [
        | inl a ↦ rw (any-push xs x, below-push xs x, a) refl
        | inr a ↦ rw (any-push xs x, below-push xs x, a) refl
      ]

  -- the same for a loop that counts n down
  pub last_index-hit : (xs : List X) (n : ℕ) (d : X) → 0 < n → n ≤ length xs → p (get_or xs (n - 1) d) ≡ true → last_index p (take n xs) ≡ Some (n - 1)
  last_index-hit xs n d pos le e =
      let m : n - 1 < length xs = omega arith in
      let k : (n - 1) + 1 ≡ n = omega arith in
      ap (λ i. last_index p (take i xs)) (sym k)
      ∙ rw (take_more xs (n - 1) d m, last_index-push (take (n - 1) xs) (get_or xs (n - 1) d), e) (ap Some (let j = length-take (n - 1) xs in omega (arith, j)))

  pub last_index-miss : (xs : List X) (n : ℕ) (d : X) → 0 < n → n ≤ length xs → p (get_or xs (n - 1) d) ≡ false → last_index p (take n xs) ≡ last_index p (take (n - 1) xs)
  last_index-miss xs n d pos le e =
      let m : n - 1 < length xs = omega arith in
      let k : (n - 1) + 1 ≡ n = omega arith in
      ap (λ i. last_index p (take i xs)) (sym k)
      ∙ rw (take_more xs (n - 1) d m, last_index-push (take (n - 1) xs) (get_or xs (n - 1) d), e) refl

  -- the elements looked at, by the place of the last one that passes
  pub any-length : (xs : List X) → list_any p xs ≡ true → length (above p xs) + length (below p xs) + 1 ≡ length xs
  any-length [] h = absurd cc
  any-length (x ∷ xs) h = elim (cases (list_any p xs)) [
    | inl e ↦ rw e (let k = any-length xs e in omega (arith, k))
    | inr e ↦ elim (cases (p x)) [
      | inl f ↦ rw (e, f) (omega arith)
      | inr f ↦ absurd (let g : list_any p (x ∷ xs) ≡ false = rw (f, e) refl in cc)
    ]
  ]

  pub none-above : (xs : List X) → list_any p xs ≡ false → above p xs ≡ xs
  none-above [] h = refl
  none-above (x ∷ xs) h = elim (cases (p x)) [
    | inl f ↦ absurd (let g : list_any p (x ∷ xs) ≡ true = rw f refl in cc)
    | inr f ↦ (let g : list_any p xs ≡ false = rw f at h in rw (g, f) refl)
  ]

  pub looked-some : (xs : List X) (i : ℕ) → last_index p xs ≡ Some i → (looked p xs + i ≡ length xs) × (i < length xs)
  looked-some xs i h = elim (cases (list_any p xs)) [
    | inl e ↦
        let k : length (below p xs) ≡ i = (let m = rw e at h in cc) in
        let n = any-length xs e in
        (rw e (omega (arith, n, k)), omega (arith, n, k))
    | inr e ↦ absurd (let m = rw e at h in cc)
  ]

  pub looked-none : (xs : List X) → last_index p xs ≡ None → looked p xs ≡ length xs
  looked-none xs h = elim (cases (list_any p xs)) [
    | inl e ↦ absurd (let m = rw e at h in cc)
    | inr e ↦ rw (e, none-above xs e) (omega arith)
  ]

  pub below_index : (xs : List X) (o : Option ℕ) (n : ℕ) → n ≡ length xs → o ≡ last_index p xs → IsBelow n o
  below_index xs None n e h = tt
  below_index xs (Some i) n e h = let k = looked-some xs i (sym h) in omega (arith, k.1)

  pub steps_index : (xs : List X) (o : Option ℕ) (n : ℕ) → n ≡ length xs → o ≡ last_index p xs → steps_down n o ≡ looked p xs
  steps_index xs None n e h = e ∙ sym (looked-none xs (sym h))
  steps_index xs (Some i) n e h = let k = looked-some xs i (sym h) in omega (arith, k.0)

  -- the last one that passes, by its place
  pub last_where-at : (xs : List X) (i : ℕ) (d : X) → last_index p xs ≡ Some i → last_where p xs ≡ Some (get_or xs i d)
  last_where-at [] i d h = absurd cc
  last_where-at (x ∷ xs) i d h = elim (cases (list_any p xs)) [
    | inl e ↦
        let f : cond (p x || list_any p xs) true true ≡ true = elim (cases (p x)) [ inl a ↦ rw a refl | inr a ↦ rw (a, e) refl ] in
        let g : (p x || list_any p xs) ≡ true = elim (cases (p x)) [ inl a ↦ rw a refl | inr a ↦ rw (a, e) refl ] in
        let k : length (below p (x ∷ xs)) ≡ i = (let m = rw g at h in cc) in
        let j : suc (length (below p xs)) ≡ i = (let m : below p (x ∷ xs) ≡ x ∷ below p xs = rw e refl in let n = ap length m in sym n ∙ k) in
        let q = last_where-at xs (length (below p xs)) d (rw e refl) in
        rw e (q ∙ ap (λ n. Some (get_or (x ∷ xs) n d)) j)
    | inr e ↦ elim (cases (p x)) [
      | inl f ↦ (let j : 0 ≡ i = (let m = rw (f, e) at h in cc) in rw (e, f) (ap (λ n. Some (get_or (x ∷ xs) n d)) j))
      | inr f ↦ absurd (let m = rw (f, e) at h in cc)
    ]
  ]

  below-take : (xs : List X) → list_any p xs ≡ true → below p xs ≡ take (length (below p xs)) xs
  below-take [] h = refl
  below-take (x ∷ xs) h = elim (cases (list_any p xs)) [
    | inl e ↦ rw e (ap (λ ys. x ∷ ys) (below-take xs e))
    | inr e ↦ rw e refl
  ]

  above-drop : (xs : List X) → list_any p xs ≡ true → above p xs ≡ drop (suc (length (below p xs))) xs
  above-drop [] h = absurd cc
  above-drop (x ∷ xs) h = elim (cases (list_any p xs)) [
    | inl e ↦ rw e (above-drop xs e)
    | inr e ↦ elim (cases (p x)) [
      | inl f ↦ rw (e, f) refl
      | inr f ↦ absurd (let g : list_any p (x ∷ xs) ≡ false = rw (f, e) refl in cc)
    ]
  ]

  pub not_any : (xs : List X) → last_index p xs ≡ None → list_any p xs ≡ false
  not_any xs h = elim (cases (list_any p xs)) [
    | inl e ↦ absurd (let m = rw e at h in cc)
    | inr e ↦ e
  ]

  none-up_to : (xs : List X) → list_any p xs ≡ false → up_to p xs ≡ []
  none-up_to [] h = refl
  none-up_to (x ∷ xs) h = elim (cases (p x)) [
    | inl f ↦ absurd (let g : list_any p (x ∷ xs) ≡ true = rw f refl in cc)
    | inr f ↦ (let g : list_any p xs ≡ false = rw f at h in rw (g, f) refl)
  ]

  up_to-take : (xs : List X) → list_any p xs ≡ true → up_to p xs ≡ take (suc (length (below p xs))) xs
  up_to-take [] h = absurd cc
  up_to-take (x ∷ xs) h = elim (cases (list_any p xs)) [
    | inl e ↦ rw e (ap (λ ys. x ∷ ys) (up_to-take xs e))
    | inr e ↦ elim (cases (p x)) [
      | inl f ↦ rw (e, f) refl
      | inr f ↦ absurd (let g : list_any p (x ∷ xs) ≡ false = rw (f, e) refl in cc)
    ]
  ]

  pub last_index-any : (xs : List X) (i : ℕ) → last_index p xs ≡ Some i → (list_any p xs ≡ true) × (length (below p xs) ≡ i)
  last_index-any xs i h = elim (cases (list_any p xs)) [
    | inl e ↦ (e, (let m = rw e at h in cc))
    | inr e ↦ absurd (let m = rw e at h in cc)
  ]

  -- without the element at that place
  pub without_last-some : (xs : List X) (i : ℕ) → last_index p xs ≡ Some i → remove xs i ≡ without_last p xs
  without_last-some xs i h =
      let a = last_index-any xs i h in
      rw (a.0, below-take xs a.0, above-drop xs a.0, a.1) refl

  pub without_last-none : (xs : List X) → last_index p xs ≡ None → xs ≡ without_last p xs
  without_last-none xs h = elim (cases (list_any p xs)) [
    | inl e ↦ absurd (let m = rw e at h in cc)
    | inr e ↦ rw e refl
  ]

  -- the steps of a removal, for what is there and what is not
  pub removal-none : (xs : List X) → last_index p xs ≡ None → removal_steps p xs ≡ looked p xs
  removal-none xs h = elim (cases (list_any p xs)) [
    | inl e ↦ absurd (let m = rw e at h in cc)
    | inr e ↦ rw e (omega arith)
  ]

  pub removal-some : (xs : List X) (i : ℕ) → last_index p xs ≡ Some i → removal_steps p xs ≡ looked p xs + looked p xs
  removal-some xs i h = (let a = last_index-any xs i h in rw a.0 (omega arith))

  pub below-at : (xs : List X) (i : ℕ) → last_index p xs ≡ Some i → below p xs ≡ take i xs
  below-at xs i h = (let a = last_index-any xs i h in below-take xs a.0 ∙ ap (λ n. take n xs) a.1)

  pub last_index-le : (xs : List X) (i : ℕ) → last_index p xs ≡ Some i → i ≤ length xs
  last_index-le xs i h = (let k = looked-some xs i h in omega (arith, k.1))

  -- the same by the index after the last one that passes
  pub after-above : (xs : List X) (o : Option ℕ) → o ≡ last_index p xs → drop (after_index o) xs ≡ above p xs
  after-above xs None h = sym (none-above xs (not_any xs (sym h)))
  after-above xs (Some i) h =
      let a = last_index-any xs i (sym h) in
      let k : i + 1 ≡ suc (length (below p xs)) = (let b = a.1 in omega arith) in
      ap (λ n. drop n xs) k ∙ sym (above-drop xs a.0)

  pub after-up_to : (xs : List X) (o : Option ℕ) → o ≡ last_index p xs → take (after_index o) xs ≡ up_to p xs
  after-up_to xs None h = sym (none-up_to xs (not_any xs (sym h)))
  after-up_to xs (Some i) h =
      let a = last_index-any xs i (sym h) in
      let k : i + 1 ≡ suc (length (below p xs)) = (let b = a.1 in omega arith) in
      ap (λ n. take n xs) k ∙ sym (up_to-take xs a.0)

  -- how many elements there are after it
  pub after-length : (xs : List X) (o : Option ℕ) (n : ℕ) → n ≡ length xs → o ≡ last_index p xs → (n - after_index o ≡ length (above p xs)) × (after_index o ≤ n)
  after-length xs None n e h = (let k = ap length (none-above xs (not_any xs (sym h))) in omega (arith, k), omega arith)
  after-length xs (Some i) n e h =
      let a = last_index-any xs i (sym h) in
      let b = a.1 in
      let m = any-length xs a.0 in
      (omega (arith, m, b), omega (arith, m, b))

  pub removal-is : (xs : List X) (o : Option ℕ) (n : ℕ) → n ≡ length xs → o ≡ last_index p xs → removal n o ≡ removal_steps p xs
  removal-is xs None n e h = e ∙ sym (looked-none xs (sym h)) ∙ sym (removal-none xs (sym h))
  removal-is xs (Some i) n e h =
      let k = looked-some xs i (sym h) in
      let m = removal-some xs i (sym h) in
      omega (arith, k.0, m)

  -- two for each element after the last one that passes, and one for that one
  pub twice-above : (xs : List X) (o : Option ℕ) (n : ℕ) → n ≡ length xs → o ≡ last_index p xs
      → (n - after_index o) + steps_down n o ≡ 2 * length (above p xs) + cond (list_any p xs) 1 0
  twice-above xs o n e h =
      let a = after-length xs o n e h in
      let s = steps_index xs o n e h in
      omega (arith, a.0, s)

pub any-has : (x : ℕ) (xs : List ℕ) → list_any (eqb x) xs ≡ has x xs
any-has x [] = refl
any-has x (y ∷ ys) = (let e = any-has x ys in elim (cases (eqb x y)) [ inl a ↦ rw a refl | inr a ↦ rw a e ])

-- the same with the test turned round
pub any-had : (x : ℕ) (xs : List ℕ) → list_any (λ y. eqb y x) xs ≡ has x xs
any-had x [] = refl
any-had x (y ∷ ys) =
    let r = any-had x ys in
    elim (cases (eqb x y)) [
      | inl a ↦ (let b : eqb y x ≡ true = grind (arith, nat_tests) in rw (a, b) refl)
      | inr a ↦ (let b : eqb y x ≡ false = grind (arith, nat_tests) in rw (a, b) r)
    ]

abbrev pub passes : (ℕ → Bool) → Option ℕ → Bool
passes p None = false
passes p (Some x) = p x

abbrev pub passes_at : (ℕ → Bool) → List ℕ → Option ℕ → Bool
passes_at p xs None = false
passes_at p xs (Some i) = p (get_or xs i 0)

module _ (p q : ℕ → Bool) where
  any-or : (xs : List ℕ) → list_any (λ x. p x || q x) xs ≡ (list_any p xs || list_any q xs)
  any-or [] = refl
  any-or (x ∷ xs) =
      let e = any-or xs in
      elim (cases (p x)) [
        | inl a ↦ rw a refl
        | inr a ↦ elim (cases (q x)) [
          | inl b ↦ elim (cases (list_any p xs)) [ inl c ↦ rw (a, b, c) refl | inr c ↦ rw (a, b, c) refl ]
          | inr b ↦ rw (a, b) e
        ]
      ]

  -- a name is in scope where the last element that matches or ends the scope matches
  pub in_scope-is : (xs : List ℕ) → in_scope p q xs ≡ passes p (last_where (λ x. p x || q x) xs)
  in_scope-is [] = refl
  in_scope-is (x ∷ xs) =
      let ih = in_scope-is xs in
      let o = any-or xs in
      elim (cases (list_any p xs)) [
        | inl e ↦
            let r : list_any (λ x. p x || q x) xs ≡ true = o ∙ rw e refl in
            elim (cases (p x)) [
              | inl a ↦ rw (e, r, a) (rw e at ih)
              | inr a ↦ rw (e, r, a) (rw e at ih)
            ]
        | inr e ↦ elim (cases (list_any q xs)) [
          | inl f ↦
              let r : list_any (λ x. p x || q x) xs ≡ true = o ∙ rw (e, f) refl in
              elim (cases (p x)) [
                | inl a ↦ rw (e, r, a, f) (rw e at ih)
                | inr a ↦ rw (r, a, e) (rw e at ih)
              ]
          | inr f ↦
              let r : list_any (λ x. p x || q x) xs ≡ false = o ∙ rw (e, f) refl in
              elim (cases (p x)) [
                | inl a ↦ rw (e, r, a, f) (sym a)
                | inr a ↦ elim (cases (q x)) [
                  | inl b ↦ rw (r, a, e, b) (sym a)
                  | inr b ↦ rw (r, a, e, b) refl
                ]
              ]
        ]
      ]

  in_scope-none : (xs : List ℕ) → last_index (λ x. p x || q x) xs ≡ None → in_scope p q xs ≡ false
  in_scope-none xs h = elim (cases (list_any (λ x. p x || q x) xs)) [
    | inl e ↦ absurd (let m = rw e at h in cc)
    | inr e ↦ (let o = any-or xs in elim (cases (list_any p xs)) [ inl a ↦ absurd (let k : list_any (λ x. p x || q x) xs ≡ true = o ∙ rw a refl in cc) | inr a ↦ rw a refl ])
  ]

  pub in_scope-at : (xs : List ℕ) (o : Option ℕ) → o ≡ last_index (λ x. p x || q x) xs → in_scope p q xs ≡ passes_at p xs o
  in_scope-at xs None h = in_scope-none xs (sym h)
  in_scope-at xs (Some i) h = in_scope-is xs ∙ ap (passes p) (last_where-at (λ x. p x || q x) xs i 0 (sym h))

-- what stands at an index is in the list
pub has-at : (xs : List ℕ) (k : ℕ) (d : ℕ) → k < length xs → has (get_or xs k d) xs ≡ true
has-at [] k d h = absurd (omega arith)
has-at (x ∷ xs) zero d h = (let e : eqb x x ≡ true = grind (arith, nat_tests) in rw e refl)
has-at (x ∷ xs) (suc k) d h =
    let e = has-at xs k d (omega arith) in
    elim (cases (eqb (get_or xs k d) x)) [ inl a ↦ rw a refl | inr a ↦ rw a e ]

-- what is at an index of the list of entries is an element in the list
pub node-at : (es : List Entry) (k x : ℕ) (d : Entry) → get_or es k d ≡ Node x → k < length es → has x (nodes_of es) ≡ true
node-at [] k x d h l = absurd (omega arith)
node-at (Marker ∷ es) zero x d h l = absurd (let k = h in cc)
node-at (Node y ∷ es) zero x d h l = (let q : y ≡ x = (let k = h in cc) in let e : eqb x y ≡ true = grind (arith, nat_tests) in rw e refl)
node-at (Marker ∷ es) (suc k) x d h l = node-at es k x d h (omega arith)
node-at (Node y ∷ es) (suc k) x d h l =
    let e = node-at es k x d h (omega arith) in
    elim (cases (eqb x y)) [ inl a ↦ rw a refl | inr a ↦ rw a e ]

-- an entry of the list names a node
pub entry-at : (t : Tree) (es : List Entry) (k : ℕ) (d e : Entry) → AreNodes t (nodes_of es) → k < length es → get_or es k d ≡ e → IsEntry t e
entry-at t es k d Marker h l e = tt
entry-at t es k d (Node x) h l e = h x (node-at es k x d e l)

-- what stands at an index does not depend on the default
pub get_or-default : {X : Type 0} (xs : List X) (k : ℕ) (d e : X) → k < length xs → get_or xs k d ≡ get_or xs k e
get_or-default [] k d e h = absurd (omega arith)
get_or-default (x ∷ xs) zero d e h = refl
get_or-default (x ∷ xs) (suc k) d e h = get_or-default xs k d e (omega arith)

pub node-of : (e : Entry) (x : ℕ) → node_in (Some e) ≡ Some x → e ≡ Node x
node-of Marker x h = absurd (let k = h in cc)
node-of (Node y) x h = ap Node (let k = h in cc)
