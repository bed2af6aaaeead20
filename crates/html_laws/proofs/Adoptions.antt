-- Adoptions from states that are alike have outcomes that are alike, where no element stands twice on the stack.
use Rattle.std.proofs.Common.{◌≡◌, ℕ, zero, suc, ◌+◌, ◌<◌, Bool, true, false, cond, eqb, not, List, [], ◌∷◌, ◌++◌, length, map, get_or, Option, Some, None, ◌⊎◌, inl, inr, refl, sym, ◌∙◌, ap, subst, append_assoc, le_refl, arith}
use Rattle.std.proofs.lemmas.Bool.{false≢true}
use Rattle.std.specs.List.{flat_map, list_any}
use Rattle.html_names.specs.declared.tag.Tag.{Tag}
use Rattle.html_arena.specs.declared.marks.Marks.{Marks}
use Rattle.html_arena.specs.Data.{cloned}
use Rattle.html_arena.specs.Siblings.{Distinct, has, last_of}
use Rattle.html_arena.specs.Tree.{Tree, WellFormed, children_of, label_of, parent_of}
use Rattle.html_open.specs.declared.adoption.AdoptEnd.{AdoptEnd}
use Rattle.html_open.specs.declared.adoption.AdoptEnd.TheVariants.{Done, OtherEndTag}
use Rattle.html_open.specs.declared.entry.Entry.{Entry}
use Rattle.html_open.specs.declared.places.Place.{Place}
use Rattle.html_open.specs.declared.places.Place.TheVariants.{Before, Last}
use Rattle.html_open.specs.AdoptFinding.{element_in_scope, special}
use Rattle.html_open.specs.Adopting.{Adopted, Ends, Popped, Round, Rounds, clones_down, closes, eight, fewer, forgets, no_entry, no_round, one_more, originals, out_of_scope, popped, pops_at_once, relisted}
use Rattle.html_open.specs.Entries.{has_node, last_named, without_node}
use Rattle.html_open.specs.Hanging.{chain_top, chained, with_put}
use Rattle.html_open.specs.Lists.{above, below}
use Rattle.html_open.specs.Marking.{IsSameTree}
use Rattle.html_open.specs.Opened.{Open, open_at}
use Rattle.html_open.specs.Outcome.{IsAlike}
use Rattle.html_open.specs.Placing.{place_at}
use Rattle.html_open.proofs.Closing.{last-pushed}
use Rattle.html_open.proofs.Keeps.{Distinct-remove, cases_bool, eqb-self}
use Rattle.html_open.proofs.Lasting.{not-right}
use Rattle.html_open.proofs.Lists.{any-has}
use Rattle.html_open.proofs.Upwards.{has-first}
use Rattle.html_open.proofs.Ordering.{distinct-left, has-left, has-right}
use Rattle.html_laws.specs.Outcomes.{AreOnce}
use Rattle.html_laws.proofs.Stacks.{IsPart, once-part, part-below, part-self}

-- lists that are the same at each index
columns : {X : Type 0} (xs ys : List X) (d : X) → length xs ≡ length ys → ((i : ℕ) → get_or xs i d ≡ get_or ys i d) → xs ≡ ys
columns [] [] d l h = refl
columns [] (y ∷ ys) d l h = absurd (omega arith)
columns (x ∷ xs) [] d l h = absurd (omega arith)
columns (x ∷ xs) (y ∷ ys) d l h = ap (λ v. v ∷ xs) (h 0) ∙ ap (λ v. y ∷ v) (columns xs ys d (omega arith) (λ i. h (suc i)))

-- lists of children tell the parents
parents-by : (t u : Tree) → WellFormed t → WellFormed u → ((x : ℕ) → children_of u x ≡ children_of t x) → (x : ℕ) → parent_of u x ≡ parent_of t x
parents-by t u v w h x = by (parent_of t x) refl
  where
    other : (o : Option ℕ) → parent_of t x ≡ None → parent_of u x ≡ o → o ≡ None
    other None e f = refl
    other (Some p) e f = absurd (let k = v.child_has_parent p x (sym (ap (has x) (h p)) ∙ w.parent_has_child p x f) in let q = sym k ∙ e in cc)

    by : (o : Option ℕ) → parent_of t x ≡ o → parent_of u x ≡ parent_of t x
    by None e = other (parent_of u x) e refl ∙ sym e
    by (Some p) e = w.child_has_parent p x (ap (has x) (h p) ∙ v.parent_has_child p x e) ∙ sym e

-- where an element stands once, what stands before it and after it is one
split-one : (c : ℕ) (xs ys xs' ys' : List ℕ) → Distinct (xs ++ c ∷ ys) → xs ++ c ∷ ys ≡ xs' ++ c ∷ ys' → (xs ≡ xs') × (ys ≡ ys')
split-one c [] ys [] ys' d e = (refl, let k : ys ≡ ys' = cc in k)
split-one c [] ys (z ∷ xs') ys' d e =
    let k : ys ≡ xs' ++ c ∷ ys' = cc in
    absurd (false≢true (sym d.0 ∙ ap (has c) k ∙ has-right c xs' (c ∷ ys') (has-first c ys')))
split-one c (z ∷ xs) ys [] ys' d e =
    let k : z ≡ c = cc in
    absurd (false≢true (sym d.0 ∙ ap (λ v. has v (xs ++ c ∷ ys)) k ∙ has-right c xs (c ∷ ys) (has-first c ys)))
split-one c (z ∷ xs) ys (z' ∷ xs') ys' d e =
    let a : z ≡ z' = cc in
    let b : xs ++ c ∷ ys ≡ xs' ++ c ∷ ys' = cc in
    let r = split-one c xs ys xs' ys' d.1 b in
    (ap (λ v. v ∷ xs) a ∙ ap (λ v. z' ∷ v) r.0, r.1)

last-one : (a b : ℕ) (xs ys : List ℕ) → xs ++ a ∷ [] ≡ ys ++ b ∷ [] → (xs ≡ ys) × (a ≡ b)
last-one a b [] [] e = (refl, let k : a ≡ b = cc in k)
last-one a b [] (y ∷ ys) e = absurd (let k : [] ≡ ys ++ b ∷ [] = cc in none ys k)
  where
    none : (zs : List ℕ) → [] ≡ zs ++ b ∷ [] → ⊥
    none [] k = absurd (let q = k in cc)
    none (z ∷ zs) k = absurd (let q = k in cc)
last-one a b (x ∷ xs) [] e = absurd (let k : xs ++ a ∷ [] ≡ [] = cc in none xs k)
  where
    none : (zs : List ℕ) → zs ++ a ∷ [] ≡ [] → ⊥
    none [] k = absurd (let q = k in cc)
    none (z ∷ zs) k = absurd (let q = k in cc)
last-one a b (x ∷ xs) (y ∷ ys) e =
    let p : x ≡ y = cc in
    let q : xs ++ a ∷ [] ≡ ys ++ b ∷ [] = cc in
    let r = last-one a b xs ys q in
    (ap (λ v. v ∷ xs) p ∙ ap (λ v. y ∷ v) r.0, r.1)

-- the first element that passes, with what stands before it and after it
pub record IsOneFirst (xs xs' : List ℕ) (g g' : ℕ) (ys ys' : List ℕ) : Type 0 where
  pub before : xs ≡ xs'
  pub here : g ≡ g'
  pub after : ys ≡ ys'

first-one : (p : ℕ → Bool) (g g' : ℕ) (xs ys xs' ys' : List ℕ) → list_any p xs ≡ false → p g ≡ true → list_any p xs' ≡ false → p g' ≡ true → xs ++ g ∷ ys ≡ xs' ++ g' ∷ ys'
    → IsOneFirst xs xs' g g' ys ys'
first-one p g g' [] ys [] ys' n h n' h' e = record { before = refl; here = cc; after = cc }
first-one p g g' [] ys (z ∷ xs') ys' n h n' h' e = absurd (let k : g ≡ z = cc in let a : p z ≡ true = sym (ap p k) ∙ h in let b = rw a at n' in cc)
first-one p g g' (z ∷ xs) ys [] ys' n h n' h' e = absurd (let k : z ≡ g' = cc in let a : p z ≡ true = ap p k ∙ h' in let b = rw a at n in cc)
first-one p g g' (z ∷ xs) ys (z' ∷ xs') ys' n h n' h' e =
    let a : z ≡ z' = cc in
    let b : xs ++ g ∷ ys ≡ xs' ++ g' ∷ ys' = cc in
    let r = first-one p g g' xs ys xs' ys' (tail z xs n) h (tail z' xs' n') h' b in
    record { before = ap (λ v. v ∷ xs) a ∙ ap (λ v. z' ∷ v) r.before; here = r.here; after = r.after }
  where
    tail : (y : ℕ) (vs : List ℕ) → list_any p (y ∷ vs) ≡ false → list_any p vs ≡ false
    tail y vs k = elim (cases_bool (p y)) [ inl q ↦ absurd (let w = rw q at k in cc) | inr q ↦ rw q at k ]

-- one round
module _ (s : Tag) (foster : Bool) (o p q : Open) (h : Distinct o.stack) (r : Round s foster o p) (r' : Round s foster o q) where
  abbrev n : ℕ
  n = length o.tree.labels

  same-f : r'.formatting_element ≡ r.formatting_element
  same-f = (let k : Some r'.formatting_element ≡ Some r.formatting_element = sym r'.formatting ∙ r.formatting in cc)

  halves : ((r.lower ++ r.common_ancestor ∷ []) ≡ (r'.lower ++ r'.common_ancestor ∷ [])) × ((r.inner ++ (r.furthest_block ∷ r.upper)) ≡ (r'.inner ++ (r'.furthest_block ∷ r'.upper)))
  halves =
      let a : o.stack ≡ (r.lower ++ r.common_ancestor ∷ []) ++ r.formatting_element ∷ (r.inner ++ (r.furthest_block ∷ r.upper)) = r.stack_was ∙ sym (append_assoc r.lower (r.common_ancestor ∷ []) (r.formatting_element ∷ (r.inner ++ (r.furthest_block ∷ r.upper)))) in
      let b : o.stack ≡ (r'.lower ++ r'.common_ancestor ∷ []) ++ r.formatting_element ∷ (r'.inner ++ (r'.furthest_block ∷ r'.upper)) =
      r'.stack_was ∙ sym (append_assoc r'.lower (r'.common_ancestor ∷ []) (r'.formatting_element ∷ (r'.inner ++ (r'.furthest_block ∷ r'.upper)))) ∙ ap (λ v. (r'.lower ++ r'.common_ancestor ∷ []) ++ v ∷ (r'.inner ++ (r'.furthest_block ∷ r'.upper))) same-f in
      split-one r.formatting_element (r.lower ++ r.common_ancestor ∷ []) (r.inner ++ (r.furthest_block ∷ r.upper)) (r'.lower ++ r'.common_ancestor ∷ []) (r'.inner ++ (r'.furthest_block ∷ r'.upper)) (subst Distinct a h) (sym a ∙ b)

  lows : (r.lower ≡ r'.lower) × (r.common_ancestor ≡ r'.common_ancestor)
  lows = last-one r.common_ancestor r'.common_ancestor r.lower r'.lower halves.0

  highs : IsOneFirst r.inner r'.inner r.furthest_block r'.furthest_block r.upper r'.upper
  highs = first-one (special o.tree) r.furthest_block r'.furthest_block r.inner r.upper r'.inner r'.upper r.none_between r.block_special r'.none_between r'.block_special halves.1

  same-cs : r.cloned_elements ≡ r'.cloned_elements
  same-cs = r.cloned_are ∙ ap (originals (λ x. has_node x o.list)) highs.before ∙ sym r'.cloned_are

  same-k : r.new_element ≡ r'.new_element
  same-k = r.new_element_is ∙ ap (λ (v : List ℕ). n + length v) same-cs ∙ sym r'.new_element_is

  stacks : q.stack ≡ p.stack
  stacks =
      r'.stack_is
      ∙ sym (r.stack_is
      ∙ ap (λ v. v ++ (r.common_ancestor ∷ (clones_down n (length r.cloned_elements) ++ (r.furthest_block ∷ r.new_element ∷ r.upper)))) lows.0
      ∙ ap (λ v. r'.lower ++ (v ∷ (clones_down n (length r.cloned_elements) ++ (r.furthest_block ∷ r.new_element ∷ r.upper)))) lows.1
      ∙ ap (λ v. r'.lower ++ (r'.common_ancestor ∷ (clones_down n (length v) ++ (r.furthest_block ∷ r.new_element ∷ r.upper)))) same-cs
      ∙ ap (λ v. r'.lower ++ (r'.common_ancestor ∷ (clones_down n (length r'.cloned_elements) ++ (v ∷ r.new_element ∷ r.upper)))) highs.here
      ∙ ap (λ v. r'.lower ++ (r'.common_ancestor ∷ (clones_down n (length r'.cloned_elements) ++ (r'.furthest_block ∷ v ∷ r.upper)))) same-k
      ∙ ap (λ v. r'.lower ++ (r'.common_ancestor ∷ (clones_down n (length r'.cloned_elements) ++ (r'.furthest_block ∷ r'.new_element ∷ v)))) highs.after)

  lists : q.list ≡ p.list
  lists =
      r'.list_is
      ∙ sym (r.list_is
      ∙ ap (λ v. flat_map (relisted v (λ x. not (has x r.inner)) r.cloned_elements n r.new_element) o.list) (sym same-f)
      ∙ ap (λ (v : List ℕ). flat_map (relisted r'.formatting_element (λ x. not (has x v)) r.cloned_elements n r.new_element) o.list) highs.before
      ∙ ap (λ v. flat_map (relisted r'.formatting_element (λ x. not (has x r'.inner)) v n r.new_element) o.list) same-cs
      ∙ ap (λ v. flat_map (relisted r'.formatting_element (λ x. not (has x r'.inner)) r'.cloned_elements n v) o.list) same-k)

  labels : q.tree.labels ≡ p.tree.labels
  labels =
      r'.labels_are
      ∙ sym (r.labels_are
      ∙ ap (λ v. o.tree.labels ++ map (λ x. cloned (label_of o.tree x)) (v ++ r.formatting_element ∷ [])) same-cs
      ∙ ap (λ v. o.tree.labels ++ map (λ x. cloned (label_of o.tree x)) (r'.cloned_elements ++ v ∷ [])) (sym same-f))

  children : (x : ℕ) → children_of q.tree x ≡ children_of p.tree x
  children x =
      r'.children_are x
      ∙ sym (r.children_are x
      ∙ ap (λ v. with_put o.tree (place_at o.tree o.stack v foster) (chain_top r.furthest_block n r.new_element) x (chained o.tree r.furthest_block n r.new_element x)) lows.1
      ∙ ap (λ v. with_put o.tree (place_at o.tree o.stack r'.common_ancestor foster) (chain_top v n r.new_element) x (chained o.tree v n r.new_element x)) highs.here
      ∙ ap (λ v. with_put o.tree (place_at o.tree o.stack r'.common_ancestor foster) (chain_top r'.furthest_block n v) x (chained o.tree r'.furthest_block n v x)) same-k)

  pub round-one : IsAlike p q
  round-one =
      let w = r.well_formed in
      let v = r'.well_formed in
      let l = ap length labels in
      let a = w.as_many_parents in
      let b = v.as_many_parents in
      let c = w.as_many_lists in
      let d = v.as_many_lists in
      record {
        same_stack = stacks;
        same_list = lists;
        same_labels = labels;
        same_parents = columns q.tree.parents p.tree.parents None (omega (arith, l, a, b)) (parents-by p.tree q.tree w v children);
        same_children = columns q.tree.children p.tree.children [] (omega (arith, l, c, d)) children;
        same_limits = r'.limits_are ∙ sym r.limits_are;
      }

-- marks, steps and what is held do not matter to the next
abbrev other : Tree → List Marks → ℕ → ℕ → Tree
other t ms held steps = record t { marks = ms; held = held; steps = steps }

put-other : (t : Tree) (ms : List Marks) (a b : ℕ) (p : Place) (c x : ℕ) (ys : List ℕ) → with_put (other t ms a b) p c x ys ≡ with_put t p c x ys
put-other t ms a b (Last p) c x ys = refl
put-other t ms a b (Before p) c x ys = refl

round-other : (s : Tag) (foster : Bool) (stack : List ℕ) (list : List Entry) (t : Tree) (ms : List Marks) (a b : ℕ) (q : Open) → Round s foster (open_at stack list (other t ms a b)) q
    → Round s foster (open_at stack list t) q
round-other s foster stack list t ms a b q r = record {
  lower = r.lower;
  common_ancestor = r.common_ancestor;
  formatting_element = r.formatting_element;
  inner = r.inner;
  furthest_block = r.furthest_block;
  upper = r.upper;
  stack_was = r.stack_was;
  formatting = r.formatting;
  in_scope = r.in_scope;
  none_between = r.none_between;
  block_special = r.block_special;
  cloned_elements = r.cloned_elements;
  cloned_are = r.cloned_are;
  new_element = r.new_element;
  new_element_is = r.new_element_is;
  stack_is = r.stack_is;
  list_is = r.list_is;
  labels_are = r.labels_are;
  children_are = λ x. r.children_are x ∙ put-other t ms a b (place_at t stack r.common_ancestor foster) (chain_top r.furthest_block (length t.labels) r.new_element) x (chained t r.furthest_block (length t.labels) r.new_element x);
  limits_are = r.limits_are;
  well_formed = r.well_formed;
  is_open = r.is_open;
}

alike-tree : (p q : Open) → IsAlike p q → q ≡ open_at p.stack p.list (other p.tree q.tree.marks q.tree.held q.tree.steps)
alike-tree p q k =
    ap (λ v. record q { stack = v }) k.same_stack
    ∙ ap (λ v. record q { stack = p.stack; list = v }) k.same_list
    ∙ ap (λ v. record q { stack = p.stack; list = p.list; tree = record (q.tree) { labels = v } }) k.same_labels
    ∙ ap (λ v. record q { stack = p.stack; list = p.list; tree = record (q.tree) { labels = p.tree.labels; parents = v } }) k.same_parents
    ∙ ap (λ v. record q { stack = p.stack; list = p.list; tree = record (q.tree) { labels = p.tree.labels; parents = p.tree.parents; children = v } }) k.same_children
    ∙ ap (λ v. record q { stack = p.stack; list = p.list; tree = record (q.tree) { labels = p.tree.labels; parents = p.tree.parents; children = p.tree.children; limits = v } }) k.same_limits

rounds-once : (s : Tag) (foster : Bool) (n : ℕ) (o p : Open) → Distinct o.stack → Rounds s foster n o p → Distinct p.stack
rounds-once s foster _ _ _ h (no_round o) = h
rounds-once s foster _ _ _ h (one_more n o p q rs r) = r.is_open.stack_once

-- what no rounds leave, and what one more leaves
pub data IsAfter (s : Tag) (foster : Bool) (o p : Open) : ℕ → Type 0 where
  at_once : p ≡ o → IsAfter s foster o p zero
  later : (n : ℕ) (m : Open) → Rounds s foster n o m → Round s foster m p → IsAfter s foster o p (suc n)

after : (s : Tag) (foster : Bool) (n : ℕ) (o p : Open) → Rounds s foster n o p → IsAfter s foster o p n
after s foster _ _ _ (no_round o) = at_once refl
after s foster _ _ _ (one_more n o p q rs r) = later n p rs r

rounds-one : (s : Tag) (foster : Bool) (n : ℕ) (o o' p q : Open) → Distinct o.stack → IsAlike o o' → Rounds s foster n o p → Rounds s foster n o' q → IsAlike p q
rounds-one s foster zero o o' p q h l a b = by (after s foster zero o p a) (after s foster zero o' q b)
  where
    by : IsAfter s foster o p zero → IsAfter s foster o' q zero → IsAlike p q
    by (at_once e) (at_once f) = subst (λ v. IsAlike v q) (sym e) (subst (λ v. IsAlike o v) (sym f) l)
rounds-one s foster (suc n) o o' p q h l a b = by (λ x y i j. rounds-one s foster n o o' x y h l i j) (after s foster (suc n) o p a) (after s foster (suc n) o' q b)
  where
    by : ((x y : Open) → Rounds s foster n o x → Rounds s foster n o' y → IsAlike x y) → IsAfter s foster o p (suc n) → IsAfter s foster o' q (suc n) → IsAlike p q
    by f (later _ x i r) (later _ y j r') =
        let k = f x y i j in
        round-one s foster x p q (rounds-once s foster n o x h i) r
        (round-other s foster x.stack x.list x.tree y.tree.marks y.tree.held y.tree.steps q (subst (λ v. Round s foster v q) (alike-tree x y k) r'))

-- where a round goes, a special element stands after the formatting one, so no end is near
above-of : (f : ℕ) (xs ys : List ℕ) → has f ys ≡ false → above (eqb f) (xs ++ f ∷ ys) ≡ ys
above-of f [] ys h = rw (any-has f ys ∙ h, eqb-self f) refl
above-of f (x ∷ xs) ys h = rw (any-has f (xs ++ f ∷ ys) ∙ has-right f xs (f ∷ ys) (has-first f ys)) (above-of f xs ys h)

any-middle : (p : ℕ → Bool) (xs ys : List ℕ) (g : ℕ) → p g ≡ true → list_any p (xs ++ g ∷ ys) ≡ true
any-middle p [] ys g h = rw h refl
any-middle p (x ∷ xs) ys g h = (let r = any-middle p xs ys g h in elim (cases_bool (p x)) [ inl a ↦ rw a refl | inr a ↦ rw a r ])

module _ (s : Tag) (foster : Bool) (o p : Open) (h : Distinct o.stack) (r : Round s foster o p) where
  abbrev front : List ℕ
  front = r.lower ++ r.common_ancestor ∷ []

  abbrev back : List ℕ
  back = r.inner ++ (r.furthest_block ∷ r.upper)

  parted : o.stack ≡ front ++ r.formatting_element ∷ back
  parted = r.stack_was ∙ sym (append_assoc r.lower (r.common_ancestor ∷ []) (r.formatting_element ∷ back))

  on-stack : has r.formatting_element o.stack ≡ true
  on-stack = ap (has r.formatting_element) parted ∙ has-right r.formatting_element front (r.formatting_element ∷ back) (has-first r.formatting_element back)

  blocked : list_any (special o.tree) (above (eqb r.formatting_element) o.stack) ≡ true
  blocked =
      let d = (Distinct-remove r.formatting_element front back (subst Distinct parted h)).1 in
      ap (λ v. list_any (special o.tree) (above (eqb r.formatting_element) v)) parted ∙ ap (list_any (special o.tree)) (above-of r.formatting_element front back (not-right r.formatting_element front back d)) ∙ any-middle (special o.tree) r.inner r.upper r.furthest_block r.block_special

  no-end : (end : AdoptEnd) (x q : Open) → x ≡ o → Ends s end x q → ⊥
  no-end _ _ _ e (closes x q k) =
      let f = same k.formatting_element (sym (ap (λ (v : Open). last_named v.tree s v.list) e) ∙ k.formatting) in
      false≢true (sym k.no_special ∙ ap (λ (v : Open). list_any (special v.tree) (above (eqb k.formatting_element) v.stack)) e ∙ ap (λ v. list_any (special o.tree) (above (eqb v) o.stack)) f ∙ blocked)
    where
      same : (f : ℕ) → last_named o.tree s o.list ≡ Some f → f ≡ r.formatting_element
      same f i = (let j : Some f ≡ Some r.formatting_element = sym i ∙ r.formatting in cc)
  no-end _ _ _ e (forgets x q k) =
      let f = same k.formatting_element (sym (ap (λ (v : Open). last_named v.tree s v.list) e) ∙ k.formatting) in
      false≢true (sym k.off_stack ∙ ap (λ (v : Open). has k.formatting_element v.stack) e ∙ ap (λ v. has v o.stack) f ∙ on-stack)
    where
      same : (f : ℕ) → last_named o.tree s o.list ≡ Some f → f ≡ r.formatting_element
      same f i = (let j : Some f ≡ Some r.formatting_element = sym i ∙ r.formatting in cc)
  no-end _ _ _ e (out_of_scope x q k) =
      let f = same k.formatting_element (sym (ap (λ (v : Open). last_named v.tree s v.list) e) ∙ k.formatting) in
      false≢true (sym k.not_in_scope ∙ ap (λ (v : Open). element_in_scope v.tree k.formatting_element v.stack) e ∙ ap (λ v. element_in_scope o.tree v o.stack) f ∙ r.in_scope)
    where
      same : (f : ℕ) → last_named o.tree s o.list ≡ Some f → f ≡ r.formatting_element
      same f i = (let j : Some f ≡ Some r.formatting_element = sym i ∙ r.formatting in cc)
  no-end _ _ _ e (no_entry x q k) =
      let j : None ≡ Some r.formatting_element = sym k.none ∙ ap (λ (v : Open). last_named v.tree s v.list) e ∙ r.formatting in absurd cc

-- how it ends, by the entry of the name
abbrev end_by : Option ℕ → AdoptEnd
end_by None = OtherEndTag
end_by (Some f) = Done

abbrev stack_by : Open → Option ℕ → List ℕ
stack_by o None = o.stack
stack_by o (Some f) = cond (has f o.stack) (cond (element_in_scope o.tree f o.stack) (below (eqb f) o.stack) o.stack) o.stack

abbrev list_by : Open → Option ℕ → List Entry
list_by o None = o.list
list_by o (Some f) = cond (has f o.stack) (cond (element_in_scope o.tree f o.stack) (without_node f o.list) o.list) (without_node f o.list)

record IsEnd (s : Tag) (end : AdoptEnd) (o p : Open) : Type 0 where
  end_is : end ≡ end_by (last_named o.tree s o.list)
  stack_is : p.stack ≡ stack_by o (last_named o.tree s o.list)
  list_is : p.list ≡ list_by o (last_named o.tree s o.list)
  tree_is : IsSameTree o.tree p.tree

ends-are : (s : Tag) (end : AdoptEnd) (o p : Open) → Ends s end o p → IsEnd s end o p
ends-are s _ _ _ (closes o p k) = record {
  end_is = sym (ap end_by k.formatting);
  stack_is = k.stack_is ∙ sym (ap (stack_by o) k.formatting ∙ rw (k.on_stack, k.in_scope) refl);
  list_is = k.list_is ∙ sym (ap (list_by o) k.formatting ∙ rw (k.on_stack, k.in_scope) refl);
  tree_is = k.tree_is;
}
ends-are s _ _ _ (forgets o p k) = record {
  end_is = sym (ap end_by k.formatting);
  stack_is = k.stack_is ∙ sym (ap (stack_by o) k.formatting ∙ rw k.off_stack refl);
  list_is = k.list_is ∙ sym (ap (list_by o) k.formatting ∙ rw k.off_stack refl);
  tree_is = k.tree_is;
}
ends-are s _ _ _ (out_of_scope o p k) = record {
  end_is = sym (ap end_by k.formatting);
  stack_is = k.unchanged.stack_is ∙ sym (ap (stack_by o) k.formatting ∙ rw (k.on_stack, k.not_in_scope) refl);
  list_is = k.unchanged.list_is ∙ sym (ap (list_by o) k.formatting ∙ rw (k.on_stack, k.not_in_scope) refl);
  tree_is = k.unchanged.tree_is;
}
ends-are s _ _ _ (no_entry o p k) = record {
  end_is = sym (ap end_by k.none);
  stack_is = k.unchanged.stack_is ∙ sym (ap (stack_by o) k.none);
  list_is = k.unchanged.list_is ∙ sym (ap (list_by o) k.none);
  tree_is = k.unchanged.tree_is;
}

-- two ends from one state, marks, steps and what is held apart
end-one : (s : Tag) (stack : List ℕ) (list : List Entry) (t : Tree) (ms : List Marks) (a b : ℕ) (end end' : AdoptEnd) (p q : Open) → IsEnd s end (open_at stack list t) p → IsEnd s end' (open_at stack list (other t ms a b)) q
    → (end ≡ end') × IsAlike p q
end-one s stack list t ms a b end end' p q k k' = (
  k.end_is ∙ sym k'.end_is,
  record {
    same_stack = k'.stack_is ∙ ap-other-stack (last_named t s list) ∙ sym k.stack_is;
    same_list = k'.list_is ∙ ap-other-list (last_named t s list) ∙ sym k.list_is;
    same_labels = ap (λ (v : Tree). v.labels) k'.tree_is ∙ sym (ap (λ (v : Tree). v.labels) k.tree_is);
    same_parents = ap (λ (v : Tree). v.parents) k'.tree_is ∙ sym (ap (λ (v : Tree). v.parents) k.tree_is);
    same_children = ap (λ (v : Tree). v.children) k'.tree_is ∙ sym (ap (λ (v : Tree). v.children) k.tree_is);
    same_limits = ap (λ (v : Tree). v.limits) k'.tree_is ∙ sym (ap (λ (v : Tree). v.limits) k.tree_is);
  },
)
  where
    ap-other-stack : (f : Option ℕ) → stack_by (open_at stack list (other t ms a b)) f ≡ stack_by (open_at stack list t) f
    ap-other-stack None = refl
    ap-other-stack (Some f) = refl

    ap-other-list : (f : Option ℕ) → list_by (open_at stack list (other t ms a b)) f ≡ list_by (open_at stack list t) f
    ap-other-list None = refl
    ap-other-list (Some f) = refl

-- of more rounds than n, the first n and the next
record HasNext (s : Tag) (foster : Bool) (n : ℕ) (o : Open) : Type 0 where
  m : Open
  next : Open
  rounds : Rounds s foster n o m
  round : Round s foster m next

has-next : (s : Tag) (foster : Bool) (k n : ℕ) (o p : Open) → n < k → Rounds s foster k o p → HasNext s foster n o
has-next s foster zero n o p b r = absurd (omega arith)
has-next s foster (suc k) n o p b r = by (λ m c i. has-next s foster k n o m c i) (after s foster (suc k) o p r)
  where
    order : (a c : ℕ) → a < suc c → (a ≡ c) ⊎ (a < c)
    order a c l = grind arith

    by : ((m : Open) → n < k → Rounds s foster k o m → HasNext s foster n o) → IsAfter s foster o p (suc k) → HasNext s foster n o
    by f (later _ m i j) = elim (order n k b) [
      | inl e ↦ record { m = m; next = p; rounds = subst (λ v. Rounds s foster v o m) (sym e) i; round = j }
      | inr e ↦ f m e i
    ]

alike-back : (p q : Open) → IsAlike p q → IsAlike q p
alike-back p q k = record {
  same_stack = sym k.same_stack;
  same_list = sym k.same_list;
  same_labels = sym k.same_labels;
  same_parents = sym k.same_parents;
  same_children = sym k.same_children;
  same_limits = sym k.same_limits;
}

-- after so many rounds it ended, so there is no other round
no-more : (s : Tag) (foster : Bool) (k n : ℕ) (o o' p x q : Open) (end : AdoptEnd) → Distinct o'.stack → IsAlike o' o → n < k → Rounds s foster k o p → Rounds s foster n o' x → Ends s end x q → ⊥
no-more s foster k n o o' p x q end h l b r i e =
    let j = has-next s foster k n o p b r in
    let a = rounds-one s foster n o' o x j.m h l i j.rounds in
    let r' = round-other s foster x.stack x.list x.tree j.m.tree.marks j.m.tree.held j.m.tree.steps j.next (subst (λ v. Round s foster v j.next) (alike-tree x j.m a) j.round) in
    no-end s foster x j.next (rounds-once s foster n o' x h i) r' end x q refl e

-- the ways of an adoption
data IsWay (s : Tag) (foster : Bool) (end : AdoptEnd) (o p : Open) : Type 0 where
  by_pop : end ≡ Done → Popped s o p → IsWay s foster end o p
  by_eight : end ≡ Done → pops_at_once s o (last_of o.stack) ≡ false → Rounds s foster 8 o p → IsWay s foster end o p
  by_fewer : (n : ℕ) (m : Open) → pops_at_once s o (last_of o.stack) ≡ false → n < 8 → Rounds s foster n o m → Ends s end m p → IsWay s foster end o p

way : (s : Tag) (foster : Bool) (end : AdoptEnd) (o p : Open) → Adopted s foster end o p → IsWay s foster end o p
way s foster _ _ _ (popped o p k) = by_pop refl k
way s foster _ _ _ (eight o p n r) = by_eight refl n r
way s foster _ _ _ (fewer end n o p q c b r e) = by_fewer n p c b r e

pops : (s : Tag) (o p : Open) → Popped s o p → pops_at_once s o (last_of o.stack) ≡ true
pops s o p k = ap (pops_at_once s o) (ap last_of k.stack_was ∙ last-pushed p.stack k.current) ∙ rw (k.is_named, k.not_listed) refl

popped-one : (s : Tag) (o o' p q : Open) → IsAlike o o' → Popped s o p → Popped s o' q → IsAlike p q
popped-one s o o' p q l k k' = record {
  same_stack = (last-one k'.current k.current q.stack p.stack (sym k'.stack_was ∙ l.same_stack ∙ k.stack_was)).0;
  same_list = k'.list_is ∙ l.same_list ∙ sym k.list_is;
  same_labels = ap (λ (v : Tree). v.labels) k'.tree_is ∙ l.same_labels ∙ sym (ap (λ (v : Tree). v.labels) k.tree_is);
  same_parents = ap (λ (v : Tree). v.parents) k'.tree_is ∙ l.same_parents ∙ sym (ap (λ (v : Tree). v.parents) k.tree_is);
  same_children = ap (λ (v : Tree). v.children) k'.tree_is ∙ l.same_children ∙ sym (ap (λ (v : Tree). v.children) k.tree_is);
  same_limits = ap (λ (v : Tree). v.limits) k'.tree_is ∙ l.same_limits ∙ sym (ap (λ (v : Tree). v.limits) k.tree_is);
}

-- whether the current node is popped at once does not hang on marks, steps and what is held
pops-one : (s : Tag) (o o' : Open) → IsAlike o o' → pops_at_once s o' (last_of o'.stack) ≡ pops_at_once s o (last_of o.stack)
pops-one s o o' l = ap (λ v. pops_at_once s v (last_of v.stack)) (alike-tree o o' l) ∙ same (last_of o.stack)
  where
    same : (x : Option ℕ) → pops_at_once s (open_at o.stack o.list (other o.tree o'.tree.marks o'.tree.held o'.tree.steps)) x ≡ pops_at_once s o x
    same None = refl
    same (Some x) = refl

module _ (s : Tag) (foster : Bool) (end end' : AdoptEnd) (o o' p q : Open) (h : Distinct o.stack) (l : IsAlike o o') where
  h' : Distinct o'.stack
  h' = subst Distinct (sym l.same_stack) h

  fewer-one : (n n' : ℕ) (m m' : Open) → Rounds s foster n o m → Ends s end m p → Rounds s foster n' o' m' → Ends s end' m' q → (end ≡ end') × IsAlike p q
  fewer-one n n' m m' r e r' e' = elim (order n n') [
    | inl b ↦ absurd (no-more s foster n' n o' o m' m p end h l b r' r e)
    | inr c ↦ elim c [
      | inl b ↦ absurd (no-more s foster n n' o o' m m' q end' h' (alike-back o o' l) b r r' e')
      | inr b ↦
          let a = rounds-one s foster n o o' m m' h l r (subst (λ v. Rounds s foster v o' m') (sym b) r') in
          end-one s m.stack m.list m.tree m'.tree.marks m'.tree.held m'.tree.steps end end' p q (ends-are s end m p e) (subst (λ v. IsEnd s end' v q) (alike-tree m m' a) (ends-are s end' m' q e'))
    ]
  ]
    where
      order : (a b : ℕ) → (a < b) ⊎ ((b < a) ⊎ (a ≡ b))
      order a b = grind arith

  not-both : pops_at_once s o (last_of o.stack) ≡ false → Popped s o' q → ⊥
  not-both c k = false≢true (sym c ∙ sym (pops-one s o o' l) ∙ pops s o' q k)

  not-both' : pops_at_once s o' (last_of o'.stack) ≡ false → Popped s o p → ⊥
  not-both' c k = false≢true (sym c ∙ pops-one s o o' l ∙ pops s o p k)

  ways-one : IsWay s foster end o p → IsWay s foster end' o' q → (end ≡ end') × IsAlike p q
  ways-one (by_pop e k) (by_pop e' k') = (e ∙ sym e', popped-one s o o' p q l k k')
  ways-one (by_pop e k) (by_eight e' c r) = absurd (not-both' c k)
  ways-one (by_pop e k) (by_fewer n m c b r i) = absurd (not-both' c k)
  ways-one (by_eight e c r) (by_pop e' k) = absurd (not-both c k)
  ways-one (by_eight e c r) (by_eight e' c' r') = (e ∙ sym e', rounds-one s foster 8 o o' p q h l r r')
  ways-one (by_eight e c r) (by_fewer n m c' b r' i) = absurd (no-more s foster 8 n o o' p m q end' h' (alike-back o o' l) b r r' i)
  ways-one (by_fewer n m c b r i) (by_pop e k) = absurd (not-both c k)
  ways-one (by_fewer n m c b r i) (by_eight e c' r') = absurd (no-more s foster 8 n o' o q m p end h l b r' r i)
  ways-one (by_fewer n m c b r i) (by_fewer n' m' c' b' r' i') = fewer-one n n' m m' r i r' i'

pub adopted-one : (s : Tag) (foster : Bool) (end end' : AdoptEnd) (o o' p q : Open) → Distinct o.stack → IsAlike o o' → Adopted s foster end o p → Adopted s foster end' o' q → (end ≡ end') × IsAlike p q
adopted-one s foster end end' o o' p q h l a b = ways-one s foster end end' o o' p q h l (way s foster end o p a) (way s foster end' o' q b)

-- NO NODE STANDS TWICE ON THE STACK AFTER ONE

same-long : (t u : Tree) → IsSameTree t u → u.labels ≡ t.labels
same-long t u e = ap (λ (v : Tree). v.labels) e

rounds-kept : (s : Tag) (foster : Bool) (n : ℕ) (o p : Open) → AreOnce (length o.tree.labels) o.stack → Rounds s foster n o p → AreOnce (length p.tree.labels) p.stack
rounds-kept s foster _ _ _ h (no_round o) = h
rounds-kept s foster _ _ _ h (one_more n o p q rs r) = record { once = r.is_open.stack_once; in_tree = r.is_open.stack_in }

-- the same nodes, and part of the stack
part-kept : (o p : Open) → p.tree.labels ≡ o.tree.labels → IsPart p.stack o.stack → AreOnce (length o.tree.labels) o.stack → AreOnce (length p.tree.labels) p.stack
part-kept o p e k h = subst (λ ls. AreOnce (length ls) p.stack) (sym e) (once-part _ _ p.stack o.stack (le_refl _) k h)

stack-part : (xs ys zs : List ℕ) → xs ≡ ys → IsPart ys zs → IsPart xs zs
stack-part xs ys zs e k = subst (λ v. IsPart v zs) (sym e) k

ends-kept : (s : Tag) (end : AdoptEnd) (o p : Open) → AreOnce (length o.tree.labels) o.stack → Ends s end o p → AreOnce (length p.tree.labels) p.stack
ends-kept s _ _ _ h (closes o p k) = part-kept o p (same-long o.tree p.tree k.tree_is) (stack-part p.stack (below (eqb k.formatting_element) o.stack) o.stack k.stack_is (part-below (eqb k.formatting_element) o.stack)) h
ends-kept s _ _ _ h (forgets o p k) = part-kept o p (same-long o.tree p.tree k.tree_is) (stack-part p.stack o.stack o.stack k.stack_is (part-self o.stack)) h
ends-kept s _ _ _ h (out_of_scope o p k) = part-kept o p (same-long o.tree p.tree k.unchanged.tree_is) (stack-part p.stack o.stack o.stack k.unchanged.stack_is (part-self o.stack)) h
ends-kept s _ _ _ h (no_entry o p k) = part-kept o p (same-long o.tree p.tree k.unchanged.tree_is) (stack-part p.stack o.stack o.stack k.unchanged.stack_is (part-self o.stack)) h

part-left : (xs ys : List ℕ) → IsPart xs (xs ++ ys)
part-left xs ys = record { there = λ x h. has-left x xs ys h; once = λ d. distinct-left xs ys d }

pub adopted-once : (s : Tag) (foster : Bool) (end : AdoptEnd) (o p : Open) → Adopted s foster end o p → AreOnce (length o.tree.labels) o.stack → AreOnce (length p.tree.labels) p.stack
adopted-once s foster end o p a h = by (way s foster end o p a)
  where
    by : IsWay s foster end o p → AreOnce (length p.tree.labels) p.stack
    by (by_pop e k) = part-kept o p (same-long o.tree p.tree k.tree_is) (subst (IsPart p.stack) (sym k.stack_was) (part-left p.stack (k.current ∷ []))) h
    by (by_eight e c r) = rounds-kept s foster 8 o p h r
    by (by_fewer n m c b r i) = ends-kept s end m p (rounds-kept s foster n o m h r) i
