-- A new formatting element, opened and listed.
use Rattle.std.proofs.Common.{◌≡◌, ℕ, ◌+◌, ◌*◌, ◌≤◌, Bool, true, false, cond, nat_le, List, [], ◌∷◌, ◌++◌, length, Option, Some, None, inl, inr, refl, ◌∙◌, ap, arith, length-append}
use Rattle.std.specs.Prelude.{◌&&◌, count_by, sum_by}
use mathlib.Core.Path.{fun_ext}
use Rattle.html_names.specs.Tags.{is_same}
use Rattle.html_arena.specs.Data.{attrs_in, label_in, tag_in}
use Rattle.html_arena.specs.Tree.{Tree, more}
use Rattle.html_open.specs.declared.entry.Entry.{Entry}
use Rattle.html_open.specs.declared.entry.Entry.TheVariants.{Marker, Node}
use Rattle.html_open.specs.Attributes.{same_attrs}
use Rattle.html_open.specs.Entries.{alike, has_three, comparisons, is_marker, push_steps, pushed}
use Rattle.html_open.specs.Lists.{above, after_first, looked, up_to, without_first}
use Rattle.std.specs.List.{list_any}
use Rattle.html_arena.specs.declared.marks.Mark.{Mark}
use Rattle.html_open.specs.Opened.{CanList, open_at}
use Rattle.html_open.proofs.Keeps.{cases_bool}
use Rattle.html_open.specs.Marking.{bare, unmarked}
use Rattle.html_arena.specs.declared.data.Origin.TheVariants.{Token}
use Rattle.html_tree.specs.Inserting.{IsFor}
use Rattle.html_tree.specs.States.{State}
use Rattle.html_tree.proofs.Kept.{state}

alike-same : (t u : Tree) (x : ℕ) → t.labels ≡ u.labels → (e : Entry) → alike t x e ≡ alike u x e
alike-same t u x h Marker = refl
alike-same t u x h (Node y) = ap (λ ls. is_same (tag_in (label_in ls y)) (tag_in (label_in ls x)) && same_attrs (attrs_in (label_in ls x)) (attrs_in (label_in ls y))) h

comparisons-same : (t u : Tree) (x : ℕ) → t.labels ≡ u.labels → (e : Entry) → comparisons t x e ≡ comparisons u x e
comparisons-same t u x h Marker = refl
comparisons-same t u x h (Node y) = ap (λ ls. cond (is_same (tag_in (label_in ls y)) (tag_in (label_in ls x))) (length (attrs_in (label_in ls x)) * length (attrs_in (label_in ls y))) 0) h

pub pushed-same : (t u : Tree) (x : ℕ) (l : List Entry) → t.labels ≡ u.labels → pushed t x l ≡ pushed u x l
pushed-same t u x l h =
    ap (λ (p : Entry → Bool). cond (nat_le 3 (count_by p (above is_marker l))) (up_to is_marker l ++ without_first p (above is_marker l)) l ++ Node x ∷ []) (fun_ext (alike-same t u x h))

pub push_steps-same : (t u : Tree) (x : ℕ) (l : List Entry) → t.labels ≡ u.labels → push_steps t x l ≡ push_steps u x l
push_steps-same t u x l h =
    ap (λ (p : Entry → Bool). 1 + looked is_marker l + sum_by (comparisons t x) (above is_marker l) + cond (nat_le 3 (count_by p (above is_marker l))) (1 + length (after_first p (above is_marker l))) 0) (fun_ext (alike-same t u x h))
    ∙ ap (λ (q : Entry → ℕ). 1 + looked is_marker l + sum_by q (above is_marker l) + cond (nat_le 3 (count_by (alike u x) (above is_marker l))) (1 + length (after_first (alike u x) (above is_marker l))) 0) (fun_ext (comparisons-same t u x h))

pub token-for : (n i : ℕ) → n ≤ i → IsFor (Token i) n (i + 1)
token-for n i h j e = (let k : i ≡ j = (let q = e in cc) in (omega arith, omega arith))

pub bare-listed : (s : List ℕ) (l : List Entry) (t : Tree) (x : ℕ) → CanList (open_at s l t) x → CanList (open_at s l (bare t)) x
bare-listed s l t x c = record { node_in = c.node_in; formatting = c.formatting; absent = c.absent; origin_new = c.origin_new; shared = c.shared }

pub full-listed : (s : List ℕ) (l : List Entry) (t : Tree) (x : ℕ) → CanList (open_at s l (bare t)) x → CanList (open_at s l t) x
full-listed s l t x c = record { node_in = c.node_in; formatting = c.formatting; absent = c.absent; origin_new = c.origin_new; shared = c.shared }

pub bare-unmarked : (t : Tree) (m : Mark) (o : Option ℕ) → bare (unmarked t m o) ≡ bare t
bare-unmarked t m None = refl
bare-unmarked t m (Some x) = refl

pub unmarked-steps : (t : Tree) (m : Mark) (o : Option ℕ) → (unmarked t m o).steps ≡ t.steps
unmarked-steps t m None = refl
unmarked-steps t m (Some x) = refl

without-first-most : {X : Type 0} (p : X → Bool) (xs : List X) → length (without_first p xs) ≤ length xs
without-first-most p [] = omega arith
without-first-most p (x ∷ xs) = (let r = without-first-most p xs in elim (cases_bool (p x)) [ inl e ↦ rw e (omega arith) | inr e ↦ rw e (omega arith) ])

up-above : {X : Type 0} (p : X → Bool) (xs : List X) → length (up_to p xs) + length (above p xs) ≡ length xs
up-above p [] = refl
up-above p (x ∷ xs) = let r = up-above p xs in elim (cases_bool (list_any p xs)) [
  | inl e ↦ rw e (omega arith)
  | inr e ↦ rw e (elim (cases_bool (p x)) [ inl f ↦ rw f (omega arith) | inr f ↦ rw f (omega arith) ])
]

pub pushed-most : (t : Tree) (x : ℕ) (l : List Entry) → length (pushed t x l) ≤ length l + 1
pushed-most t x l = by (has_three t x l)
  where
    by : (b : Bool) → length (cond b (up_to is_marker l ++ without_first (alike t x) (above is_marker l)) l ++ Node x ∷ []) ≤ length l + 1
    by true = (let a = length-append (up_to is_marker l ++ without_first (alike t x) (above is_marker l)) (Node x ∷ []) in
        let b = length-append (up_to is_marker l) (without_first (alike t x) (above is_marker l)) in
        let c = without-first-most (alike t x) (above is_marker l) in
        let d = up-above is_marker l in omega (arith, a, b, c, d))
    by false = (let a = length-append l (Node x ∷ []) in omega (arith, a))

module _ (a m b : State) (x y : ℕ) (s : List ℕ) (t : Tree) (n : ℕ) (e : m ≡ record a { stack = s; tree = t; steps = m.steps; tokens = n }) (i : x ≡ y) where
  pub enlisted-exact : b ≡ record m { list = pushed m.tree x m.list; steps = b.steps } → b ≡ record a { stack = s; list = pushed t y a.list; tree = t; steps = b.steps; tokens = n }
  enlisted-exact f =
      f ∙ ap (λ (v : State). record v { list = pushed v.tree x v.list; steps = b.steps }) e
      ∙ ap (λ (z : ℕ). state s (pushed t z a.list) t b.steps n a.head a.form a.detached) i

  pub enlisted-steps : (k : ℕ) → b.steps ≤ m.steps + push_steps m.tree x m.list → m.steps ≤ a.steps + k → b.steps ≤ a.steps + k + push_steps t y a.list
  enlisted-steps k f g =
      let q : push_steps m.tree x m.list ≡ push_steps t y a.list = ap (λ (v : State). push_steps v.tree x v.list) e ∙ ap (λ z. push_steps t z a.list) i in
      omega (arith, f, g, q)

  pub enlisted-counted : (k : ℕ) → b.steps ≡ more m.steps (push_steps m.tree x m.list) → m.steps ≡ more a.steps k → b.steps ≡ more a.steps (k + push_steps t y a.list)
  enlisted-counted k f g =
      let q : push_steps m.tree x m.list ≡ push_steps t y a.list = ap (λ (v : State). push_steps v.tree x v.list) e ∙ ap (λ z. push_steps t z a.list) i in
      omega (arith, f, g, q)
