-- Steps, charged one after the other.
use Rattle.std.proofs.Common.{◌≡◌, ℕ, ◌+◌, ◌-◌, ◌*◌, ◌<◌, ◌≤◌, Bool, true, false, cond, not, ◌&&◌, is_some, List, [], ◌∷◌, length, min, Option, Some, None, refl, sym, ◌∙◌, ap, arith, ◌^◌, suc, zero}
use Rattle.std.proofs.lemmas.Bool.{false≢true}
use Rattle.std.proofs.lemmas.Nat.{mul-le}
use Rattle.html_names.specs.Sets.{is_fostering}
use Rattle.html_names.specs.declared.tag.Tag.TheVariants as tag
use Rattle.html_arena.specs.Tree.{Tree, more, named, tag_at}
use Rattle.html_open.specs.Placing.{target_of}
use Rattle.html_open.specs.declared.entry.Entry.{Entry}
use Rattle.html_open.specs.Marking.{bare, charged}
use Rattle.html_open.specs.Lists.{last_index, looked, steps_down}
use Rattle.html_open.proofs.Lists.{steps_index}
use Rattle.html_tree.specs.declared.groups.Target.{Target}
use Rattle.html_tree.specs.declared.groups.Target.TheVariants as target
use Rattle.html_tree.specs.States.{State, state_of}
use Rattle.html_tree.specs.Steps.{closed_count, here_steps, new_text_steps, some_open}
use Rattle.html_tree.specs.Targets.{target_steps}

pub more-more : (s a b : ℕ) → more (more s a) b ≡ more s (a + b)
more-more s a b = omega arith

pub target-bare : (t : Tree) (s : List ℕ) (at : Target) → target_steps (bare t) s at ≡ target_steps t s at
target-bare t s (target.Current foster) = refl
target-bare t s target.Head = refl
target-bare t s target.First = refl
target-bare t s target.Document = refl

pub read-counted : (a : State) (s : List ℕ) (l : List Entry) (t u : Tree) (n k : ℕ) (h f d : Option ℕ) → state_of s l t n h f d ≡ a → u ≡ charged t k → u.steps ≡ more a.steps k
read-counted a s l t u n k h f d e g = ap (λ (v : Tree). v.steps) g ∙ ap (λ (v : State). more v.steps k) e

-- no p is sought where none can be found
pub lacks-value : (r : Bool) (s : List ℕ) (o : Option ℕ) → (r ≡ true → o ≡ None) → (r ≡ true → 0 < length s) → (r ≡ false → o ≡ None → length s ≡ 0) → r ≡ (some_open s && not (is_some o))
lacks-value true [] o a b c = absurd (let k = b refl in omega (arith, k))
lacks-value true (x ∷ s) None a b c = refl
lacks-value true (x ∷ s) (Some y) a b c = absurd (let k : Some y ≡ None = a refl in cc)
lacks-value false [] o a b c = refl
lacks-value false (x ∷ s) None a b c = absurd (let k = c refl refl in omega (arith, k))
lacks-value false (x ∷ s) (Some y) a b c = refl

pub cond-yes : {A : Type 0} (b : Bool) (x y : A) → b ≡ true → cond b x y ≡ x
cond-yes true x y e = refl
cond-yes false x y e = absurd (false≢true e)

pub cond-no : {A : Type 0} (b : Bool) (x y : A) → b ≡ false → cond b x y ≡ y
cond-no true x y e = absurd (false≢true (sym e))
cond-no false x y e = refl

pub and-no : (a b : Bool) → (a ≡ true → b ≡ false) → (a && b) ≡ false
and-no true b h = h refl
and-no false b h = refl

-- what each of n code points costs, where the first costs its place and a new text besides
pub run-steps : (s p e n x y z w : ℕ) → 0 < n → x ≡ more s (p + e) → y ≡ more x n → z ≡ min (p * (n - 1)) (2 ^ 128 - 1) → w ≡ more y z → w ≡ more s (n * (p + 1) + e)
run-steps s p e zero x y z w b f g h k = absurd (omega (arith, b))
run-steps s p e (suc m) x y z w b f g h k =
    let r : suc m - 1 ≡ m = omega arith in
    let q : suc m * (p + 1) ≡ p + p * m + suc m = grind arith in
    let j : z ≡ min (p * m) (2 ^ 128 - 1) = h ∙ ap (λ i. min (p * i) (2 ^ 128 - 1)) r in
    omega (arith, f, g, j, k, q)

pub run-most : (s p e n l w : ℕ) → 0 < n → p ≤ l + 1 → e ≤ p + 2 → w ≡ more s (n * (p + 1) + e) → w ≤ s + n * (2 * l + 4) + n
run-most s p e n l w b f g h =
    let i = mul-le n (p + 1) n (l + 2) (omega arith) (omega (arith, f)) in
    let j = mul-le 1 (l + 3) n (l + 3) (omega (arith, b)) (omega arith) in
    let k : n * (2 * l + 4) + n ≡ n * (l + 2) + n * (l + 3) = grind arith in
    omega (arith, f, g, h, i, j, k)

pub new-text-most : (o : Option ℕ) (k : ℕ) → new_text_steps o k ≤ k + 2
new-text-most None k = omega arith
new-text-most (Some x) k = omega arith

-- the steps of a place that is fostered
pub here-fosters : (a : State) (f r : Bool) (n : ℕ) → f ≡ true → r ≡ true → r ≡ is_fostering (tag_at a.tree (target_of a.stack None)) → n ≡ looked (named a.tree tag.Table) a.stack → 1 + n ≡ here_steps a f
here-fosters a true true n i j e h = ap (λ k. 1 + k) h ∙ ap (λ b. 1 + cond b (looked (named a.tree tag.Table) a.stack) 0) e
here-fosters a true false n i j e h = absurd (false≢true j)
here-fosters a false r n i j e h = absurd (false≢true i)

-- a walk down the stack looks at so many elements
pub walk-steps : (p : ℕ → Bool) (xs ys : List ℕ) (o : Option ℕ) (n : ℕ) → n ≡ steps_down (length xs) o → o ≡ last_index p xs → xs ≡ ys → n ≡ looked p ys
walk-steps p xs ys o n e h f = e ∙ steps_index p xs o (length xs) refl h ∙ ap (λ v. looked p v) f

-- a walk, and a closing of elements after that
pub walked-closed : (a m b : State) (n : ℕ) → m ≡ record a { steps = m.steps } → m.steps ≡ more a.steps n → b.steps ≡ more m.steps (closed_count m b) → b.steps ≡ more a.steps (n + closed_count a b)
walked-closed a m b n e f g =
    let h : closed_count m b ≡ closed_count a b = ap (λ (v : State). closed_count v b) e in
    g ∙ ap (λ k. more m.steps k) h ∙ ap (λ s. more s (closed_count a b)) f ∙ more-more a.steps n (closed_count a b)

pub two-more : (a m b n k : ℕ) → m ≡ more a n → b ≡ more m k → b ≡ more a (n + k)
two-more a m b n k e f = omega (arith, e, f)
