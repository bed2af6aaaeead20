-- What is popped, and trees without their marks.
use Rattle.std.proofs.Common.{◌≡◌, ℕ, List, [], ◌∷◌, ◌++◌, Option, Some, None, refl, sym, ◌∙◌, ap}
use Rattle.html_arena.specs.declared.marks.Mark.{Mark}
use Rattle.html_arena.specs.declared.marks.Mark.TheVariants.{OnStack}
use Rattle.html_arena.specs.Siblings.{last_of, or_else}
use Rattle.html_arena.specs.Tree.{Tree}
use Rattle.html_open.specs.Lists.{with_last}
use Rattle.html_open.specs.Marking.{all_unmarked, bare, charged, unmarked}

pub last-pushed : (xs : List ℕ) (x : ℕ) → last_of (xs ++ x ∷ []) ≡ Some x
last-pushed [] x = refl
last-pushed (y ∷ xs) x = ap (λ o. or_else o (Some y)) (last-pushed xs x)

-- the element that is popped is the current node
pub popped-last : (s t : List ℕ) (o : Option ℕ) (x : ℕ) → s ≡ with_last t o → (o ≡ None → s ≡ []) → last_of s ≡ Some x → s ≡ t ++ x ∷ []
popped-last s t None x e n h = absurd (let k : last_of s ≡ None = ap last_of (n refl) in cc)
popped-last s t (Some y) x e n h = (let q : Some y ≡ Some x = sym (last-pushed t y) ∙ sym (ap last_of e) ∙ h in let r : y ≡ x = cc in e ∙ ap (λ z. t ++ z ∷ []) r)

pub bare-popped : (t : Tree) (o : Option ℕ) (k : ℕ) → bare (charged (unmarked t OnStack o) k) ≡ bare t
bare-popped t None k = refl
bare-popped t (Some x) k = refl

pub all_unmarked-labels : (t : Tree) (m : Mark) (xs : List ℕ) → (all_unmarked t m xs).labels ≡ t.labels
all_unmarked-labels t m [] = refl
all_unmarked-labels t m (x ∷ xs) = all_unmarked-labels t m xs

pub bare-all : (t : Tree) (m : Mark) (xs : List ℕ) → bare (all_unmarked t m xs) ≡ bare t
bare-all t m [] = refl
bare-all t m (x ∷ xs) = bare-all t m xs
