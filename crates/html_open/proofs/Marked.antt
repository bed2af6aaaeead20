-- Marks that are set or cleared on many nodes.
use Rattle.std.proofs.Common.{◌≡◌, ℕ, ◌+◌, ◌<◌, ◌≤◌, Bool, true, false, cond, eqb, nat_le, nat_lt, ◌&&◌, List, [], ◌∷◌, ◌++◌, length, get_or, set, take, inl, inr, refl, sym, ◌∙◌, ap, arith}
use Rattle.std.proofs.lemmas.Bool.Decides.{nat_tests}
use Rattle.std.proofs.lemmas.List.{get_or-set_same, get_or-set_other, length-set, take_more}
use Rattle.html_arena.specs.declared.marks.Mark.{Mark}
use Rattle.html_arena.specs.declared.marks.Mark.TheVariants.{OnStack, InList}
use Rattle.html_arena.specs.declared.marks.Marks.{Marks}
use Rattle.html_arena.specs.Marks.{has_mark, with_mark, no_marks}
use Rattle.html_arena.specs.Siblings.{has}
use Rattle.html_arena.specs.Tree.{Tree, marked, marks_of, with_marked}
use Rattle.html_open.specs.Cloning.{HaveEntered, HaveLeft}
use Rattle.html_open.proofs.Keeps.{cases_eqb, has-append}

both : (b : Bool) (m : Mark) (k : Marks) → has_mark m (with_mark InList b (with_mark OnStack b k)) ≡ b
both b OnStack k = refl
both b InList k = refl

-- both marks of a node are written
pub both-marked : (t : Tree) (c : ℕ) (b : Bool) → c < length t.marks → (m : Mark) (x : ℕ) → marked (with_marked (with_marked t OnStack c b) InList c b) m x ≡ cond (eqb x c) b (marked t m x)
both-marked t c b l m x =
    let k = with_mark OnStack b (marks_of t c) in
    let e : marks_of (with_marked t OnStack c b) c ≡ k = get_or-set_same t.marks c k no_marks l in
    let n = length-set t.marks c k in
    let r : c < length (set t.marks c k) = omega arith in
    elim (cases_eqb x c) [
      | inl q ↦ rw (q.0, q.1) (ap (has_mark m) (get_or-set_same (set t.marks c k) c (with_mark InList b (marks_of (with_marked t OnStack c b) c)) no_marks r ∙ ap (with_mark InList b) e) ∙ both b m (marks_of t c))
      | inr q ↦ rw q.0 (ap (has_mark m) (get_or-set_other (set t.marks c k) c x (with_mark InList b (marks_of (with_marked t OnStack c b) c)) no_marks q.1 ∙ get_or-set_other t.marks c x k no_marks q.1))
    ]

-- only marks are written
pub marks-alone : (t u : Tree) (m : Mark) (c : ℕ) (b : Bool) → u ≡ with_marked t m c b → u ≡ record t { marks = u.marks }
marks-alone t u m c b e = e ∙ sym (ap (λ (v : Tree). record t { marks = v.marks }) e)

pub marks-then : (t u v : Tree) → u ≡ record t { marks = u.marks } → v ≡ record u { marks = v.marks } → v ≡ record t { marks = v.marks }
marks-then t u v e f = f ∙ ap (λ (w : Tree). record w { marks = v.marks }) e

pub marks-both : (t u v w : Tree) (c : ℕ) (b : Bool) → u ≡ record t { marks = u.marks } → v ≡ with_marked u OnStack c b → w ≡ with_marked v InList c b → w ≡ record t { marks = w.marks }
marks-both t u v w c b e f g = marks-then t v w (marks-then t u v e (marks-alone u v OnStack c b f)) (marks-alone v w InList c b g)

written : (u v w : Tree) (c : ℕ) (b : Bool) → c < length u.marks → v ≡ with_marked u OnStack c b → w ≡ with_marked v InList c b → (m : Mark) (x : ℕ) → marked w m x ≡ cond (eqb x c) b (marked u m x)
written u v w c b l f g m x =
    ap (λ (t : Tree). marked t m x) g ∙ ap (λ (t : Tree). marked (with_marked t InList c b) m x) f ∙ both-marked u c b l m x

-- one node more has left
pub left-step : (t u v w : Tree) (xs : List ℕ) (i c : ℕ) → i < length xs → c ≡ get_or xs i c → c < length u.marks
    → HaveLeft t u (take i xs) → v ≡ with_marked u OnStack c false → w ≡ with_marked v InList c false → HaveLeft t w (take (i + 1) xs)
left-step t u v w xs i c l e r h f g = λ m x.
    let k : take (i + 1) xs ≡ take i xs ++ c ∷ [] = take_more xs i c l ∙ ap (λ (y : ℕ). take i xs ++ y ∷ []) (sym e) in
    written u v w c false r f g m x ∙ ap (cond (eqb x c) false) (h m x)
    ∙ plain (has x (take i xs)) (eqb x c) (marked t m x)
    ∙ sym (ap (λ b. cond b false (marked t m x)) (ap (has x) k ∙ has-append x (take i xs) (c ∷ [])))
  where
    plain : (a b d : Bool) → cond b false (cond a false d) ≡ cond (cond a true (cond b true false)) false d
    plain true true d = refl
    plain true false d = refl
    plain false true d = refl
    plain false false d = refl

-- one node more has entered
pub entered-step : (t u v w : Tree) (n i c : ℕ) → n ≤ i → c ≡ i → c < length u.marks
    → HaveEntered t u n i → v ≡ with_marked u OnStack c true → w ≡ with_marked v InList c true → HaveEntered t w n (i + 1)
entered-step t u v w n i c l e r h f g = λ m x. written u v w c true r f g m x ∙ ap (cond (eqb x c) true) (h m x) ∙ ap (λ y. cond (eqb x y) true (cond (nat_le n x && nat_lt x i) true (marked t m x))) e ∙ plain x (marked t m x)
  where
    plain : (x : ℕ) (d : Bool) → cond (eqb x i) true (cond (nat_le n x && nat_lt x i) true d) ≡ cond (nat_le n x && nat_lt x (i + 1)) true d
    plain x d = elim (cases_eqb x i) [
      | inl q ↦ (let a : (nat_le n i && nat_lt i (i + 1)) ≡ true = grind (arith, nat_tests) in rw (q.0, q.1, a) refl)
      | inr q ↦ (let k = q.1 in let a : nat_lt x i ≡ nat_lt x (i + 1) = grind (arith, nat_tests) in rw (q.0, a) refl)
    ]

pub entered-none : (t u : Tree) (n : ℕ) → u ≡ t → HaveEntered t u n n
entered-none t u n e = λ m x. (let a : (nat_le n x && nat_lt x n) ≡ false = grind (arith, nat_tests) in ap (λ (v : Tree). marked v m x) e ∙ rw a refl)
