-- Another list over the same tree.
use Rattle.std.proofs.Common.{◌≡◌, ℕ, suc, ◌+◌, ◌*◌, ◌≤◌, Bool, List, [], ◌∷◌, ◌++◌, length, Option, inl, inr, refl, ◌∙◌, ap, subst, arith, length-append}
use Rattle.std.specs.List.{list_any}
use Rattle.html_arena.specs.Tree.{Tree, more}
use Rattle.html_open.specs.declared.entry.Entry.{Entry}
use Rattle.html_open.specs.Entries.{removal_steps}
use Rattle.html_open.specs.Lists.{above, below, without_last}
use Rattle.html_open.specs.Marking.{bare}
use Rattle.html_open.specs.Opened.{IsOpen, open_at}
use Rattle.html_open.proofs.Keeps.{cases_bool, split-last}
use Rattle.html_tree.specs.Since.{Grown, Keeps}
use Rattle.html_tree.specs.States.{IsUnderWay, State, state_of}
use Rattle.html_tree.proofs.Kept.{fewer-since, keeps-since, looked-most, same-state, same-under_way}

module _ (a : State) (s : List ℕ) (l l' : List Entry) (t u : Tree) (n : ℕ) (h f d : Option ℕ) (w : state_of s l t n h f d ≡ a) (e : bare u ≡ bare t) where
  pub relisted-under_way : IsOpen (open_at s l' u) → IsUnderWay s l t n h f d → IsUnderWay s l' u n h f d
  relisted-under_way o p = same-under_way s s l l' t u n h f d (ap (λ (v : Tree). v.labels) e) refl o p

  pub relisted-exact : (m : State → List Entry) → l' ≡ m (state_of s l t n h f d) → state_of s l' u n h f d ≡ record a { list = m a; steps = u.steps }
  relisted-exact m i = subst (λ (b : State). state_of s l' u n h f d ≡ record b { list = m b; steps = u.steps }) w
      (same-state s s (m (state_of s l t n h f d)) l' (bare t) (bare u) u.steps n h f d refl i e)

  pub relisted-keeps : more t.steps 0 ≤ u.steps → Keeps a (state_of s l' u n h f d)
  relisted-keeps k = subst (λ (b : State). Keeps b (state_of s l' u n h f d)) w (keeps-since (state_of s l t n h f d) (state_of s l' u n h f d)
      (fewer-since (state_of s l t n h f d) (state_of s l' u n h f d) e refl refl (λ x i. i) (λ x i. i) k))

  pub relisted-grown : (k : ℕ) → length l' ≤ length l + k → Grown 0 0 k 0 a (state_of s l' u n h f d)
  relisted-grown k i =
      let x : length u.labels ≡ length t.labels = ap (λ (v : Tree). length v.labels) e in
      let y : u.held ≡ t.held = ap (λ (v : Tree). v.held) e in
      subst (λ (b : State). Grown 0 0 k 0 b (state_of s l' u n h f d)) w (record { nodes_least = omega arith; nodes_most = omega arith; open_most = omega arith; entries_most = omega arith; held_most = omega arith; open_least = omega arith })

pub below-most : {X : Type 0} (p : X → Bool) (xs : List X) → length (below p xs) ≤ length xs
below-most p [] = omega arith
below-most p (x ∷ xs) = let r = below-most p xs in elim (cases_bool (list_any p xs)) [ inl e ↦ rw e (omega arith) | inr e ↦ rw e (omega arith) ]

pub without-most : {X : Type 0} (p : X → Bool) (s : List X) → length (without_last p s) ≤ length s
without-most p s = elim (cases_bool (list_any p s)) [
  | inl e ↦ (let k = split-last p s e in
      let l : length s ≡ length (below p s) + suc (length (above p s)) = ap length k.1 ∙ length-append (below p s) (k.0 ∷ above p s) in
      let m : length (below p s ++ above p s) ≡ length (below p s) + length (above p s) = length-append (below p s) (above p s) in
      rw e (omega (arith, l, m)))
  | inr e ↦ rw e (omega arith)
]

pub removal-most : {X : Type 0} (p : X → Bool) (s : List X) → removal_steps p s ≤ 2 * length s + 1
removal-most p s = (let l = looked-most p s in elim (cases_bool (list_any p s)) [
  | inl e ↦ (let k = split-last p s e in let m : length s ≡ length (below p s) + suc (length (above p s)) = ap length k.1 ∙ length-append (below p s) (k.0 ∷ above p s) in rw e (omega (arith, m)))
  | inr e ↦ (let j : length (above p s) + 0 ≤ length s = rw e at l in rw e (omega (arith, j)))
])
