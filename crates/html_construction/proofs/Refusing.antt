-- Why a fragment could not be begun.
use Rattle.std.proofs.Common.{◌≡◌, ◌<◌, ◌⊎◌, Bool, true, false, cond, Result, Ok, Err, inl, inr, refl, sym, ◌∙◌}
use Rattle.std.specs.Prelude.{Some, nat_lt}
use Rattle.std.proofs.lemmas.Bool.{ltb-true}
use Rattle.html_names.specs.Names.{tag_of}
use Rattle.html_arena.specs.declared.arena.ArenaError.{ArenaError}
use Rattle.html_arena.specs.declared.arena.Limits.{Limits}
use Rattle.html_arena.specs.Tree.{empty_tree}
use Rattle.html_tree.specs.Inserting.{IsBudget, root_budget}
use Rattle.html_arena.specs.declared.arena.ArenaError.TheVariants.{OutOfMemory, NodeBudget, HeldBudget}

-- one test after another
abbrev tested : Bool → Bool → Result (Unit {0}) ArenaError
tested b d = cond b (Err NodeBudget) (cond d (Err HeldBudget) (Ok tt))

first-failed : (b d : Bool) → tested b d ≡ Err NodeBudget → b ≡ true
first-failed true d e = refl
first-failed false true e = absurd (let k : Err HeldBudget ≡ Err NodeBudget = e in cc)
first-failed false false e = absurd (let k : Ok tt ≡ Err NodeBudget = e in cc)

second-failed : (b d : Bool) → tested b d ≡ Err HeldBudget → d ≡ true
second-failed true d e = absurd (let k : Err NodeBudget ≡ Err HeldBudget = e in cc)
second-failed false true e = refl
second-failed false false e = absurd (let k : Ok tt ≡ Err HeldBudget = e in cc)

root-tested : (l : Limits) → root_budget (empty_tree (Some l)) ≡ tested (nat_lt l.nodes 1) (nat_lt l.held 4)
unfolding tag_of
root-tested l = refl

abbrev pub IsBegin : Limits → ArenaError → Type 0
IsBegin l e = (e ≡ OutOfMemory) ⊎ (((e ≡ NodeBudget) × (l.nodes < 1)) ⊎ ((e ≡ HeldBudget) × (l.held < 4)))

pub begin-cause : (l : Limits) (e : ArenaError) → IsBudget (root_budget (empty_tree (Some l))) e → IsBegin l e
begin-cause l OutOfMemory h = inl refl
begin-cause l NodeBudget h = inr (inl (refl, ltb-true l.nodes 1 (first-failed (nat_lt l.nodes 1) (nat_lt l.held 4) (sym (root-tested l) ∙ h))))
begin-cause l HeldBudget h = inr (inr (refl, ltb-true l.held 4 (second-failed (nat_lt l.nodes 1) (nat_lt l.held 4) (sym (root-tested l) ∙ h))))
