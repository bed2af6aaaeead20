-- What the budget has room for is within the limits.
use Rattle.std.proofs.Common.{◌≡◌, ◌+◌, ◌≤◌, ℕ, Bool, true, false, cond, nat_lt, List, length, Option, Some, None, Result, Ok, Err, refl, sym, subst, arith}
use Rattle.std.proofs.lemmas.Bool.Decides.{nat_tests}
use Rattle.html_arena.specs.declared.arena.Limits.{Limits}
use Rattle.html_arena.specs.declared.data.NodeData.{NodeData}
use Rattle.html_arena.specs.declared.links.Links.{Links}
use Rattle.html_arena.specs.declared.marks.Marks.{Marks}
use Rattle.html_arena.specs.Budget.{AreWithin, budget, budget_of, held_budget}
use Rattle.html_arena.specs.Tree.{Tree, more}
use Rattle.html_arena.specs.Whole.{tree_of}

not-less : (n m : ℕ) → nat_lt m n ≡ false → n ≤ m
not-less n m h = grind (arith, nat_tests)

-- a test that is passed, in front of others
passed : {A E : Type 0} (b : Bool) (e : E) (r : Result A E) (x : A) → cond b (Err e) r ≡ Ok x → (b ≡ false) × (r ≡ Ok x)
passed true e r x h = absurd cc
passed false e r x h = (refl, h)

some-is : (l m : Limits) → Some m ≡ Some l → m ≡ l
some-is l m e = cc

pub within_by : (o : Option Limits) (n h : ℕ) → budget_of o n h ≡ Ok tt → AreWithin o n h
within_by None n h e = record { few_nodes = λ l q. absurd cc; few_held = λ l q. absurd cc }
within_by (Some m) n h e =
    let p = passed (nat_lt m.nodes n) _ _ tt e in
    let q = passed (nat_lt m.held h) _ _ tt p.1 in
    record {
      few_nodes = λ l i. subst (λ (k : Limits). n ≤ k.nodes) (some-is l m i) (not-less n m.nodes p.0);
      few_held = λ l i. subst (λ (k : Limits). h ≤ k.held) (some-is l m i) (not-less h m.held q.0);
    }

-- as many nodes, which hold what the limits have room for
pub within_held : (o : Option Limits) (n h h' : ℕ) → AreWithin o n h → held_budget o h' ≡ Ok tt → AreWithin o n h'
within_held None n h h' w e = record { few_nodes = w.few_nodes; few_held = λ l q. absurd cc }
within_held (Some m) n h h' w e =
    let q = passed (nat_lt m.held h') _ _ tt e in
    record {
      few_nodes = w.few_nodes;
      few_held = λ l i. subst (λ (k : Limits). h' ≤ k.held) (some-is l m i) (not-less h' m.held q.0);
    }

-- nothing is within all limits
pub within_none : (o : Option Limits) → AreWithin o 0 0
within_none o = record { few_nodes = λ l q. omega arith; few_held = λ l q. omega arith }

-- the same, by the fields of an arena
module _ (ls : List Links) (ds : List NodeData) (ms : List Marks) (h s : ℕ) (o : Option Limits) (t : Tree) (e : tree_of ls ds ms h s o ≡ t) where
  pub within_at : (k m : ℕ) → budget t k m ≡ Ok tt → (n h' : ℕ) → n ≡ length ds + k → h' ≡ more h m → AreWithin o n h'
  within_at k m b n h' en eh =
      let w = within_by o (length ds + k) (more h m) (subst (λ (v : Tree). budget v k m ≡ Ok tt) (sym e) b) in
      subst (λ v. AreWithin o v h') (sym en) (subst (λ v. AreWithin o (length ds + k) v) (sym eh) w)
