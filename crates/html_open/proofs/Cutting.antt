-- Clones that were begun and could not be ended.
use Rattle.std.proofs.Common.{◌≡◌, ℕ, zero, suc, ◌+◌, ◌<◌, ◌≤◌, List, [], ◌∷◌, ◌++◌, length, length-append, map, take, drop, get_or, Option, sym, ◌∙◌, ap, subst, append_assoc, arith}
use Rattle.std.proofs.lemmas.List.{append-nil, length-map}
use Rattle.std.specs.List.{sum_by}
use Rattle.html_arena.specs.declared.arena.Limits.{Limits}
use Rattle.html_arena.specs.declared.data.NewNode.TheVariants.{CloneOf}
use Rattle.html_arena.specs.declared.data.NodeData.{NodeData}
use Rattle.html_arena.specs.Budget.{budget, budget_of}
use Rattle.html_arena.specs.Data.{cloned}
use Rattle.html_arena.specs.Make.{made_weight}
use Rattle.html_arena.specs.Tree.{Tree, children_of, label_of, marked, more, parent_of}
use Rattle.html_arena.specs.Weight.{capped, weight}
use Rattle.html_arena.specs.declared.arena.ArenaError.{ArenaError}
use Rattle.html_arena.specs.declared.arena.ArenaError.TheVariants.{OutOfMemory, NodeBudget, HeldBudget}
use Rattle.html_open.specs.Cloning.{AreCloned, IsCut, IsCutShort, IsLacking, clone_budget}
use Rattle.html_open.specs.ReopenedEntry.{IsRefused}
use Rattle.html_open.proofs.Clones.{cloned-label}
use Rattle.html_open.proofs.Rounds.{stepped}

-- the budget looks at the labels
pub budget-is : (t u : Tree) (done : List ℕ) (c : ℕ) → c < length t.labels → AreCloned t u done → u.held ≡ capped (sum_by weight u.labels)
    → budget u 1 (made_weight u (CloneOf c)) ≡ clone_budget t done c
budget-is t u done c b h held =
    ap (λ (k : ℕ). budget_of u.limits (length u.labels + 1) (more k (capped (weight (cloned (label_of u c)))))) held
    ∙ ap (λ (l : Option Limits). budget_of l (length u.labels + 1) (more (capped (sum_by weight u.labels)) (capped (weight (cloned (label_of u c)))))) h.limits_are
    ∙ ap (λ (d : NodeData). budget_of t.limits (length u.labels + 1) (more (capped (sum_by weight u.labels)) (capped (weight (cloned d))))) (cloned-label t u done h c b)
    ∙ ap (λ (ls : List NodeData). budget_of t.limits (length ls + 1) (more (capped (sum_by weight ls)) (capped (weight (cloned (label_of t c)))))) h.labels_are

lacking-is : (t u : Tree) (done rest : List ℕ) (c : ℕ) (e : ArenaError) → c < length t.labels → AreCloned t u done → u.held ≡ capped (sum_by weight u.labels) → IsRefused u c e → IsLacking t done (c ∷ rest) e
lacking-is t u done rest c OutOfMemory b h held k = sym (budget-is t u done c b h held) ∙ k
lacking-is t u done rest c NodeBudget b h held k = sym (budget-is t u done c b h held) ∙ k
lacking-is t u done rest c HeldBudget b h held k = sym (budget-is t u done c b h held) ∙ k

pub cut-at : (t u v : Tree) (xs done rest : List ℕ) (c : ℕ) (e : ArenaError) → xs ≡ done ++ c ∷ rest → c < length t.labels → AreCloned t u done → u.held ≡ capped (sum_by weight u.labels)
    → IsRefused u c e → v ≡ u → IsCut t v xs e
cut-at t u v xs done rest c e q b h held k s = record {
  done = done;
  rest = c ∷ rest;
  all = q;
  labels_are = ap (λ (w : Tree). w.labels) s ∙ h.labels_are;
  same_marks = λ m x. ap (λ (w : Tree). marked w m x) s ∙ h.same_marks m x;
  same_parents = λ x. ap (λ (w : Tree). parent_of w x) s ∙ h.same_parents x;
  same_children = λ x. ap (λ (w : Tree). children_of w x) s ∙ h.same_children x;
  limits_are = ap (λ (w : Tree). w.limits) s ∙ h.limits_are;
  lacking = lacking-is t u done rest c e b h held k;
}

rest-at : (xs : List ℕ) (i c : ℕ) → i < length xs → c ≡ get_or xs i c → xs ≡ take i xs ++ c ∷ drop (suc i) xs
rest-at [] i c b e = absurd (omega arith)
rest-at (x ∷ xs) zero c b e = ap (λ (y : ℕ). y ∷ xs) (sym e)
rest-at (x ∷ xs) (suc i) c b e = ap (λ (ys : List ℕ). x ∷ ys) (rest-at xs i c (omega arith) e)

-- the next of the elements could not be cloned
pub cut-next : (t u v : Tree) (xs : List ℕ) (i c : ℕ) (e : ArenaError) → i < length xs → c ≡ get_or xs i c → c < length t.labels → AreCloned t u (take i xs) → u.held ≡ capped (sum_by weight u.labels)
    → IsRefused u c e → v ≡ u → IsCutShort t v xs e
cut-next t u v xs i c e l q b h held k s = record {
  done = take i xs;
  next = c;
  rest = drop (suc i) xs;
  all = rest-at xs i c l q;
  labels_are = ap (λ (w : Tree). w.labels) s ∙ h.labels_are;
  same_marks = λ m x. ap (λ (w : Tree). marked w m x) s ∙ h.same_marks m x;
  same_parents = λ x. ap (λ (w : Tree). parent_of w x) s ∙ h.same_parents x;
  same_children = λ x. ap (λ (w : Tree). children_of w x) s ∙ h.same_children x;
  limits_are = ap (λ (w : Tree). w.limits) s ∙ h.limits_are;
  lacking = lacking-is t u (take i xs) (drop (suc i) xs) c e b h held k;
}

lacking-next : (t : Tree) (done rest more : List ℕ) (x : ℕ) (e : ArenaError) → IsLacking t done (x ∷ rest) e → IsLacking t done (x ∷ more) e
lacking-next t done rest more x OutOfMemory k = k
lacking-next t done rest more x NodeBudget k = k
lacking-next t done rest more x HeldBudget k = k

-- more elements were to be cloned after them
pub cut-before : (t v : Tree) (xs ys : List ℕ) (e : ArenaError) → IsCutShort t v xs e → IsCut t v (xs ++ ys) e
cut-before t v xs ys e k = record {
  done = k.done;
  rest = k.next ∷ (k.rest ++ ys);
  all = ap (λ (zs : List ℕ). zs ++ ys) k.all ∙ append_assoc k.done (k.next ∷ k.rest) ys;
  labels_are = k.labels_are;
  same_marks = k.same_marks;
  same_parents = k.same_parents;
  same_children = k.same_children;
  limits_are = k.limits_are;
  lacking = lacking-next t k.done k.rest (k.rest ++ ys) k.next e k.lacking;
}

-- all were cloned
pub cut-all : (t u v : Tree) (xs : List ℕ) (e : ArenaError) → e ≡ OutOfMemory → AreCloned t u xs → v ≡ u → IsCut t v xs e
cut-all t u v xs e q h s = record {
  done = xs;
  rest = [];
  all = sym (append-nil xs);
  labels_are = ap (λ (w : Tree). w.labels) s ∙ h.labels_are;
  same_marks = λ m x. ap (λ (w : Tree). marked w m x) s ∙ h.same_marks m x;
  same_parents = λ x. ap (λ (w : Tree). parent_of w x) s ∙ h.same_parents x;
  same_children = λ x. ap (λ (w : Tree). children_of w x) s ∙ h.same_children x;
  limits_are = ap (λ (w : Tree). w.limits) s ∙ h.limits_are;
  lacking = subst (IsLacking t xs []) (sym q) tt;
}

-- at most as many nodes as elements were to be cloned
pub cut-length : (t v : Tree) (xs : List ℕ) (e : ArenaError) → IsCut t v xs e → length v.labels ≤ length t.labels + length xs
cut-length t v xs e k =
    let a = ap length k.labels_are in
    let b = length-append t.labels (map (λ x. cloned (label_of t x)) k.done) in
    let c = length-map k.done (λ x. cloned (label_of t x)) in
    let d = ap length k.all in
    let f = length-append k.done k.rest in
    omega (arith, a, b, c, d, f)

-- steps that were counted before do not matter
lacking-rebase : (t : Tree) (n : ℕ) (done rest : List ℕ) (e : ArenaError) → IsLacking (stepped t n) done rest e → IsLacking t done rest e
lacking-rebase t n done [] OutOfMemory k = tt
lacking-rebase t n done (x ∷ xs) OutOfMemory k = k
lacking-rebase t n done [] NodeBudget k = absurd k
lacking-rebase t n done (x ∷ xs) NodeBudget k = k
lacking-rebase t n done [] HeldBudget k = absurd k
lacking-rebase t n done (x ∷ xs) HeldBudget k = k

pub cut-rebase : (t : Tree) (n : ℕ) (v : Tree) (xs : List ℕ) (e : ArenaError) → IsCut (stepped t n) v xs e → IsCut t v xs e
cut-rebase t n v xs e k = record {
  done = k.done;
  rest = k.rest;
  all = k.all;
  labels_are = k.labels_are;
  same_marks = k.same_marks;
  same_parents = k.same_parents;
  same_children = k.same_children;
  limits_are = k.limits_are;
  lacking = lacking-rebase t n k.done k.rest e k.lacking;
}
