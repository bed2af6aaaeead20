-- A run of code points at the end of a text: in one go and one by one.
use Rattle.std.proofs.Common.{◌≡◌, ℕ, suc, ◌+◌, ◌-◌, ◌^◌, ◌<◌, ◌≤◌, min, List, [], ◌∷◌, length, take, set, get_or, Result, Ok, Err, IfOk, OnErr, refl, sym, ap, subst, ◌∙◌, arith, append_assoc, append-nil}
use Rattle.std.proofs.lemmas.List.{get_or-set_same, length-set, length-take-le, set-get_or, set-set}
use Rattle.html_arena.specs.declared.arena.ArenaError.TheVariants.{HeldBudget}
use Rattle.html_arena.specs.declared.data.NodeData.{NodeData}
use Rattle.html_arena.specs.declared.data.NodeData.TheVariants.{Document, Contents, Element, Text, Comment, Doctype}
use Rattle.html_arena.specs.Budget.{budget, budget_of}
use Rattle.html_arena.specs.Data.{IsText, with_char, with_run}
use Rattle.html_arena.specs.Laws.{IsRelabelled}
use Rattle.html_arena.specs.Tree.{Tree, label_of, more, texted, texted_each, texted_run}
use Rattle.html_arena.proofs.Chains.{run_laws, with_char-text}

run_none : (d : NodeData) → IsText d → with_run d [] ≡ d
run_none (Text s) i = ap (λ l. Text l) (append-nil s)
run_none Document i = refl
run_none (Contents h) i = refl
run_none (Element e) i = refl
run_none (Comment s j) i = refl
run_none (Doctype n p s j) i = refl

run_next : (d : NodeData) (c : ℕ) (run : List ℕ) → with_run (with_char d c) run ≡ with_run d (c ∷ run)
run_next (Text s) c run = ap (λ l. Text l) (append_assoc s (c ∷ []) run)
run_next Document c run = refl
run_next (Contents h) c run = refl
run_next (Element e) c run = refl
run_next (Comment s j) c run = refl
run_next (Doctype n p s j) c run = refl

run-text : (d : NodeData) (run : List ℕ) → IsText d → IsText (with_run d run)
run-text (Text s) run i = tt
run-text Document run i = absurd i
run-text (Contents h) run i = absurd i
run-text (Element e) run i = absurd i
run-text (Comment s j) run i = absurd i
run-text (Doctype n p s j) run i = absurd i

none_more : (n m : ℕ) → n < m + 1 → min (n + 0) m ≡ n
none_more n m h = omega arith

more_more : (n k m : ℕ) → min (min (n + 1) m + k) m ≡ min (n + suc k) m
more_more n k m = omega arith

more_one : (n k m : ℕ) → min (min (n + k) m + 1) m ≡ min (n + (k + 1)) m
more_one n k m = omega arith

least_more : (n m : ℕ) → min n m < m + 1
least_more n m = omega arith

-- counts in range
abbrev pub Counted : Tree → Type 0
Counted t = (t.held < 2 ^ 128) × (t.steps < 2 ^ 128)

-- an empty run changes nothing
pub run_empty : (t : Tree) (x : ℕ) → IsText (label_of t x) → Counted t → texted_run t x [] ≡ t
run_empty t x i h =
    ap (λ ds. record t { labels = ds; held = more t.held 0; steps = more t.steps 0 }) (ap (λ d. set t.labels x d) (run_none (label_of t x) i) ∙ set-get_or t.labels x Document)
    ∙ ap (λ n. record t { held = n; steps = more t.steps 0 }) (none_more t.held (2 ^ 128 - 1) h.0)
    ∙ ap (λ n. record t { steps = n }) (none_more t.steps (2 ^ 128 - 1) h.1)

-- a run is its first code point, and then the others
run_first : (t : Tree) (x c : ℕ) (run : List ℕ) → x < length t.labels → texted_run t x (c ∷ run) ≡ texted_run (texted t x c) x run
run_first t x c run b =
    let d = label_of t x in
    let z = with_char d c in
    let k : set t.labels x (with_run d (c ∷ run)) ≡ set (set t.labels x z) x (with_run (get_or (set t.labels x z) x Document) run) =
    ap (λ w. set t.labels x w) (sym (run_next d c run)) ∙ sym (set-set t.labels x z (with_run z run)) ∙ ap (λ w. set (set t.labels x z) x (with_run w run)) (sym (get_or-set_same t.labels x z Document b)) in
    ap (λ ds. record t { labels = ds; held = more t.held (length (c ∷ run)); steps = more t.steps (length (c ∷ run)) }) k
    ∙ ap (λ n. record (texted_run (texted t x c) x run) { held = n; steps = more t.steps (length (c ∷ run)) }) (sym (more_more t.held (length run) (2 ^ 128 - 1)))
    ∙ ap (λ n. record (texted_run (texted t x c) x run) { steps = n }) (sym (more_more t.steps (length run) (2 ^ 128 - 1)))

-- in one go is one by one
pub run_each : (run : List ℕ) (t : Tree) (x : ℕ) → x < length t.labels → IsText (label_of t x) → Counted t → texted_run t x run ≡ texted_each t x run
run_each [] t x b i h = run_empty t x i h
run_each (c ∷ run) t x b i h =
    run_first t x c run b
    ∙ run_each run (texted t x c) x (subst (λ n. x < n) (sym (length-set t.labels x (with_char (label_of t x) c))) b)
    (subst IsText (sym (get_or-set_same t.labels x (with_char (label_of t x) c) Document b)) (with_char-text (label_of t x) c i))
    (least_more (t.held + 1) (2 ^ 128 - 1), least_more (t.steps + 1) (2 ^ 128 - 1))

-- the clauses of a call, by its answer
module _ {E : Type 0} (t u : Tree) (x : ℕ) (run : List ℕ) where
  pub each_at : (r : Result ℕ E) → x < length t.labels → IsText (label_of t x) → Counted t → IfOk r (λ n. u ≡ texted_run t x (take n run)) → IfOk r (λ n. u ≡ texted_each t x (take n run))
  each_at (Ok n) b i h e = e ∙ run_each (take n run) t x b i h
  each_at (Err v) b i h e = tt

  pub laws_at : (r : Result ℕ E) → x < length t.labels → IfOk r (λ n. u ≡ texted_run t x (take n run)) → IfOk r (λ n. IsRelabelled t u x (with_run (label_of t x) (take n run)))
  laws_at (Ok n) b e = subst (λ (v : Tree). IsRelabelled t v x (with_run (label_of t x) (take n run))) (sym e) (run_laws t x (take n run) b)
  laws_at (Err v) b e = tt

  pub text_at : (r : Result ℕ E) → x < length t.labels → IsText (label_of t x) → IfOk r (λ n. u ≡ texted_run t x (take n run)) → OnErr r (u ≡ t) → IsText (label_of u x)
  text_at (Ok n) b i e f =
      subst IsText (sym (ap (λ (v : Tree). label_of v x) e ∙ get_or-set_same t.labels x (with_run (label_of t x) (take n run)) Document b)) (run-text (label_of t x) (take n run) i)
  text_at (Err v) b i e f = subst IsText (sym (ap (λ (v : Tree). label_of v x) f)) i

  -- what the next code point meets
  pub next_at : (r : Result ℕ E) → IfOk r (λ n. n ≤ length run) → IfOk r (λ n. u ≡ texted_run t x (take n run)) → IfOk r (λ n. n < length run → budget t 0 (n + 1) ≡ Err HeldBudget)
      → IfOk r (λ n. n < length run → budget u 0 1 ≡ Err HeldBudget)
  next_at (Ok n) m e k = λ l.
      ap (λ (v : Tree). budget v 0 1) e
      ∙ ap (λ k. budget_of t.limits (k + 0) (more (more t.held (length (take n run))) 1)) (length-set t.labels x (with_run (label_of t x) (take n run)))
      ∙ ap (λ k. budget_of t.limits (length t.labels + 0) (more (more t.held k) 1)) (length-take-le n run m)
      ∙ ap (λ k. budget_of t.limits (length t.labels + 0) k) (more_one t.held n (2 ^ 128 - 1))
      ∙ k l
  next_at (Err v) m e k = tt
