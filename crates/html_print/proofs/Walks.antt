-- What is printed for the events of a walk is the text of its forest.
use Rattle.std.proofs.Common.{◌≡◌, ℕ, zero, suc, ◌+◌, ◌-◌, ◌*◌, ◌≤◌, ◌<◌, List, [], ◌∷◌, ◌++◌, length, refl, sym, ap, ◌∙◌, subst, append_assoc, append-nil, arith}
use Rattle.std.specs.List.{All}
use Rattle.html_arena.specs.Below.{below, kids, levels_below, row}
use Rattle.html_arena.specs.Forest.{Forest, relabel}
use Rattle.html_arena.specs.Forest.Forest.{empty, tree}
use Rattle.html_arena.specs.Steps.{events, events_then, node_in}
use Rattle.html_arena.specs.Tree.{Tree}
use Rattle.html_arena.specs.declared.walk.Event.{Event}
use Rattle.html_arena.specs.declared.walk.Event.TheVariants.{Enter, Leave}
use Rattle.html_arena.specs.declared.walk.Show.TheVariants.{All as Everything}
use Rattle.html_page.specs.Label.{Label}
use Rattle.html_page.specs.Shows.{label_at}
use Rattle.html_print.specs.Arranged.{IsArranged, IsOrdered}
use Rattle.html_print.specs.Lines.{levels, lines_at, lines_of}
use Rattle.html_print.specs.Printed.{IsPrinted}
use Rattle.html_print.proofs.AtNode.{few_levels, ordered_levels, some_label}

plus_minus : (d k : ℕ) → d + k - k ≡ d
plus_minus d k = omega arith

module _ (t : Tree) where
  -- s is what is printed for these events, from the depth d on
  abbrev pub Texts : ℕ → List Event → List ℕ → Type 0
  Texts d [] s = s ≡ []
  Texts d (Enter x ∷ es) s = (l : Label) × (IsOrdered (label_at t x) l × ((later : List ℕ) × ((s ≡ lines_at d l ++ later) × Texts (d + levels (label_at t x)) es later)))
  Texts d (Leave x ∷ es) s = Texts (d - levels (label_at t x)) es s

  -- these events end above the depth m, and none leaves more levels than there are
  abbrev pub Low : ℕ → ℕ → List Event → Type 0
  Low m d [] = Unit {0}
  Low m d (Enter x ∷ es) = (d ≤ m) × Low m (d + levels (label_at t x)) es
  Low m d (Leave x ∷ es) = (levels (label_at t x) ≤ d) × Low m (d - levels (label_at t x)) es

  pub some_text : (d : ℕ) (es : List Event) → (s : List ℕ) × Texts d es s
  some_text d [] = ([], refl)
  some_text d (Enter x ∷ es) =
      let (l, o) = some_label (label_at t x) in
      let (later, h) = some_text (d + levels (label_at t x)) es in
      (lines_at d l ++ later, (l, (o, (later, (refl, h)))))
  some_text d (Leave x ∷ es) = some_text (d - levels (label_at t x)) es

  joined : (s a u b v c w : List ℕ) → s ≡ a ++ u → u ≡ b ++ v → v ≡ c ++ w → s ≡ (a ++ (b ++ c)) ++ w
  joined s a u b v c w e f g = e ∙ ap (λ l. a ++ l) (f ∙ ap (λ l. b ++ l) g ∙ sym (append_assoc b c w)) ∙ sym (append_assoc a (b ++ c) w)

  texts_then : (f : Forest ℕ) (d : ℕ) (es : List Event) (s : List ℕ) → Texts d (events_then f es) s
      → (shown : Forest Label) × (IsArranged (relabel (label_at t) f) shown × ((later : List ℕ) × ((s ≡ lines_of d shown ++ later) × Texts d es later)))
  texts_then empty d es s h = (empty, (tt, (s, (refl, h))))
  texts_then (tree x f g) d es s (l, (o, (u, (e, h)))) =
      let k = levels (label_at t x) in
      let (a, (p, (v, (e2, h2)))) = texts_then f (d + k) (Leave x ∷ events_then g es) u h in
      let (b, (q, (w, (e3, h3)))) = texts_then g d es v (subst (λ n. Texts n (events_then g es) v) (plus_minus d k) h2) in
      let deep : lines_of (d + k) a ≡ lines_of (d + levels l) a = ap (λ n. lines_of (d + n) a) (sym (ordered_levels (label_at t x) l o)) in
      (tree l a b, ((o, (p, q)), (w, (joined s (lines_at d l) u (lines_of (d + levels l) a) v (lines_of d b) w e (e2 ∙ ap (λ z. z ++ v) deep) e3, h3))))

  -- what is printed for all events is the text of the trees below the root
  pub is_printed : (W : List ℕ → Type 0) (r : ℕ) (s : List ℕ) → Texts 0 (events (below Everything t r)) s → W s → IsPrinted t r W
  is_printed W r s h w =
      let (shown, (p, (later, (e, n)))) = texts_then (below Everything t r) 0 [] s h in
      record { arranged = shown; same = p; text = subst W (e ∙ ap (λ l. lines_of 0 shown ++ l) n ∙ append-nil (lines_of 0 shown)) w }

  pub map_printed : (V W : List ℕ → Type 0) (r : ℕ) → ((s : List ℕ) → V s → W s) → IsPrinted t r V → IsPrinted t r W
  map_printed V W r f p = record { arranged = p.arranged; same = p.same; text = f (lines_of 0 p.arranged) p.text }

  pub printed_somehow : (W : List ℕ → Type 0) (r : ℕ) → ((s : List ℕ) → W s) → IsPrinted t r W
  printed_somehow W r f = let (s, h) = some_text 0 (events (below Everything t r)) in is_printed W r s h (f s)

  -- what holds of the events holds after the first
  module _ (d x : ℕ) (all es : List Event) where
    pub enter_texts : all ≡ Enter x ∷ es → (l : Label) → IsOrdered (label_at t x) l → (later : List ℕ) → Texts (d + levels (label_at t x)) es later → Texts d all (lines_at d l ++ later)
    enter_texts e l o later h = subst (λ a. Texts d a (lines_at d l ++ later)) (sym e) (l, (o, (later, (refl, h))))

    pub leave_texts : all ≡ Leave x ∷ es → (later : List ℕ) → Texts (d - levels (label_at t x)) es later → Texts d all later
    leave_texts e later h = subst (λ a. Texts d a later) (sym e) h

    pub enter_low : (m : ℕ) → all ≡ Enter x ∷ es → Low m d all → (d ≤ m) × Low m (d + levels (label_at t x)) es
    enter_low m e h = subst (Low m d) e h

    pub leave_low : (m : ℕ) → all ≡ Leave x ∷ es → Low m d all → (levels (label_at t x) ≤ d) × Low m (d - levels (label_at t x)) es
    leave_low m e h = subst (Low m d) e h

  pub no_texts : (d : ℕ) (all : List Event) → all ≡ [] → Texts d all []
  no_texts d all e = subst (λ a. Texts d a []) (sym e) refl

  module _ (m : ℕ) where
    low_row : (n : ℕ) → ((y d : ℕ) (es : List Event) → d + 2 * n ≤ m → Low m d es → Low m d (events_then (levels_below n Everything t y) es))
        → (ys : List ℕ) (d : ℕ) (es : List Event) → d + 2 * suc n ≤ m → Low m d es → Low m d (events_then (row (levels_below n Everything t) ys) es)
    low_row n f [] d es h k = k
    low_row n f (y ∷ ys) d es h k =
        let few = few_levels (label_at t y) in
        let v = levels (label_at t y) in
        let rest = events_then (row (levels_below n Everything t) ys) es in
        let back : Low m (d + v - v) rest = subst (λ (i : ℕ). Low m i rest) (sym (plus_minus d v)) (low_row n f ys d es h k) in
        let a : d ≤ m = omega arith in
        let b : v ≤ d + v = omega arith in
        let c : d + v + 2 * n ≤ m = omega arith in
        (a, f y (d + v) (Leave y ∷ rest) c (b, back))

    low_then : (n x d : ℕ) (es : List Event) → d + 2 * n ≤ m → Low m d es → Low m d (events_then (levels_below n Everything t x) es)
    low_then zero x d es h k = k
    low_then (suc n) x d es h k = low_row n (λ y e fs. low_then n y e fs) (kids Everything t x) d es h k

  pub low_all : (r : ℕ) → Low (2 * length t.labels) 0 (events (below Everything t r))
  low_all r = let h : 0 + 2 * length t.labels ≤ 2 * length t.labels = omega arith in low_then (2 * length t.labels) (length t.labels) r 0 [] h tt

-- the events after the first
module _ (n : ℕ) (all : List Event) (e : Event) (es : List Event) (split : all ≡ e ∷ es) (nodes : All (λ (e : Event). node_in e < n) all) where
  cut : All (λ (e : Event). node_in e < n) (e ∷ es)
  cut = subst (All (λ (e : Event). node_in e < n)) split nodes

  pub first_in : node_in e < n
  first_in = cut 0 e (omega arith)

  pub rest_in : All (λ (e : Event). node_in e < n) es
  rest_in = λ k d h. cut (suc k) d (omega arith)
