-- The longest name at the front of what was fed.
use Rattle.std.proofs.Common.{◌≡◌, ℕ, zero, suc, ◌+◌, ◌<◌, ◌≤◌, List, [], ◌∷◌, ◌++◌, length, take, drop, get_or, Option, Some, None, true, inl, inr, ap, sym, ◌∙◌, arith, append_assoc, length-append, length-drop}
use Rattle.std.specs.List.{list_any, slice_get}
use Rattle.std.specs.Option.{IfSome}
use Rattle.std.specs.Prelude.{nat_lt}
use Rattle.std.proofs.lemmas.Bool.Decides.{nat_tests}
use Rattle.std.proofs.lemmas.Bool.{false≢true}
use Rattle.html_charref.specs.Table.{longest, longest_len, goes_on, step_of, IsTable, LongestRow}
use Rattle.html_charref.specs.declared.table.Row.{Row}
use Rattle.html_charref.specs.declared.table.RefText.{RefText}
use Rattle.html_charref.specs.declared.walk.Step.TheVariants.{More, End}
use Rattle.html_charref.proofs.LongestLemmas.{bool_cases, both, begins-cases}
use Rattle.html_charref.proofs.Maximum.{longest-IsLongest}
use Rattle.html_charref.proofs.Steps.{found-at_end, cut_at}

lt_of : (m n : ℕ) → nat_lt m n ≡ true → m < n
lt_of m n h = grind (arith, nat_tests)

goes_short : (row : Row) (text : List ℕ) → goes_on row text ≡ true → length text < length row.name
goes_short row text h = lt_of _ _ (both (nat_lt (length text) (length row.name)) _ h).0

any_short : (rows : List Row) (text : List ℕ) → list_any (λ row. goes_on row text) rows ≡ true → length text < longest_len rows
any_short [] text h = absurd (false≢true h)
any_short (row ∷ rows) text h = elim (bool_cases (goes_on row text)) [
  | inl t ↦ (let k = goes_short row text t in omega arith)
  | inr f ↦ (let k = any_short rows text (rw f at h) in omega arith)
]

-- while some name goes on, the text is shorter than the longest
pub more_short : (rows : List Row) (text : List ℕ) → More ≡ step_of rows text → length text < longest_len rows
more_short rows text e = elim (bool_cases (list_any (λ row. goes_on row text) rows)) [
  | inl t ↦ any_short rows text t
  | inr f ↦ (let g = rw f at e in cc)
]

-- no name is longer than the longest
row_short : (rows : List Row) (i : ℕ) (row : Row) → slice_get rows i ≡ Some row → length row.name ≤ longest_len rows
row_short [] i row e = cc
row_short (r ∷ rows) zero row e = let f : r ≡ row = cc in rw (← f) (omega arith)
row_short (r ∷ rows) (suc i) row e = let h = row_short rows i row e in omega arith

-- a name that is found is there
pub found_short : (rows : List Row) (text : List ℕ) (found : Option (ℕ × RefText)) → IsTable rows → longest rows text ≡ found → IfSome found (λ m. (0 < m.0) × (m.0 ≤ length text) × (m.0 ≤ longest_len rows))
found_short rows text None t e = tt
found_short rows text (Some m) t e =
    let g : LongestRow rows text m = rw e at (longest-IsLongest rows text) in
    let len : length g.row.name ≡ m.0 = ap (λ (x : ℕ × RefText). x.0) g.is in
    let two = (t.named g.place g.row g.at).0 in
    let most = row_short rows g.place g.row g.at in
    elim (begins-cases g.row.name text g.front) [
      | inl less ↦ (omega arith, omega arith, omega arith)
      | inr same ↦ (let l : length g.row.name ≡ length text = ap length same in (omega arith, omega arith, omega arith))
    ]

-- where the walk ends, the longest name is known
pub walk_found : (rows : List Row) (items more : List ℕ) (i x : ℕ) (found : Option (ℕ × RefText)) → i < length items → x ≡ get_or items i x → End found ≡ step_of rows (take i items ++ x ∷ []) →
    longest rows (items ++ more) ≡ found
walk_found rows items more i x found h is e =
    sym (found-at_end rows (take i items ++ x ∷ []) (drop (i + 1) items ++ more) found e
    ∙ ap (longest rows) (sym (append_assoc (take i items ++ x ∷ []) (drop (i + 1) items) more) ∙ ap (λ (l : List ℕ). l ++ more) (cut_at items i x h is)))

stepped_len : (items : List ℕ) (i x : ℕ) → i < length items → x ≡ get_or items i x → length (take i items ++ x ∷ []) ≡ i + 1
stepped_len items i x h is =
    let e : length ((take i items ++ x ∷ []) ++ drop (i + 1) items) ≡ length items = ap length (cut_at items i x h is) in
    let f = simp (length-append, length-drop) at e in
    simp length-append (omega arith)

-- where the walk goes on, what was stepped is shorter than the longest name
pub walk_short : (rows : List Row) (items : List ℕ) (i x : ℕ) → i < length items → x ≡ get_or items i x → More ≡ step_of rows (take i items ++ x ∷ []) → i + 1 ≤ longest_len rows
walk_short rows items i x h is e = let k = more_short rows (take i items ++ x ∷ []) e in let l = stepped_len items i x h is in omega arith
