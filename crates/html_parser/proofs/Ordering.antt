-- The errors of a page are in order of their places.
use Rattle.std.proofs.Common.{ℕ, zero, suc, ◌+◌, ◌<◌, ◌≤◌, ◌≡◌, arith, List, [], ◌∷◌, ◌++◌, length, map, slice_index_or, inl, inr, refl}
use Rattle.std.proofs.lemmas.Bool.{cases_lt, le-ltb, lt-ltb}
use Rattle.std.specs.List.Sorted.{IsNonDecreasingBy}
use Rattle.html_ledger.specs.Errors.{AreBetween as AreRising}
use Rattle.html_tokens.specs.Cost.{AreBetween, AreCosted}
use Rattle.html_tokens.specs.declared.faults.Fault.{Fault}
use Rattle.html_tokens.specs.declared.token.Token.{Token}
use Rattle.html_parser.specs.Faults.{construction_fault, fault_list, front_below, places_of, rest_from, told_fault}
use Rattle.html_parser.specs.Kinds.{starts_of}
use Rattle.html_parser.specs.declared.faults.PageFault.{PageFault}

-- LISTS WHOSE NUMBERS NEVER FALL

-- from low on
abbrev AreUp : {X : Type 0} → (X → ℕ) → ℕ → List X → Type 0
AreUp n low [] = Unit {0}
AreUp n low (x ∷ xs) = (low ≤ n x) × AreUp n (n x) xs

to_up : {X : Type 0} (n : X → ℕ) (low : ℕ) (xs : List X) → IsNonDecreasingBy n xs → ((d : X) → 0 < length xs → low ≤ n (slice_index_or xs 0 d)) → AreUp n low xs
to_up n low [] h first = tt
to_up n low (x ∷ xs) h first = (
  first x (omega arith),
  to_up n (n x) xs (λ i j d less fit. h (suc i) (suc j) d (omega (arith, less)) (omega (arith, fit))) (λ d some. h 0 1 d (omega arith) (omega (arith, some))),
)

each_up : {X : Type 0} (n : X → ℕ) (low : ℕ) (xs : List X) → AreUp n low xs → (i : ℕ) (d : X) → i < length xs → low ≤ n (slice_index_or xs i d)
each_up n low [] u i d fit = absurd (omega (arith, fit))
each_up n low (x ∷ xs) u zero d fit = u.0
each_up n low (x ∷ xs) u (suc i) d fit = let p = u.0 in let q = each_up n (n x) xs u.1 i d (omega (arith, fit)) in omega (arith, p, q)

from_up : {X : Type 0} (n : X → ℕ) (low : ℕ) (xs : List X) → AreUp n low xs → IsNonDecreasingBy n xs
from_up n low [] u i j d less fit = absurd (omega (arith, fit))
from_up n low (x ∷ xs) u zero zero d less fit = omega arith
from_up n low (x ∷ xs) u zero (suc j) d less fit = each_up n (n x) xs u.1 j d (omega (arith, fit))
from_up n low (x ∷ xs) u (suc i) zero d less fit = absurd (omega (arith, less))
from_up n low (x ∷ xs) u (suc i) (suc j) d less fit = from_up n (n x) xs u.1 i j d (omega (arith, less)) (omega (arith, fit))

-- WHERE TOKENS BEGIN

start_up : (place end : ℕ) (tokens : List Token) → AreBetween place end tokens → (i : ℕ) → i < length tokens → place ≤ slice_index_or (starts_of tokens) i 0
start_up place end [] b i fit = absurd (omega (arith, fit))
start_up place end (t ∷ ts) b zero fit = b.0.starts
start_up place end (t ∷ ts) b (suc i) fit =
    let p = b.0.starts in let q = b.0.holds in let r = start_up t.span.end end ts b.2 i (omega (arith, fit)) in
    omega (arith, p, q, r)

starts_up : (place end : ℕ) (tokens : List Token) → AreBetween place end tokens → (i j : ℕ) → i ≤ j → j < length tokens → slice_index_or (starts_of tokens) i 0 ≤ slice_index_or (starts_of tokens) j 0
starts_up place end [] b i j less fit = absurd (omega (arith, fit))
starts_up place end (t ∷ ts) b zero zero less fit = omega arith
starts_up place end (t ∷ ts) b zero (suc j) less fit =
    let q = b.0.holds in let r = start_up t.span.end end ts b.2 j (omega (arith, fit)) in
    omega (arith, q, r)
starts_up place end (t ∷ ts) b (suc i) zero less fit = absurd (omega (arith, less))
starts_up place end (t ∷ ts) b (suc i) (suc j) less fit = starts_up t.span.end end ts b.2 i j (omega (arith, less)) (omega (arith, fit))

rising-less : (low : ℕ) (es : List ℕ) (n : ℕ) → AreRising low es n → low ≤ n
rising-less low [] n r = r
rising-less low (e ∷ es) n r = let p = r.0 in let q = rising-less (e + 1) es n r.1 in omega (arith, p, q)

-- of tokens with rising numbers
places_up : (end : ℕ) (tokens : List Token) → AreBetween 0 end tokens → (low from : ℕ) (numbers : List ℕ) → AreRising low numbers (length tokens)
    → ((i : ℕ) → low ≤ i → i < length tokens → from ≤ slice_index_or (starts_of tokens) i 0) → AreUp (λ p. p) from (places_of (starts_of tokens) numbers)
places_up end tokens b low from [] r h = tt
places_up end tokens b low from (e ∷ es) r h = (
  h e r.0 (let q = rising-less (e + 1) es (length tokens) r.1 in omega (arith, q)),
  places_up end tokens b (e + 1) (slice_index_or (starts_of tokens) e 0) es r.1 (λ i less fit. starts_up 0 end tokens b e i (omega (arith, less)) fit),
)

-- BOTH TOGETHER

rest_up : (k low : ℕ) (ps : List ℕ) → AreUp (λ p. p) low ps → AreUp (λ p. p) k (rest_from k ps)
rest_up k low [] u = tt
rest_up k low (p ∷ ps) u = elim (cases_lt p k) [
  | inl less ↦ rw (lt-ltb p k less) (rest_up k p ps u.1)
  | inr more ↦ rw (le-ltb p k more) (more, u.1)
]

front_up : (k low : ℕ) (ps : List ℕ) (x : PageFault) (more : List PageFault) → x.place ≡ k → low ≤ k → AreUp (λ p. p) low ps → AreUp (λ f. f.place) k more
    → AreUp (λ f. f.place) low (map construction_fault (front_below k ps) ++ x ∷ more)
front_up k low [] x more e less u rest = (omega (arith, e, less), rw e rest)
front_up k low (p ∷ ps) x more e less u rest = elim (cases_lt p k) [
  | inl under ↦ rw (lt-ltb p k under) (u.0, front_up k p ps x more e (omega (arith, under)) u.1 rest)
  | inr over ↦ rw (le-ltb p k over) (omega (arith, e, less), rw e rest)
]

construction_up : (low : ℕ) (ps : List ℕ) → AreUp (λ p. p) low ps → AreUp (λ f. f.place) low (map construction_fault ps)
construction_up low [] u = tt
construction_up low (p ∷ ps) u = (u.0, construction_up p ps u.1)

list_up : (low : ℕ) (told : List Fault) (ps : List ℕ) → AreUp (λ f. f.place) low told → AreUp (λ p. p) low ps → AreUp (λ f. f.place) low (fault_list told ps)
list_up low [] ps t u = construction_up low ps u
list_up low (f ∷ fs) ps t u =
    front_up f.place low ps (told_fault f) (fault_list fs (rest_from f.place ps)) refl t.0 u (list_up f.place fs (rest_from f.place ps) t.1 (rest_up f.place low ps u))

-- where those that the tokenizer told are in order, all are
pub in_order : (n : ℕ) (tokens : List Token) (told : List Fault) (numbers : List ℕ) (errors : List PageFault) → AreCosted n tokens → AreRising 0 numbers (length tokens)
    → IsNonDecreasingBy (λ f. f.place) told → errors ≡ fault_list told (places_of (starts_of tokens) numbers) → IsNonDecreasingBy (λ f. f.place) errors
in_order n tokens told numbers errors cost rising ordered e =
    rw e (from_up (λ f. f.place) 0 (fault_list told (places_of (starts_of tokens) numbers))
    (list_up 0 told (places_of (starts_of tokens) numbers) (to_up (λ f. f.place) 0 told ordered (λ d some. omega arith))
    (places_up n tokens cost.order 0 0 numbers rising (λ i less fit. omega arith))))
