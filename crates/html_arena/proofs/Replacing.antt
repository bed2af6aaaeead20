-- What all nodes hold but one, and where that one is another.
use Rattle.std.proofs.Common.{◌≡◌, ℕ, suc, ◌+◌, ◌-◌, ◌^◌, min, ◌<◌, ◌≤◌, List, ◌∷◌, ◌++◌, take, drop, length, set, sym, ◌∙◌, ap, arith}
use Rattle.std.proofs.lemmas.List.{set_split}
use Rattle.std.proofs.lemmas.List.Sums.{sum_by-append, sum_by-cons, sum_by-set}
use Rattle.std.specs.List.{sum_by}
use Rattle.html_arena.specs.declared.data.NodeData.{NodeData}
use Rattle.html_arena.specs.declared.data.NodeData.TheVariants.{Document}
use Rattle.html_arena.specs.Data.{label_in}
use Rattle.html_arena.specs.Weight.{capped, held_beside, weight}

pub beside-parts : (ds : List NodeData) (x : ℕ) → x < length ds → sum_by weight (take x ds) + sum_by weight (drop (x + 1) ds) ≡ held_beside ds x
beside-parts ds x b =
    let e : x + 1 ≡ suc x = omega arith in
    let s : held_beside ds x ≡ sum_by weight (take x ds) + sum_by weight (Document ∷ drop (suc x) ds) =
    ap (sum_by weight) (set_split ds x Document b) ∙ sum_by-append weight (take x ds) (Document ∷ drop (suc x) ds) in
    let c : sum_by weight (Document ∷ drop (suc x) ds) ≡ 0 + sum_by weight (drop (suc x) ds) = sum_by-cons weight Document (drop (suc x) ds) in
    let f : sum_by weight (take x ds) + sum_by weight (drop (suc x) ds) ≡ held_beside ds x = omega arith in
    ap (λ n. sum_by weight (take x ds) + sum_by weight (drop n ds)) e ∙ f

pub beside-with : (ds : List NodeData) (x : ℕ) (z : NodeData) → x < length ds → sum_by weight (set ds x z) ≡ held_beside ds x + weight z
beside-with ds x z b =
    let p = sum_by-set weight ds x z Document b in
    let q : held_beside ds x + weight (label_in ds x) ≡ sum_by weight ds + 0 = sum_by-set weight ds x Document Document b in
    omega arith

pub beside-of : (ds : List NodeData) (x : ℕ) → x < length ds → held_beside ds x + weight (label_in ds x) ≡ sum_by weight ds
beside-of ds x b =
    let q : held_beside ds x + weight (label_in ds x) ≡ sum_by weight ds + 0 = sum_by-set weight ds x Document Document b in
    omega arith

-- a count below the greatest number m is the sum
pub counted_less : (h s b w m : ℕ) → h ≡ min s m → h < m → b + w ≡ s → min w m ≤ h
counted_less h s b w m e l f = omega arith

pub counted_beside : (h s b w m : ℕ) → h ≡ min s m → h < m → b + w ≡ s → h - min w m ≡ min b m
counted_beside h s b w m e l f = omega arith

pub two_capped : (a b m : ℕ) → min (min a m + min b m) m ≡ min (a + b) m
two_capped a b m = omega arith
