-- Cases run one after another, and their lines.
use Rattle.std.proofs.Common.{◌≡◌, ◌⊎◌, inl, inr, Bool, ℕ, suc, ◌+◌, ◌++◌, List, [], ◌∷◌, Option, cond, length, sym, ap, refl, ◌∙◌, append_assoc, append-nil, length-append, codes, decimal, arith}
use Rattle.std.proofs.lemmas.List.Sums.{sum_by-cons}
use Rattle.std.specs.Io.KnownBytes.{Appends}
use Rattle.std.specs.List.{count_by}
use Rattle.html_device.proofs.Puts.{Appends-is, Appends-trans}
use Rattle.html_suite.specs.Report.{HasRun, IsCountOf, IsReported, counts_line, difference_lines, failed_line, failed_lines, failed_text, has_failed, has_passed, shown, was_skipped}
use Rattle.html_suite.specs.declared.counts.Counts.{Counts}
use Rattle.html_suite.specs.declared.counts.Difference.{Difference}
use Rattle.html_suite.specs.declared.counts.Outcome.{Outcome}
use Rattle.html_suite.specs.declared.counts.Outcome.TheVariants.{Passed, Failed, Skipped}

-- each case ended in one of three ways
pub counted_all : (cases : List Outcome) → count_by has_passed cases + count_by has_failed cases + count_by was_skipped cases ≡ length cases
counted_all [] = refl
counted_all (o ∷ rest) =
    let a = sum_by-cons (λ x. cond (has_passed x) 1 0) o rest in
    let b = sum_by-cons (λ x. cond (has_failed x) 1 0) o rest in
    let c = sum_by-cons (λ x. cond (was_skipped x) 1 0) o rest in
    let d = one o in
    let e = counted_all rest in
    omega (arith, a, b, c, d, e)
  where
    one : (x : Outcome) → cond (has_passed x) 1 0 + cond (has_failed x) 1 0 + cond (was_skipped x) 1 0 ≡ 1
    one Passed = refl
    one (Failed d) = refl
    one Skipped = refl

shifted : (n k : ℕ) → suc k + n ≡ k + suc n
shifted n k = omega arith

none_more : (n : ℕ) → n ≡ n + 0
none_more n = omega arith

one_more : (n : ℕ) → n + 1 ≡ suc (0 + n)
one_more n = omega arith

-- the line of a case more stands behind those of the others
pub lines_more : (verbose : Bool) (name : List ℕ) (k : ℕ) (cases : List Outcome) (o : Outcome) → failed_lines verbose name k (cases ++ o ∷ []) ≡ failed_lines verbose name k cases ++ failed_lines verbose name (k + length cases) (o ∷ [])
lines_more verbose name k [] o = ap (λ n. failed_lines verbose name n (o ∷ [])) (none_more k)
lines_more verbose name k (Passed ∷ rest) o = lines_more verbose name (suc k) rest o ∙ ap (λ n. failed_lines verbose name (suc k) rest ++ failed_lines verbose name n (o ∷ [])) (shifted (length rest) k)
lines_more verbose name k (Skipped ∷ rest) o = lines_more verbose name (suc k) rest o ∙ ap (λ n. failed_lines verbose name (suc k) rest ++ failed_lines verbose name n (o ∷ [])) (shifted (length rest) k)
lines_more verbose name k (Failed d ∷ rest) o =
    ap (λ t. (failed_line name (suc k) ++ difference_lines verbose d) ++ t) (lines_more verbose name (suc k) rest o ∙ ap (λ n. failed_lines verbose name (suc k) rest ++ failed_lines verbose name n (o ∷ [])) (shifted (length rest) k))
    ∙ sym (append_assoc (failed_line name (suc k) ++ difference_lines verbose d) (failed_lines verbose name (suc k) rest) (failed_lines verbose name (k + suc (length rest)) (o ∷ [])))

module _ (verbose : Bool) (name : List ℕ) (start mid : Option (List ℕ)) (c d : Counts) (o : Outcome) (more : (cases : List Outcome) → IsCountOf c cases → IsCountOf d (cases ++ o ∷ [])) (h : HasRun verbose name start mid c) where
  -- a case of which nothing is told
  pub quiet : (o ≡ Passed) ⊎ (o ≡ Skipped) → HasRun verbose name start mid d
  quiet which = record {
    cases = h.cases ++ o ∷ [];
    counted = more h.cases h.counted;
    written = Appends-is start mid (failed_lines verbose name 0 h.cases) _
        (sym (lines_more verbose name 0 h.cases o ∙ ap (λ t. failed_lines verbose name 0 h.cases ++ t) (none which) ∙ append-nil (failed_lines verbose name 0 h.cases))) h.written;
  }
    where
      none : (o ≡ Passed) ⊎ (o ≡ Skipped) → failed_lines verbose name (0 + length h.cases) (o ∷ []) ≡ []
      none (inl e) = ap (λ x. failed_lines verbose name (0 + length h.cases) (x ∷ [])) e
      none (inr e) = ap (λ x. failed_lines verbose name (0 + length h.cases) (x ∷ [])) e

  -- a case that failed, and its line
  pub told : (now : Option (List ℕ)) (number : ℕ) (difference : Option Difference) → o ≡ Failed difference → ((cases : List Outcome) → IsCountOf d cases → number ≡ shown (length cases))
      → Appends mid now (failed_text name number ++ difference_lines verbose difference) → HasRun verbose name start now d
  told now number difference e all line = record {
    cases = h.cases ++ o ∷ [];
    counted = more h.cases h.counted;
    written = Appends-is start now (failed_lines verbose name 0 h.cases ++ text number) _ (sym (lines_more verbose name 0 h.cases o ∙ ap (λ t. failed_lines verbose name 0 h.cases ++ t) lines))
        (Appends-trans start mid now (failed_lines verbose name 0 h.cases) (text number) h.written line);
  }
    where
      text : ℕ → List ℕ
      text n = failed_text name n ++ difference_lines verbose difference

      is : number ≡ shown (suc (0 + length h.cases))
      is = (let whole = length-append h.cases (o ∷ []) in all (h.cases ++ o ∷ []) (more h.cases h.counted) ∙ ap shown (whole ∙ one_more (length h.cases)))

      lines : failed_lines verbose name (0 + length h.cases) (o ∷ []) ≡ text number
      lines = ap (λ x. failed_lines verbose name (0 + length h.cases) (x ∷ [])) e ∙ append-nil (failed_line name (suc (0 + length h.cases)) ++ difference_lines verbose difference) ∙ ap text (sym is)

-- the line of the counts ends a report
pub reported : (verbose : Bool) (name : List ℕ) (start mid now : Option (List ℕ)) (c : Counts) (h : HasRun verbose name start mid c) → Appends mid now (counts_line name h.cases) → IsReported verbose name h.cases start now
reported verbose name start mid now c h line = Appends-trans start mid now (failed_lines verbose name 0 h.cases) (counts_line name h.cases) h.written line
