-- Claimed, but for this crate's own functions: IsCountOf, HasRun.
-- What the running of a file of test cases writes.
use Rattle.std.specs.Prelude.{◌≡◌, ℕ, suc, ◌++◌, List, [], ◌∷◌, Bool, true, false, Option, None, Some, min, codes, decimal, string_bytes}
use Rattle.std.specs.Io.KnownBytes.{Appends}
use Rattle.std.specs.List.{count_by}
use Rattle.html_suite.specs.declared.counts.Counts.{Counts}
use Rattle.html_suite.specs.declared.counts.Difference.{Difference}
use Rattle.html_suite.specs.declared.counts.Outcome.{Outcome}
use Rattle.html_suite.specs.declared.counts.Outcome.TheVariants.{Passed, Failed, Skipped}

-- how a case ended
abbrev pub has_passed : Outcome → Bool
has_passed Passed = true
has_passed _ = false

abbrev pub has_failed : Outcome → Bool
has_failed (Failed d) = true
has_failed _ = false

abbrev pub was_skipped : Outcome → Bool
was_skipped Skipped = true
was_skipped _ = false

-- a number of cases as it is written: the greatest of 64 bits stands for all that are greater
abbrev pub shown : ℕ → ℕ
shown k = min k 18446744073709551615

-- the line that tells that the case of this number failed, with its end
abbrev pub failed_text : List ℕ → ℕ → List ℕ
failed_text name number = name ++ (codes ": case " ++ (decimal number ++ codes " failed\n"))

abbrev pub failed_line : List ℕ → ℕ → List ℕ
failed_line name k = failed_text name (shown k)

-- what was expected of a case, and what came of it
abbrev pub texts_of : Difference → List ℕ
texts_of d = codes "expected:\n" ++ (string_bytes d.expected ++ (codes "got:\n" ++ string_bytes d.got))

-- the same where it is asked for, and there is such a difference
abbrev pub difference_lines : Bool → Option Difference → List ℕ
difference_lines false d = []
difference_lines true None = []
difference_lines true (Some d) = texts_of d

-- the lines of cases that follow k others: one for each that failed, in order, and below it the difference where that is asked for
abbrev pub failed_lines : Bool → List ℕ → ℕ → List Outcome → List ℕ
failed_lines verbose name k [] = []
failed_lines verbose name k (Passed ∷ rest) = failed_lines verbose name (suc k) rest
failed_lines verbose name k (Failed d ∷ rest) = (failed_line name (suc k) ++ difference_lines verbose d) ++ failed_lines verbose name (suc k) rest
failed_lines verbose name k (Skipped ∷ rest) = failed_lines verbose name (suc k) rest

-- the line of how many cases ended how, with its end
abbrev pub counts_line : List ℕ → List Outcome → List ℕ
counts_line name cases =
    name ++ (codes ": passed " ++ (decimal (shown (count_by has_passed cases)) ++ (codes ", failed " ++ (decimal (shown (count_by has_failed cases))
    ++ (codes ", skipped " ++ (decimal (shown (count_by was_skipped cases)) ++ codes "\n"))))))

-- the lines of all cases of a file were written, and that of how many ended how
abbrev pub IsReported : Bool → List ℕ → List Outcome → Option (List ℕ) → Option (List ℕ) → Type 0
IsReported verbose name cases old new = Appends old new (failed_lines verbose name 0 cases ++ counts_line name cases)

-- how many of the cases ended how
abbrev pub IsCountOf : Counts → List Outcome → Type 0
IsCountOf c cases =
    (c.passed ≡ shown (count_by has_passed cases)) × (c.failed ≡ shown (count_by has_failed cases)) × (c.skipped ≡ shown (count_by was_skipped cases))

-- Some cases were run since the writer was as at the start: their lines were written, and they are counted.
pub record HasRun (verbose : Bool) (name : List ℕ) (start now : Option (List ℕ)) (counts : Counts) : Type 0 where
  pub cases : List Outcome
  pub counted : IsCountOf counts cases
  pub written : Appends start now (failed_lines verbose name 0 cases)
