-- Claimed, but for this crate's own functions: fault_of.
-- What a file of test cases comes to.
use Rattle.std.specs.Prelude.{◌≡◌, ◌≢◌, ℕ, ◌++◌, List, codes}
use Rattle.html_suite.specs.declared.suite.SuiteFault.{SuiteFault}
use Rattle.html_suite.specs.declared.suite.SuiteFault.TheVariants.{Malformed, OutOfMemory}
use Rattle.html_suite.specs.declared.texts.CaseFault.{CaseFault}
use Rattle.html_suite.specs.declared.texts.CaseFault.TheVariants.{Malformed as MalformedCase, NotRun, OutOfMemory as NoMemory}

-- a text ends in another
abbrev pub HasEnd : List ℕ → List ℕ → Type 0
HasEnd text end = (front : List ℕ) × (text ≡ front ++ end)

-- the name tells neither of the two kinds of files
abbrev pub IsOfNoKind : List ℕ → Type 0
IsOfNoKind name = ((front : List ℕ) → name ≢ front ++ codes ".test") × ((front : List ℕ) → name ≢ front ++ codes ".dat")

-- the line that tells that a file of this name is no file of cases, with its end
abbrev pub malformed_line : List ℕ → List ℕ
malformed_line name = codes "fault: " ++ (name ++ codes ": not a test file\n")

-- why a file was not run to its end, by what stopped a case
abbrev pub fault_of : CaseFault → SuiteFault
fault_of MalformedCase = Malformed
fault_of NotRun = Malformed
fault_of NoMemory = OutOfMemory
