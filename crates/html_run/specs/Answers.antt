-- Claimed.
-- What a command writes of a page.
use Rattle.std.specs.Prelude.{ℕ, Bool, true, false, List, [], Option}
use Rattle.std.specs.Io.KnownBytes.{Consumes, IsAtEnd}
use Rattle.html_job.specs.declared.jobs.Command.{Command}
use Rattle.html_job.specs.declared.jobs.Command.TheVariants.{Tree as TreeCommand, Errors, Audit, Normalise, Counts, Suite}
use Rattle.html_page.specs.declared.profile.Profile.{Profile}
use Rattle.html_print.specs.Audit.{audit_lines}
use Rattle.html_print.specs.Counts.{count_lines}
use Rattle.html_print.specs.Errors.{error_lines, located_lines}
use Rattle.html_parser.specs.Normalised.{IsNormalised}
use Rattle.html_parser.specs.Parsed.{IsPageOf, IsTreeOf}
use Rattle.html_parser.specs.Start.{Start}
use Rattle.html_parser.specs.declared.page.Page.{Page}
use Rattle.html_parser.specs.declared.page.Tree.{Tree}
use Rattle.html_run.specs.Jobs.{IsShown}

-- A reader was read from `old` to its end, a tree of all of it was had, and this holds of the bytes that are listed of that tree.
pub record IsListed (start : Start) (listed : Tree → List ℕ) (Written : List ℕ → Type 0) (old new : Option (List ℕ)) : Type 0 where
  pub bytes : List ℕ
  pub consumed : Consumes old new bytes
  pub at_end : IsAtEnd new
  pub tree : Tree
  pub is_tree : IsTreeOf start bytes tree
  pub written : Written (listed tree)

-- The same of the lines of that tree's errors, with lines and columns in these bytes.
pub record IsLocated (start : Start) (Written : List ℕ → Type 0) (old new : Option (List ℕ)) : Type 0 where
  pub bytes : List ℕ
  pub consumed : Consumes old new bytes
  pub at_end : IsAtEnd new
  pub tree : Tree
  pub is_tree : IsTreeOf start bytes tree
  pub written : Written (located_lines bytes tree.errors.items)

-- the errors, with lines and columns where these are asked for
abbrev pub AreErrors : Bool → Start → (List ℕ → Type 0) → Option (List ℕ) → Option (List ℕ) → Type 0
AreErrors false start Written old new = IsListed start (λ tree. error_lines tree.errors.items) Written old new
AreErrors true start Written old new = IsLocated start Written old new

-- A reader was read from `old` to its end, a page of all of it was had, and this holds of the lines of its tokens with their fates.
pub record IsAudited (start : Start) (Written : List ℕ → Type 0) (old new : Option (List ℕ)) : Type 0 where
  pub bytes : List ℕ
  pub consumed : Consumes old new bytes
  pub at_end : IsAtEnd new
  pub page : Page
  pub is_page : IsPageOf start bytes page
  pub written : Written (audit_lines page.tokens page.fates)

-- The same of what a command writes, in the profile of the job: the lines of the tree, the lines of the errors, the tokens with their fates, the page as HTML,
-- the counts; or nothing.
abbrev pub IsAnswer : Command → Bool → Profile → Start → (List ℕ → Type 0) → Option (List ℕ) → Option (List ℕ) → Type 0
IsAnswer TreeCommand lines profile start Written old new = IsShown start Written old new
IsAnswer Errors lines profile start Written old new = AreErrors lines start Written old new
IsAnswer Audit lines profile start Written old new = IsAudited start Written old new
IsAnswer Normalise lines profile start Written old new = IsNormalised start profile Written old new
IsAnswer Counts lines profile start Written old new = IsListed start count_lines Written old new
IsAnswer Suite lines profile start Written old new = IsListed start (λ tree. []) Written old new
