-- Claimed.
-- Why a job was refused, and what was told of it.
use Rattle.std.specs.Prelude.{◌≡◌, ◌⊎◌, ℕ, Bool, true, false, List, Option, Err, Ok, MatchOption}
use Rattle.std.specs.Borrow.{Bor}
use Rattle.html_charref.specs.Entities.{core_rows, entities_of}
use Rattle.html_charref.specs.declared.read.EntityError.{EntityError}
use Rattle.html_charref.specs.declared.read.EntityError.TheVariants.{OutOfMemory as TableOutOfMemory}
use Rattle.html_charref.specs.declared.table.Row.{Row}
use Rattle.html_job.specs.declared.jobs.Job.{Job}
use Rattle.html_parser.specs.Options.{IsBeginCause}
use Rattle.html_parser.specs.Reading.{IsReaderCause}
use Rattle.html_parser.specs.declared.error.ParseError.{ParseError}
use Rattle.html_parser.specs.declared.error.ParseError.TheVariants.{Write}
use Rattle.html_run.specs.Jobs.{options_for, start_for}

-- Why no page was had: no parser was made, or that of the reader and of what it gave.
abbrev pub IsReadCause : Job → List Row → Option (List ℕ) → Option (List ℕ) → Bool → ParseError → Type 0
IsReadCause job rows old new failed e = IsBeginCause (options_for job) e ⊎ IsReaderCause (start_for job rows) old new failed e

-- Why a job was not done: no page was had, memory was refused, or the writer failed or took no bytes.
abbrev pub IsJobCause : Job → List Row → Option (List ℕ) → Option (List ℕ) → Bool → Bool → Bool → ParseError → Type 0
IsJobCause job rows old new read_failed write_failed stalled e =
    IsReadCause job rows old new read_failed e ⊎ ((e ≡ Write) × ((write_failed ≡ true) ⊎ (stalled ≡ true)))

-- the rows of a file of references, or the five core rows without one
abbrev pub AreRows : Option (Bor (List ℕ)) → List Row → Type 0
AreRows entities rows = MatchOption entities (rows ≡ core_rows) (λ bytes. entities_of bytes.now ≡ Ok rows)

-- why there are no rows
abbrev pub IsTableCause : Option (Bor (List ℕ)) → EntityError → Type 0
IsTableCause entities TableOutOfMemory = Unit {0}
IsTableCause entities e = MatchOption entities ⊥ (λ bytes. entities_of bytes.now ≡ Err e)
