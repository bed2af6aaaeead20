-- Why no page was had, from what the parser says.
use Rattle.std.proofs.Common.{inr, ℕ, ◌≡◌, Bool, List, Option, subst, sym}
use Rattle.std.specs.Io.KnownBytes.{Consumes, IsAtEnd}
use Rattle.html_charref.specs.declared.table.Row.{Row}
use Rattle.html_job.specs.declared.jobs.Job.{Job}
use Rattle.html_parser.specs.Causes.{IsCause}
use Rattle.html_parser.specs.Reading.{IsPieceCause}
use Rattle.html_parser.specs.declared.error.ParseError.{ParseError}
use Rattle.html_parser.specs.Options.{IsBeginCause}
use Rattle.html_parser.specs.declared.error.ParseError.TheVariants.{OutOfMemory}
use Rattle.html_parser.specs.declared.options.Options.{Options}
use Rattle.html_parser.proofs.Refusals.{end-cause, reader-cause}
use Rattle.html_run.specs.Jobs.{start_for}
use Rattle.html_run.specs.Refused.{IsReadCause}

module _ (job : Job) (rows : List Row) (old new : Option (List ℕ)) (failed : Bool) (e : ParseError) where
  -- while bytes came
  pub piece-read : IsPieceCause (start_for job rows) old new failed e → IsReadCause job rows old new failed e
  piece-read h = inr (reader-cause (start_for job rows) old new failed e h)

  -- after their end
  pub end-read : (bytes : List ℕ) → Consumes old new bytes → IsAtEnd new → IsCause (start_for job rows) bytes e → IsReadCause job rows old new failed e
  end-read bytes consumed end h = inr (end-cause (start_for job rows) old new failed bytes e consumed end h)

-- memory was refused before there was a parser
pub memory-begin : (o : Options) (e : ParseError) → e ≡ OutOfMemory → IsBeginCause o e
memory-begin o e is = subst (IsBeginCause o) (sym is) tt
