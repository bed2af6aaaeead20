-- Claimed.
-- What a call answers.
use Rattle.std.specs.Prelude.{ℕ}
use Rattle.html_modes.specs.declared.outcome.Foreign.TheVariants.{Svg, Math}
use Rattle.html_parser.specs.declared.error.ParseError.{ParseError}
use Rattle.html_parser.specs.declared.error.ParseError.TheVariants.{OutOfMemory, InputTooLong, ForeignContent, BadContext, Read, Write, Stopped, NodeBudget, HeldBudget, StepBudget}

-- the number of a cause
abbrev pub status_of : ParseError → ℕ
status_of OutOfMemory = 1
status_of InputTooLong = 2
status_of (ForeignContent Svg at) = 3
status_of (ForeignContent Math at) = 4
status_of BadContext = 5
status_of (NodeBudget at) = 6
status_of (HeldBudget at) = 7
status_of (StepBudget at) = 8
status_of Stopped = 9
status_of Read = 10
status_of Write = 11

-- the place of a cause, or 0
abbrev pub place_of : ParseError → ℕ
place_of (ForeignContent name at) = at
place_of (NodeBudget at) = at
place_of (HeldBudget at) = at
place_of (StepBudget at) = at
place_of _ = 0
