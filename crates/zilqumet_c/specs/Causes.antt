-- Claimed.
-- Why a call has no page.
use Rattle.std.specs.Prelude.{◌≡◌, ◌⊎◌, ℕ, List}
use Rattle.html_charref.specs.declared.table.Row.{Row}
use Rattle.html_parser.specs.Causes.{IsCause}
use Rattle.html_parser.specs.Options.{IsBeginCause, start_of}
use Rattle.html_parser.specs.declared.error.ParseError.{ParseError}
use Rattle.html_parser.specs.declared.options.Options.{Options}
use Rattle.zilqumet_c.specs.Status.{status_of, place_of}

-- why an input was refused that these options ask to be parsed: for what it is, or before it was read
abbrev pub IsPageCause : List Row → Options → List ℕ → ParseError → Type 0
IsPageCause rows options bytes e = IsCause (start_of rows options) bytes e ⊎ IsBeginCause options e

-- out of memory, or a cause by its number and its place
abbrev pub IsToldBy : (ParseError → Type 0) → ℕ → ℕ → Type 0
IsToldBy Is status place = (status ≡ 1) ⊎ ((e : ParseError) × Is e × (status ≡ status_of e) × (place ≡ place_of e))
