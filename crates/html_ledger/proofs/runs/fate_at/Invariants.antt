use Rattle.std.proofs.Common.{◌≡◌, drop}
use Rattle.std.specs.Prelude.{slice_get}
use Rattle.html_ledger.specs.Runs.{spread}
use Rattle.html_ledger.proofs.runs.fate_at.Given as goal

-- what is left of the runs has the fate at what is left of the number
abbrev pub invariant-searching : goal.invariant-searching
invariant-searching l = slice_get (spread (drop l.run-index l.runs)) l.left ≡ slice_get (spread l.runs) l.index
