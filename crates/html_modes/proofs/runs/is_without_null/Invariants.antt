use Rattle.std.proofs.Common.{◌≡◌, true, take}
use Rattle.std.specs.List.{list_all}
use Rattle.html_ledger.specs.Flags.{is_not_null}
use Rattle.html_modes.proofs.runs.is_without_null.Given as goal

abbrev pub invariant-loop-c : goal.invariant-loop-c
invariant-loop-c l = l.is_without ≡ true → list_all is_not_null (take l.c-index l.text) ≡ true
