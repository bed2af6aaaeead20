use Rattle.std.proofs.Common.{◌-◌, ◌≡◌, ◌≤◌, ◌++◌, List, length}
use Rattle.html_ledger.specs.declared.fate.Fate.{Fate}
use Rattle.html_tokens.specs.declared.token.Token.{Token}
use Rattle.zilqumet_rows.specs.Entries.{entries}
use Rattle.zilqumet_rows.proofs.ledger.pass_over.Given as goal

-- those gone past so far, and the others
abbrev pub invariant-passing : goal.invariant-passing
invariant-passing l = record {
  done : List (Token × Fate);
  all : entries l.initial.tokens l.initial.fates ≡ done ++ entries l.tokens l.fates;
  so_many : length done ≡ l.passed;
  few : l.passed ≤ l.count;
}

abbrev pub decreases-passing : goal.decreases-passing
decreases-passing l = l.count - l.passed
