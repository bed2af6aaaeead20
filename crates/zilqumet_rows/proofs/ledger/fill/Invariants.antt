use Rattle.std.proofs.Common.{◌-◌, ◌≡◌, ◌≤◌, ◌++◌, List, length}
use Rattle.html_ledger.specs.declared.fate.Fate.{Fate}
use Rattle.html_tokens.specs.declared.token.Token.{Token}
use Rattle.zilqumet_rows.specs.Entries.{AreTokens, entries}
use Rattle.zilqumet_rows.proofs.ledger.fill.Given as goal

-- those written so far, and the others
abbrev pub invariant-rows : goal.invariant-rows
invariant-rows l = record {
  done : List (Token × Fate);
  all : entries l.initial.tokens l.initial.fates ≡ done ++ entries l.tokens l.fates;
  so_many : length done ≡ l.count;
  few : l.count ≤ length l.rows;
  room : length l.rows ≡ length l.initial.rows;
  told : AreTokens (entries l.initial.tokens l.initial.fates) l.count l.rows;
}

abbrev pub decreases-rows : goal.decreases-rows
decreases-rows l = length l.initial.rows - l.count
