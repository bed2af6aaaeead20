use Rattle.std.proofs.Common.{sym}
use Rattle.html_ledger.proofs.Flagged.{Knows-after}
use Rattle.html_ledger.proofs.history.History.after.Goals as goal

pub returns-clause-value : goal.returns-clause-value
returns-clause-value c = c.flags_after.ensures.value c.args.fate.now (sym c.is_made.ensures.value) (sym c.is_foreign.ensures.value)

pub returns-clause-known : goal.returns-clause-known
returns-clause-known c = λ s ts fs k. rw (c.flags_after.ensures.value c.args.fate.now (sym c.is_made.ensures.value) (sym c.is_foreign.ensures.value)) (Knows-after s c.args.self ts fs c.args.symbol c.args.fate.now k)
