use Rattle.html_ledger.proofs.Flagged.{Knows-none}
use Rattle.html_ledger.proofs.history.History.at.Goals as goal

pub returns-clause-known : goal.returns-clause-known
returns-clause-known c = rw c.flags_at.ensures.value (Knows-none c.args.setting)
