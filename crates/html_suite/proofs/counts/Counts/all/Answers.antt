use Rattle.std.proofs.Common.{arith}
use Rattle.html_suite.proofs.Reports.{counted_all}
use Rattle.html_suite.proofs.counts.Counts.all.Goals as goal

pub returns : goal.returns
returns c = λ cases h. (let all = counted_all cases in let passed = h.0 in let failed = h.1 in let skipped = h.2 in
    let first = c.saturating_add.ensures in let second = c.saturating_add-2.ensures in omega (arith, all, passed, failed, skipped, first, second))
