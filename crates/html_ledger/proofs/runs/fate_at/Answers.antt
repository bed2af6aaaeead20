use Rattle.std.proofs.Common.{◌<◌, ◌≤◌, length, arith}
use Rattle.html_ledger.proofs.Spreading.{found-fate, passed-fate}
use Rattle.html_ledger.proofs.runs.fate_at.Goals as goal

pub returns-then-left-run : goal.returns-then-left-run
returns-then-left-run c =
    let within : c.searching.run-index < length c.args.runs.now = omega arith in
    let lt : c.searching.left < c.run-item.result.count = omega arith in
    record { value = found-fate c.args.runs.now c.searching.run-index c.searching.left c.args.index c.run-item.result within c.run-item.is c.searching.invariant lt }

pub searching-preserved : goal.searching-preserved
searching-preserved c =
    let within : c.searching.run-index < length c.args.runs.now = omega arith in
    let le : c.run-item.result.count ≤ c.searching.left = omega arith in
    passed-fate c.args.runs.now c.searching.run-index c.searching.left c.args.index c.run-item.result within c.run-item.is c.searching.invariant le
