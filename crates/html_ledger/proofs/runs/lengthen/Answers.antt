use Rattle.std.proofs.Common.{◌≡◌, length, rules}
use Rattle.html_ledger.proofs.Spreading.{set-longer}
use Rattle.html_ledger.proofs.runs.lengthen.Goals as goal

pub returns : goal.returns
returns c = record {
  longer = λ front run e.
      let n : c.len-last.result ≡ length c.args.runs.now.items = search rules in
      set-longer c.args.runs.now.items front run c.index-run.result.now c.len-last.result c.args.count e n c.index-run.ensures;
}
