use Rattle.std.proofs.Common.{[], refl}
use Rattle.html_parser.specs.Options.{start_of}
use Rattle.html_parser.proofs.Pausing.{paused_of}
use Rattle.html_parser.proofs.owned_tree_parser.begin_tree.Goals as goal

pub returns-clause-begun : goal.returns-clause-begun
returns-clause-begun c =
    let start = start_of c.args.table.now c.args.options.now in
    paused_of start c.args.table.now c.without_ledger-parser.result.feeder c.pause.result [] refl c.pause.ensures.paused
    (c.without_ledger-parser.ensures.fed start [] c.in_ok-parser.ensures.begun)
