use Rattle.html_parser.specs.Options.{start_of}
use Rattle.html_parser.proofs.Rewritten.{root-of}
use Rattle.zilqumet_c.proofs.parsing.tree_by.Goals as goal

pub invariant_of-result : goal.invariant_of-result
invariant_of-result c =
    record { root = root-of (start_of c.args.table.now c.args.options.now) c.args.bytes.now c.in_ok-tree.tree c.in_ok-tree.ensures.tree }
