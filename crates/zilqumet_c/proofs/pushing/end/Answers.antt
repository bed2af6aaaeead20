use Rattle.html_parser.proofs.Rewritten.{root-of}
use Rattle.zilqumet_c.proofs.pushing.end.Goals as goal

pub invariant_of-result : goal.invariant_of-result
invariant_of-result c = record { root = c.in_ok-tree.ensures.root }
