use Rattle.std.proofs.Common.{None}
use Rattle.std.proofs.lemmas.Result.{IfErr-weaker, IfOk-weaker}
use Rattle.html_parser.specs.Start.{document_start}
use Rattle.html_parser.proofs.Rewritten.{root-of}
use Rattle.html_parser.proofs.parsing.parse_tree.Goals as goal

pub returns-clause-tree : goal.returns-clause-tree
returns-clause-tree c = IfOk-weaker c.tree_of.result _ _
    (λ tree is. is (document_start c.args.table.now None) c.in_ok-parser.ensures.begun)
    c.tree_of.ensures.tree

pub returns-clause-root : goal.returns-clause-root
returns-clause-root c = IfOk-weaker c.tree_of.result _ _
    (λ tree is. root-of (document_start c.args.table.now None) c.args.bytes.now tree (is (document_start c.args.table.now None) c.in_ok-parser.ensures.begun))
    c.tree_of.ensures.tree

pub returns-clause-cause : goal.returns-clause-cause
returns-clause-cause c = IfErr-weaker c.tree_of.result _ _
    (λ e is. is (document_start c.args.table.now None) c.in_ok-parser.ensures.begun)
    c.tree_of.ensures.cause
