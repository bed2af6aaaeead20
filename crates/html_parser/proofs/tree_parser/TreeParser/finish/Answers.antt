use Rattle.std.proofs.lemmas.Result.{IfOk-weaker, err_from_is_err_and}
use Rattle.html_parser.proofs.tree_parser.TreeParser.finish.Goals as goal

pub returns-clause-tree : goal.returns-clause-tree
returns-clause-tree c = IfOk-weaker c.into_tree.result _ _
    (λ tree is start bytes fed. is start bytes (c.in_ok-end.ensures.ended start bytes fed))
    c.into_tree.ensures.tree

pub returns-in_err-end-clause-cause : goal.returns-in_err-end-clause-cause
returns-in_err-end-clause-cause c =
    let p = err_from_is_err_and c.from_residual.result c.from_residual.ensures.1 in
    rw (p.1, p.2) (λ start bytes fed. c.in_err-end.ensures.cause start bytes fed)
