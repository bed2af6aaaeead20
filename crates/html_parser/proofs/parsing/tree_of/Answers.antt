use Rattle.std.proofs.Common.{[]}
use Rattle.std.proofs.lemmas.Result.{IfErr-weaker, IfOk-weaker, err_from_is_err_and}
use Rattle.html_parser.proofs.Refusals.{last-cause}
use Rattle.html_parser.proofs.parsing.tree_of.Goals as goal

pub returns-in_err-feed-clause-cause : goal.returns-in_err-feed-clause-cause
returns-in_err-feed-clause-cause c =
    let p = err_from_is_err_and c.from_residual.result c.from_residual.ensures.1 in
    rw (p.1, p.2) (λ start fed. last-cause start c.args.bytes.now c.in_err-feed.field-0.0 (c.in_err-feed.ensures.cause start [] (c.without_ledger-parser.ensures.fed start [] fed)))

pub returns-clause-tree : goal.returns-clause-tree
returns-clause-tree c = IfOk-weaker c.finish.result _ _
    (λ tree is start fed. is start c.args.bytes.now (c.in_ok-feed.ensures.fed start [] (c.without_ledger-parser.ensures.fed start [] fed)))
    c.finish.ensures.tree

pub returns-clause-cause : goal.returns-clause-cause
returns-clause-cause c = IfErr-weaker c.finish.result _ _
    (λ e is start fed. is start c.args.bytes.now (c.in_ok-feed.ensures.fed start [] (c.without_ledger-parser.ensures.fed start [] fed)))
    c.finish.ensures.cause
