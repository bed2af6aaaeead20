use Rattle.std.proofs.lemmas.Result.{IfErr-weaker, IfOk-weaker}
use Rattle.html_parser.proofs.Pausing.{enters, root_stable}
use Rattle.html_parser.proofs.Rewritten.{root-of}
use Rattle.html_parser.proofs.owned_tree_parser.tree_of.Goals as goal

pub returns-clause-tree : goal.returns-clause-tree
returns-clause-tree c =
    let begun = enters c.args.table.now c.args.stages c.resume.result c.of-feeder.result c.of-feeder.ensures.stages c.of-feeder.ensures.going c.resume.ensures.read in
    IfOk-weaker c.finish.result _ _ (λ tree is start bytes h. is start bytes (begun start bytes h)) c.finish.ensures.tree

pub returns-clause-cause : goal.returns-clause-cause
returns-clause-cause c =
    let begun = enters c.args.table.now c.args.stages c.resume.result c.of-feeder.result c.of-feeder.ensures.stages c.of-feeder.ensures.going c.resume.ensures.read in
    IfErr-weaker c.finish.result _ _ (λ e cause start bytes h. cause start bytes (begun start bytes h)) c.finish.ensures.cause

pub returns-clause-root : goal.returns-clause-root
returns-clause-root c =
    let begun = enters c.args.table.now c.args.stages c.resume.result c.of-feeder.result c.of-feeder.ensures.stages c.of-feeder.ensures.going c.resume.ensures.read in
    IfOk-weaker c.finish.result _ _
    (λ tree is. root_stable tree.arena tree.root
    (λ none. c.requires.going (λ start bytes h. none (root-of start bytes tree (is start bytes (begun start bytes h))))))
    c.finish.ensures.tree
