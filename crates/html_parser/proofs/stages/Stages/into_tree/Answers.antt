use Rattle.std.proofs.Common.{refl}
use Rattle.html_parser.proofs.Making.{page-of, tree-of, whole}
use Rattle.html_parser.proofs.stages.Stages.into_tree.Goals as goal

pub returns-clause-tree : goal.returns-clause-tree
returns-clause-tree c = λ start bytes e.
    tree-of start bytes e.run c.args.self.kept.starts c.in_ok-made.made.fates _ e.is_run.starts c.len.ensures.value
    (page-of start bytes e.run.given e.run.given _ _ _ _ _ _ refl c.at.ensures
    (c.in_ok-made.ensures.made start bytes e.run (whole start c.args.self bytes e)))
