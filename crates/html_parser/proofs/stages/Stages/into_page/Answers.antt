use Rattle.html_parser.proofs.Making.{page-of, whole}
use Rattle.html_parser.proofs.stages.Stages.into_page.Goals as goal

pub returns-clause-page : goal.returns-clause-page
returns-clause-page c = λ start bytes e keeps.
    page-of start bytes e.run.given _ _ _ _ _ _ _ (e.is_run.tokens keeps) c.at.ensures
    (c.in_ok-made.ensures.made start bytes e.run (whole start c.args.self bytes e))
