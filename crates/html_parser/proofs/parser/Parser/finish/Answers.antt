use Rattle.std.proofs.lemmas.Result.{IfOk-weaker, err_from_is_err_and}
use Rattle.html_parser.proofs.parser.Parser.finish.Goals as goal

pub returns-clause-page : goal.returns-clause-page
returns-clause-page c = IfOk-weaker c.into_page.result _ _
    (λ page is start bytes fed keeps. is start bytes (c.in_ok-end.ensures.ended start bytes fed) (c.in_ok-end.ensures.keeps keeps))
    c.into_page.ensures.page

pub returns-in_err-end-clause-cause : goal.returns-in_err-end-clause-cause
returns-in_err-end-clause-cause c =
    let p = err_from_is_err_and c.from_residual.result c.from_residual.ensures.1 in
    rw (p.1, p.2) (λ start bytes fed. c.in_err-end.ensures.cause start bytes fed)
