use Rattle.std.proofs.Common.{inl, Some}
use Rattle.std.proofs.lemmas.Result.{IfErr-weaker, IfOk-weaker}
use Rattle.html_parser.specs.Start.{document_start}
use Rattle.html_parser.proofs.Rewritten.{page-root}
use Rattle.html_parser.proofs.parsing.parse_within.Goals as goal

pub returns-clause-page : goal.returns-clause-page
returns-clause-page c = IfOk-weaker c.page_of.result _ _
    (λ page is. is (document_start c.args.table.now (Some c.args.limits)) c.in_ok-parser.ensures.begun c.in_ok-parser.ensures.keeps)
    c.page_of.ensures.page

pub returns-clause-root : goal.returns-clause-root
returns-clause-root c = IfOk-weaker c.page_of.result _ _
    (λ page is. page-root (document_start c.args.table.now (Some c.args.limits)) c.args.bytes.now page (is (document_start c.args.table.now (Some c.args.limits)) c.in_ok-parser.ensures.begun c.in_ok-parser.ensures.keeps))
    c.page_of.ensures.page

pub returns-clause-cause : goal.returns-clause-cause
returns-clause-cause c = IfErr-weaker c.page_of.result _ _
    (λ e is. inl (is (document_start c.args.table.now (Some c.args.limits)) c.in_ok-parser.ensures.begun))
    c.page_of.ensures.cause
