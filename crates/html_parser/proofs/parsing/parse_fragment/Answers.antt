use Rattle.std.proofs.Common.{◌∙◌, inl, None, subst, sym}
use Rattle.std.proofs.lemmas.Result.{IfErr-weaker, IfOk-weaker, err_from_is_err_and}
use Rattle.html_parser.specs.Causes.{IsCause}
use Rattle.html_parser.specs.Start.{fragment_start}
use Rattle.html_parser.proofs.Rewritten.{page-root}
use Rattle.html_parser.proofs.parsing.parse_fragment.Goals as goal

pub returns-in_err-check_length-clause-cause : goal.returns-in_err-check_length-clause-cause
returns-in_err-check_length-clause-cause c =
    let p = err_from_is_err_and c.from_residual-in_err-check_length.result c.from_residual-in_err-check_length.ensures.1 in
    let long = c.in_err-check_length.ensures.too_long in
    rw p.1 (inl (subst (λ e. IsCause (fragment_start c.args.table.now c.args.context.now None) c.args.bytes.now e) (sym (p.2 ∙ long.0)) long.1))

pub returns-clause-page : goal.returns-clause-page
returns-clause-page c = IfOk-weaker c.page_of.result _ _
    (λ page is. is (fragment_start c.args.table.now c.args.context.now None) c.in_ok-parser.ensures.begun c.in_ok-parser.ensures.keeps)
    c.page_of.ensures.page

pub returns-clause-root : goal.returns-clause-root
returns-clause-root c = IfOk-weaker c.page_of.result _ _
    (λ page is. page-root (fragment_start c.args.table.now c.args.context.now None) c.args.bytes.now page (is (fragment_start c.args.table.now c.args.context.now None) c.in_ok-parser.ensures.begun c.in_ok-parser.ensures.keeps))
    c.page_of.ensures.page

pub returns-clause-cause : goal.returns-clause-cause
returns-clause-cause c = IfErr-weaker c.page_of.result _ _
    (λ e is. inl (is (fragment_start c.args.table.now c.args.context.now None) c.in_ok-parser.ensures.begun))
    c.page_of.ensures.cause
