use Rattle.std.proofs.Common.{◌<◌, ◌∙◌, inl, inr, length, subst, sym}
use Rattle.std.proofs.lemmas.Result.{IfErr-weaker, IfOk-weaker, err_from_is_err_and}
use Rattle.html_input.specs.Decode.{code_points}
use Rattle.html_parser.specs.Causes.{IsCause}
use Rattle.html_parser.specs.Options.{start_of}
use Rattle.html_parser.proofs.Rewritten.{root-of}
use Rattle.html_parser.proofs.parsing.parse_tree_with.Goals as goal

pub returns-in_err-parser-clause-cause : goal.returns-in_err-parser-clause-cause
returns-in_err-parser-clause-cause c =
    let p = err_from_is_err_and c.from_residual.result c.from_residual.ensures.1 in
    rw (p.1, p.2) (inr c.in_err-parser.ensures.cause)

pub returns-in_err-check_length-clause-cause : goal.returns-in_err-check_length-clause-cause
returns-in_err-check_length-clause-cause c =
    let p = err_from_is_err_and c.from_residual-in_err-check_length.result c.from_residual-in_err-check_length.ensures.1 in
    let long = c.in_err-check_length.ensures.too_long in
    let most = subst (λ k. k < length (code_points c.args.bytes.now)) c.most_code_points.ensures.value long.1 in
    rw p.1 (inl (subst (λ e. IsCause (start_of c.args.table.now c.args.options.now) c.args.bytes.now e) (sym (p.2 ∙ long.0)) most))

pub returns-clause-tree : goal.returns-clause-tree
returns-clause-tree c = IfOk-weaker c.tree_of.result _ _
    (λ tree is. is (start_of c.args.table.now c.args.options.now) c.in_ok-parser.ensures.begun)
    c.tree_of.ensures.tree

pub returns-clause-root : goal.returns-clause-root
returns-clause-root c = IfOk-weaker c.tree_of.result _ _
    (λ tree is. root-of (start_of c.args.table.now c.args.options.now) c.args.bytes.now tree (is (start_of c.args.table.now c.args.options.now) c.in_ok-parser.ensures.begun))
    c.tree_of.ensures.tree

pub returns-clause-cause : goal.returns-clause-cause
returns-clause-cause c = IfErr-weaker c.tree_of.result _ _
    (λ e is. inl (is (start_of c.args.table.now c.args.options.now) c.in_ok-parser.ensures.begun))
    c.tree_of.ensures.cause
