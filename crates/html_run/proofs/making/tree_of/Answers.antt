use Rattle.std.proofs.Common.{◌⊎◌, inr, subst}
use Rattle.std.specs.Prelude.{IfErr, IfOk}
use Rattle.std.proofs.lemmas.Result.{err_from_is_err_and}
use Rattle.html_parser.specs.Causes.{IsCause}
use Rattle.html_parser.specs.Options.{IsBeginCause, start_of}
use Rattle.html_parser.specs.Parsed.{IsTreeOf}
use Rattle.html_run.specs.Jobs.{options_for}
use Rattle.html_run.proofs.Causes.{memory-begin}
use Rattle.html_run.proofs.making.tree_of.Goals as goal

pub returns-in_err-options-clause-cause : goal.returns-in_err-options-clause-cause
returns-in_err-options-clause-cause c =
    let p = err_from_is_err_and c.from_residual.result c.from_residual.ensures.1 in
    rw p.1 (inr (memory-begin (options_for c.args.job.now) p.0 p.2))

pub returns-clause-tree : goal.returns-clause-tree
returns-clause-tree c = subst (λ o. IfOk c.parse_tree_with.result (IsTreeOf (start_of c.args.table.now o) c.args.bytes.now)) c.in_ok-options.ensures.value c.parse_tree_with.ensures.tree

pub returns-clause-cause : goal.returns-clause-cause
returns-clause-cause c =
    subst (λ o. IfErr c.parse_tree_with.result (λ e. IsCause (start_of c.args.table.now o) c.args.bytes.now e ⊎ IsBeginCause o e)) c.in_ok-options.ensures.value c.parse_tree_with.ensures.cause
