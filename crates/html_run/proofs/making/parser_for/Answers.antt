use Rattle.std.proofs.Common.{[], subst}
use Rattle.std.specs.Prelude.{IfErr, IfOk}
use Rattle.std.proofs.lemmas.Result.{err_from_is_err_and}
use Rattle.html_parser.specs.Fed.{IsFed}
use Rattle.html_parser.specs.Options.{IsBeginCause, start_of}
use Rattle.html_run.specs.Jobs.{options_for}
use Rattle.html_run.proofs.Causes.{memory-begin}
use Rattle.html_run.proofs.making.parser_for.Goals as goal

pub returns-in_err-options-clause-cause : goal.returns-in_err-options-clause-cause
returns-in_err-options-clause-cause c =
    let p = err_from_is_err_and c.from_residual.result c.from_residual.ensures.1 in
    rw p.1 (memory-begin (options_for c.args.job.now) p.0 p.2)

pub returns-clause-begun : goal.returns-clause-begun
returns-clause-begun c = subst (λ o. IfOk c.new.result (λ p. IsFed (start_of c.args.table.now o) p.feeder [])) c.in_ok-options.ensures.value c.new.ensures.begun

pub returns-clause-cause : goal.returns-clause-cause
returns-clause-cause c = subst (λ o. IfErr c.new.result (IsBeginCause o)) c.in_ok-options.ensures.value c.new.ensures.cause
