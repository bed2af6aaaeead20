use Rattle.std.proofs.lemmas.Result.{err_from_is_err_and}
use Rattle.html_parser.proofs.Feeding.{end_goes, never_stopped}
use Rattle.html_parser.proofs.feeder.Feeder.end.Goals as goal

pub returns-in_err-end-clause-cause : goal.returns-in_err-end-clause-cause
returns-in_err-end-clause-cause c =
    let p = err_from_is_err_and c.from_residual.result c.from_residual.ensures.1 in
    rw (p.1, p.2) (λ start bytes f. c.in_err-end.ensures.cause start bytes f.read.run f.read.is_run)

pub returns-in_err-end-clause-stopped : goal.returns-in_err-end-clause-stopped
returns-in_err-end-clause-stopped c =
    let p = err_from_is_err_and c.from_residual.result c.from_residual.ensures.1 in
    never_stopped c.from_residual.result p.0 c.in_err-end.field-0.0 c.args.self.now.is_stopped p.1 p.2 c.if-self.false
    (end_goes c.args.self.now.stages c.in_err-end.field-0.0 (c.args.self.now.going c.if-self.false) c.in_err-end.ensures.cause)

pub returns-clause-ended : goal.returns-clause-ended
returns-clause-ended c = λ start bytes f. c.in_ok-end.ensures.ended start bytes f.read.run f.read.is_run
