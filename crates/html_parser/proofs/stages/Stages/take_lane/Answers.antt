use Rattle.std.proofs.Common.{arith, length-take}
use Rattle.std.proofs.lemmas.Result.{err_from_is_err_and}
use Rattle.html_parser.proofs.PlainTaken.{front_read, front_refused}
use Rattle.html_parser.proofs.stages.Stages.take_lane.Goals as goal

pub returns-in_err-taken-clause-cause : goal.returns-in_err-taken-clause-cause
returns-in_err-taken-clause-cause c =
    let p = err_from_is_err_and c.from_residual.result c.from_residual.ensures.1 in
    rw (p.1, p.2) (λ start bytes run r. front_refused start bytes c.args.piece.now c.args.plain c.in_err-taken.field-0.0 (c.in_err-taken.ensures.cause start bytes run r))

pub returns-clause-reads : goal.returns-clause-reads
returns-clause-reads c = λ start bytes run r.
    let few = c.in_ok-taken.ensures.within in
    let len = length-take c.args.plain c.args.piece.now in
    front_read start _ bytes c.args.piece.now c.in_ok-taken.taken c.args.plain (omega (arith, few, len)) (c.in_ok-taken.ensures.reads start bytes run r)

pub returns-clause-within : goal.returns-clause-within
returns-clause-within c =
    let few = c.in_ok-taken.ensures.within in
    let len = length-take c.args.plain c.args.piece.now in
    omega (arith, few, len)
