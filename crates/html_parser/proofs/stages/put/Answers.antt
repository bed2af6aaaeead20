use Rattle.std.proofs.Common.{refl}
use Rattle.std.proofs.lemmas.Result.{err_from_is_err_and}
use Rattle.html_parser.proofs.stages.put.Goals as goal

pub returns-in_err-process_text-clause-cause : goal.returns-in_err-process_text-clause-cause
returns-in_err-process_text-clause-cause c =
    let p = err_from_is_err_and c.from_residual.result c.from_residual.ensures.1 in
    rw (p.1, p.2) (c.in_err-process_text.field-0.0, refl, λ s l tokens h. (c.in_err-process_text.ensures.cause s l tokens h, c.in_err-process_text.ensures.told s l tokens h))
