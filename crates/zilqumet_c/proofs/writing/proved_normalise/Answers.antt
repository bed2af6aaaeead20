use Rattle.std.proofs.Common.{None, inr, subst}
use Rattle.html_parser.specs.Parsed.{IsTreeOf}
use Rattle.html_parser.specs.Options.{start_of}
use Rattle.zilqumet_c.specs.Causes.{IsPageCause}
use Rattle.zilqumet_c.specs.Kept.{unboxed}
use Rattle.zilqumet_c.specs.Reads.{options_in, rows_in}
use Rattle.zilqumet_c.proofs.writing.proved_normalise.Goals as goal

pub returns-in-Ok-clause-text : goal.returns-in-Ok-clause-text
returns-in-Ok-clause-text c = λ is_ok.
    let t = c.in-Ok.rooted.tree in (
      t,
      subst (λ v. IsTreeOf (start_of (rows_in v) (options_in c.args.limits.now None)) c.args.bytes.now t) c.take-held.ensures.value
          (subst (λ l. IsTreeOf (start_of (rows_in (unboxed c.take-held.result)) l) c.args.bytes.now t) c.options_of-options.ensures c.in-Ok.ensures.tree),
      c.write_tree.ensures.text is_ok,
    )

pub returns-clause-cause : goal.returns-clause-cause
returns-clause-cause c = λ bad.
    let of_rows = subst (λ v. IsPageCause (rows_in v) c.options_of-options.result c.args.bytes.now c.in-Err.error) c.take-held.ensures.value c.in-Err.ensures.cause in
    let of_limits = subst (λ l. IsPageCause (rows_in c.args.entities.now.value) l c.args.bytes.now c.in-Err.error) c.options_of-options.ensures of_rows in
    inr (c.in-Err.error, of_limits, c.status_of.ensures, c.place_of.ensures)
