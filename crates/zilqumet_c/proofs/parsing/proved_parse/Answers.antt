use Rattle.std.proofs.Common.{None, inl, inr, subst}
use Rattle.std.specs.Prelude.{IfErr, IfOk}
use Rattle.html_parser.specs.Parsed.{IsTreeOf}
use Rattle.html_parser.specs.Options.{start_of}
use Rattle.zilqumet_c.specs.Causes.{IsPageCause}
use Rattle.zilqumet_c.specs.Kept.{unboxed}
use Rattle.zilqumet_c.specs.Reads.{options_in, rows_in}
use Rattle.zilqumet_c.proofs.parsing.proved_parse.Goals as goal

pub returns-clause-parsed : goal.returns-clause-parsed
returns-clause-parsed c = λ is_ok.
    let k = c.keep.ensures.ok is_ok in
    let tree = subst (λ v. IfOk v (λ r. IsTreeOf (start_of (rows_in (unboxed c.take-held.result)) c.options_of-options.result) c.args.bytes.now r.tree)) k.1
    c.parsed_by-parsed.ensures.tree in (
      k.0,
      k.2,
      subst (λ v. IsTreeOf (start_of (rows_in v) (options_in c.args.limits.now None)) c.args.bytes.now k.0.tree) c.take-held.ensures.value
          (subst (λ l. IsTreeOf (start_of (rows_in (unboxed c.take-held.result)) l) c.args.bytes.now k.0.tree) c.options_of-options.ensures tree),
    )

pub returns-clause-cause : goal.returns-clause-cause
returns-clause-cause c = λ bad. elim (c.keep.ensures.cause bad) [
  | inl m ↦ inl m
  | inr t ↦
      let cause = subst (λ v. IfErr v (IsPageCause (rows_in (unboxed c.take-held.result)) c.options_of-options.result c.args.bytes.now)) t.1 c.parsed_by-parsed.ensures.cause in
      let of_rows = subst (λ v. IsPageCause (rows_in v) c.options_of-options.result c.args.bytes.now t.0) c.take-held.ensures.value cause in
      let of_limits = subst (λ l. IsPageCause (rows_in c.args.entities.now.value) l c.args.bytes.now t.0) c.options_of-options.ensures of_rows in
      inr (t.0, of_limits, t.2, t.3)
]
