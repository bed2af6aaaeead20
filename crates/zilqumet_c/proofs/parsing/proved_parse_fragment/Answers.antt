use Rattle.std.proofs.Common.{◌∙◌, Some, ap, inl, inr, subst}
use Rattle.std.specs.Prelude.{IfErr, IfOk}
use Rattle.html_parser.specs.Parsed.{IsTreeOf}
use Rattle.html_parser.specs.Options.{start_of}
use Rattle.zilqumet_c.specs.Causes.{IsPageCause}
use Rattle.zilqumet_c.specs.Kept.{unboxed}
use Rattle.zilqumet_c.specs.Reads.{options_in, rows_in}
use Rattle.zilqumet_c.proofs.parsing.proved_parse_fragment.Goals as goal

pub returns-in-Ok-clause-parsed : goal.returns-in-Ok-clause-parsed
returns-in-Ok-clause-parsed c = λ is_ok.
    let k = c.keep.ensures.ok is_ok in
    let is = c.options_of-options.ensures ∙ ap (λ x. options_in c.args.limits.now (Some x)) c.in-Ok.ensures.value in
    let tree = subst (λ v. IfOk v (λ r. IsTreeOf (start_of (rows_in (unboxed c.take-held.result)) c.options_of-options.result) c.args.bytes.now r.tree)) k.1
    c.parsed_by-parsed.ensures.tree in
    let of_rows = subst (λ v. IsTreeOf (start_of (rows_in v) c.options_of-options.result) c.args.bytes.now k.0.tree) c.take-held.ensures.value tree in
    (k.0, k.2, subst (λ o. IsTreeOf (start_of (rows_in c.args.entities.now.value) o) c.args.bytes.now k.0.tree) is of_rows)

pub returns-in-Ok-clause-cause : goal.returns-in-Ok-clause-cause
returns-in-Ok-clause-cause c = λ bad. elim (c.keep.ensures.cause bad) [
  | inl m ↦ inr (inl m)
  | inr t ↦
      let is = c.options_of-options.ensures ∙ ap (λ x. options_in c.args.limits.now (Some x)) c.in-Ok.ensures.value in
      let cause = subst (λ v. IfErr v (IsPageCause (rows_in (unboxed c.take-held.result)) c.options_of-options.result c.args.bytes.now)) t.1 c.parsed_by-parsed.ensures.cause in
      let of_rows = subst (λ v. IsPageCause (rows_in v) c.options_of-options.result c.args.bytes.now t.0) c.take-held.ensures.value cause in
      inr (inr (t.0, subst (λ o. IsPageCause (rows_in c.args.entities.now.value) o c.args.bytes.now t.0) is of_rows, t.2, t.3))
]
