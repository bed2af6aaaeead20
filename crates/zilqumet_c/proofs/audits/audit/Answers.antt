use Rattle.std.proofs.Common.{inl, inr, subst}
use Rattle.std.specs.Prelude.{IfErr}
use Rattle.html_parser.specs.Options.{start_of}
use Rattle.zilqumet_c.specs.Audits.{AreAudited}
use Rattle.zilqumet_c.specs.Causes.{IsPageCause}
use Rattle.zilqumet_c.specs.Kept.{unboxed}
use Rattle.zilqumet_c.specs.Reads.{rows_in}
use Rattle.zilqumet_c.proofs.Parted.{both_kept}
use Rattle.zilqumet_c.proofs.audits.audit.Goals as goal

pub returns-clause-audited : goal.returns-clause-audited
returns-clause-audited c = λ is_ok.
    let told = both_kept c.audited_by-audited.result c.keep_both.new.page.value c.keep_both.new.ledger.value
    (start_of (rows_in (unboxed c.take-held.result)) c.args.options.now) c.args.bytes.now (c.keep_both.ensures.ok is_ok) c.audited_by-audited.ensures.page in
    subst (λ v. AreAudited (start_of (rows_in v) c.args.options.now) c.args.bytes.now c.keep_both.new.page.value c.keep_both.new.ledger.value) c.take-held.ensures.value told

pub returns-clause-cause : goal.returns-clause-cause
returns-clause-cause c = λ bad. elim (c.keep_both.ensures.cause bad) [
  | inl m ↦ inl m
  | inr t ↦
      let cause = subst (λ v. IfErr v (IsPageCause (rows_in (unboxed c.take-held.result)) c.args.options.now c.args.bytes.now)) t.1 c.audited_by-audited.ensures.cause in
      let of_rows = subst (λ v. IsPageCause (rows_in v) c.args.options.now c.args.bytes.now t.0) c.take-held.ensures.value cause in
      inr (t.0, of_rows, t.2, t.3)
]
