use Rattle.std.proofs.Common.{◌∙◌, Some, ap, inr, subst}
use Rattle.html_parser.specs.Options.{start_of}
use Rattle.zilqumet_c.specs.Audits.{AreAudited}
use Rattle.zilqumet_c.specs.Causes.{IsPageCause, IsToldBy}
use Rattle.zilqumet_c.specs.Reads.{options_in, rows_in}
use Rattle.zilqumet_c.proofs.audits.proved_audit_fragment.Goals as goal

pub returns-in-Ok-clause-audited : goal.returns-in-Ok-clause-audited
returns-in-Ok-clause-audited c = λ is_ok.
    let is = c.options_of-options.ensures ∙ ap (λ x. options_in c.args.limits.now (Some x)) c.in-Ok.ensures.value in
    subst (λ o. AreAudited (start_of (rows_in c.args.entities.now.value) o) c.args.bytes.now c.audit.new.page.value c.audit.new.ledger.value) is (c.audit.ensures.audited is_ok)

pub returns-in-Ok-clause-cause : goal.returns-in-Ok-clause-cause
returns-in-Ok-clause-cause c = λ bad.
    let is = c.options_of-options.ensures ∙ ap (λ x. options_in c.args.limits.now (Some x)) c.in-Ok.ensures.value in
    inr (subst (λ o. IsToldBy (IsPageCause (rows_in c.args.entities.now.value) o c.args.bytes.now) c.audit.result c.audit.new.at) is (c.audit.ensures.cause bad))
