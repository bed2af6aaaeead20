use Rattle.std.proofs.Common.{subst}
use Rattle.html_parser.specs.Options.{start_of}
use Rattle.zilqumet_c.specs.Audits.{AreAudited}
use Rattle.zilqumet_c.specs.Causes.{IsPageCause, IsToldBy}
use Rattle.zilqumet_c.specs.Reads.{rows_in}
use Rattle.zilqumet_c.proofs.audits.proved_audit.Goals as goal

pub returns-clause-audited : goal.returns-clause-audited
returns-clause-audited c = λ is_ok.
    subst (λ o. AreAudited (start_of (rows_in c.args.entities.now.value) o) c.args.bytes.now c.audit.new.page.value c.audit.new.ledger.value) c.options_of-options.ensures
    (c.audit.ensures.audited is_ok)

pub returns-clause-cause : goal.returns-clause-cause
returns-clause-cause c = λ bad.
    subst (λ o. IsToldBy (IsPageCause (rows_in c.args.entities.now.value) o c.args.bytes.now) c.audit.result c.audit.new.at) c.options_of-options.ensures (c.audit.ensures.cause bad)
