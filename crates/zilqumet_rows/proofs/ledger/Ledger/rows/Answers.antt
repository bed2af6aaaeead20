use Rattle.std.proofs.Common.{◌∙◌, drop, ap, subst}
use Rattle.zilqumet_rows.specs.Entries.{AreTokens, entries}
use Rattle.zilqumet_rows.proofs.ledger.Ledger.rows.Goals as goal

pub returns-clause-tokens : goal.returns-clause-tokens
returns-clause-tokens c =
    let whole = ap (λ ts. drop c.args.from (entries ts c.iter-fates.result)) c.iter-tokens.ensures.value ∙ ap (λ fs. drop c.args.from (entries c.args.self.now.tokens fs)) c.iter-fates.ensures.value in
    subst (λ es. AreTokens es c.fill.result c.fill.new.rows) (c.pass_over.ensures ∙ whole) c.fill.ensures.tokens
