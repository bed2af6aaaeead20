use Rattle.std.proofs.Common.{◌≡◌, ap, ◌∙◌, sym, subst}
use Rattle.std.specs.Prelude.{IfNone, []}
use Rattle.zilqumet_rows.specs.Entries.{entries}
use Rattle.zilqumet_rows.proofs.Telling.{entries-none}
use Rattle.zilqumet_rows.proofs.ledger.next_entry.Goals as goal

pub returns-in_err-fate-clause-none : goal.returns-in_err-fate-clause-none
returns-in_err-fate-clause-none c =
    let gone = c.in_err-fate.ensures.steps in
    let before = ap (λ fs. entries c.args.tokens.now fs) gone.0 ∙ entries-none c.args.tokens.now in
    let after = ap (λ fs. entries c.next.new.self fs) gone.1 ∙ entries-none c.next.new.self in
    subst (λ r. IfNone r ((entries c.args.tokens.now c.args.fates.now ≡ []) × (entries c.next.new.self c.next-2.new.self ≡ []))) (sym c.from_residual-in_err-fate.ensures) (before, after)
