use Rattle.std.proofs.Common.{◌∙◌, Some, [], ap, inl, inr, subst}
use Rattle.html_parser.specs.Options.{HasGoodContext, IsBeginCause, start_of}
use Rattle.zilqumet_c.specs.Causes.{IsToldBy}
use Rattle.zilqumet_c.specs.Pieces.{IsFedIn}
use Rattle.zilqumet_c.specs.Reads.{options_in, rows_in}
use Rattle.zilqumet_c.proofs.pushing.proved_parser_new_fragment.Goals as goal

pub returns-in-Ok-clause-begun : goal.returns-in-Ok-clause-begun
returns-in-Ok-clause-begun c = λ is_ok.
    let is = c.options_of.ensures ∙ ap (λ x. options_in c.args.limits.now (Some x)) c.in-Ok.ensures.value in
    subst (λ o. IsFedIn (start_of (rows_in c.args.entities.now.value) o) c.begin.new.parser.value []) is (c.begin.ensures.begun is_ok)

pub returns-in-Ok-clause-good : goal.returns-in-Ok-clause-good
returns-in-Ok-clause-good c = λ is_ok.
    let is = c.options_of.ensures ∙ ap (λ x. options_in c.args.limits.now (Some x)) c.in-Ok.ensures.value in
    (c.in-Ok.ensures.good, subst HasGoodContext is (c.begin.ensures.good is_ok))

pub returns-in-Ok-clause-cause : goal.returns-in-Ok-clause-cause
returns-in-Ok-clause-cause c = λ bad.
    let is = c.options_of.ensures ∙ ap (λ x. options_in c.args.limits.now (Some x)) c.in-Ok.ensures.value in
    inr (subst (λ o. IsToldBy (IsBeginCause o) c.begin.result 0) is (c.begin.ensures.cause bad))
