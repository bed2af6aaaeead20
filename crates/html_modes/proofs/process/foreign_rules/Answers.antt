use Rattle.std.proofs.Common.{ap, sym, ◌∙◌}
use Rattle.std.proofs.lemmas.Bool.{false≢true}
use Rattle.html_construction.specs.States.{State}
use Rattle.html_modes.specs.RulesForeign.{in_foreign}
use Rattle.html_modes.specs.declared.outcome.Outcome.TheVariants.{Done}
use Rattle.html_modes.proofs.Dispatching.{closed-then, left-on}
use Rattle.html_modes.proofs.Embedding.{Counted-stayed, Falls-after, Falls-stayed, Spends-after, Spends-stayed, Steps-after}
use Rattle.html_modes.proofs.Settled.{Counted-after}
use Rattle.html_modes.proofs.process.foreign_rules.Goals as goal

pub returns-then-goes_on-clause-takes : goal.returns-then-goes_on-clause-takes
returns-then-goes_on-clause-takes c = Steps-after c.in_ok-outcome.outcome c.args.symbol c.args.token.now c.args.page.now c.goes_on.new.page c.rules.new.page c.goes_on.ensures.rest c.goes_on.ensures.keeps c.in_ok-outcome.ensures.takes

pub returns-then-goes_on-clause-falls : goal.returns-then-goes_on-clause-falls
returns-then-goes_on-clause-falls c = Falls-after c.in_ok-outcome.outcome c.args.symbol c.args.token.now c.args.page.now c.goes_on.new.page c.rules.new.page c.goes_on.ensures.rest c.goes_on.ensures.lighter c.in_ok-outcome.ensures.falls

pub returns-then-goes_on-clause-spends : goal.returns-then-goes_on-clause-spends
returns-then-goes_on-clause-spends c = Spends-after c.in_ok-outcome.outcome c.args.symbol c.args.token.now c.args.page.now c.goes_on.new.page c.rules.new.page c.goes_on.ensures.rest c.goes_on.ensures.grown c.in_ok-outcome.ensures.spends

pub returns-then-goes_on-clause-counts : goal.returns-then-goes_on-clause-counts
returns-then-goes_on-clause-counts c = Counted-after c.in_ok-outcome.outcome c.args.token.now c.args.page.now c.goes_on.new.page c.rules.new.page c.goes_on.ensures.grown c.goes_on.ensures.works c.in_ok-outcome.ensures.counts

pub returns-clause-spends : goal.returns-clause-spends
returns-clause-spends c = Spends-stayed c.args.page.now c.goes_on.new.page c.stay.new.page c.goes_on.ensures.grown c.in_ok-stay.ensures.grown

pub returns-clause-counts : goal.returns-clause-counts
returns-clause-counts c = Counted-stayed c.args.token.now c.args.page.now c.goes_on.new.page c.stay.new.page c.goes_on.ensures.grown c.in_ok-stay.ensures.grown c.goes_on.ensures.works c.in_ok-stay.ensures.works

pub returns-clause-falls : goal.returns-clause-falls
returns-clause-falls c = Falls-stayed c.args.symbol c.args.page.now c.goes_on.new.page c.stay.new.page c.requires.loose (ap (λ (x : State). x.mode) c.goes_on.ensures.rest) (ap (λ (x : State). x.mode) c.in_ok-stay.ensures.rest) c.goes_on.ensures.lighter c.in_ok-stay.ensures.heavier

pub returns-clause-stays : goal.returns-clause-stays
returns-clause-stays c = λ n.
    closed-then (in_foreign c.args.around c.args.symbol) Done c.args.symbol c.args.token.now c.args.page.now c.goes_on.new.page c.stay.new.page c.goes_on.ensures.rest c.goes_on.ensures.exact c.in_ok-stay.ensures.follows

pub returns-then-goes_on-clause-stays : goal.returns-then-goes_on-clause-stays
returns-then-goes_on-clause-stays c = λ n. absurd (false≢true (sym n ∙ sym c.goes_on.ensures.answer ∙ c.if-goes_on.true))

pub returns-then-goes_on-clause-on : goal.returns-then-goes_on-clause-on
returns-then-goes_on-clause-on c = λ n. left-on c.in_ok-outcome.outcome c.args.symbol c.args.token.now c.args.page.now c.goes_on.new.page c.rules.new.page c.goes_on.ensures.rest c.goes_on.ensures.exact c.in_ok-outcome.ensures.follows

pub returns-clause-on : goal.returns-clause-on
returns-clause-on c = λ n. absurd (false≢true (sym c.if-goes_on.false ∙ c.goes_on.ensures.answer ∙ n))
