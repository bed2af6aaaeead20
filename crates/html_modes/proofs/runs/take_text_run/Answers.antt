use Rattle.std.proofs.Common.{◌≤◌, ap, arith, length, subst, sym}
use Rattle.html_construction.specs.States.{State}
use Rattle.html_construction.specs.Weights.{weight}
use Rattle.html_modes.proofs.Constructing.{text-taken}
use Rattle.html_modes.proofs.Settled.{Toils-called, text-grown, text-works}
use Rattle.html_modes.proofs.Begun.{begun-refuses-any}
use Rattle.html_modes.proofs.runs.take_text_run.Goals as goal

pub returns-in_err-count-clause-refuses : goal.returns-in_err-count-clause-refuses
returns-in_err-count-clause-refuses c = begun-refuses-any c.from_residual.result c.args.page.now c.begin_call.new.self c.insert_run.new.self c.in_err-count.field-0.0 c.from_residual.ensures.1 c.begin_call.ensures.begins c.in_err-count.ensures.refuses

pub returns-clause-toils : goal.returns-clause-toils
returns-clause-toils c =
    Toils-called c.in_ok-count.count c.args.page.now c.begin_call.new.self c.insert_run.new.self c.count_steps.new.self _ _ _ c.begin_call.ensures.rest c.in_ok-count.ensures.count.0
    (text-grown c.in_ok-count.count (length c.begin_call.new.self.ledger.fates) c.begin_call.new.self c.insert_run.new.self c.in_ok-count.ensures.grown)
    (subst (λ (z : State). weight z.stack ≤ weight c.begin_call.new.self.stack) (sym c.in_ok-count.ensures.rest) (omega arith)) (ap (λ (z : State). z.mode) c.in_ok-count.ensures.rest) c.count_steps.ensures.rest c.count_steps.ensures.grown
    (text-works c.in_ok-count.count c.begin_call.new.self c.insert_run.new.self c.in_ok-count.ensures.works) c.count_steps.ensures.works

pub returns-clause-each : goal.returns-clause-each
returns-clause-each c =
    text-taken c.in_ok-count.count c.args.run.now c.args.page.now c.begin_call.new.self c.insert_run.new.self c.count_steps.new.self c.begin_call.ensures.rest c.requires.mode c.requires.home
    c.in_ok-count.ensures.count.0 c.in_ok-count.ensures.count.1 c.requires.may c.in_ok-count.ensures.goes_on c.in_ok-count.ensures.rest c.in_ok-count.ensures.exact c.in_ok-count.ensures.fate c.in_ok-count.ensures.counted c.count_steps.ensures.rest c.count_steps.ensures.same c.count_steps.ensures.counted
