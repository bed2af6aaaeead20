use Rattle.std.proofs.Common.{ap, length, take}
use Rattle.html_construction.specs.States.{State}
use Rattle.html_modes.proofs.Constructing.{body-taken}
use Rattle.html_modes.proofs.Settled.{Pays-called, Toils-called}
use Rattle.html_modes.proofs.Begun.{begun-refuses-any}
use Rattle.html_modes.proofs.Plain.{alike-begun, alike-counted}
use Rattle.html_modes.proofs.TextRuns.{run-goes-on}
use Rattle.html_modes.proofs.runs.take_body_run.Goals as goal

pub returns-clause-plain : goal.returns-clause-plain
returns-clause-plain c =
    run-goes-on (take c.in_ok-count.count c.args.run.now) c.args.page.now c.begin_call.new.self c.body_run.new.page c.count_steps.new.self
    (alike-begun c.args.page.now c.begin_call.new.self c.args.page.now.mode (length c.args.page.now.stack) (length c.args.page.now.tree.tree.labels) c.begin_call.ensures.rest)
    c.in_ok-count.ensures.plain (alike-counted c.body_run.new.page c.count_steps.new.self c.count_steps.ensures.rest c.count_steps.ensures.same)
    c.laws.ensures.sound c.laws.ensures.tags

pub returns-in_err-count-clause-refuses : goal.returns-in_err-count-clause-refuses
returns-in_err-count-clause-refuses c = begun-refuses-any c.from_residual.result c.args.page.now c.begin_call.new.self c.body_run.new.page c.in_err-count.field-0.0 c.from_residual.ensures.1 c.begin_call.ensures.begins c.in_err-count.ensures.refuses

pub returns-clause-pays : goal.returns-clause-pays
returns-clause-pays c =
    Pays-called c.in_ok-count.count c.args.page.now c.begin_call.new.self c.body_run.new.page c.count_steps.new.self _ _ _ c.begin_call.ensures.rest c.in_ok-count.ensures.count.0 c.in_ok-count.ensures.grown
    c.in_ok-count.ensures.lighter (ap (λ (z : State). z.mode) c.in_ok-count.ensures.rest) c.count_steps.ensures.rest c.count_steps.ensures.grown

pub returns-clause-toils : goal.returns-clause-toils
returns-clause-toils c =
    Toils-called c.in_ok-count.count c.args.page.now c.begin_call.new.self c.body_run.new.page c.count_steps.new.self _ _ _ c.begin_call.ensures.rest c.in_ok-count.ensures.count.0 c.in_ok-count.ensures.grown
    c.in_ok-count.ensures.lighter (ap (λ (z : State). z.mode) c.in_ok-count.ensures.rest) c.count_steps.ensures.rest c.count_steps.ensures.grown c.in_ok-count.ensures.works c.count_steps.ensures.works

pub returns-clause-each : goal.returns-clause-each
returns-clause-each c =
    body-taken c.in_ok-count.count c.args.run.now c.args.page.now c.begin_call.new.self c.body_run.new.page c.count_steps.new.self c.begin_call.ensures.rest c.requires.mode c.requires.loose c.requires.home
    c.in_ok-count.ensures.count.0 c.in_ok-count.ensures.count.1 c.requires.may c.in_ok-count.ensures.run c.count_steps.ensures.rest c.count_steps.ensures.same c.count_steps.ensures.counted

pub returns-clause-takes : goal.returns-clause-takes
returns-clause-takes c = λ h w. c.count_steps.ensures.keeps _ (c.in_ok-count.ensures.takes _ (c.begin_call.ensures.begins h w))
