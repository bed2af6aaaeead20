use Rattle.std.proofs.Common.{refl, true, false, ap, sym, subst, take, arith, ◌∙◌, ◌+◌, ◌*◌, ◌-◌}
use Rattle.html_construction.specs.States.{State}
use Rattle.html_construction.specs.Works.{Works}
use Rattle.html_modes.proofs.Constructing.{body-made}
use Rattle.html_modes.proofs.InBody.{reconstructed}
use Rattle.html_modes.proofs.Settled.{works-run}
use Rattle.html_modes.proofs.TextRuns.{run-counted, run-flag, run-looked, turn-run}
use Rattle.html_modes.proofs.modes.body.body_run.Goals as goal

pub returns-then-not-are_spaces-clause-plain : goal.returns-then-not-are_spaces-clause-plain
returns-then-not-are_spaces-clause-plain c = λ p e.
    run-flag false (take c.in_ok-count.count c.args.run.now) c.args.page.now c.look_again.new.self c.frameset_off.new.self c.frameset_off.ensures.rest
    (run-looked (take c.in_ok-count.count c.args.run.now) c.args.page.now c.insert_run.new.self c.look_again.new.self c.look_again.ensures.rest c.look_again.ensures.same
    (turn-run (take c.in_ok-count.count c.args.run.now) c.args.page.now c.reconstruct.new.self c.insert_run.new.self p
    (reconstructed c.args.page.now c.reconstruct.new.self p c.in_ok-reconstruct.ensures.rest c.in_ok-reconstruct.ensures.tags c.in_ok-reconstruct.ensures.exact)
    c.in_ok-count.ensures.rest c.in_ok-count.ensures.exact c.in_ok-count.ensures.fate))

pub returns-else-not-are_spaces-clause-plain : goal.returns-else-not-are_spaces-clause-plain
returns-else-not-are_spaces-clause-plain c = λ p e.
    run-looked (take c.in_ok-count.count c.args.run.now) c.args.page.now c.insert_run.new.self c.look_again.new.self c.look_again.ensures.rest c.look_again.ensures.same
    (turn-run (take c.in_ok-count.count c.args.run.now) c.args.page.now c.reconstruct.new.self c.insert_run.new.self p
    (reconstructed c.args.page.now c.reconstruct.new.self p c.in_ok-reconstruct.ensures.rest c.in_ok-reconstruct.ensures.tags c.in_ok-reconstruct.ensures.exact)
    c.in_ok-count.ensures.rest c.in_ok-count.ensures.exact c.in_ok-count.ensures.fate)

pub returns-then-not-are_spaces-clause-works : goal.returns-then-not-are_spaces-clause-works
returns-then-not-are_spaces-clause-works c =
    subst (λ (z : State). Works (c.in_ok-count.count + 6) 1 (3 * c.in_ok-count.count + 6) c.args.page.now z) (sym c.frameset_off.ensures.rest)
    (works-run c.in_ok-count.count (2 * (c.in_ok-count.count - 1)) c.args.page.now c.reconstruct.new.self c.insert_run.new.self c.look_again.new.self (omega arith)
    c.in_ok-reconstruct.ensures.works c.in_ok-count.ensures.works c.look_again.ensures.works)

pub returns-else-not-are_spaces-clause-works : goal.returns-else-not-are_spaces-clause-works
returns-else-not-are_spaces-clause-works c =
    works-run c.in_ok-count.count (2 * (c.in_ok-count.count - 1)) c.args.page.now c.reconstruct.new.self c.insert_run.new.self c.look_again.new.self (omega arith)
    c.in_ok-reconstruct.ensures.works c.in_ok-count.ensures.works c.look_again.ensures.works

pub returns-then-not-are_spaces-clause-run : goal.returns-then-not-are_spaces-clause-run
returns-then-not-are_spaces-clause-run c =
    body-made (take c.in_ok-count.count c.args.run.now) c.args.page.now c.reconstruct.new.self c.insert_run.new.self c.look_again.new.self c.frameset_off.new.self false c.in_ok-reconstruct.ensures.rest c.in_ok-reconstruct.ensures.pointers c.in_ok-reconstruct.ensures.exact c.in_ok-reconstruct.ensures.counted
    c.in_ok-reconstruct.ensures.home c.in_ok-count.ensures.goes_on c.in_ok-count.ensures.rest c.in_ok-count.ensures.exact c.in_ok-count.ensures.fate c.look_again.ensures.rest c.look_again.ensures.same
    (sym c.if-not-are_spaces.true ∙ c.are_spaces.ensures.value) c.frameset_off.ensures.rest
    (run-counted c.in_ok-count.count c.args.run.now c.args.page.now c.reconstruct.new.self c.insert_run.new.self c.frameset_off.new.self c.in_ok-count.ensures.count.1 c.in_ok-reconstruct.ensures.rest c.in_ok-count.ensures.exact c.in_ok-count.ensures.counted (ap (λ (z : State). z.tree.steps) c.frameset_off.ensures.rest ∙ c.look_again.ensures.counted))

pub returns-else-not-are_spaces-clause-run : goal.returns-else-not-are_spaces-clause-run
returns-else-not-are_spaces-clause-run c =
    body-made (take c.in_ok-count.count c.args.run.now) c.args.page.now c.reconstruct.new.self c.insert_run.new.self c.look_again.new.self c.look_again.new.self true c.in_ok-reconstruct.ensures.rest c.in_ok-reconstruct.ensures.pointers c.in_ok-reconstruct.ensures.exact c.in_ok-reconstruct.ensures.counted
    c.in_ok-reconstruct.ensures.home c.in_ok-count.ensures.goes_on c.in_ok-count.ensures.rest c.in_ok-count.ensures.exact c.in_ok-count.ensures.fate c.look_again.ensures.rest c.look_again.ensures.same
    (sym c.if-not-are_spaces.false ∙ c.are_spaces.ensures.value) refl
    (run-counted c.in_ok-count.count c.args.run.now c.args.page.now c.reconstruct.new.self c.insert_run.new.self c.look_again.new.self c.in_ok-count.ensures.count.1 c.in_ok-reconstruct.ensures.rest c.in_ok-count.ensures.exact c.in_ok-count.ensures.counted c.look_again.ensures.counted)

pub returns-then-not-are_spaces-clause-takes : goal.returns-then-not-are_spaces-clause-takes
returns-then-not-are_spaces-clause-takes c = λ h w. c.frameset_off.ensures.keeps _ (c.look_again.ensures.keeps _ (c.in_ok-count.ensures.takes h (c.in_ok-reconstruct.ensures.keeps h w)))

pub returns-else-not-are_spaces-clause-takes : goal.returns-else-not-are_spaces-clause-takes
returns-else-not-are_spaces-clause-takes c = λ h w. c.look_again.ensures.keeps _ (c.in_ok-count.ensures.takes h (c.in_ok-reconstruct.ensures.keeps h w))
