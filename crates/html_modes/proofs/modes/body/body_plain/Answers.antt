use Rattle.std.specs.List.{list_all}
use Rattle.html_ledger.specs.Spaces.{is_space}
use Rattle.std.proofs.Common.{List, ℕ, refl, true, false, ap, sym, subst, take, arith, ◌∙◌, ◌+◌, ◌*◌, ◌-◌}
use Rattle.html_construction.specs.Built.{chars_of, with_tokens}
use Rattle.html_construction.specs.States.{State}
use Rattle.html_construction.specs.Works.{Works}
use Rattle.html_modes.proofs.Constructing.{body-made}
use Rattle.html_modes.proofs.InBody.{reconstructed}
use Rattle.html_modes.proofs.Settled.{works-run}
use Rattle.html_modes.proofs.TextRuns.{run-counted, run-flag, run-looked, turn-run}
use Rattle.html_modes.proofs.modes.body.body_plain.Goals as goal

pub returns-then-not-is_space_text-clause-plain : goal.returns-then-not-is_space_text-clause-plain
returns-then-not-is_space_text-clause-plain c = λ p e.
    run-flag false (take c.in_ok-taken.taken c.args.text.now) c.args.page.now c.look_again.new.self c.frameset_off.new.self c.frameset_off.ensures.rest
    (run-looked (take c.in_ok-taken.taken c.args.text.now) c.args.page.now c.insert_plain.new.self c.look_again.new.self c.look_again.ensures.rest c.look_again.ensures.same
    (turn-run (take c.in_ok-taken.taken c.args.text.now) c.args.page.now c.reconstruct.new.self c.insert_plain.new.self p
    (reconstructed c.args.page.now c.reconstruct.new.self p c.in_ok-reconstruct.ensures.rest c.in_ok-reconstruct.ensures.tags c.in_ok-reconstruct.ensures.exact)
    c.in_ok-taken.ensures.rest c.in_ok-taken.ensures.exact c.in_ok-taken.ensures.fate))

pub returns-else-not-is_space_text-clause-plain : goal.returns-else-not-is_space_text-clause-plain
returns-else-not-is_space_text-clause-plain c = λ p e.
    run-looked (take c.in_ok-taken.taken c.args.text.now) c.args.page.now c.insert_plain.new.self c.look_again.new.self c.look_again.ensures.rest c.look_again.ensures.same
    (turn-run (take c.in_ok-taken.taken c.args.text.now) c.args.page.now c.reconstruct.new.self c.insert_plain.new.self p
    (reconstructed c.args.page.now c.reconstruct.new.self p c.in_ok-reconstruct.ensures.rest c.in_ok-reconstruct.ensures.tags c.in_ok-reconstruct.ensures.exact)
    c.in_ok-taken.ensures.rest c.in_ok-taken.ensures.exact c.in_ok-taken.ensures.fate)

pub returns-then-not-is_space_text-clause-works : goal.returns-then-not-is_space_text-clause-works
returns-then-not-is_space_text-clause-works c =
    subst (λ (z : State). Works (c.in_ok-taken.taken + 6) 1 (3 * c.in_ok-taken.taken + 6) c.args.page.now z) (sym c.frameset_off.ensures.rest)
    (works-run c.in_ok-taken.taken (2 * (c.in_ok-taken.taken - 1)) c.args.page.now c.reconstruct.new.self c.insert_plain.new.self c.look_again.new.self (omega arith)
    c.in_ok-reconstruct.ensures.works c.in_ok-taken.ensures.works c.look_again.ensures.works)

pub returns-else-not-is_space_text-clause-works : goal.returns-else-not-is_space_text-clause-works
returns-else-not-is_space_text-clause-works c =
    works-run c.in_ok-taken.taken (2 * (c.in_ok-taken.taken - 1)) c.args.page.now c.reconstruct.new.self c.insert_plain.new.self c.look_again.new.self (omega arith)
    c.in_ok-reconstruct.ensures.works c.in_ok-taken.ensures.works c.look_again.ensures.works

pub returns-then-not-is_space_text-clause-takes : goal.returns-then-not-is_space_text-clause-takes
returns-then-not-is_space_text-clause-takes c = λ h built.
    let after = with_tokens h (chars_of (take c.in_ok-taken.taken c.args.text.now)) in
    c.frameset_off.ensures.keeps after (c.look_again.ensures.keeps after (c.in_ok-taken.ensures.takes h (c.in_ok-reconstruct.ensures.keeps h built)))

pub returns-else-not-is_space_text-clause-takes : goal.returns-else-not-is_space_text-clause-takes
returns-else-not-is_space_text-clause-takes c = λ h built.
    let after = with_tokens h (chars_of (take c.in_ok-taken.taken c.args.text.now)) in
    c.look_again.ensures.keeps after (c.in_ok-taken.ensures.takes h (c.in_ok-reconstruct.ensures.keeps h built))

pub returns-then-not-is_space_text-clause-run : goal.returns-then-not-is_space_text-clause-run
returns-then-not-is_space_text-clause-run c =
    body-made (take c.in_ok-taken.taken c.args.text.now) c.args.page.now c.reconstruct.new.self c.insert_plain.new.self c.look_again.new.self c.frameset_off.new.self false c.in_ok-reconstruct.ensures.rest c.in_ok-reconstruct.ensures.pointers c.in_ok-reconstruct.ensures.exact c.in_ok-reconstruct.ensures.counted
    c.in_ok-reconstruct.ensures.home c.in_ok-taken.ensures.goes_on c.in_ok-taken.ensures.rest c.in_ok-taken.ensures.exact c.in_ok-taken.ensures.fate c.look_again.ensures.rest c.look_again.ensures.same
    (sym c.if-not-is_space_text.true ∙ c.is_space_text.ensures.value ∙ ap (λ (cs : List ℕ). list_all is_space cs) (c.as_str.ensures.code_points ∙ c.front.ensures)) c.frameset_off.ensures.rest
    (run-counted c.in_ok-taken.taken c.args.text.now c.args.page.now c.reconstruct.new.self c.insert_plain.new.self c.frameset_off.new.self c.in_ok-taken.ensures.count.1 c.in_ok-reconstruct.ensures.rest c.in_ok-taken.ensures.exact c.in_ok-taken.ensures.counted (ap (λ (z : State). z.tree.steps) c.frameset_off.ensures.rest ∙ c.look_again.ensures.counted))

pub returns-else-not-is_space_text-clause-run : goal.returns-else-not-is_space_text-clause-run
returns-else-not-is_space_text-clause-run c =
    body-made (take c.in_ok-taken.taken c.args.text.now) c.args.page.now c.reconstruct.new.self c.insert_plain.new.self c.look_again.new.self c.look_again.new.self true c.in_ok-reconstruct.ensures.rest c.in_ok-reconstruct.ensures.pointers c.in_ok-reconstruct.ensures.exact c.in_ok-reconstruct.ensures.counted
    c.in_ok-reconstruct.ensures.home c.in_ok-taken.ensures.goes_on c.in_ok-taken.ensures.rest c.in_ok-taken.ensures.exact c.in_ok-taken.ensures.fate c.look_again.ensures.rest c.look_again.ensures.same
    (sym c.if-not-is_space_text.false ∙ c.is_space_text.ensures.value ∙ ap (λ (cs : List ℕ). list_all is_space cs) (c.as_str.ensures.code_points ∙ c.front.ensures)) refl
    (run-counted c.in_ok-taken.taken c.args.text.now c.args.page.now c.reconstruct.new.self c.insert_plain.new.self c.look_again.new.self c.in_ok-taken.ensures.count.1 c.in_ok-reconstruct.ensures.rest c.in_ok-taken.ensures.exact c.in_ok-taken.ensures.counted c.look_again.ensures.counted)
