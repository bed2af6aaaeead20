use Rattle.std.proofs.Common.{ap, subst, sym, ◌∙◌, ◌*◌, ◌-◌, ◌^◌, length, min}
use Rattle.std.proofs.lemmas.Result.{err_from_is_err_and}
use Rattle.html_arena.specs.Budget.{budget}
use Rattle.html_tree.specs.Inserting.{IsLack}
use Rattle.html_tree.specs.States.{State}
use Rattle.html_tree.specs.Texts.{IsTextPassed, IsTextRefused, place_here, text_before}
use Rattle.html_tree.specs.Steps.{here_steps, new_text_steps}
use Rattle.html_tree.proofs.Counted.{new-text-most, run-most, run-steps}
use Rattle.html_tree.proofs.Inserted.{place-most}
use Rattle.html_tree.proofs.Texted.{text-lack, text-passed}
use Rattle.html_tree.proofs.tree.OpenTree.append_run.Goals as goal

pub returns-in_err-count-clause-cause : goal.returns-in_err-count-clause-cause
returns-in_err-count-clause-cause c =
    let p = err_from_is_err_and c.from_residual-in_err-count.result c.from_residual-in_err-count.ensures.1 in
    rw p.1 (subst (λ e. IsTextRefused c.args.self.now c.args.foster e) (sym p.2) (text-lack c.args.self.now.tree (place_here c.args.self.now c.args.foster) (text_before c.args.self.now.tree (place_here c.args.self.now c.args.foster)) _
    (subst (λ (a : State). IsLack (budget a.tree 0 1) c.in_err-count.field-0.0) c.in_ok-node.ensures.exact c.in_err-count.ensures.cause)))

pub returns-in_err-count-clause-told : goal.returns-in_err-count-clause-told
returns-in_err-count-clause-told c =
    let p = err_from_is_err_and c.from_residual-in_err-count.result c.from_residual-in_err-count.ensures.1 in
    rw p.1 (subst (λ e. IsTextPassed c.args.self.now c.append_to.new.self e) (sym p.2)
    (text-passed c.args.self.now c.text_at.new.self c.append_to.new.self c.args.foster c.in_err-count.field-0.0 (ap (λ (a : State). a.tree) c.in_ok-node.ensures.exact) c.in_err-count.ensures.told))

pub returns-clause-counted : goal.returns-clause-counted
returns-clause-counted c =
    run-steps c.args.self.now.steps (here_steps c.args.self.now c.args.foster) (new_text_steps (text_before c.args.self.now.tree (place_here c.args.self.now c.args.foster)) (here_steps c.args.self.now c.args.foster)) c.in_ok-count.count
    c.text_at.new.self.steps c.append_to.new.self.steps (min (c.here_steps-steps.result * (c.in_ok-count.count - 1)) (2 ^ 128 - 1)) c.charge_again.new.self.steps c.in_ok-count.ensures.count.0 c.in_ok-node.ensures.counted c.in_ok-count.ensures.counted
    (ap (λ h. min (h * (c.in_ok-count.count - 1)) (2 ^ 128 - 1)) c.here_steps-steps.ensures.value) c.charge_again.ensures.counted

pub returns-clause-steps : goal.returns-clause-steps
returns-clause-steps c =
    run-most c.args.self.now.steps (here_steps c.args.self.now c.args.foster) (new_text_steps (text_before c.args.self.now.tree (place_here c.args.self.now c.args.foster)) (here_steps c.args.self.now c.args.foster)) c.in_ok-count.count
    (length c.args.self.now.stack) c.charge_again.new.self.steps c.in_ok-count.ensures.count.0 (place-most c.args.self.now.tree c.args.self.now.stack c.args.foster) (new-text-most (text_before c.args.self.now.tree (place_here c.args.self.now c.args.foster)) (here_steps c.args.self.now c.args.foster)) (returns-clause-counted c)

pub returns-clause-keeps : goal.returns-clause-keeps
returns-clause-keeps c = λ s since. c.charge_again.ensures.keeps s (c.in_ok-count.ensures.keeps s (c.in_ok-node.ensures.keeps s since))
