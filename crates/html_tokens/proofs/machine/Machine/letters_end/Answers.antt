use Rattle.html_tokens.proofs.AmpersandLemmas.{letters_bounded, letters_left, letters_left_tell, letters_wait, text_bounded}
use Rattle.html_tokens.proofs.machine.Machine.letters_end.Goals as goal

pub returns-in-Wait-clause-steps : goal.returns-in-Wait-clause-steps
returns-in-Wait-clause-steps c = rw c.enter-in-Wait.ensures (letters_wait c.args.self.now c.text_step.new.self c.args.start c.requires.state (rw (c.in-Wait.is, c.enter.ensures) at c.text_step.ensures.steps))

pub returns-in_default-clause-steps : goal.returns-in_default-clause-steps
returns-in_default-clause-steps c = letters_left c.args.self.now c.text_step.new.self c.args.start c.text_step.result c.requires.state c.requires.front c.in_default.not-Wait (rw c.enter.ensures at c.text_step.ensures.steps)

pub returns-in-Wait-clause-tells : goal.returns-in-Wait-clause-tells
returns-in-Wait-clause-tells c = rw c.in-Wait.is at c.text_step.ensures.tells

pub returns-in_default-clause-tells : goal.returns-in_default-clause-tells
returns-in_default-clause-tells c = letters_left_tell c.args.self.now c.args.start c.text_step.result c.args.faults.now c.text_step.new.faults c.requires.state c.requires.front (rw c.enter.ensures at c.text_step.ensures.tells)

pub returns-in-Wait-clause-bounded : goal.returns-in-Wait-clause-bounded
returns-in-Wait-clause-bounded c = λ b.
    let same = (rw (c.in-Wait.is, c.enter.ensures) at c.text_step.ensures.steps).0 in
    let within = (rw c.enter.ensures at c.text_step.ensures.bounded) (letters_bounded c.args.start c.args.self.now.place c.args.faults.now (rw c.requires.state at b)) in
    rw (c.enter-in-Wait.ensures, same) (text_bounded c.args.start c.args.self.now.place c.text_step.new.faults (rw same at within))

pub returns-in_default-clause-bounded : goal.returns-in_default-clause-bounded
returns-in_default-clause-bounded c = λ b. (rw c.enter.ensures at c.text_step.ensures.bounded) (letters_bounded c.args.start c.args.self.now.place c.args.faults.now (rw c.requires.state at b))
