use Rattle.std.proofs.Common.{refl, sym, inr}
use Rattle.html_tokens.proofs.AmpersandLemmas.{given_tells, letter_silent, letter_steps, letter_tells, semicolon_steps}
use Rattle.html_tokens.proofs.ToldLemmas.{quiet_same, tells_decided, tells_quiet}
use Rattle.html_tokens.proofs.machine.Machine.ampersand_step.Goals as goal

pub returns-then-is_ascii_alphanumeric-clause-steps : goal.returns-then-is_ascii_alphanumeric-clause-steps
returns-then-is_ascii_alphanumeric-clause-steps c =
    let first = rw c.in-Is-Some.field-0-is at c.in-Is-Some.ensures in
    letter_steps c.args.self.now _ c.args.start c.in-Is-Some.c _ c.requires.state first.0 first.1 (sym c.if-is_ascii_alphanumeric.ensures.value) c.letter_given.ensures

pub returns-then-is_ascii_alphanumeric-clause-tells : goal.returns-then-is_ascii_alphanumeric-clause-tells
returns-then-is_ascii_alphanumeric-clause-tells c =
    let first = rw c.in-Is-Some.field-0-is at c.in-Is-Some.ensures in
    tells_quiet c.args.self.now _ c.args.faults.now c.args.faults.now (letter_silent c.args.self.now c.args.start c.in-Is-Some.c c.requires.state (sym c.if-is_ascii_alphanumeric.ensures.value) first.0 first.1) (quiet_same c.args.faults.now)

pub returns-then-c-eq59-clause-steps : goal.returns-then-c-eq59-clause-steps
returns-then-c-eq59-clause-steps c =
    let first = rw c.in-Is-Some.field-0-is at c.in-Is-Some.ensures in
    semicolon_steps c.args.self.now _ c.args.start c.in-Is-Some.c _ c.requires.state first.0 first.1 c.if-c-eq59.true c.letter_given-then-c-eq59.ensures

pub returns-then-c-eq59-clause-tells : goal.returns-then-c-eq59-clause-tells
returns-then-c-eq59-clause-tells c =
    let first = rw c.in-Is-Some.field-0-is at c.in-Is-Some.ensures in
    given_tells c.args.self.now _ c.args.faults.now c.ampersand.new.self c.letter_given-then-c-eq59.ensures.0
    (tells_decided c.args.self.now _ c.args.faults.now c.ampersand.new.self (letter_tells c.args.self.now c.args.start c.in-Is-Some.c c.requires.state (inr c.if-c-eq59.true) first.0 first.1) c.ampersand.ensures.opens)

pub letters_end-requires-clause-front : goal.letters_end-requires-clause-front
letters_end-requires-clause-front c =
    let at_end = rw c.in-Is-None.field-0-is at c.in-Is-None.ensures in
    λ more h. rw (at_end.0 more h) refl
