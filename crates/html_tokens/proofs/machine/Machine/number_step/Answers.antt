use Rattle.std.proofs.Common.{refl, arith}
use Rattle.html_tokens.proofs.StepLemmas.{number_more, number_given, number_ends, number_stops, passes_to}
use Rattle.html_tokens.proofs.ReferenceLemmas.{not_semicolon}
use Rattle.html_tokens.proofs.EndLemmas.{differs}
use Rattle.html_tokens.proofs.ToldLemmas.{number_tells, quiet_same, tells_quiet}
use Rattle.html_tokens.specs.declared.machine.Progress.TheVariants.{More}
use Rattle.html_tokens.proofs.machine.Machine.number_step.Goals as goal

pub returns-in-Is-None-clause-steps : goal.returns-in-Is-None-clause-steps
returns-in-Is-None-clause-steps c =
    let at_end = rw c.in-Is-None.field-0-is at c.in-Is-None.ensures in
    number_given c.args.self.now _ c.args.draft 0 _ c.requires.state (omega arith) (number_ends c.args.self.now c.args.draft at_end.0) (λ more h. rw (at_end.0 more h) refl) c.number_given.ensures

pub returns-in-Some-clause-steps : goal.returns-in-Some-clause-steps
returns-in-Some-clause-steps c =
    let first = rw c.in-Is-Some.field-0-is at c.in-Is-Some.ensures in
    rw c.enter.ensures
    (number_more c.args.self.now _ c.args.draft c.in-Is-Some.c c.in-Some.d c.add_digit.result c.requires.state first.0 first.1 c.in-Some.ensures.0 c.in-Some.ensures.1 c.add_digit.ensures.value
    (passes_to c.args.self.now c.pass.new.self 1 _ _ c.pass.ensures))

pub returns-in-None-clause-steps : goal.returns-in-None-clause-steps
returns-in-None-clause-steps c =
    let first = rw c.in-Is-Some.field-0-is at c.in-Is-Some.ensures in
    number_given c.args.self.now _ c.args.draft 1 _ c.requires.state (omega (arith, first.1)) (number_stops c.args.self.now c.args.draft c.in-Is-Some.c 1 first.0 first.1 c.in-None.ensures (rw c.if-c-eq59.true refl)) (λ more h. rw (first.0 more h) c.in-None.ensures) c.number_given-in-None.ensures

pub returns-in-None-2-clause-steps : goal.returns-in-None-2-clause-steps
returns-in-None-2-clause-steps c =
    let first = rw c.in-Is-Some.field-0-is at c.in-Is-Some.ensures in
    number_given c.args.self.now _ c.args.draft 0 _ c.requires.state (omega arith) (number_stops c.args.self.now c.args.draft c.in-Is-Some.c 0 first.0 first.1 c.in-None.ensures (not_semicolon c.in-Is-Some.c c.if-c-eq59.false)) (λ more h. rw (first.0 more h) c.in-None.ensures) c.number_given-in-None-2.ensures

pub returns-in-Is-None-clause-tells : goal.returns-in-Is-None-clause-tells
returns-in-Is-None-clause-tells c =
    let at_end = rw c.in-Is-None.field-0-is at c.in-Is-None.ensures in
    number_tells c.args.self.now _ c.args.draft _ c.args.faults.now c.number.new.self c.requires.state c.number_given.ensures.0 (λ more h. rw (at_end.0 more h) refl) c.number.ensures.opens

pub returns-in-Some-clause-tells : goal.returns-in-Some-clause-tells
returns-in-Some-clause-tells c =
    let first = rw c.in-Is-Some.field-0-is at c.in-Is-Some.ensures in
    tells_quiet c.args.self.now More c.args.faults.now c.args.faults.now (λ more h. rw (c.requires.state, first.0 more h, c.in-Some.ensures.0) refl) (quiet_same c.args.faults.now)

pub returns-in-None-clause-tells : goal.returns-in-None-clause-tells
returns-in-None-clause-tells c =
    let first = rw c.in-Is-Some.field-0-is at c.in-Is-Some.ensures in
    number_tells c.args.self.now _ c.args.draft _ c.args.faults.now c.number-in-None.new.self c.requires.state c.number_given-in-None.ensures.0 (λ more h. rw (first.0 more h, c.in-None.ensures, c.if-c-eq59.true) refl) c.number-in-None.ensures.opens

pub returns-in-None-2-clause-tells : goal.returns-in-None-2-clause-tells
returns-in-None-2-clause-tells c =
    let first = rw c.in-Is-Some.field-0-is at c.in-Is-Some.ensures in
    number_tells c.args.self.now _ c.args.draft _ c.args.faults.now c.number-in-None-2.new.self c.requires.state c.number_given-in-None-2.ensures.0
    (λ more h. rw (first.0 more h, c.in-None.ensures, differs c.in-Is-Some.c 59 c.if-c-eq59.false) refl) c.number-in-None-2.ensures.opens
