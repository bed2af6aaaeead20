use Rattle.std.proofs.Common.{[], refl, arith}
use Rattle.std.specs.Prelude.{None}
use Rattle.html_tokens.specs.declared.machine.Progress.TheVariants.{More}
use Rattle.html_tokens.proofs.BoundLemmas.{chars_bounded}
use Rattle.html_tokens.proofs.StepLemmas.{ampersand_given, chars_given, named_none, named_some, number_begins, passes_to, soon_few}
use Rattle.html_tokens.proofs.ToldLemmas.{both_told, quiet_same, ref_tells, ref_told, tells_decided, tells_quiet}
use Rattle.html_tokens.proofs.machine.Machine.ref_step.Goals as goal

pub returns-in-Some-Literal-clause-steps : goal.returns-in-Some-Literal-clause-steps
returns-in-Some-Literal-clause-steps c =
    let found = rw c.in-Some-Literal.field-0-is at c.in-Some-Literal.ensures in
    chars_given c.args.self.now _ c.args.region 1 38 None _ c.requires.state c.requires.reference (omega arith) found.1 (λ more h. rw (found.0 more h) refl) (λ more h. rw (found.0 more h) refl) c.chars_given.ensures

pub returns-in-Some-Numeric-clause-steps : goal.returns-in-Some-Numeric-clause-steps
returns-in-Some-Numeric-clause-steps c =
    let found = rw c.in-Some-Numeric.field-0-is at c.in-Some-Numeric.ensures in
    rw c.enter.ensures
    (number_begins c.args.self.now _ c.args.region c.in-Some-Numeric.base c.in-Some-Numeric.opened c.requires.state c.requires.reference found.2 found.1 found.0
    (passes_to c.args.self.now c.pass.new.self c.in-Some-Numeric.opened _ _ c.pass.ensures))

pub returns-in-Some-Literal-clause-tells : goal.returns-in-Some-Literal-clause-tells
returns-in-Some-Literal-clause-tells c =
    let found = rw c.in-Some-Literal.field-0-is at c.in-Some-Literal.ensures in
    ref_tells c.args.self.now _ 1 38 None _ c.args.faults.now c.no_digits.new.self c.chars_given.ensures
    (tells_decided c.args.self.now _ c.args.faults.now c.no_digits.new.self
    (ref_told c.args.self.now c.args.region _ c.requires.state c.requires.reference c.requires.some (λ more h. rw (found.0 more h) refl) (λ more h. rw (found.0 more h) refl)) c.no_digits.ensures.opens)

pub returns-in-Some-Numeric-clause-tells : goal.returns-in-Some-Numeric-clause-tells
returns-in-Some-Numeric-clause-tells c =
    let found = rw c.in-Some-Numeric.field-0-is at c.in-Some-Numeric.ensures in
    tells_quiet c.args.self.now More c.args.faults.now c.args.faults.now
    (ref_told c.args.self.now c.args.region _ c.requires.state c.requires.reference c.requires.some (λ more h. rw (found.0 more h) refl) (λ more h. rw (found.0 more h) refl)) (quiet_same c.args.faults.now)

pub returns-in-Some-None-letters_after-clause-steps : goal.returns-in-Some-None-letters_after-clause-steps
returns-in-Some-None-letters_after-clause-steps c =
    let opener = rw c.in-Some-Named.field-0-is at c.in-Some-Named.ensures in
    let none = rw c.in-Some-None.field-0-is at c.in-Some-None.ensures in
    let many = rw c.in-Some-None-letters_after.field-0-is at c.in-Some-None-letters_after.ensures in
    ampersand_given c.args.self.now _ c.args.region _ c.requires.state c.requires.reference c.requires.some opener.0 none.0 many c.ampersand_given.ensures

pub returns-in-Some-None-letters_after-clause-tells : goal.returns-in-Some-None-letters_after-clause-tells
returns-in-Some-None-letters_after-clause-tells c =
    let opener = rw c.in-Some-Named.field-0-is at c.in-Some-Named.ensures in
    let none = rw c.in-Some-None.field-0-is at c.in-Some-None.ensures in
    let many = rw c.in-Some-None-letters_after.field-0-is at c.in-Some-None-letters_after.ensures in
    tells_quiet c.args.self.now _ c.args.faults.now c.args.faults.now
    (both_told c.args.self.now c.args.region [] [] c.requires.state c.requires.reference c.requires.some (λ more h. rw (opener.0 more h, none.0 more h) refl) (λ more h. rw (opener.0 more h, none.0 more h, many more h) refl)) (quiet_same c.args.faults.now)

pub returns-in-Some-Some-letters_after-clause-steps : goal.returns-in-Some-Some-letters_after-clause-steps
returns-in-Some-Some-letters_after-clause-steps c =
    let opener = rw c.in-Some-Named.field-0-is at c.in-Some-Named.ensures in
    let none = rw c.in-Some-None.field-0-is at c.in-Some-None.ensures in
    let few = rw c.in-Some-Some-letters_after.field-0-is at c.in-Some-Some-letters_after.ensures in
    chars_given c.args.self.now _ c.args.region 1 38 None _ c.requires.state c.requires.reference (omega arith) c.requires.some
    (λ more h. named_none c.args.self.now.table.now _ (opener.0 more h) (none.0 more h))
    (λ more h. soon_few c.args.self.now.table.now _ c.args.self.now.place c.in-Some-Some-letters_after.closed (opener.0 more h) (none.0 more h) (few more h)) c.chars_given-in-Some-Some-letters_after.ensures

pub returns-in-Some-Some-letters_after-clause-tells : goal.returns-in-Some-Some-letters_after-clause-tells
returns-in-Some-Some-letters_after-clause-tells c =
    let opener = rw c.in-Some-Named.field-0-is at c.in-Some-Named.ensures in
    let none = rw c.in-Some-None.field-0-is at c.in-Some-None.ensures in
    let few = rw c.in-Some-Some-letters_after.field-0-is at c.in-Some-Some-letters_after.ensures in
    ref_tells c.args.self.now _ 1 38 None _ c.args.faults.now c.unknown.new.self c.chars_given-in-Some-Some-letters_after.ensures
    (tells_decided c.args.self.now _ c.args.faults.now c.unknown.new.self
    (both_told c.args.self.now c.args.region [] _ c.requires.state c.requires.reference c.requires.some (λ more h. rw (opener.0 more h, none.0 more h) refl) (λ more h. rw (opener.0 more h, none.0 more h, few more h) refl)) c.unknown.ensures.opens)

pub returns-in-Some-Some-clause-steps : goal.returns-in-Some-Some-clause-steps
returns-in-Some-Some-clause-steps c =
    let opener = rw c.in-Some-Named.field-0-is at c.in-Some-Named.ensures in
    let found = rw c.in-Some-Some.field-0-is at c.in-Some-Some.ensures in
    chars_given c.args.self.now _ c.args.region c.in-Some-Some.len c.in-Some-Some.text.first c.in-Some-Some.text.second _ c.requires.state c.requires.reference found.1.0 found.1.1
    (λ more h. named_some c.args.self.now.table.now _ c.in-Some-Some.len c.in-Some-Some.text (opener.0 more h) (found.0 more h)) (λ more h. rw (opener.0 more h, found.0 more h) refl) c.chars_given-in-Some-Some.ensures

pub returns-in-Some-Some-clause-bounded : goal.returns-in-Some-Some-clause-bounded
returns-in-Some-Some-clause-bounded c =
    let found = rw c.in-Some-Some.field-0-is at c.in-Some-Some.ensures in
    chars_bounded c.args.self.now _ c.args.region c.in-Some-Some.len c.in-Some-Some.text.first c.in-Some-Some.text.second _ c.args.faults.now c.name.new.self c.requires.state c.chars_given-in-Some-Some.ensures c.name.ensures.told found.1.0

pub returns-in-Some-Some-clause-tells : goal.returns-in-Some-Some-clause-tells
returns-in-Some-Some-clause-tells c =
    let opener = rw c.in-Some-Named.field-0-is at c.in-Some-Named.ensures in
    let found = rw c.in-Some-Some.field-0-is at c.in-Some-Some.ensures in
    ref_tells c.args.self.now _ c.in-Some-Some.len c.in-Some-Some.text.first c.in-Some-Some.text.second _ c.args.faults.now c.name.new.self c.chars_given-in-Some-Some.ensures
    (tells_decided c.args.self.now _ c.args.faults.now c.name.new.self
    (ref_told c.args.self.now c.args.region _ c.requires.state c.requires.reference c.requires.some (λ more h. rw (opener.0 more h, found.0 more h, c.lacks_semicolon-lacking.ensures more h) refl) (λ more h. rw (opener.0 more h, found.0 more h) refl)) c.name.ensures.opens)
