use Rattle.html_tokens.proofs.StepLemmas.{state_ends}
use Rattle.html_tokens.proofs.TagLemmas.{tag_opens}
use Rattle.html_tokens.proofs.SectionLemmas.{section_opens}
use Rattle.html_tokens.proofs.Cuts.{empty_rest}
use Rattle.html_tokens.specs.declared.token.Begin.TheVariants as begins
use Rattle.std.proofs.Common.{refl, true, arith}
use Rattle.html_tokens.proofs.ToldLemmas.{quiet_same, silent_begun, tells_end, tells_quiet}
use Rattle.html_tokens.specs.declared.machine.Progress.TheVariants.{More}
use Rattle.html_tokens.proofs.machine.Machine.text_step.Goals as goal

pub returns-in-Is-None-clause-steps : goal.returns-in-Is-None-clause-steps
returns-in-Is-None-clause-steps c =
    let at_end = rw c.in-Is-None.field-0-is at c.in-Is-None.ensures in
    rw (c.token.ensures, c.enter.ensures) (state_ends c.args.self.now _ c.args.region c.requires.state refl (λ more h. empty_rest _ (at_end.0 more h)))

pub returns-in-Some-EndMark-clause-steps : goal.returns-in-Some-EndMark-clause-steps
returns-in-Some-EndMark-clause-steps c =
    let found = rw c.in-Some-EndMark.field-0-is at c.in-Some-EndMark.ensures in
    tag_opens _ _ begins.EndMark c.args.region true 2 c.requires.state c.begin_tag.ensures (omega arith) (found.1 refl) found.0 refl (λ more h. refl) (λ more h. refl)

pub returns-in-Some-Section-clause-steps : goal.returns-in-Some-Section-clause-steps
returns-in-Some-Section-clause-steps c =
    let found = rw c.in-Some-Section.field-0-is at c.in-Some-Section.ensures in
    section_opens _ _ c.args.region c.requires.state c.begin_section.ensures (found.2 refl) found.0

pub returns-in-Is-None-clause-tells : goal.returns-in-Is-None-clause-tells
returns-in-Is-None-clause-tells c =
    let at_end = rw c.in-Is-None.field-0-is at c.in-Is-None.ensures in
    tells_end c.args.self.now c.args.region c.args.faults.now c.text_end.new.self c.requires.state (λ more h. empty_rest _ (at_end.0 more h)) c.text_end.ensures.opens

pub returns-in-Some-EndMark-clause-tells : goal.returns-in-Some-EndMark-clause-tells
returns-in-Some-EndMark-clause-tells c =
    let found = rw c.in-Some-EndMark.field-0-is at c.in-Some-EndMark.ensures in
    let first = rw c.in-Is-Some.field-0-is at c.in-Is-Some.ensures in
    tells_quiet c.args.self.now More c.args.faults.now c.args.faults.now (silent_begun c.args.self.now c.args.region begins.EndMark c.requires.state found.0 first.1 (λ rows place text. refl)) (quiet_same c.args.faults.now)

pub returns-in-Some-Section-clause-tells : goal.returns-in-Some-Section-clause-tells
returns-in-Some-Section-clause-tells c =
    let found = rw c.in-Some-Section.field-0-is at c.in-Some-Section.ensures in
    let first = rw c.in-Is-Some.field-0-is at c.in-Is-Some.ensures in
    tells_quiet c.args.self.now More c.args.faults.now c.args.faults.now (silent_begun c.args.self.now c.args.region begins.Section c.requires.state found.0 first.1 (λ rows place text. refl)) (quiet_same c.args.faults.now)
