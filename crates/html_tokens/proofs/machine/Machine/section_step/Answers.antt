use Rattle.std.proofs.Common.{refl}
use Rattle.html_tokens.proofs.SectionLemmas.{section_ends, told_closed}
use Rattle.html_tokens.proofs.Cuts.{empty_rest, not_empty}
use Rattle.html_tokens.proofs.ToldLemmas.{tells_none}
use Rattle.html_tokens.proofs.machine.Machine.section_step.Goals as goal

pub returns-in-Is-None-clause-steps : goal.returns-in-Is-None-clause-steps
returns-in-Is-None-clause-steps c =
    let at_end = rw c.in-Is-None.field-0-is at c.in-Is-None.ensures in
    rw (c.token.ensures, c.enter.ensures) (section_ends c.args.self.now _ c.requires.state refl (λ more h. empty_rest _ (at_end.0 more h)))

pub returns-in-Is-Some-clause-tells : goal.returns-in-Is-Some-clause-tells
returns-in-Is-Some-clause-tells c =
    let first = rw c.in-Is-Some.field-0-is at c.in-Is-Some.ensures in
    tells_none c.args.self.now c.section_char.result c.args.faults.now (λ more f. rw c.requires.state (told_closed _ _ (not_empty _ more first.1)))
