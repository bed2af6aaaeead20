use Rattle.html_tokens.proofs.TagLemmas.{tag_end_tells, tag_ends}
use Rattle.html_tokens.proofs.Cuts.{empty_rest}
use Rattle.std.proofs.Common.{refl}
use Rattle.html_tokens.proofs.machine.Machine.tag_step.Goals as goal

pub returns-in-Is-None-clause-steps : goal.returns-in-Is-None-clause-steps
returns-in-Is-None-clause-steps c =
    let at_end = rw c.in-Is-None.field-0-is at c.in-Is-None.ensures in
    rw (c.token.ensures, c.enter.ensures) (tag_ends c.args.self.now _ c.requires.state refl (λ more h. empty_rest _ (at_end.0 more h)))

pub returns-in-Is-None-clause-tells : goal.returns-in-Is-None-clause-tells
returns-in-Is-None-clause-tells c =
    let at_end = rw c.in-Is-None.field-0-is at c.in-Is-None.ensures in
    tag_end_tells c.args.self.now c.in-Tag.draft c.args.faults.now c.tag_end.new.self c.in-Tag.is (λ more h. empty_rest _ (at_end.0 more h)) c.tag_end.ensures.opens
