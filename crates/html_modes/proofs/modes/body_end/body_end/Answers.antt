use Rattle.html_modes.proofs.Closing.{no-template, turn-body}
use Rattle.html_modes.proofs.InBody.{on-ok}
use Rattle.html_modes.proofs.modes.body_end.body_end.Goals as goal

pub returns-in-Template-clause-plain : goal.returns-in-Template-clause-plain
returns-in-Template-clause-plain c = on-ok c.template_end.result c.template_end.ensures.takes c.template_end.ensures.takes c.template_end.ensures.takes (λ p q r n.
    absurd (no-template c.args.tag c.args.token.now c.args.page.now c.in-Template.is n))

pub returns-in-Body-clause-plain : goal.returns-in-Body-clause-plain
returns-in-Body-clause-plain c = on-ok c.end.result c.end.ensures.rest c.end.ensures.ended c.end.ensures.rest (λ e h r n.
    turn-body c.args.tag c.args.token.now c.args.page.now c.close_body.new.page c.end.new.self c.close_body.result c.in-Body.is n
    c.close_body.ensures.rest c.close_body.ensures.same c.close_body.ensures.closed c.close_body.ensures.scope e h)
