use Rattle.html_modes.proofs.Closing.{current-of, turn-end}
use Rattle.html_modes.proofs.InBody.{on-ok}
use Rattle.html_modes.proofs.modes.body_end.current_end.Goals as goal

pub returns-clause-plain : goal.returns-clause-plain
returns-clause-plain c = λ f. on-ok c.end.result c.end.ensures.rest c.end.ensures.ended c.end.ensures.rest (λ e h r n.
    let k = current-of c.args.tag c.args.token.now c.args.page.now n f in
    turn-end c.args.tag c.args.token.now c.args.page.now c.element_end.new.page c.end.new.self k
    (c.in_ok-element_end.ensures.plain c.requires.symbol k n.ends) c.in_ok-element_end.ensures.rest e h)
