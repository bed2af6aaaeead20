use Rattle.html_modes.proofs.InBody.{on-ok, reconstructed, turn-open}
use Rattle.html_modes.proofs.modes.body_phrase.plain_start.Goals as goal

pub returns-clause-plain : goal.returns-clause-plain
returns-clause-plain c = λ f. on-ok c.insert.result c.insert.ensures.rest c.insert.ensures.exact c.insert.ensures.fate (λ r e h n.
    turn-open c.args.tag c.args.token.now c.args.page.now c.reconstruct.new.self c.insert.new.self n f
    (reconstructed c.args.page.now c.reconstruct.new.self n.plain c.in_ok-reconstruct.ensures.rest c.in_ok-reconstruct.ensures.tags c.in_ok-reconstruct.ensures.exact)
    r e h)
