use Rattle.html_modes.proofs.InBody.{on-ok, reconstructed, turn-listed}
use Rattle.html_modes.proofs.modes.formatting.formatting_start.Goals as goal

pub returns-clause-plain : goal.returns-clause-plain
returns-clause-plain c = on-ok c.insert_listed.result c.insert_listed.ensures.rest c.insert_listed.ensures.exact c.insert_listed.ensures.fate (λ r e h n.
    turn-listed c.args.tag c.args.token.now c.args.page.now c.reconstruct.new.self c.insert_listed.new.self n c.requires.formatting
    (reconstructed c.args.page.now c.reconstruct.new.self n.plain c.in_ok-reconstruct.ensures.rest c.in_ok-reconstruct.ensures.tags c.in_ok-reconstruct.ensures.exact)
    r e h)
