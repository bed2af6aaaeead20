use Rattle.html_modes.proofs.InBody.{closed-none, on-ok, turn-open}
use Rattle.html_modes.proofs.modes.body_start.block_start.Goals as goal

pub returns-clause-plain : goal.returns-clause-plain
returns-clause-plain c = λ f. on-ok c.insert.result c.insert.ensures.rest c.insert.ensures.exact c.insert.ensures.fate (λ r e h n.
    turn-open c.args.tag c.args.token.now c.args.page.now c.close_p.new.self c.insert.new.self n f
    (closed-none c.args.page.now c.close_p.new.self n.plain n.mode c.close_p.ensures.rest c.close_p.ensures.tags c.close_p.ensures.exact)
    r e h)
