use Rattle.html_modes.proofs.Handing.{refuses-kept}
use Rattle.html_modes.proofs.modes.body_start.heading_start.Goals as goal

pub returns-clause-refuses : goal.returns-clause-refuses
returns-clause-refuses c =
    refuses-kept c.insert.result c.args.token.now c.args.page.now c.pop_if.new.self c.insert.new.self (λ h w. c.pop_if.ensures.keeps h (c.close_p.ensures.keeps h w)) c.insert.ensures.refuses
