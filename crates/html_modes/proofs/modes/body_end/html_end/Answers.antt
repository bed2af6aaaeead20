use Rattle.html_modes.proofs.Closing.{no-root}
use Rattle.html_modes.proofs.modes.body_end.html_end.Goals as goal

pub returns-then-close_body-clause-plain : goal.returns-then-close_body-clause-plain
returns-then-close_body-clause-plain c = λ n. no-root c.args.token.now c.args.page.now n

pub returns-clause-plain : goal.returns-clause-plain
returns-clause-plain c = λ n. absurd (no-root c.args.token.now c.args.page.now n)
