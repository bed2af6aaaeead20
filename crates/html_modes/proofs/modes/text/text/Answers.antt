use Rattle.html_modes.proofs.RawText.{ends-at-once}
use Rattle.html_modes.proofs.modes.text.text.Goals as goal

pub returns-in_ok-end-in-End-clause-ends : goal.returns-in_ok-end-in-End-clause-ends
returns-in_ok-end-in-End-clause-ends c =
    ends-at-once c.args.symbol c.args.token.now c.args.page.now c.leave_text.new.page c.end.new.self c.leave_text.ensures.left c.leave_text.ensures.keeps c.in_ok-end-in-End.ensures.takes
