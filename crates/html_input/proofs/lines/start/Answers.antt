use Rattle.html_input.proofs.Walking.{reached_start}
use Rattle.html_input.proofs.lines.start.Goals as goal

pub returns-clause-reached : goal.returns-clause-reached
returns-clause-reached c = reached_start c.args.bytes.now c.mark_len.result c.mark_len.ensures.none c.mark_len.ensures.some
