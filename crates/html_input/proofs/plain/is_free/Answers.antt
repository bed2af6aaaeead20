use Rattle.html_input.proofs.Free.{free_by_search}
use Rattle.html_input.proofs.plain.is_free.Goals as goal

pub returns : goal.returns
returns c = free_by_search c.args.text.now c.contains.result _ c.utf8.text c.contains.ensures.cases
