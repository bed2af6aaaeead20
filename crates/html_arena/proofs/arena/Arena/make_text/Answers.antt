use Rattle.html_arena.proofs.Labels.{lone_text}
use Rattle.html_arena.proofs.arena.Arena.make_text.Goals as goal

pub place-requires-clause-lone : goal.place-requires-clause-lone
place-requires-clause-lone c = lone_text c.new-text.result
