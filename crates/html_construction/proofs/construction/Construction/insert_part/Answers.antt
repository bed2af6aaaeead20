use Rattle.html_construction.proofs.Seats.{part-opens}
use Rattle.html_construction.proofs.construction.Construction.insert_part.Goals as goal

pub open_at-requires-clause-named : goal.open_at-requires-clause-named
open_at-requires-clause-named c = part-opens c.args.tag c.requires.part
