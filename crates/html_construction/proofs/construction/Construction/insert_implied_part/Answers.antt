use Rattle.html_construction.proofs.Seats.{part-opened}
use Rattle.html_construction.proofs.construction.Construction.insert_implied_part.Goals as goal

pub open_implied_part-requires-clause-named : goal.open_implied_part-requires-clause-named
open_implied_part-requires-clause-named c = part-opened c.args.tag c.requires.part
