use Rattle.std.proofs.Common.{ap}
use Rattle.html_modes.specs.Foreign.{ends_any}
use Rattle.html_modes.proofs.Embedding.{asked-around, may-around}
use Rattle.html_modes.proofs.modes.foreign.stay.Goals as goal

pub embed-requires-clause-may : goal.embed-requires-clause-may
embed-requires-clause-may c = may-around c.args.page.now c.args.around c.in-Start.tag (c.requires.around (ap ends_any c.in-Start.is))

pub embed-requires-clause-asked : goal.embed-requires-clause-asked
embed-requires-clause-asked c = asked-around c.args.page.now c.args.around (c.requires.around (ap ends_any c.in-Start.is))
