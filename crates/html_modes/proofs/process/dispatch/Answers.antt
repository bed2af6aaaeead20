use Rattle.std.proofs.Common.{sym}
use Rattle.html_modes.proofs.Embedding.{around-tag}
use Rattle.html_modes.proofs.process.dispatch.Goals as goal

pub foreign_rules-requires-clause-around : goal.foreign_rules-requires-clause-around
foreign_rules-requires-clause-around c = around-tag c.args.page.now c.args.symbol c.args.token.now c.in-Some.around (sym c.in-Some.ensures.value)
