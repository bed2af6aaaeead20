use Rattle.std.proofs.Common.{sym, ◌∙◌}
use Rattle.html_print.proofs.Xmlns.{other_is, xmlns_is}
use Rattle.html_print.proofs.attributes.foreign_name.Goals as goal

pub returns-then-eq : goal.returns-then-eq
returns-then-eq c = xmlns_is c.args.name.now c.utf8.name (sym c.eq.ensures ∙ c.if-eq.true)

pub returns : goal.returns
returns c = other_is c.args.name.now c.utf8.name (sym c.eq.ensures ∙ c.if-eq.false)
