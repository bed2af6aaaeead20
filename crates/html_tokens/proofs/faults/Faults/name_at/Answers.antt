use Rattle.std.proofs.Common.{sym}
use Rattle.html_tokens.proofs.NameLemmas.{name_told, name_untold}
use Rattle.html_tokens.proofs.ToldLemmas.{opens_none}
use Rattle.html_tokens.proofs.faults.Faults.name_at.Goals as goal

pub returns-then-ends_attr_name-clause-opens : goal.returns-then-ends_attr_name-clause-opens
returns-then-ends_attr_name-clause-opens c = rw (name_told c.args.draft.now c.args.found c.args.place (sym c.if-ends_attr_name.ensures)) c.name_end.ensures.opens

pub returns-else-ends_attr_name-clause-opens : goal.returns-else-ends_attr_name-clause-opens
returns-else-ends_attr_name-clause-opens c = rw (name_untold c.args.draft.now c.args.found c.args.place (sym c.if-ends_attr_name.ensures)) (opens_none c.args.self.now)
