use Rattle.html_modes.proofs.Settled.{char-foreign}
use Rattle.html_modes.proofs.TextRuns.{char-goes-on}
use Rattle.html_modes.proofs.runs.take_char.Goals as goal

pub returns-clause-takes : goal.returns-clause-takes
returns-clause-takes c = c.in_ok-take.ensures.takes (char-foreign c.args.c c.in_ok-take.field-0 c.in_ok-take.ensures.foreign)

pub returns-clause-plain : goal.returns-clause-plain
returns-clause-plain c = λ v.
    char-goes-on c.args.c c.args.page.now c.take.new.page v
    (c.in_ok-take.ensures.plain (char-foreign c.args.c c.in_ok-take.field-0 c.in_ok-take.ensures.foreign))

pub returns-clause-founded : goal.returns-clause-founded
returns-clause-founded c = c.in_ok-take.ensures.founded (char-foreign c.args.c c.in_ok-take.field-0 c.in_ok-take.ensures.foreign)

pub returns-clause-entries : goal.returns-clause-entries
returns-clause-entries c = c.in_ok-take.ensures.entries (char-foreign c.args.c c.in_ok-take.field-0 c.in_ok-take.ensures.foreign)
