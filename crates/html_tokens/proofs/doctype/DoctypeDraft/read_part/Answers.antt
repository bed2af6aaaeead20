use Rattle.html_tokens.proofs.DoctypeLemmas.{rest_closes, rest_more}
use Rattle.html_tokens.proofs.doctype.DoctypeDraft.read_part.Goals as goal

pub returns-then-c-eq62-clause-reads : goal.returns-then-c-eq62-clause-reads
returns-then-c-eq62-clause-reads c = rest_closes c.args.self.now c.in-BadRest.force_quirks c.args.c c.in-BadRest.is c.if-c-eq62.true

pub returns-else-c-eq62-clause-reads : goal.returns-else-c-eq62-clause-reads
returns-else-c-eq62-clause-reads c = rest_more c.args.self.now c.in-BadRest.force_quirks c.args.c c.in-BadRest.is c.if-c-eq62.false
