use Rattle.std.proofs.Common.{refl}
use Rattle.html_tokens.proofs.DoctypeLemmas.{public_closes, public_ends, public_more}
use Rattle.html_tokens.proofs.doctype.DoctypeDraft.read_public.Goals as goal

pub returns-then-c-quote-clause-reads : goal.returns-then-c-quote-clause-reads
returns-then-c-quote-clause-reads c = rw (c.in_ok-self.ensures.text, c.take_text.ensures.rest) ((λ rest. public_ends c.args.self.now c.args.quote c.args.c rest c.requires c.if-c-quote.true), refl)

pub returns-then-c-eq62-clause-reads : goal.returns-then-c-eq62-clause-reads
returns-then-c-eq62-clause-reads c = rw (c.in_ok-self-2.ensures.text, c.take_text-then-c-eq62.ensures.rest) ((λ rest. public_closes c.args.self.now c.args.quote c.args.c rest c.requires c.if-c-quote.false c.if-c-eq62.true), refl)

pub returns-clause-reads : goal.returns-clause-reads
returns-clause-reads c = public_more c.args.self.now c.args.quote c.args.c c.push.new.self c.requires c.if-c-quote.false c.if-c-eq62.false (rw (c.in_ok-push.ensures.ok, c.null_replaced.ensures) refl)
