use Rattle.std.proofs.Common.{refl, sym}
use Rattle.html_tokens.proofs.DoctypeLemmas.{name_closes, name_ends, name_more}
use Rattle.html_tokens.proofs.doctype.DoctypeDraft.read_name.Goals as goal

pub returns-then-c-eq62-clause-reads : goal.returns-then-c-eq62-clause-reads
returns-then-c-eq62-clause-reads c = rw (c.in_ok-self.ensures.text, c.take_text.ensures.rest) ((λ rest. name_closes c.args.self.now c.args.c rest c.requires c.if-c-eq62.true), refl)

pub returns-then-is_space-clause-reads : goal.returns-then-is_space-clause-reads
returns-then-is_space-clause-reads c = rw (c.in_ok-self-2.ensures.text, c.take_text-then-is_space.ensures.rest) ((λ rest. name_ends c.args.self.now c.args.c rest c.requires (sym c.if-is_space.ensures)), refl)

pub returns-clause-reads : goal.returns-clause-reads
returns-clause-reads c = name_more c.args.self.now c.args.c c.push.new.self c.requires (sym c.if-is_space.ensures) c.if-c-eq62.false (rw (c.in_ok-push.ensures.ok, c.name_char.ensures) refl)
