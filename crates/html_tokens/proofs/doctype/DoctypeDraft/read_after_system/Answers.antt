use Rattle.std.proofs.Common.{refl, sym}
use Rattle.html_tokens.specs.declared.doctype.DoctypePart.TheVariants as parts
use Rattle.html_tokens.specs.Doctype.{after_system, ids_of}
use Rattle.html_tokens.proofs.DoctypeLemmas.{reads_space, reads_close, reads_bad}
use Rattle.html_tokens.proofs.doctype.DoctypeDraft.read_after_system.Goals as goal

pub returns-then-is_space-clause-reads : goal.returns-then-is_space-clause-reads
returns-then-is_space-clause-reads c = reads_space c.args.self.now parts.AfterSystem (after_system (ids_of c.args.self.now)) c.args.c c.requires (λ text. refl) (sym c.if-is_space.ensures)

pub returns-then-c-eq62-clause-reads : goal.returns-then-c-eq62-clause-reads
returns-then-c-eq62-clause-reads c = reads_close c.args.self.now parts.AfterSystem (after_system (ids_of c.args.self.now)) _ c.args.c c.requires (λ text. refl) c.if-c-eq62.true (λ rest. refl)

pub returns-clause-reads : goal.returns-clause-reads
returns-clause-reads c = reads_bad c.args.self.now c.args.c c.requires (sym c.if-is_space.ensures) c.if-c-eq62.false
