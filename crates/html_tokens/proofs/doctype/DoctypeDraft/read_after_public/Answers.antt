use Rattle.std.proofs.Common.{refl, sym}
use Rattle.html_tokens.specs.declared.doctype.DoctypePart.TheVariants as parts
use Rattle.html_tokens.specs.Doctype.{after_public, ids_of}
use Rattle.html_tokens.proofs.DoctypeLemmas.{reads_space, reads_close, reads_id, differs}
use Rattle.html_tokens.proofs.doctype.DoctypeDraft.read_after_public.Goals as goal

pub returns-then-is_space-clause-reads : goal.returns-then-is_space-clause-reads
returns-then-is_space-clause-reads c = reads_space c.args.self.now parts.AfterPublic (after_public (ids_of c.args.self.now)) c.args.c c.requires (λ text. refl) (sym c.if-is_space.ensures)

pub returns-then-c-eq62-clause-reads : goal.returns-then-c-eq62-clause-reads
returns-then-c-eq62-clause-reads c = reads_close c.args.self.now parts.AfterPublic (after_public (ids_of c.args.self.now)) _ c.args.c c.requires (λ text. refl) c.if-c-eq62.true (λ rest. refl)

pub returns-clause-reads : goal.returns-clause-reads
returns-clause-reads c =
    reads_id c.args.self.now _ parts.AfterPublic (parts.System c.args.c) (after_public (ids_of c.args.self.now)) c.args.c c.requires (λ text. refl) (sym c.if-is_space.ensures) c.if-c-eq62.false
    (λ rest. rw (differs c.args.c 62 c.if-c-eq62.false) refl) c.begin_id.ensures
