use Rattle.std.proofs.Common.{refl, sym}
use Rattle.html_tokens.specs.declared.tag.Part.TheVariants as parts
use Rattle.html_tokens.specs.declared.tag.ValueEnd.TheVariants as ends
use Rattle.html_tokens.proofs.ValueLemmas.{reads_from, value_starts}
use Rattle.html_tokens.proofs.tag.TagDraft.read_value.Goals as goal

pub returns-clause-reads : goal.returns-clause-reads
returns-clause-reads c =
    reads_from c.read_unquoted.result c.args.self.now (record c.args.self.now { part = parts.Inside ends.Space }) _ c.args.c c.args.after
    (value_starts c.args.self.now c.args.c c.requires.part (sym c.if-is_space.ensures) c.if-c-eq34.false c.if-c-eq39.false) refl refl c.read_unquoted.ensures.reads
