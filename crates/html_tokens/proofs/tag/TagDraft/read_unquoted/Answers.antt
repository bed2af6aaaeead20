use Rattle.std.proofs.Common.{refl, sym}
use Rattle.html_tokens.specs.Tag.{AddsAttr}
use Rattle.html_tokens.proofs.ValueLemmas.{reads_from, unquoted_closes}
use Rattle.html_tokens.proofs.NameLemmas.{names_from, unquoted_names}
use Rattle.html_tokens.proofs.tag.TagDraft.read_unquoted.Goals as goal

pub returns-then-ends_unquoted-clause-reads : goal.returns-then-ends_unquoted-clause-reads
returns-then-ends_unquoted-clause-reads c =
    let added : AddsAttr c.args.self.now c.add_attr.new.self = c.in_ok-add_attr.ensures.ok in
    reads_from c.read_attributes.result c.args.self.now c.add_attr.new.self _ c.args.c c.args.after
    (unquoted_closes c.args.self.now c.add_attr.new.self c.args.c c.requires.part (sym c.if-ends_unquoted.ensures) added) (rw added refl) (rw added refl) c.read_attributes.ensures.reads

pub returns-then-ends_unquoted-clause-names : goal.returns-then-ends_unquoted-clause-names
returns-then-ends_unquoted-clause-names c =
    names_from c.read_attributes.result c.args.self.now c.add_attr.new.self _ c.args.c
    (unquoted_names c.args.self.now c.add_attr.new.self c.args.c c.requires.part (sym c.if-ends_unquoted.ensures) c.in_ok-add_attr.ensures.ok) c.read_attributes.ensures.names
