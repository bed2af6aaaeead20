use Rattle.std.proofs.Common.{refl, sym}
use Rattle.html_tokens.specs.Tag.{AddsAttr}
use Rattle.html_tokens.proofs.ValueLemmas.{reads_from, after_name_closes}
use Rattle.html_tokens.proofs.NameLemmas.{after_names, names_from}
use Rattle.html_tokens.proofs.tag.TagDraft.read_after_name.Goals as goal

pub returns-clause-reads : goal.returns-clause-reads
returns-clause-reads c =
    let added : AddsAttr c.args.self.now c.add_attr.new.self = c.in_ok-add_attr.ensures.ok in
    reads_from c.read_attributes.result c.args.self.now c.add_attr.new.self _ c.args.c c.args.after
    (after_name_closes c.args.self.now c.add_attr.new.self c.args.c c.requires (sym c.if-is_space.ensures) c.if-c-eq61.false added) (rw added refl) (rw added refl) c.read_attributes.ensures.reads

pub returns-clause-names : goal.returns-clause-names
returns-clause-names c =
    names_from c.read_attributes.result c.args.self.now c.add_attr.new.self _ c.args.c (after_names c.args.self.now c.add_attr.new.self c.args.c c.requires c.if-c-eq61.false c.in_ok-add_attr.ensures.ok) c.read_attributes.ensures.names
