use Rattle.html_tokens.proofs.CopyLemmas.{name_copied, attr_name_copied, value_copied}
use Rattle.html_tokens.proofs.tag.TagDraft.copy_front.Goals as goal

pub returns-in-Name-clause-copies : goal.returns-in-Name-clause-copies
returns-in-Name-clause-copies c = name_copied c.copy.result c.args.self.now c.args.rest.now c.copy.new.text c.in-Name.is c.copy.ensures.fit c.copy.ensures.passes c.copy.ensures.text

pub returns-in-AttrName-clause-copies : goal.returns-in-AttrName-clause-copies
returns-in-AttrName-clause-copies c =
    attr_name_copied c.copy-in-AttrName.result c.args.self.now c.args.rest.now c.copy-in-AttrName.new.text c.in-AttrName.is c.copy-in-AttrName.ensures.fit c.copy-in-AttrName.ensures.passes c.copy-in-AttrName.ensures.text

pub returns-in-Inside-clause-copies : goal.returns-in-Inside-clause-copies
returns-in-Inside-clause-copies c =
    value_copied c.copy-in-Inside.result c.in-Inside.end c.args.self.now c.args.rest.now c.copy-in-Inside.new.text c.in-Inside.is c.copy-in-Inside.ensures.fit (rw c.copied.ensures at c.copy-in-Inside.ensures.passes) c.copy-in-Inside.ensures.text
