use Rattle.html_tokens.specs.declared.tag.ValueEnd.TheVariants as ends
use Rattle.html_tokens.proofs.NameLemmas.{quoted_names}
use Rattle.html_tokens.proofs.tag.TagDraft.read_double_quoted.Goals as goal

pub returns-in_ok-add_attr-clause-names : goal.returns-in_ok-add_attr-clause-names
returns-in_ok-add_attr-clause-names c = quoted_names c.args.self.now c.add_attr.new.self ends.DoubleQuote c.args.c c.requires.part c.in_ok-add_attr.ensures.ok
