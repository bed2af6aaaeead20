use Rattle.html_tokens.proofs.PartLemmas.{turns_move}
use Rattle.html_tokens.proofs.tag.TagDraft.read_part.Goals as goal

pub returns-in-Name-clause-moves : goal.returns-in-Name-clause-moves
returns-in-Name-clause-moves c = turns_move c.read_name.result c.args.self.now.part _ c.args.c c.args.after c.requires.part c.requires.plain c.read_name.ensures.turns

pub returns-in-Attributes-clause-moves : goal.returns-in-Attributes-clause-moves
returns-in-Attributes-clause-moves c = turns_move c.read_attributes.result c.args.self.now.part _ c.args.c c.args.after c.requires.part c.requires.plain c.read_attributes.ensures.turns

pub returns-in-AttrName-clause-moves : goal.returns-in-AttrName-clause-moves
returns-in-AttrName-clause-moves c = turns_move c.read_attr_name.result c.args.self.now.part _ c.args.c c.args.after c.requires.part c.requires.plain c.read_attr_name.ensures.turns

pub returns-in-AfterName-clause-moves : goal.returns-in-AfterName-clause-moves
returns-in-AfterName-clause-moves c = turns_move c.read_after_name.result c.args.self.now.part _ c.args.c c.args.after c.requires.part c.requires.plain c.read_after_name.ensures.turns

pub returns-in-Value-clause-moves : goal.returns-in-Value-clause-moves
returns-in-Value-clause-moves c = turns_move c.read_value.result c.args.self.now.part _ c.args.c c.args.after c.requires.part c.requires.plain c.read_value.ensures.turns

pub returns-in-Inside-DoubleQuote-clause-moves : goal.returns-in-Inside-DoubleQuote-clause-moves
returns-in-Inside-DoubleQuote-clause-moves c = turns_move c.read_double_quoted.result c.args.self.now.part _ c.args.c c.args.after c.requires.part c.requires.plain c.read_double_quoted.ensures.turns

pub returns-in-Inside-SingleQuote-clause-moves : goal.returns-in-Inside-SingleQuote-clause-moves
returns-in-Inside-SingleQuote-clause-moves c = turns_move c.read_single_quoted.result c.args.self.now.part _ c.args.c c.args.after c.requires.part c.requires.plain c.read_single_quoted.ensures.turns

pub returns-in-Inside-Space-clause-moves : goal.returns-in-Inside-Space-clause-moves
returns-in-Inside-Space-clause-moves c = turns_move c.read_unquoted.result c.args.self.now.part _ c.args.c c.args.after c.requires.part c.requires.plain c.read_unquoted.ensures.turns
