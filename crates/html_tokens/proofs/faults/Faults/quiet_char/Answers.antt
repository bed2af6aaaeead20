use Rattle.std.proofs.Common.{Some, sym}
use Rattle.html_tokens.proofs.NameLemmas.{name_untold, new_untold}
use Rattle.html_tokens.proofs.ToldLemmas.{none_both, opens_quietly}
use Rattle.html_tokens.proofs.faults.Faults.quiet_char.Goals as goal

pub returns-then-ends_attr_name-clause-none : goal.returns-then-ends_attr_name-clause-none
returns-then-ends_attr_name-clause-none c = λ new. none_both _ _ (new_untold c.args.draft.now (Some c.args.c) c.args.place (sym c.if-ends_attr_name.ensures) (c.is_new.ensures.new new)) c.requires.none

pub returns-clause-none : goal.returns-clause-none
returns-clause-none c = λ _. none_both _ _ (name_untold c.args.draft.now (Some c.args.c) c.args.place (sym c.if-ends_attr_name.ensures)) c.requires.none

pub returns-clause-quiet : goal.returns-clause-quiet
returns-clause-quiet c = opens_quietly _ c.args.self.now c.char_in.new.self c.requires.none c.char_in.ensures.opens
