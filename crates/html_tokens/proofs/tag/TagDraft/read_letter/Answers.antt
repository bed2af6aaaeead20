use Rattle.std.proofs.Common.{refl}
use Rattle.html_tokens.proofs.PartLemmas.{moves_letter}
use Rattle.html_tokens.proofs.ValueLemmas.{letter_read}
use Rattle.html_tokens.proofs.tag.TagDraft.read_letter.Goals as goal

pub returns-clause-ok : goal.returns-clause-ok
returns-clause-ok c = rw c.in_ok-push_codes.ensures.ok (λ after. ((λ rows rest h. letter_read c.args.self.now c.args.end c.args.start c.args.c c.requires.part c.requires.letter rows rest), refl, refl))

pub returns-clause-moves : goal.returns-clause-moves
returns-clause-moves c = λ after. rw (c.in_ok-push_codes.ensures.ok, c.requires.part) (moves_letter c.args.end c.args.start c.args.c after c.requires.letter)
