use Rattle.html_tokens.proofs.PartLemmas.{moves_settled}
use Rattle.html_tokens.proofs.tag.TagDraft.read.Goals as goal

pub returns-clause-moves : goal.returns-clause-moves
returns-clause-moves c = moves_settled c.read_settled.result c.args.self.now.part c.settle.new.self.part _ c.args.c c.args.after c.in_ok-settle.ensures.part c.read_settled.ensures.moves
