use Rattle.html_tokens.proofs.PartLemmas.{refs_move}
use Rattle.html_tokens.proofs.tag.TagDraft.read_ref.Goals as goal

pub returns-clause-moves : goal.returns-clause-moves
returns-clause-moves c = refs_move c.take_ref.result c.args.self.now.part c.open_ref.new.self.part _ c.args.found c.args.place c.in_ok-open_ref.ensures.part c.in_ok-open_ref.ensures.ok.3 c.take_ref.ensures.moves
