use Rattle.std.proofs.lemmas.Result.{on_ok_weaker}
use Rattle.html_parser.proofs.owned_parser.OwnedParser.feed.Goals as goal

pub returns-clause-prompt : goal.returns-clause-prompt
returns-clause-prompt c = on_ok_weaker c.feed.result (λ kept start bytes h. kept start bytes h (c.args.self.now.keeps h.going)) c.feed.ensures.kept
