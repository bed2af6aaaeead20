use Rattle.std.proofs.lemmas.Result.{IfErr-weaker, on_ok_weaker}
use Rattle.html_parser.proofs.Refusals.{both_ok}
use Rattle.html_parser.proofs.reading.ParserPieces.feed.Goals as goal

pub returns-clause-fed : goal.returns-clause-fed
returns-clause-fed c = both_ok c.feed.result
    (λ fed keeps start bytes k. record { fed = fed start bytes k.fed; keeps = keeps k.keeps })
    c.feed.ensures.fed c.feed.ensures.keeps

pub returns-clause-bounded : goal.returns-clause-bounded
returns-clause-bounded c = on_ok_weaker c.feed.result (λ few start bytes k. few start bytes k.fed) c.feed.ensures.few

pub returns-clause-refused : goal.returns-clause-refused
returns-clause-refused c = IfErr-weaker c.feed.result _ _ (λ e cause start bytes k. cause start bytes k.fed) c.feed.ensures.cause
