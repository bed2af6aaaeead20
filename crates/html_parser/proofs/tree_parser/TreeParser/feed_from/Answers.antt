use Rattle.html_parser.proofs.Refusals.{piece-cause}
use Rattle.html_parser.proofs.tree_parser.TreeParser.feed_from.Goals as goal

pub returns-in-Err-Refused-clause-cause : goal.returns-in-Err-Refused-clause-cause
returns-in-Err-Refused-clause-cause g c =
    let h = c.in-Err-Refused.ensures.refused c.in-Err-Refused.refusal c.in-Err-Refused.field-0-is in
    λ start fed. piece-cause start _ _ _ h.0 c.in-Err-Refused.refusal h.1 (h.2 start fed)
