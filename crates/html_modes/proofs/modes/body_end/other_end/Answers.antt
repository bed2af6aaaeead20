use Rattle.std.proofs.Common.{◌∙◌, sym, ap}
use Rattle.html_construction.specs.Tokens.{tag_name}
use Rattle.html_modes.proofs.Closing.{closed-name}
use Rattle.html_modes.proofs.modes.body_end.other_end.Goals as goal

pub returns-in-End-clause-plain : goal.returns-in-End-clause-plain
returns-in-End-clause-plain c = λ t s f h n.
    closed-name t c.args.page.now c.close_named.new.self h c.args.token.now _ (c.as_str.ensures.code_points ∙ sym (ap tag_name c.in-End.is)) n f c.close_named.ensures.tags c.close_named.ensures.exact
