use Rattle.std.proofs.Common.{◌∙◌, sym}
use Rattle.std.proofs.lemmas.Result.{on_ok_weaker}
use Rattle.html_construction.specs.Plans.{Over}
use Rattle.html_modes.specs.RuleForms.{over}
use Rattle.html_modes.specs.Rules.{plan}
use Rattle.html_modes.proofs.Ruled.{stop_here}
use Rattle.html_modes.proofs.RulesInBodyStart.{in_body_start_rest-is_placed}
use Rattle.html_modes.proofs.modes.body_phrase.other_start.Goals as goal

pub returns-in_default-clause-follows : goal.returns-in_default-clause-follows
returns-in_default-clause-follows c =
    let t = c.args.token.now in
    let z = c.drop_token.new.self in
    on_ok_weaker c.drop_token.result (λ d. in_body_start_rest-is_placed c.args.tag t c.args.page.now Over z (sym c.is_placed.ensures ∙ c.if-is_placed.true) (d plan over Over z (stop_here Over t z))) c.drop_token.ensures.follows
