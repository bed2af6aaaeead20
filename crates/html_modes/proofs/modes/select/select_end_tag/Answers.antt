use Rattle.std.proofs.lemmas.Result.{on_ok_weaker}
use Rattle.html_names.specs.declared.tag.Tag.TheVariants as tag
use Rattle.html_tree.specs.declared.groups.Group.TheVariants as group
use Rattle.html_construction.specs.Plans.{Over}
use Rattle.html_modes.specs.RuleForms.{done_with, over}
use Rattle.html_modes.specs.Rules.{plan}
use Rattle.html_modes.proofs.Ruled.{stop_here}
use Rattle.html_modes.proofs.RulesInSelect.{in_select_end-Option, popped-any}
use Rattle.html_modes.proofs.modes.select.select_end_tag.Goals as goal

pub returns-in-Option-clause-follows : goal.returns-in-Option-clause-follows
returns-in-Option-clause-follows c =
    on_ok_weaker c.end.result
    (λ d. in_select_end-Option c.args.tag c.args.token.now c.args.page.now Over c.end.new.self c.in-Option.is (
    popped-any (group.Named tag.Option) c.pop_if.result done_with c.args.token.now c.args.page.now c.pop_if.new.self Over c.end.new.self c.pop_if.ensures.follows
    (d plan over Over c.end.new.self (stop_here Over c.args.token.now c.end.new.self))
    ))
    c.end.ensures.follows
