use Rattle.html_names.specs.declared.sets.Scope.TheVariants.{Default}
use Rattle.html_modes.proofs.Closing.{closed-group}
use Rattle.html_modes.proofs.modes.body_end.block_end.Goals as goal

pub returns-clause-plain : goal.returns-clause-plain
returns-clause-plain c = λ f h. closed-group c.args.tag c.args.page.now c.close_in_scope.new.self h Default f c.close_in_scope.ensures.tags c.close_in_scope.ensures.exact
