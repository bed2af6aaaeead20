use Rattle.html_tokens.proofs.OrderLemmas.{front_below}
use Rattle.html_tokens.proofs.fault_list.front_up_to.Goals as goal

pub returns-else-place-list-clause-before : goal.returns-else-place-list-clause-before
returns-else-place-list-clause-before c = λ k d from less. front_below c.args.list.now c.args.place c.back.at k d _ c.requires.ordered c.back.invariant.fit less c.if-place-list.false
