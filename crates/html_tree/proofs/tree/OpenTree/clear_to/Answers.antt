use Rattle.html_tree.proofs.OpenTags.{cleared-context}
use Rattle.html_tree.proofs.Closings.{charged-popped}
use Rattle.html_tree.specs.Closing.{cleared_to, first_few}
use Rattle.std.proofs.Common.{ap}
use Rattle.html_tree.proofs.Scoped.{cleared-back}
use Rattle.html_tree.proofs.tree.OpenTree.clear_to.Goals as goal

pub returns-clause-context : goal.returns-clause-context
returns-clause-context c = cleared-context c.args.self.now c.pop_to.new.self c.args.context c.laws.ensures.sound
    (charged-popped c.args.self.now c.context_end-len.new.self c.pop_to.new.self c.context_end-len.result (cleared_to c.args.self.now c.args.context) c.context_end-len.ensures.rest c.pop_to.ensures.exact (ap (λ k. first_few k c.args.self.now.stack) c.context_end-len.ensures.index))

pub returns-clause-cleared : goal.returns-clause-cleared
returns-clause-cleared c = cleared-back c.args.self.now c.pop_to.new.self c.args.context c.laws.ensures.sound
    (charged-popped c.args.self.now c.context_end-len.new.self c.pop_to.new.self c.context_end-len.result (cleared_to c.args.self.now c.args.context) c.context_end-len.ensures.rest c.pop_to.ensures.exact (ap (λ k. first_few k c.args.self.now.stack) c.context_end-len.ensures.index))

pub returns-clause-keeps : goal.returns-clause-keeps
returns-clause-keeps c = λ s k. c.pop_to.ensures.keeps s (c.context_end-len.ensures.keeps s k)
