use Rattle.html_tree.proofs.OpenTags.{closed-group}
use Rattle.html_tree.proofs.Closings.{charged-popped}
use Rattle.html_tree.specs.Closing.{first_few}
use Rattle.std.proofs.Common.{refl}
use Rattle.html_tree.proofs.Scoped.{closed-after}
use Rattle.html_tree.proofs.tree.OpenTree.close.Goals as goal

pub returns-in-Some-clause-found : goal.returns-in-Some-clause-found
returns-in-Some-clause-found c = λ yes other. closed-group c.args.self.now c.pop_to.new.self c.args.group c.args.stop c.in-Some.index c.laws.ensures.sound c.in-Some.ensures.index
    (charged-popped c.args.self.now c.find.new.self c.pop_to.new.self c.in-Some.index (first_few c.in-Some.index c.args.self.now.stack) c.find.ensures.rest c.pop_to.ensures.exact refl) other

pub returns-in-Some-clause-closed : goal.returns-in-Some-clause-closed
returns-in-Some-clause-closed c = λ yes other. closed-after c.args.self.now c.pop_to.new.self c.args.group c.args.stop c.in-Some.index c.laws.ensures.sound c.in-Some.ensures.index
    (charged-popped c.args.self.now c.find.new.self c.pop_to.new.self c.in-Some.index (first_few c.in-Some.index c.args.self.now.stack) c.find.ensures.rest c.pop_to.ensures.exact refl) other

pub returns-in-Some-clause-keeps : goal.returns-in-Some-clause-keeps
returns-in-Some-clause-keeps c = λ s k. c.pop_to.ensures.keeps s (c.find.ensures.keeps s k)
