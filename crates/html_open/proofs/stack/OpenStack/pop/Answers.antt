use Rattle.std.proofs.Common.{◌∙◌, ap}
use Rattle.html_arena.specs.declared.marks.Mark.TheVariants.{OnStack}
use Rattle.html_arena.specs.Tree.{Tree}
use Rattle.html_open.specs.Marking.{charged}
use Rattle.html_open.proofs.Keeps.{pop-keeps}
use Rattle.html_open.proofs.Members.{popped-member}
use Rattle.html_open.proofs.Lasting.{first-free, first-popped, lasting-place, not-popped, same-unmarked, unmarked-steps}
use Rattle.html_open.proofs.stack.OpenStack.pop.Goals as goal

pub returns-clause-keeps : goal.returns-clause-keeps
returns-clause-keeps c = λ l k.
    pop-keeps c.args.self.now c.take_last-node.new.self l c.args.arena.now c.charge.new.self c.take_last-node.result 1 c.forest.ensures.well_formed.as_many_marks
    c.take_last-node.ensures.stack (c.charge.ensures ∙ ap (λ (u : Tree). charged u 1) c.take_last-node.ensures.tree) k

pub returns-clause-member : goal.returns-clause-member
returns-clause-member c = popped-member c.args.self.now c.take_last-node.new.self c.take_last-node.result c.take_last-node.ensures.stack

pub returns-clause-tree_kept : goal.returns-clause-tree_kept
returns-clause-tree_kept c = same-unmarked c.args.arena.now c.charge.new.self OnStack c.take_last-node.result 1 (c.charge.ensures ∙ ap (λ (u : Tree). charged u 1) c.take_last-node.ensures.tree)

pub returns-clause-steps : goal.returns-clause-steps
returns-clause-steps c = unmarked-steps c.args.arena.now c.charge.new.self OnStack c.take_last-node.result 1 (c.charge.ensures ∙ ap (λ (u : Tree). charged u 1) c.take_last-node.ensures.tree)

pub returns-clause-fewer : goal.returns-clause-fewer
returns-clause-fewer c = λ x h. not-popped c.args.self.now c.take_last-node.new.self c.take_last-node.result x c.take_last-node.ensures.stack h

pub returns-clause-first : goal.returns-clause-first
returns-clause-first c = first-popped c.args.self.now c.take_last-node.new.self c.take_last-node.result c.take_last-node.ensures.stack

pub returns-clause-can_place : goal.returns-clause-can_place
returns-clause-can_place c = λ b h. lasting-place c.args.self.now c.take_last-node.new.self c.args.arena.now c.charge.new.self (returns-clause-tree_kept c) (returns-clause-first c b) h

pub returns-clause-first_free : goal.returns-clause-first_free
returns-clause-first_free c = λ l h. first-free c.args.self.now c.take_last-node.new.self l (returns-clause-first c) h
