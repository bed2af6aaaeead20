use Rattle.std.proofs.Common.{ℕ, ◌<◌, List, drop, length, ◌∙◌, ap, subst, arith}
use Rattle.html_arena.specs.declared.marks.Mark.TheVariants.{OnStack}
use Rattle.html_arena.specs.Siblings.{first_of, has}
use Rattle.html_arena.specs.Tree.{Tree}
use Rattle.html_open.specs.Marking.{bare}
use Rattle.html_open.proofs.Popping.{popping-begin, popping-step, popping-end}
use Rattle.html_open.proofs.Closing.{bare-all}
use Rattle.html_open.proofs.Counting.{all_unmarked-steps}
use Rattle.html_open.proofs.Lasting.{first-free, first-taken, lasting-place, not-taken}
use Rattle.html_open.proofs.stack.OpenStack.pop_to.Goals as goal

pub popping-init : goal.popping-init
popping-init c = popping-begin c.args.len c.args.self.now c.args.arena.now c.requires.len_in c.requires.nodes_in

pub take_last-requires : goal.take_last-requires
take_last-requires c = c.popping.invariant.nodes

pub popping-smaller : goal.popping-smaller
popping-smaller c = (popping-step c.args.len c.args.self.now c.args.arena.now c.popping.self c.popping.arena c.take_last.new.self c.take_last.new.arena c.take_last.result c.popping.invariant (let t = c.popping-test.true in let n = c.len.ensures in omega arith) c.forest.ensures.well_formed c.take_last.ensures.stack c.take_last.ensures.none c.take_last.ensures.tree).1

pub popping-preserved : goal.popping-preserved
popping-preserved c = (popping-step c.args.len c.args.self.now c.args.arena.now c.popping.self c.popping.arena c.take_last.new.self c.take_last.new.arena c.take_last.result c.popping.invariant (let t = c.popping-test.true in let n = c.len.ensures in omega arith) c.forest.ensures.well_formed c.take_last.ensures.stack c.take_last.ensures.none c.take_last.ensures.tree).0

pub returns-clause-stack : goal.returns-clause-stack
returns-clause-stack c = (popping-end c.args.len c.args.self.now c.args.arena.now c.popping.self c.popping.arena c.popping.invariant (let t = c.popping-test.false in let n = c.len.ensures in omega arith)).0

pub returns-clause-tree : goal.returns-clause-tree
returns-clause-tree c = (popping-end c.args.len c.args.self.now c.args.arena.now c.popping.self c.popping.arena c.popping.invariant (let t = c.popping-test.false in let n = c.len.ensures in omega arith)).1

pub returns-clause-keeps : goal.returns-clause-keeps
returns-clause-keeps c = c.popping.invariant.keeps

pub returns-clause-tree_kept : goal.returns-clause-tree_kept
returns-clause-tree_kept c = ap bare (returns-clause-tree c) ∙ bare-all c.args.arena.now OnStack (drop c.args.len c.args.self.now)

pub returns-clause-steps : goal.returns-clause-steps
returns-clause-steps c = ap (λ (u : Tree). u.steps) (returns-clause-tree c) ∙ all_unmarked-steps c.args.arena.now OnStack (drop c.args.len c.args.self.now)

pub returns-clause-fewer : goal.returns-clause-fewer
returns-clause-fewer c = λ x h. ap (has x) (returns-clause-stack c) ∙ not-taken x c.args.len c.args.self.now h

pub returns-clause-first : goal.returns-clause-first
returns-clause-first c = λ b. ap first_of (returns-clause-stack c) ∙ first-taken c.args.len c.args.self.now (subst (λ (v : List ℕ). 0 < length v) (returns-clause-stack c) b)

pub returns-clause-can_place : goal.returns-clause-can_place
returns-clause-can_place c = λ b h. lasting-place c.args.self.now c.popping.self c.args.arena.now c.popping.arena (returns-clause-tree_kept c) (returns-clause-first c b) h

pub returns-clause-first_free : goal.returns-clause-first_free
returns-clause-first_free c = λ l h. first-free c.args.self.now c.popping.self l (returns-clause-first c) h
