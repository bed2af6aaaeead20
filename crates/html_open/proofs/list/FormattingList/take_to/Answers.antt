use Rattle.std.proofs.Common.{arith}
use Rattle.html_open.proofs.Popping.{taking-begin, taking-step, taking-end}
use Rattle.html_open.proofs.list.FormattingList.take_to.Goals as goal

pub taking-init : goal.taking-init
taking-init c = taking-begin c.args.len c.args.self.now c.args.arena.now c.requires.len_in c.requires.nodes_in

pub take_last-requires-clause-nodes_in : goal.take_last-requires-clause-nodes_in
take_last-requires-clause-nodes_in c = c.taking.invariant.nodes

pub taking-smaller : goal.taking-smaller
taking-smaller c = (taking-step c.args.len c.args.self.now c.args.arena.now c.taking.self c.taking.arena c.take_last.new.self c.take_last.new.arena c.taking.invariant (let t = c.taking-test.true in let n = c.len.ensures in omega arith) c.forest.ensures.well_formed c.take_last.ensures).1

pub taking-preserved : goal.taking-preserved
taking-preserved c = (taking-step c.args.len c.args.self.now c.args.arena.now c.taking.self c.taking.arena c.take_last.new.self c.take_last.new.arena c.taking.invariant (let t = c.taking-test.true in let n = c.len.ensures in omega arith) c.forest.ensures.well_formed c.take_last.ensures).0

pub returns-clause-list : goal.returns-clause-list
returns-clause-list c = (taking-end c.args.len c.args.self.now c.args.arena.now c.taking.self c.taking.arena c.taking.invariant (let t = c.taking-test.false in let n = c.len.ensures in omega arith)).0

pub returns-clause-tree : goal.returns-clause-tree
returns-clause-tree c = (taking-end c.args.len c.args.self.now c.args.arena.now c.taking.self c.taking.arena c.taking.invariant (let t = c.taking-test.false in let n = c.len.ensures in omega arith)).1

pub returns-clause-keeps : goal.returns-clause-keeps
returns-clause-keeps c = c.taking.invariant.keeps
