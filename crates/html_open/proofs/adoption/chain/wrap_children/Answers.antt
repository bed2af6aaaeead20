use Rattle.html_open.proofs.Counting.{counted-wrapped}
use Rattle.html_open.proofs.Hangs.{wrapped-not_above, wrapped-alone, wrapped-children, wrapped-parents}
use Rattle.html_open.proofs.adoption.chain.wrap_children.Goals as goal

pub append-requires-clause-alone : goal.append-requires-clause-alone
append-requires-clause-alone c = wrapped-alone _ _ _ c.args.block c.args.clone c.forest.ensures.well_formed c.detach.ensures.unlinked c.move_children.ensures.laws c.requires.block_in c.requires.apart c.requires.alone c.requires.childless

pub append-requires-clause-not_above : goal.append-requires-clause-not_above
append-requires-clause-not_above c = wrapped-not_above _ _ _ c.args.block c.args.clone c.forest.ensures.well_formed c.detach.ensures.unlinked c.move_children.ensures.laws c.requires.block_in c.requires.apart c.requires.alone c.requires.childless

pub returns-clause-children : goal.returns-clause-children
returns-clause-children c = wrapped-children _ _ _ c.args.block c.args.clone c.forest.ensures.well_formed c.detach.ensures.unlinked c.move_children.ensures.laws c.requires.block_in c.requires.apart c.requires.alone c.requires.childless _ c.append.ensures.linked

pub returns-clause-parents : goal.returns-clause-parents
returns-clause-parents c = wrapped-parents _ _ _ c.args.block c.args.clone c.forest.ensures.well_formed c.detach.ensures.unlinked c.move_children.ensures.laws c.requires.block_in c.requires.apart c.requires.alone c.requires.childless _ c.append.ensures.linked

pub returns-clause-steps : goal.returns-clause-steps
returns-clause-steps c = counted-wrapped c.args.arena.now c.detach.new.self c.move_children.new.self c.append.new.self c.args.block c.args.clone c.forest.ensures.well_formed c.detach.ensures.detached c.detach.ensures.unlinked c.move_children.ensures.moved c.append.ensures.appended
