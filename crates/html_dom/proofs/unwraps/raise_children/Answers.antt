use Rattle.std.proofs.Common.{length, sym, ap, arith}
use Rattle.html_dom.proofs.Lifting.{first-linkable, part-more, part-none, still_parent}
use Rattle.html_dom.proofs.unwraps.raise_children.Goals as goal

pub raise-init : goal.raise-init
raise-init c = record { part = part-none c.args.arena.now c.forest.ensures.well_formed c.args.node c.args.parent c.requires.node_in c.requires.parent_is; linkable = c.requires.linkable }

pub raise-requires-clause-node_in : goal.raise-requires-clause-node_in
raise-requires-clause-node_in c = let e = ap length c.raise.invariant.part.same_labels in let b = c.requires.node_in in omega arith

pub raise-requires-clause-linkable : goal.raise-requires-clause-linkable
raise-requires-clause-linkable c = first-linkable c.raise.arena _ c.in-Some.child (sym c.in-Some.ensures.value) c.raise.invariant.linkable

pub raise-requires-clause-parent_is : goal.raise-requires-clause-parent_is
raise-requires-clause-parent_is c = still_parent c.args.arena.now c.forest.ensures.well_formed c.args.node c.args.parent c.requires.node_in c.requires.parent_is c.raise.arena c.raise.invariant.part

pub raise-smaller : goal.raise-smaller
raise-smaller c =
    (part-more c.args.arena.now c.forest.ensures.well_formed c.args.node c.args.parent c.requires.node_in c.requires.parent_is c.raise.arena c.raise-in-Some.new.arena c.in-Some.child c.raise.invariant.part c.raise-in-Some.ensures (sym c.in-Some.ensures.value) c.raise.invariant.linkable).1

pub raise-preserved : goal.raise-preserved
raise-preserved c =
    let m = part-more c.args.arena.now c.forest.ensures.well_formed c.args.node c.args.parent c.requires.node_in c.requires.parent_is c.raise.arena c.raise-in-Some.new.arena c.in-Some.child c.raise.invariant.part c.raise-in-Some.ensures (sym c.in-Some.ensures.value) c.raise.invariant.linkable in
    record { part = m.0; linkable = m.2 }
