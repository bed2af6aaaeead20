use Rattle.html_dom.proofs.Lifting.{unwrapped}
use Rattle.html_dom.proofs.unwraps.lift_to.Goals as goal

pub returns : goal.returns
returns c =
    unwrapped c.args.arena.now c.forest.ensures.well_formed c.args.node c.args.parent c.requires.node_in c.requires.parent_is c.raise_children.new.arena c.detach.new.self
    c.raise_children.ensures.raised c.raise_children.ensures.all c.detach.ensures.unlinked
