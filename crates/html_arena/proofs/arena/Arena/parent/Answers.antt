use Rattle.std.proofs.Common.{◌∙◌, ap}
use Rattle.html_arena.proofs.Edits.{parent_read}
use Rattle.html_arena.proofs.Forest.{well_formed_is}
use Rattle.html_arena.proofs.Neighbours.{parent_node}
use Rattle.html_arena.proofs.arena.Arena.parent.Goals as goal

pub returns-clause-parent : goal.returns-clause-parent
returns-clause-parent c =
    parent_node _ (well_formed_is _ _ _ _ _ _ c.self.invariant.whole c.self.invariant.labelled _ c.self.view_is) c.args.node _
    (ap (λ l. l.parent) c.place_of.ensures ∙ parent_read _ _ _ _ _ _ c.self.invariant.whole _ c.self.view_is c.args.node)
