use Rattle.html_arena.proofs.Neighbours.{next_node}
use Rattle.html_arena.proofs.Forest.{well_formed_is}
use Rattle.std.proofs.Common.{◌∙◌, ap}
use Rattle.html_arena.proofs.Edits.{next_is}
use Rattle.html_arena.proofs.arena.Arena.next.Goals as goal

pub returns-clause-value : goal.returns-clause-value
returns-clause-value c = ap (λ l. l.next) c.place_of.ensures ∙ next_is _ _ _ _ _ _ c.self.invariant.whole _ c.self.view_is c.args.node

pub returns-clause-sibling : goal.returns-clause-sibling
returns-clause-sibling c =
    next_node _ (well_formed_is _ _ _ _ _ _ c.self.invariant.whole c.self.invariant.labelled _ c.self.view_is) c.args.node _ (returns-clause-value c)
