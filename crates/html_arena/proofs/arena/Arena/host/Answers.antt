use Rattle.std.proofs.Common.{◌∙◌, ap}
use Rattle.html_arena.specs.Data.{host_in}
use Rattle.html_arena.specs.Tree.{Tree, label_of}
use Rattle.html_arena.proofs.Forest.{well_formed_is}
use Rattle.html_arena.proofs.Neighbours.{host_node}
use Rattle.html_arena.proofs.arena.Arena.host.Goals as goal

pub returns-clause-template : goal.returns-clause-template
returns-clause-template c =
    host_node _ (well_formed_is _ _ _ _ _ _ c.self.invariant.whole c.self.invariant.labelled _ c.self.view_is) c.args.node _
    (c.host.ensures ∙ ap host_in c.label_at.ensures ∙ ap (λ (t : Tree). host_in (label_of t c.args.node)) c.self.view_is)
