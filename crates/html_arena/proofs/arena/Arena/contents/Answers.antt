use Rattle.std.proofs.Common.{◌∙◌, ap}
use Rattle.html_arena.specs.Data.{contents_in}
use Rattle.html_arena.specs.Tree.{Tree, label_of}
use Rattle.html_arena.proofs.Forest.{well_formed_is}
use Rattle.html_arena.proofs.Neighbours.{contents_node}
use Rattle.html_arena.proofs.arena.Arena.contents.Goals as goal

pub returns-clause-contents : goal.returns-clause-contents
returns-clause-contents c =
    contents_node _ (well_formed_is _ _ _ _ _ _ c.self.invariant.whole c.self.invariant.labelled _ c.self.view_is) c.args.node _
    (c.contents.ensures ∙ ap contents_in c.label_at.ensures ∙ ap (λ (t : Tree). contents_in (label_of t c.args.node)) c.self.view_is)
