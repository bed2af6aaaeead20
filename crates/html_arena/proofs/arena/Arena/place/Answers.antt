use Rattle.std.proofs.Common.{[], ◌∷◌, ◌++◌, ◌∙◌, ap, arith, length, rules}
use Rattle.std.proofs.lemmas.List.{length_push}
use Rattle.html_arena.specs.Links.{blank}
use Rattle.html_arena.specs.Marks.{no_marks}
use Rattle.html_arena.specs.Tree.{more}
use Rattle.html_arena.proofs.Made.{added_is}
use Rattle.html_arena.proofs.Labels.{grown}
use Rattle.html_arena.proofs.Limited.{within_at}
use Rattle.html_arena.proofs.Refusals.{unrefused}
use Rattle.html_arena.proofs.arena.Arena.place.Goals as goal

pub invariant_of-self-2 : goal.invariant_of-self-2
invariant_of-self-2 c =
    let b = added_is _ _ _ _ _ c.self.inside.limits c.self.invariant.whole _ c.self.view_is _ _ _ c.args.node _ _
    (c.push_node.ensures.links ∙ ap (λ v. v ++ blank ∷ []) c.reserve.ensures.links)
    (c.push_node.ensures.nodes ∙ ap (λ v. v ++ c.args.node ∷ []) c.reserve.ensures.nodes)
    (c.push_node.ensures.marks ∙ ap (λ v. v ++ no_marks ∷ []) c.reserve.ensures.marks)
    (c.saturating_add-self-inside.ensures ∙ ap (more c.self.inside.held) c.requires.held) c.saturating_add-self-inside-2.ensures in
    record {
      whole = b.0;
      labelled = grown _ _ _ c.self.invariant.labelled _ _ _ c.args.node no_marks c.requires.lone
          (c.push_node.ensures.links ∙ ap (λ v. v ++ blank ∷ []) c.reserve.ensures.links)
          (c.push_node.ensures.nodes ∙ ap (λ v. v ++ c.args.node ∷ []) c.reserve.ensures.nodes)
          (c.push_node.ensures.marks ∙ ap (λ v. v ++ no_marks ∷ []) c.reserve.ensures.marks);
      within = within_at _ _ _ _ _ c.self.inside.limits _ c.self.view_is 1 _ c.requires.room _ _
          (ap length (c.push_node.ensures.nodes ∙ ap (λ v. v ++ c.args.node ∷ []) c.reserve.ensures.nodes) ∙ length_push c.self.inside.nodes.items c.args.node)
          (c.saturating_add-self-inside.ensures ∙ ap (more c.self.inside.held) c.requires.held);
      few =
          (let a = ap length c.push_node.ensures.links in
          let b = length_push c.reserve.new.links.items blank in
          omega (arith, unrefused c.reserve.result (search rules) c.reserve.ensures.few));
    }

pub returns-clause-made : goal.returns-clause-made
returns-clause-made c =
    let b = added_is _ _ _ _ _ c.self.inside.limits c.self.invariant.whole _ c.self.view_is _ _ _ c.args.node _ _
    (c.push_node.ensures.links ∙ ap (λ v. v ++ blank ∷ []) c.reserve.ensures.links)
    (c.push_node.ensures.nodes ∙ ap (λ v. v ++ c.args.node ∷ []) c.reserve.ensures.nodes)
    (c.push_node.ensures.marks ∙ ap (λ v. v ++ no_marks ∷ []) c.reserve.ensures.marks)
    (c.saturating_add-self-inside.ensures ∙ ap (more c.self.inside.held) c.requires.held) c.saturating_add-self-inside-2.ensures in
    b.1
