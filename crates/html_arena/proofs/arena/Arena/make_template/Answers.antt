use Rattle.std.proofs.Common.{◌≡◌, ◌+◌, ◌<◌, ◌^◌, ◌∙◌, [], ◌∷◌, ◌++◌, ap, arith, length, refl, rules, sym}
use Rattle.html_arena.specs.declared.data.NodeData.{NodeData}
use Rattle.html_arena.specs.declared.data.NodeData.TheVariants.{Contents}
use Rattle.html_arena.specs.Make.{template_element}
use Rattle.html_arena.specs.Tree.{Tree, added_template, more}
use Rattle.html_arena.specs.Weight.{attrs_weight, capped}
use Rattle.html_arena.proofs.Limited.{within_at}
use Rattle.html_arena.proofs.Template.{element_is, template_host, template_is}
use Rattle.html_arena.proofs.arena.Arena.make_template.Goals as goal

pub invariant_of-self-2 : goal.invariant_of-self-2
invariant_of-self-2 c =
    let n : c.at-template.result ≡ length c.self.inside.nodes.items = search rules in
    let m : c.at-contents.result ≡ length c.self.inside.nodes.items + 1 = search rules in
    let host = template_host (length c.self.inside.nodes.items) c.args.name c.args.tag c.args.attrs c.args.origin c.requires.tag_is c.requires.template in
    let held : c.element_held-held.result ≡ capped (length c.args.name + attrs_weight c.args.attrs) =
    c.element_held-held.ensures ∙ ap (λ l. capped (length c.args.name + attrs_weight l)) c.as_slice.ensures in
    let room = within_at _ _ _ _ _ c.self.inside.limits _ c.self.view_is 2 _ (sym c.room_for.ensures ∙ c.in_ok-room_for.was) _ _ refl (ap (more c.self.inside.held) (sym held)) in
    let labels : c.push_node-2.new.nodes.items
    ≡ (c.self.inside.nodes.items ++ template_element (length c.self.inside.nodes.items) c.args.name c.args.tag c.args.attrs c.args.origin ∷ []) ++ Contents (length c.self.inside.nodes.items) ∷ [] =
    rw (c.push_node-2.ensures.nodes, c.push_node.ensures.nodes, c.reserve.ensures.nodes, n)
    (ap (λ (d : NodeData). (c.self.inside.nodes.items ++ d ∷ []) ++ Contents (length c.self.inside.nodes.items) ∷ []) (element_is _ _ _ _ _ _ _ refl m)) in
    let few : length c.self.inside.links.items + 2 < 2 ^ 32 = (let a = ap length c.reserve.ensures.links in omega (arith, c.in_ok-reserve.ensures.few)) in
    let b = template_is _ _ _ _ _ c.self.inside.limits c.self.invariant _ host room few _ c.self.view_is _ _ _ _ _
    (rw (c.push_node-2.ensures.links, c.push_node.ensures.links, c.reserve.ensures.links) refl)
    labels
    (rw (c.push_node-2.ensures.marks, c.push_node.ensures.marks, c.reserve.ensures.marks) refl)
    (c.saturating_add-self-inside.ensures ∙ ap (more c.self.inside.held) held)
    c.saturating_add-self-inside-2.ensures in
    b.0

pub returns-clause-made : goal.returns-clause-made
returns-clause-made c =
    let n : c.at-template.result ≡ length c.self.inside.nodes.items = search rules in
    let m : c.at-contents.result ≡ length c.self.inside.nodes.items + 1 = search rules in
    let host = template_host (length c.self.inside.nodes.items) c.args.name c.args.tag c.args.attrs c.args.origin c.requires.tag_is c.requires.template in
    let held : c.element_held-held.result ≡ capped (length c.args.name + attrs_weight c.args.attrs) =
    c.element_held-held.ensures ∙ ap (λ l. capped (length c.args.name + attrs_weight l)) c.as_slice.ensures in
    let room = within_at _ _ _ _ _ c.self.inside.limits _ c.self.view_is 2 _ (sym c.room_for.ensures ∙ c.in_ok-room_for.was) _ _ refl (ap (more c.self.inside.held) (sym held)) in
    let labels : c.push_node-2.new.nodes.items
    ≡ (c.self.inside.nodes.items ++ template_element (length c.self.inside.nodes.items) c.args.name c.args.tag c.args.attrs c.args.origin ∷ []) ++ Contents (length c.self.inside.nodes.items) ∷ [] =
    rw (c.push_node-2.ensures.nodes, c.push_node.ensures.nodes, c.reserve.ensures.nodes, n)
    (ap (λ (d : NodeData). (c.self.inside.nodes.items ++ d ∷ []) ++ Contents (length c.self.inside.nodes.items) ∷ []) (element_is _ _ _ _ _ _ _ refl m)) in
    let few : length c.self.inside.links.items + 2 < 2 ^ 32 = (let a = ap length c.reserve.ensures.links in omega (arith, c.in_ok-reserve.ensures.few)) in
    let b = template_is _ _ _ _ _ c.self.inside.limits c.self.invariant _ host room few _ c.self.view_is _ _ _ _ _
    (rw (c.push_node-2.ensures.links, c.push_node.ensures.links, c.reserve.ensures.links) refl)
    labels
    (rw (c.push_node-2.ensures.marks, c.push_node.ensures.marks, c.reserve.ensures.marks) refl)
    (c.saturating_add-self-inside.ensures ∙ ap (more c.self.inside.held) held)
    c.saturating_add-self-inside-2.ensures in
    b.1
    ∙ ap (λ x. added_template c.args.self.now (template_element x c.args.name c.args.tag c.args.attrs c.args.origin) (capped (length c.args.name + attrs_weight c.args.attrs)))
    (ap (λ (t : Tree). length t.labels) c.self.view_is)
