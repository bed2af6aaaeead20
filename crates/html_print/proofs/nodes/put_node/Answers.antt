use Rattle.std.proofs.Common.{Bor, List, map, ◌+◌, ◌++◌, sym, ap, subst, ◌∙◌, append_assoc}
use Rattle.html_tokens.specs.declared.attributes.Attr.{Attr}
use Rattle.html_arena.specs.Data.{attrs_in}
use Rattle.html_arena.specs.Tree.{label_of}
use Rattle.html_page.specs.Label.{label_for}
use Rattle.html_device.proofs.Puts.{Moves-trans, front_after, front_first, put_err, put_after}
use Rattle.html_print.specs.Order.{IsInOrder}
use Rattle.html_print.proofs.AtNode.{at_node, attribute_part, contents_part, node_bytes, own_part}
use Rattle.html_print.proofs.nodes.put_node.Goals as goal

abbrev attrs_of : List (Bor Attr) → List Attr
attrs_of xs = map (λ a. a.now) xs

pub returns-in_err-put_own-clause-bytes : goal.returns-in_err-put_own-clause-bytes
returns-in_err-put_own-clause-bytes g c =
    let depth = c.args.depth in
    let d = label_of c.args.arena.now c.args.node in
    let xs = attrs_of c.arrange.new.ordered.items in
    let f = c.is_foreign-foreign.result in
    let n = at_node d xs (subst (λ b. IsInOrder b (attrs_in d) xs) c.is_foreign-foreign.ensures (subst (λ a. IsInOrder f a xs) c.attrs.ensures c.arrange.ensures.order)) in
    let rest = attribute_part (depth + 1) f xs ++ contents_part (depth + 1) (label_for d) in (
      n.0,
      n.1.0,
      put_err _ _ _ _ _ _ c.from_residual.ensures.0
          (front_first _ _ _ _ _ c.in_err-put_own.ensures.bytes rest
          (node_bytes depth n.0 (label_for d) f xs c.is_foreign-foreign.ensures (n.1.1 depth) ∙ ap (λ e. own_part depth (label_for e) ++ rest) (sym c.node.ensures))),
    )

pub returns-in_err-put_attributes-clause-bytes : goal.returns-in_err-put_attributes-clause-bytes
returns-in_err-put_attributes-clause-bytes g c =
    let depth = c.args.depth in
    let d = label_of c.args.arena.now c.args.node in
    let xs = attrs_of c.arrange.new.ordered.items in
    let f = c.is_foreign-foreign.result in
    let n = at_node d xs (subst (λ b. IsInOrder b (attrs_in d) xs) c.is_foreign-foreign.ensures (subst (λ a. IsInOrder f a xs) c.attrs.ensures c.arrange.ensures.order)) in
    let rest = contents_part (depth + 1) (label_for d) in (
      n.0,
      n.1.0,
      put_err _ _ _ _ _ _ c.from_residual-in_err-put_attributes.ensures.0
          (front_after _ _ _ _ _ _ _ _ c.in_ok-put_own.ensures.bytes c.in_err-put_attributes.ensures.bytes rest
          (node_bytes depth n.0 (label_for d) f xs c.is_foreign-foreign.ensures (n.1.1 depth)
          ∙ ap (λ e. own_part depth (label_for e) ++ (attribute_part (depth + 1) f xs ++ rest)) (sym c.node.ensures)
          ∙ ap (λ ys. own_part depth (label_for c.node.result.now) ++ (attribute_part (depth + 1) f (attrs_of ys) ++ rest)) (sym c.as_slice.ensures.value))),
    )

pub returns-clause-bytes : goal.returns-clause-bytes
returns-clause-bytes g c =
    let depth = c.args.depth in
    let d = label_of c.args.arena.now c.args.node in
    let xs = attrs_of c.arrange.new.ordered.items in
    let f = c.is_foreign-foreign.result in
    let n = at_node d xs (subst (λ b. IsInOrder b (attrs_in d) xs) c.is_foreign-foreign.ensures (subst (λ a. IsInOrder f a xs) c.attrs.ensures c.arrange.ensures.order)) in
    let last = contents_part (depth + 1) (label_for d) in (
      n.0,
      n.1.0,
      put_after _ _ _ _ _ _ _ _ _ _
          (Moves-trans _ _ _ _ _ _ _ _ c.in_ok-put_own.ensures.bytes c.in_ok-put_attributes.ensures.bytes) c.put_contents.ensures.bytes
          (node_bytes depth n.0 (label_for d) f xs c.is_foreign-foreign.ensures (n.1.1 depth)
          ∙ sym (append_assoc (own_part depth (label_for d)) (attribute_part (depth + 1) f xs) last)
          ∙ ap (λ e. (own_part depth (label_for e) ++ attribute_part (depth + 1) f xs) ++ last) (sym c.node.ensures)
          ∙ ap (λ ys. (own_part depth (label_for c.node.result.now) ++ attribute_part (depth + 1) f (attrs_of ys)) ++ last) (sym c.as_slice.ensures.value)),
    )
