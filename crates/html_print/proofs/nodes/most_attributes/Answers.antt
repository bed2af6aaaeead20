use Rattle.std.proofs.Common.{ℕ, ◌<◌, length, ap, ◌∙◌, arith}
use Rattle.html_arena.specs.Data.{attrs_in}
use Rattle.html_arena.specs.Tree.{label_of}
use Rattle.html_print.proofs.AtNode.{each_node, one_more_node}
use Rattle.html_print.proofs.nodes.most_attributes.Goals as goal

pub nodes-preserved : goal.nodes-preserved
nodes-preserved c =
    one_more_node c.args.arena.now c.nodes.index c.nodes.most (length c.attrs.result.now) c.max-most.result c.nodes.invariant
    (ap length c.attrs.ensures ∙ ap (λ (i : ℕ). length (attrs_in (label_of c.args.arena.now i))) c.at.ensures) c.max-most.ensures

pub returns : goal.returns
returns c =
    let e = c.len-index-end.ensures in
    let f = c.nodes-test.false in
    each_node c.args.arena.now c.nodes.most (λ k h. c.nodes.invariant k (let l : k < c.nodes.index = omega arith in l))
