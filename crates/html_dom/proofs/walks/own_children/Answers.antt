use Rattle.std.proofs.Common.{◌∙◌, ap}
use Rattle.html_dom.specs.Reads.{siblings_within}
use Rattle.html_dom.proofs.Beside.{siblings-all}
use Rattle.html_dom.proofs.walks.own_children.Goals as goal

pub returns : goal.returns
returns c =
    ap (λ n. siblings_within n c.args.arena.now c.first_child.result) c.len.ensures
    ∙ ap (siblings_within _ c.args.arena.now) c.first_child.ensures.value
    ∙ siblings-all c.args.arena.now c.forest.ensures.well_formed c.args.node
