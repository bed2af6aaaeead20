use Rattle.std.proofs.Common.{◌∙◌, ap}
use Rattle.html_arena.specs.Below.{or_self}
use Rattle.html_arena.specs.Data.{contents_in}
use Rattle.html_arena.specs.Tree.{label_of}
use Rattle.html_dom.specs.Reads.{siblings_within}
use Rattle.html_dom.proofs.Beside.{siblings-all}
use Rattle.html_dom.proofs.walks.children.Goals as goal

pub returns : goal.returns
returns c =
    ap (λ n. siblings_within n c.args.arena.now c.first_child.result) c.len.ensures
    ∙ ap (siblings_within _ c.args.arena.now) c.first_child.ensures
    ∙ siblings-all c.args.arena.now c.forest.ensures.well_formed (or_self c.args.node (contents_in (label_of c.args.arena.now c.args.node)))
