use Rattle.html_arena.specs.Data.{contents_in}
use Rattle.html_arena.specs.Tree.{children_of, label_of}
use Rattle.html_dom.specs.Edits.{are_linkable, element_fault, held_by, is_inside, or_fault, unless, unwrap_fault}
use Rattle.html_arena.specs.Tree.{ancestors}
use Rattle.std.specs.Prelude.{◌&&◌, not}
use Rattle.html_dom.specs.declared.error.EditError.TheVariants.{Cycle, NotLinkable}
use Rattle.zilqumet_c.proofs.Roots.{good_by, root-unwrapped_by}
use Rattle.zilqumet_c.proofs.nodes.unwrap.Goals as goal

pub returns-clause-root : goal.returns-clause-root
returns-clause-root c =
    let t = c.args.arena.now in
    let x = c.id.result in
    let o = contents_in (label_of t x) in
    root-unwrapped_by c.unwrap.result t c.unwrap.new.arena x c.args.root o (element_fault t x)
    (or_fault (unless (not (is_inside o (ancestors t x))) Cycle) (unless (are_linkable t (children_of t x) && are_linkable t (held_by t o)) NotLinkable)) c.forest.ensures.well_formed
    c.unwrap.ensures.refused (good_by c.unwrap.result (unwrap_fault t x) c.unwrap.ensures.outcome) c.unwrap.ensures.unwrapped
