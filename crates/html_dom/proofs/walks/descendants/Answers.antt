use Rattle.std.proofs.Common.{◌≡◌, ◌∙◌, sym, ap, cond, true, []}
use Rattle.html_arena.specs.Below.{below}
use Rattle.html_arena.specs.Forest.{labels}
use Rattle.html_arena.specs.declared.walk.Show.TheVariants.{All}
use Rattle.html_dom.specs.Places.{is_placed}
use Rattle.html_dom.specs.Reads.{entered}
use Rattle.html_dom.proofs.Placed.{entered-all}
use Rattle.html_dom.proofs.walks.descendants.Goals as goal

pub returns : goal.returns
returns c =
    let yes : is_placed c.args.arena.now c.args.node ≡ true = sym c.is_placed.ensures.value ∙ c.if-not-is_placed.false in
    ap entered c.at-walk.ensures.events ∙ entered-all (below All c.args.arena.now c.args.node)
    ∙ sym (ap (λ b. cond b (labels (below All c.args.arena.now c.args.node)) []) yes)
