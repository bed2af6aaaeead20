use Rattle.std.proofs.Common.{◌<◌, length, refl, sym, subst}
use Rattle.html_arena.specs.Tree.{Tree}
use Rattle.test_open.proofs.UnderWay.{first-in}
use Rattle.test_open.proofs.page.can_place.Goals as goal

pub is_named-requires : goal.is_named-requires
is_named-requires c =
    let b = first-in c.args.arena.now c.args.stack.now c.requires (c.if-is_empty.ensures.no refl) in
    subst (λ (v : Tree). c.at-first.result < length v.labels) (sym c.at-first.ensures.steps)
    (subst (λ v. v < length c.args.arena.now.labels) (sym c.at-first.ensures.node) b)
