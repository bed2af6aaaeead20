use Rattle.std.proofs.Common.{◌≡◌, ℕ, sym, subst, true}
use Rattle.html_arena.specs.Siblings.{has}
use Rattle.html_open.proofs.Lists.{has-at}
use Rattle.html_tree.proofs.paragraphs.count_ends.Goals as goal

pub tag-requires : goal.tag-requires
tag-requires c =
    c.requires c.index-nodes-at.result
    (subst (λ (x : ℕ). has x c.args.nodes.now ≡ true) (sym c.index-nodes-at.is) (has-at c.args.nodes.now c.counting.at c.index-nodes-at.result c.counting-test.true))
