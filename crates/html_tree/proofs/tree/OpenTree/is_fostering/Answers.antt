use Rattle.std.proofs.Common.{◌≡◌, ◌∙◌, Some, List, ℕ, sym, subst, true}
use Rattle.html_arena.specs.Siblings.{has}
use Rattle.html_open.proofs.Members.{last-member}
use Rattle.html_tree.proofs.tree.OpenTree.is_fostering.Goals as goal

pub tag-requires : goal.tag-requires
tag-requires c =
    c.self.invariant.0.is_open.stack_in c.in-Some.node
    (subst (λ (v : List ℕ). has c.in-Some.node v ≡ true) c.as_slice.ensures (last-member c.as_slice.result.now (Some c.in-Some.node) (sym c.in-Some.is ∙ c.last_node.ensures)))
