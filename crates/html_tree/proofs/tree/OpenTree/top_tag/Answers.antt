use Rattle.std.proofs.Common.{◌≡◌, ◌∙◌, Some, List, ℕ, sym, subst, true, rules}
use Rattle.html_arena.specs.Siblings.{has}
use Rattle.html_open.proofs.Members.{last-member}
use Rattle.html_tree.proofs.OpenTags.{current-first}
use Rattle.html_tree.specs.Searching.{current_tag}
use Rattle.html_tree.proofs.tree.OpenTree.top_tag.Goals as goal

pub tag-requires : goal.tag-requires
tag-requires c =
    c.self.invariant.0.is_open.stack_in c.in-Some.node
    (subst (λ (v : List ℕ). has c.in-Some.node v ≡ true) c.as_slice.ensures (last-member c.as_slice.result.now (Some c.in-Some.node) (sym c.in-Some.is ∙ c.last_node.ensures)))

pub returns-in-Some-clause-first : goal.returns-in-Some-clause-first
returns-in-Some-clause-first c = (let e : Some c.tag.result ≡ current_tag c.args.self.now = search rules in e ∙ current-first c.args.self.now)
