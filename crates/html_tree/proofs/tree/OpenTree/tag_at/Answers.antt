use Rattle.std.proofs.Common.{◌<◌, ◌∙◌, ap, sym, subst, length, ℕ}
use Rattle.html_open.proofs.Members.{at-member}
use Rattle.html_tree.specs.States.{State}
use Rattle.html_tree.proofs.OpenTags.{at-tag}
use Rattle.std.specs.Prelude.{Some, get_or}
use Rattle.html_arena.specs.Tree.{tag_at}
use Rattle.html_tree.proofs.tree.OpenTree.tag_at.Goals as goal

pub tag-requires : goal.tag-requires
tag-requires c =
    c.self.invariant.0.is_open.stack_in c.index-nodes-index.result
    (at-member c.as_slice-nodes.result.now c.self.inside.stack c.args.index c.index-nodes-index.result c.as_slice-nodes.ensures
    (subst (λ (k : ℕ). c.args.index < k) (sym (ap (λ (a : State). length a.stack) (c.self.view_is ∙ c.charge.ensures.rest))) c.requires) c.index-nodes-index.is)

pub returns-clause-at : goal.returns-clause-at
returns-clause-at c =
    at-tag c.args.self.now.tree c.args.self.now.stack c.args.index c.index-nodes-index.result c.requires
    (c.index-nodes-index.is ∙ ap (λ v. get_or v c.args.index c.index-nodes-index.result) (c.as_slice-nodes.ensures ∙ ap (λ (a : State). a.stack) (c.self.view_is ∙ c.charge.ensures.rest)))
    ∙ ap Some (sym (c.tag.ensures.value ∙ ap (λ (a : State). tag_at a.tree c.index-nodes-index.result) (c.self.view_is ∙ c.charge.ensures.rest)))
