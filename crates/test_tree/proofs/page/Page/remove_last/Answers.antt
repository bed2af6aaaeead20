use Rattle.std.proofs.Common.{ap, ◌∙◌}
use Rattle.html_names.specs.Sets.{is_formatting}
use Rattle.html_arena.specs.Tree.{tag_at}
use Rattle.html_open.proofs.Members.{named-member}
use Rattle.html_tree.proofs.Seating.{formatting-carries}
use Rattle.html_tree.specs.States.{State}
use Rattle.test_tree.proofs.page.Page.remove_last.Goals as goal

-- what is listed is a formatting element
pub remove_open-requires-clause-plain : goal.remove_open-requires-clause-plain
remove_open-requires-clause-plain c =
    formatting-carries _ (ap (λ (x : State). is_formatting (tag_at x.tree c.in-Some.node)) c.in-Some.ensures.rest
    ∙ c.laws.ensures.sound.formatting c.in-Some.node (named-member c.self.inside.tree.tree c.args.name c.self.inside.tree.list _ c.in-Some.ensures.node))
