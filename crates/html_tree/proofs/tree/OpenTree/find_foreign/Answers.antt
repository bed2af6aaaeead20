use Rattle.std.proofs.Common.{◌∙◌, ap}
use Rattle.std.specs.Str.{chars}
use Rattle.html_tree.specs.Foreign.{found_foreign, is_foreign_named, is_html_at}
use Rattle.html_tree.specs.Searching.{index_before}
use Rattle.html_tree.specs.States.{State}
use Rattle.html_tree.proofs.tree.OpenTree.find_foreign.Goals as goal

pub returns-clause-index : goal.returns-clause-index
returns-clause-index c =
    c.foreign_at-index.ensures.index ∙ ap (λ v. index_before (is_foreign_named c.self.inside.arena (chars c.args.name.now)) (is_html_at c.self.inside.arena) v) c.as_slice-nodes.ensures
    ∙ ap (λ (a : State). found_foreign a (chars c.args.name.now)) c.self.view_is
