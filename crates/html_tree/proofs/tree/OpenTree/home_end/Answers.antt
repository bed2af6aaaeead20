use Rattle.std.proofs.Common.{◌∙◌, ap}
use Rattle.html_open.specs.Lists.{after_index, last_index}
use Rattle.html_tree.specs.Foreign.{home_end, is_home}
use Rattle.html_tree.specs.States.{State}
use Rattle.html_tree.proofs.tree.OpenTree.home_end.Goals as goal

pub returns-clause-index : goal.returns-clause-index
returns-clause-index c =
    c.after-end.ensures.value ∙ ap after_index (c.home_index-at.ensures.index ∙ ap (λ v. last_index (is_home c.self.inside.arena) v) c.as_slice-nodes.ensures)
    ∙ ap (λ (a : State). home_end a) c.self.view_is
