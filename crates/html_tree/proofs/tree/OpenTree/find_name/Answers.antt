use Rattle.std.proofs.Common.{◌∙◌, ap, ◌≡◌, subst}
use Rattle.std.specs.Str.{chars}
use Rattle.html_tree.specs.Searching.{found_name, has_name, index_before, is_special_at, name_or_special}
use Rattle.html_tree.specs.States.{State}
use Rattle.html_tree.proofs.Counted.{walk-steps}
use Rattle.html_arena.specs.Tree.{more}
use Rattle.html_open.specs.Lists.{looked}
use Rattle.html_tree.proofs.tree.OpenTree.find_name.Goals as goal

pub returns-clause-index : goal.returns-clause-index
returns-clause-index c =
    c.named_at-index.ensures.index ∙ ap (λ v. index_before (has_name c.self.inside.arena (chars c.args.name.now)) (is_special_at c.self.inside.arena) v) c.as_slice-nodes.ensures
    ∙ ap (λ (a : State). found_name a (chars c.args.name.now)) c.self.view_is

pub returns-clause-counted : goal.returns-clause-counted
returns-clause-counted c =
    c.charge.ensures.counted ∙ ap (more c.args.self.now.steps) (subst (λ (a : State). c.steps_down-steps.result ≡ looked (name_or_special a.tree (chars c.args.name.now)) a.stack) c.self.view_is
    (walk-steps (name_or_special c.self.inside.arena (chars c.args.name.now)) c.as_slice-nodes.result.now c.self.inside.stack c.name_index-at.result c.steps_down-steps.result c.steps_down-steps.ensures.value c.name_index-at.ensures.index c.as_slice-nodes.ensures))
