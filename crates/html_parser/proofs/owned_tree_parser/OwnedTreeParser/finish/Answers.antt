use Rattle.std.proofs.Common.{sym, subst}
use Rattle.std.proofs.lemmas.Result.{IfErr-weaker, IfOk-weaker}
use Rattle.html_parser.specs.Paused.{HavePaused, MayResume}
use Rattle.html_parser.proofs.owned_tree_parser.OwnedTreeParser.finish.Goals as goal

pub tree_of-requires : goal.tree_of-requires
tree_of-requires c = record { going = subst (λ rows. MayResume rows c.in_ok-table.stages) (sym c.deref.ensures) c.in_ok-table.ensures.going }

pub returns-clause-cause : goal.returns-clause-cause
returns-clause-cause c = IfErr-weaker c.tree_of.result _ _
    (λ e cause start bytes h. cause start bytes
    (subst (λ rows. HavePaused start rows c.in_ok-table.stages bytes) (sym c.deref.ensures) (c.in_ok-table.ensures.fed start bytes h)))
    c.tree_of.ensures.cause

pub returns-clause-tree : goal.returns-clause-tree
returns-clause-tree c = IfOk-weaker c.tree_of.result _ _
    (λ tree is start bytes h. is start bytes
    (subst (λ rows. HavePaused start rows c.in_ok-table.stages bytes) (sym c.deref.ensures) (c.in_ok-table.ensures.fed start bytes h)))
    c.tree_of.ensures.tree
