use Rattle.std.proofs.Common.{sym, subst}
use Rattle.std.proofs.lemmas.Result.{err_from_is_err_and}
use Rattle.html_arena.specs.Tree.{Tree, empty_tree}
use Rattle.html_tree.specs.Inserting.{IsBudget, root_budget}
use Rattle.html_tree.proofs.tree.OpenTree.over_root.Goals as goal

pub returns-in_err-push_root-clause-cause : goal.returns-in_err-push_root-clause-cause
returns-in_err-push_root-clause-cause c = λ l i.
    (let p = err_from_is_err_and c.from_residual.result c.from_residual.ensures.1 in
    rw p.1 (subst (λ e. IsBudget (root_budget (empty_tree l)) e) (sym p.2) (subst (λ (t : Tree). IsBudget (root_budget t) c.in_err-push_root.field-0.0) i c.in_err-push_root.ensures.cause)))
