use Rattle.std.proofs.Common.{Some, sym, subst}
use Rattle.std.proofs.lemmas.Result.{err_from_is_err_and}
use Rattle.html_construction.proofs.Refusing.{IsBegin, begin-cause}
use Rattle.html_construction.proofs.construction.Construction.fragment_within.Goals as goal

pub returns-clause-built : goal.returns-clause-built
returns-clause-built c = c.of_fragment.ensures.built (Some c.args.limits) _ c.in_ok-tree.ensures.state

pub returns-in_err-tree-clause-cause : goal.returns-in_err-tree-clause-cause
returns-in_err-tree-clause-cause c =
    let p = err_from_is_err_and c.from_residual.result c.from_residual.ensures.1 in
    rw p.1 (subst (λ e. IsBegin c.args.limits e) (sym p.2) (begin-cause c.args.limits c.in_err-tree.field-0.0 c.in_err-tree.ensures.cause))

pub returns-clause-first : goal.returns-clause-first
returns-clause-first c = c.of_fragment.ensures.first (Some c.args.limits) _ c.in_ok-tree.ensures.state
