use Rattle.std.proofs.Common.{subst, sym}
use Rattle.std.proofs.lemmas.Result.{on_ok_weaker}
use Rattle.html_arena.specs.Data.{with_attrs}
use Rattle.html_arena.specs.Laws.{IsRelabelled}
use Rattle.html_arena.specs.Tree.{Tree, label_of}
use Rattle.html_arena.proofs.Chains.{replaced_laws}
use Rattle.html_arena.proofs.arena.Arena.set_attrs.Goals as goal

pub returns-clause-relabelled : goal.returns-clause-relabelled
returns-clause-relabelled c =
    on_ok_weaker c.replace_attrs.result
    (λ e. subst (λ (u : Tree). IsRelabelled c.args.self.now u c.args.element (with_attrs (label_of c.args.self.now c.args.element) c.args.attrs)) (sym e)
    (replaced_laws c.args.self.now c.args.element c.args.attrs c.requires))
    c.replace_attrs.ensures.replaced
