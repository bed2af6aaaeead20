use Rattle.std.proofs.Common.{subst, sym}
use Rattle.std.proofs.lemmas.Result.{on_ok_weaker}
use Rattle.html_arena.specs.Data.{attrs_in, with_attrs}
use Rattle.html_arena.specs.Laws.{IsRelabelled}
use Rattle.html_arena.specs.Merge.{merged}
use Rattle.html_arena.specs.Tree.{Tree, label_of}
use Rattle.html_arena.proofs.Chains.{merged_laws}
use Rattle.html_arena.proofs.arena.Arena.merge_attrs.Goals as goal

pub returns-clause-relabelled : goal.returns-clause-relabelled
returns-clause-relabelled c =
    on_ok_weaker c.merge_later.result
    (λ e. subst (λ (u : Tree). IsRelabelled c.args.self.now u c.args.element (with_attrs (label_of c.args.self.now c.args.element) (merged (attrs_in (label_of c.args.self.now c.args.element)) c.args.attrs))) (sym e)
    (merged_laws c.args.self.now c.args.element c.args.attrs c.requires.node_in))
    c.merge_later.ensures.merged
