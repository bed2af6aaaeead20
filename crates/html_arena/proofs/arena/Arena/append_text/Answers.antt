use Rattle.std.proofs.Common.{subst, sym}
use Rattle.std.proofs.lemmas.Result.{on_ok_weaker}
use Rattle.html_arena.specs.Data.{with_char}
use Rattle.html_arena.specs.Laws.{IsRelabelled}
use Rattle.html_arena.specs.Tree.{Tree, label_of}
use Rattle.html_arena.proofs.Chains.{texted_laws, texted_text}
use Rattle.html_arena.proofs.arena.Arena.append_text.Goals as goal

pub returns-clause-relabelled : goal.returns-clause-relabelled
returns-clause-relabelled c =
    on_ok_weaker c.push_text.result
    (λ e. subst (λ (u : Tree). IsRelabelled c.args.self.now u c.args.node (with_char (label_of c.args.self.now c.args.node) c.args.c)) (sym e) (texted_laws c.args.self.now c.args.node c.args.c c.requires.node_in))
    c.push_text.ensures.added

pub returns-clause-still_text : goal.returns-clause-still_text
returns-clause-still_text c =
    texted_text c.push_text.result c.args.self.now _ c.args.node c.args.c c.requires.node_in c.requires.is_text c.push_text.ensures.added c.push_text.ensures.refused
