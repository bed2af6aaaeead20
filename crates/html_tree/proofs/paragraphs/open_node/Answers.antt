use Rattle.std.proofs.Common.{◌∙◌, ◌++◌, cond, [], ◌∷◌, ap}
use Rattle.html_arena.specs.Tree.{Tree}
use Rattle.html_tree.specs.Paragraphs.{is_p_end}
use Rattle.html_tree.proofs.SearchEnds.{ends-pushed}
use Rattle.html_tree.proofs.paragraphs.open_node.Goals as goal

pub returns-clause-ends : goal.returns-clause-ends
returns-clause-ends c = λ e.
    ends-pushed c.args.stack.now c.push.new.self c.args.ends.now.items c.note_end.new.ends.items c.args.arena.now c.push.new.arena c.args.node c.is_empty-is_first.result c.is_empty-is_first.ensures.yes c.is_empty-is_first.ensures.no c.in_ok-push.ensures.stack (ap (λ (v : Tree). v.labels) c.in_ok-push.ensures.tree)
    (c.note_end.ensures.items ∙ ap (λ v. v ++ cond c.is_empty-is_first.result [] (cond (is_p_end c.push.new.arena c.args.node) (c.args.node ∷ []) [])) c.reserve.ensures.items) e
