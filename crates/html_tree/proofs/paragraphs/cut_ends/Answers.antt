use Rattle.std.proofs.Common.{rules, ◌≡◌, ◌-◌, ◌∙◌, ap, length, take}
use Rattle.std.specs.Prelude.{count_by}
use Rattle.std.proofs.lemmas.List.{take_rest}
use Rattle.html_open.proofs.Finding.{nodes-drop}
use Rattle.html_tree.specs.Paragraphs.{is_p_end}
use Rattle.html_tree.proofs.SearchEnds.{ends-cut}
use Rattle.html_tree.proofs.paragraphs.cut_ends.Goals as goal

pub count_ends-closed-requires : goal.count_ends-closed-requires
count_ends-closed-requires c = nodes-drop c.args.arena.now c.args.nodes.now c.args.kept (length c.args.nodes.now - c.args.kept) c.requires.nodes_in

pub returns : goal.returns
returns c = record {
  items = λ e.
      (let left : c.saturating_sub-left.result ≡ length c.args.ends.now.items - c.count_ends-closed.result = search rules in
      ends-cut c.args.nodes.now c.args.ends.now.items c.truncate.new.self.items c.args.arena.now c.args.kept c.count_ends-closed.result c.requires.within c.requires.first e
      (c.count_ends-closed.ensures ∙ ap (count_by (is_p_end c.args.arena.now)) (take_rest c.args.nodes.now c.args.kept))
      (c.truncate.ensures.items ∙ ap (λ n. take n c.args.ends.now.items) left));
}
