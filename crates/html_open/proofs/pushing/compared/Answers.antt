use Rattle.std.proofs.Common.{List, ◌∙◌, ap}
use Rattle.std.specs.Prelude.{sum_by}
use Rattle.html_arena.specs.Weight.{capped}
use Rattle.html_open.specs.declared.entry.Entry.{Entry}
use Rattle.html_open.specs.Entries.{comparisons, is_marker}
use Rattle.html_open.proofs.Pushes.{recent-is, recent-nodes}
use Rattle.html_open.proofs.pushing.compared.Goals as goal

pub sum_of_pairs-requires-clause-nodes_in : goal.sum_of_pairs-requires-clause-nodes_in
sum_of_pairs-requires-clause-nodes_in c = recent-nodes c.args.arena.now is_marker c.args.entries.now _ (recent-is is_marker c.args.entries.now c.last_entry.result c.after-start.result c.after-start.ensures.value c.last_entry.ensures.index) c.requires.nodes_in

pub returns : goal.returns
returns c = c.sum_of_pairs.ensures ∙ ap (λ (v : List Entry). capped (sum_by (comparisons c.args.arena.now c.args.node) v)) (recent-is is_marker c.args.entries.now c.last_entry.result c.after-start.result c.after-start.ensures.value c.last_entry.ensures.index)
