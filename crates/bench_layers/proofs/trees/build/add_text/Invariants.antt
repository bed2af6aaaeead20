use Rattle.std.proofs.Common.{◌<◌, ◌≤◌, length}
use Rattle.html_arena.specs.Data.{IsText}
use Rattle.html_arena.specs.Tree.{label_of}
use Rattle.bench_layers.proofs.trees.build.add_text.Given as goal

abbrev pub invariant-copies : goal.invariant-copies
invariant-copies l = record {
  node_in : l.node < length l.arena.labels;
  is_text : IsText (label_of l.arena l.node);
  longer : length l.fn.arena.labels ≤ length l.arena.labels;
}
