use Rattle.std.proofs.Common.{◌<◌, length}
use Rattle.html_arena.specs.Data.{IsText}
use Rattle.html_arena.specs.Tree.{label_of}
use Rattle.bench_layers.proofs.trees.build.one_by_one.Given as goal

abbrev pub invariant-loop : goal.invariant-loop
invariant-loop l = record { node_in : l.node < length l.arena.labels; is_text : IsText (label_of l.arena l.node) }
