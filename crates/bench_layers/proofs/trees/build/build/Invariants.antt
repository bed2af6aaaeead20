use Rattle.std.proofs.Common.{◌<◌, ◌≤◌, length}
use Rattle.bench_layers.proofs.trees.build.build.Given as goal

abbrev pub invariant-elements : goal.invariant-elements
invariant-elements l = record {
  root_in : l.root < length l.arena.labels;
  at_in : l.at < length l.arena.labels;
  longer : length l.fn.arena.labels ≤ length l.arena.labels;
  few : l.above ≤ l.i;
}
