use Rattle.std.proofs.Common.{◌≡◌, ◌≤◌, length, take}
use Rattle.std.specs.List.{filter}
use Rattle.html_arena.specs.Data.{is_clone_in}
use Rattle.html_print.proofs.counts.clone_count.Given as goal

-- the clones among the nodes so far
abbrev pub invariant-nodes : goal.invariant-nodes
invariant-nodes l = record {
  counted : l.count ≡ length (filter is_clone_in (take l.index l.arena.labels));
  few : l.count ≤ l.index;
}
