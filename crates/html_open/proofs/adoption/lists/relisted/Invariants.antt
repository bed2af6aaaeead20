use Rattle.std.proofs.Common.{◌≡◌, ◌≤◌, ◌*◌, take}
use Rattle.std.specs.List.{flat_map}
use Rattle.std.specs.Prelude.{vec_capacity, vec_len}
use Rattle.html_arena.specs.declared.marks.Mark.TheVariants.{InList}
use Rattle.html_arena.specs.Tree.{marked}
use Rattle.html_open.specs.Adopting.{relisted}
use Rattle.html_open.proofs.adoption.lists.relisted.Given as goal

abbrev pub invariant-loop-entry : goal.invariant-loop-entry
invariant-loop-entry l = record {
  so_far : l.list.items ≡ flat_map (relisted l.plan.formatting (marked l.arena InList) l.plan.originals.now l.plan.first l.plan.clone) (take l.entry-index l.entries);
  few : vec_len l.list ≤ 2 * l.entry-index;
  room : vec_capacity l.initial.list ≤ vec_capacity l.list;
}
