use Rattle.std.proofs.Common.{◌≡◌, ◌≤◌, ◌+◌, ◌-◌, ◌*◌, length}
use Rattle.html_arena.specs.Siblings.{first_of}
use Rattle.html_open.specs.Leaving.{IsPaid}
use Rattle.html_open.specs.Marking.{IsCounted}
use Rattle.html_open.proofs.Shrinking.{times}
use Rattle.html_open.specs.Adopting.{IsFirstFree, Rounds, Survives}
use Rattle.html_open.specs.Opened.{IsOpen, open_at}
use Rattle.html_open.specs.Placing.{CanPlace}
use Rattle.html_open.specs.Rooting.{KeepsRoots}
use Rattle.html_open.proofs.Descending.{Descends}
use Rattle.html_open.proofs.adoption.adopt.Given as goal

abbrev pub invariant-rounding : goal.invariant-rounding
invariant-rounding l = record {
  rounds : Rounds l.name l.foster l._index (open_at l.initial.stack l.initial.list l.initial.arena) (open_at l.stack l.list l.arena);
  descends : Descends (open_at l.initial.stack l.initial.list l.initial.arena) (open_at l.stack l.list l.arena);
  survives : Survives (open_at l.initial.stack l.initial.list l.initial.arena) (open_at l.stack l.list l.arena);
  opened : IsOpen (open_at l.stack l.list l.arena);
  can_place : CanPlace l.arena l.stack;
  first_free : IsFirstFree l.stack l.list;
  grown : length l.arena.labels ≤ length l.initial.arena.labels + 4 * l._index;
  shorter : length l.stack ≤ length l.initial.stack;
  listed : length l.list ≤ length l.initial.list + l._index;
  counted : IsCounted l.initial.arena.steps l.arena.steps (length l.arena.labels - length l.initial.arena.labels) (times l._index (length l.arena.labels + 4 * length l.initial.stack + 3 * length l.initial.list + 36));
  first : first_of l.stack ≡ first_of l.initial.stack;
  roots : KeepsRoots (open_at l.initial.stack l.initial.list l.initial.arena) l.arena;
  paid : IsPaid (open_at l.initial.stack l.initial.list l.initial.arena) (open_at l.stack l.list l.arena);
}
