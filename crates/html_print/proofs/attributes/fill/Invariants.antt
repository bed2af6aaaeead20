use Rattle.std.proofs.Common.{◌≡◌, ◌≤◌, length, map, take}
use Rattle.std.specs.Vec.{vec_capacity, vec_len}
use Rattle.html_print.proofs.attributes.fill.Given as goal

-- the attributes so far are in the list
abbrev pub invariant-attrs : goal.invariant-attrs
invariant-attrs l = record {
  items : map (λ a. a.now) l.list.items ≡ take l.attr-index l.attrs;
  len : vec_len l.list ≡ l.attr-index;
  room : length l.attrs ≤ vec_capacity l.list;
  capacity : vec_capacity l.fn.list ≤ vec_capacity l.list;
}
