use Rattle.std.proofs.Common.{◌≤◌, ◌<◌, length}
use Rattle.std.specs.List.{AllWithin}
use Rattle.html_tokens.proofs.fault_list.front_up_to.Given as goal

-- all from here on have a later place
abbrev pub invariant-back : goal.invariant-back
invariant-back l = record {
  fit : l.at ≤ length l.list;
  after : AllWithin (λ x. l.place < x.place) l.list l.at (length l.list);
}

abbrev pub decreases-back : goal.decreases-back
decreases-back l = l.at
