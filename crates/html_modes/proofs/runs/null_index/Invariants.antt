use Rattle.std.proofs.Common.{◌≡◌, ◌-◌, ◌≤◌, true, length, take}
use Rattle.std.specs.List.{list_all}
use Rattle.html_ledger.specs.Flags.{is_not_null}
use Rattle.html_modes.proofs.runs.null_index.Given as goal

abbrev pub invariant-looking : goal.invariant-looking
invariant-looking l = record {
  visible : list_all is_not_null (take l.index l.text) ≡ true;
  most : l.index ≤ length l.text;
}

abbrev pub decreases-looking : goal.decreases-looking
decreases-looking l = length l.text - l.index
