use Rattle.std.proofs.Common.{◌≡◌, true}
use Rattle.std.specs.List.{list_all}
use Rattle.html_dom.specs.Names.{stays_in_attr}
use Rattle.html_dom.proofs.names.stays_in_attr.Given as goal

abbrev pub invariant-loop-c : goal.invariant-loop-c
invariant-loop-c l = list_all stays_in_attr l.yielded ≡ true
