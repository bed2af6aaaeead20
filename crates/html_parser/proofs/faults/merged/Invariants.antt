use Rattle.std.proofs.Common.{◌≡◌, ◌++◌, drop}
use Rattle.html_parser.specs.Faults.{fault_list, places_of}
use Rattle.html_parser.proofs.faults.merged.Given as goal

-- from here the rest gives what all gives
abbrev pub invariant-told : goal.invariant-told
invariant-told l = l.faults.items ++ fault_list (drop l.fault-index l.told) (places_of l.starts l.rest) ≡ fault_list l.told (places_of l.starts l.numbers)
