use Rattle.std.proofs.Common.{◌≡◌, ◌++◌, take, map}
use Rattle.html_parser.specs.Faults.{construction_fault, places_of}
use Rattle.html_parser.proofs.faults.push_all.Given as goal

abbrev pub invariant-numbers : goal.invariant-numbers
invariant-numbers l = l.faults.items ≡ l.initial.faults.items ++ map construction_fault (places_of l.starts (take l.number-index l.numbers))
