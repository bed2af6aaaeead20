use Rattle.std.proofs.Common.{length, drop, map, ◌-◌, ◌≡◌, ◌≤◌, ◌++◌}
use Rattle.html_parser.specs.Faults.{construction_fault, front_below, places_of, rest_from}
use Rattle.html_parser.proofs.faults.push_before.Given as goal

-- from here the rest adds what the whole adds to what was there
abbrev pub invariant-front : goal.invariant-front
invariant-front l = record {
  few : l.count ≤ length l.numbers;
  added : l.faults.items ++ map construction_fault (front_below l.place (places_of l.starts (drop l.count l.numbers)))
      ≡ l.initial.faults.items ++ map construction_fault (front_below l.place (places_of l.starts l.numbers));
  rest : rest_from l.place (places_of l.starts (drop l.count l.numbers)) ≡ rest_from l.place (places_of l.starts l.numbers);
}

abbrev pub decreases-front : goal.decreases-front
decreases-front l = length l.numbers - l.count
