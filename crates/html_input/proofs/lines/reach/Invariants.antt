use Rattle.std.proofs.Common.{◌≡◌}
use Rattle.html_input.specs.Reached.{IsReached}
use Rattle.html_input.proofs.lines.reach.Given as goal

abbrev pub invariant-steps : goal.invariant-steps
invariant-steps l = record {
  reached : IsReached l.bytes l.here;
  place : l.here.place ≡ l.counter;
}
