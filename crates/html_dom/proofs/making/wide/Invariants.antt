use Rattle.std.proofs.Common.{◌≡◌}
use Rattle.html_dom.proofs.making.wide.Given as goal

abbrev pub invariant-loop-c : goal.invariant-loop-c
invariant-loop-c l = l.wide ≡ l.yielded
