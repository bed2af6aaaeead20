use Rattle.std.proofs.Common.{◌≡◌, ◌++◌}
use Rattle.html_construction.proofs.token.push_text.Given as goal

abbrev pub invariant-loop-c : goal.invariant-loop-c
invariant-loop-c l = l.name ≡ l.initial.name ++ l.yielded
