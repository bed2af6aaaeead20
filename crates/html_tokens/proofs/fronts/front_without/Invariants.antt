use Rattle.std.proofs.Common.{◌-◌, ◌≤◌, length, take}
use Rattle.html_tokens.specs.Copied.{AllPass, is_without}
use Rattle.html_tokens.proofs.fronts.front_without.Given as goal

abbrev pub invariant-skipping : goal.invariant-skipping
invariant-skipping l = record {
  fit : l.len ≤ length l.text;
  passes : AllPass (is_without l.first l.second) (take l.len l.text);
}

abbrev pub decreases-skipping : goal.decreases-skipping
decreases-skipping l = length l.text - l.len

abbrev pub invariant-rest : goal.invariant-rest
invariant-rest l = record {
  fit : l.len ≤ length l.text;
  passes : AllPass (is_without l.first l.second) (take l.len l.text);
}

abbrev pub decreases-rest : goal.decreases-rest
decreases-rest l = length l.text - l.len
