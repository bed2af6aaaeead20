use Rattle.std.proofs.Common.{◌≡◌, true, take}
use Rattle.html_tokens.specs.Copied.{AllPass, is_without}
use Rattle.html_tokens.proofs.fronts.are_without.Given as goal

abbrev pub invariant-loop-c : goal.invariant-loop-c
invariant-loop-c l = record {
  passes : l.are_without ≡ true → AllPass (is_without l.first l.second) (take l.c-index l.block);
  all : AllPass (is_without l.first l.second) (take l.c-index l.block) → l.are_without ≡ true;
}
