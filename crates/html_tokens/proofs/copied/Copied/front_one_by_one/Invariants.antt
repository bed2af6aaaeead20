use Rattle.std.proofs.Common.{◌≡◌, take}
use Rattle.html_tokens.specs.Copied.{AllPass, is_copied}
use Rattle.html_tokens.proofs.copied.Copied.front_one_by_one.Given as goal

abbrev pub invariant-loop-c : goal.invariant-loop-c
invariant-loop-c l = record {
  len : l.len ≡ l.c-index;
  passes : AllPass (is_copied l.self) (take l.c-index l.rest);
}
