use Rattle.std.proofs.Common.{◌≡◌, false, drop, take}
use Rattle.std.specs.List.{list_any}
use Rattle.html_open.specs.AdoptFinding.{special}
use Rattle.html_open.proofs.adoption.find.first_special.Given as goal

abbrev pub invariant-loop-index : goal.invariant-loop-index
invariant-loop-index l = list_any (special l.arena) (drop l.from (take l.index l.nodes)) ≡ false
