use Rattle.std.proofs.Common.{◌≡◌, ◌+◌, ◌++◌, length, take}
use Rattle.html_text.proofs.run.copy.Given as goal

abbrev pub invariant-loop-index : goal.invariant-loop-index
invariant-loop-index l = record {
  same_len : length l.block ≡ length l.fn.block;
  copied : take (l.at + l.index) l.block ≡ take l.at l.fn.block ++ take l.index l.ascii;
}
