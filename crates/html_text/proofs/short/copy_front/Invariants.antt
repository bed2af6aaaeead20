use Rattle.std.proofs.Common.{◌≡◌, length, take}
use Rattle.html_text.proofs.short.copy_front.Given as goal

abbrev pub invariant-loop-index : goal.invariant-loop-index
invariant-loop-index l = record {
  same_len : length l.block ≡ length l.fn.block;
  copied : take l.index l.block ≡ take l.index l.bytes;
}
