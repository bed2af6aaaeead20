use Rattle.std.proofs.Common.{◌≡◌, ◌+◌, ◌<◌, ◌++◌, length, take}
use Rattle.std.specs.Str.{IsAscii}
use Rattle.html_text.proofs.run.narrow.Given as goal

abbrev pub invariant-loop-index : goal.invariant-loop-index
invariant-loop-index l = record {
  same_len : length l.block ≡ length l.fn.block;
  ascii : l.greatest < 128 → IsAscii (take l.index l.run);
  no : IsAscii l.run → l.greatest < 128;
  copied : l.greatest < 128 → take (l.at + l.index) l.block ≡ take l.at l.fn.block ++ take l.index l.run;
  front : take l.at l.block ≡ take l.at l.fn.block;
}
