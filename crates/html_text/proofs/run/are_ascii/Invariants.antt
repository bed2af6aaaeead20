use Rattle.std.proofs.Common.{◌<◌, take}
use Rattle.std.specs.Str.{IsAscii}
use Rattle.html_text.proofs.run.are_ascii.Given as goal

abbrev pub invariant-loop-index : goal.invariant-loop-index
invariant-loop-index l = record {
  yes : l.most < 128 → IsAscii (take l.index l.run);
  no : IsAscii l.run → l.most < 128;
}
