use Rattle.std.proofs.Common.{◌≡◌, ◌+◌, ◌*◌, ◌≤◌, ◌++◌, chars, length, take}
use Rattle.std.specs.Str.{IsUtf8}
use Rattle.html_text.proofs.run.encode.Given as goal

abbrev pub invariant-encoding : goal.invariant-encoding
invariant-encoding l = record {
  room : l.at + 4 * length l.rest ≤ length l.block;
  same_len : length l.block ≡ length l.fn.block;
  utf8 : IsUtf8 (take l.at l.block);
  read : chars (take l.at l.block) ++ l.rest ≡ l.front;
}

abbrev pub decreases-encoding : goal.decreases-encoding
decreases-encoding l = length l.rest
