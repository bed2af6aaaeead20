use Rattle.std.proofs.Common.{◌≡◌, ◌+◌, ◌*◌, ◌≤◌, ◌++◌, chars, length, take}
use Rattle.std.specs.Str.{IsUtf8}
use Rattle.html_text.proofs.run.encode_each.Given as goal

abbrev pub invariant-encoding : goal.invariant-encoding
invariant-encoding l = record {
  within : l.next ≤ l.at + 4 * l.index;
  same_len : length l.block ≡ length l.fn.block;
  utf8 : IsUtf8 (take l.next l.block);
  read : chars (take l.next l.block) ≡ chars (take l.at l.fn.block) ++ take l.index l.group;
}
