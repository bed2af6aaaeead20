use Rattle.std.proofs.Common.{◌≡◌, ◌≤◌, ◌-◌, ◌++◌, length, string_bytes, take}
use Rattle.std.specs.Str.{chars}
use Rattle.html_text.proofs.run.extend.Given as goal

abbrev pub invariant-copying : goal.invariant-copying
invariant-copying l = record {
  within : l.done ≤ length l.run;
  read : chars (string_bytes l.text) ≡ chars (string_bytes l.fn.text) ++ take l.done l.run;
  longer : length (string_bytes l.fn.text) ≤ length (string_bytes l.text);
  front : take (length (string_bytes l.fn.text)) (string_bytes l.text) ≡ string_bytes l.fn.text;
}

abbrev pub decreases-copying : goal.decreases-copying
decreases-copying l = length l.run - l.done
