use Rattle.std.proofs.Common.{◌≡◌, ◌≤◌, take}
use Rattle.std.specs.List.{count_by}
use Rattle.html_text.specs.Plain.{is_lead}
use Rattle.html_text.proofs.plain.lead_count.Given as goal

abbrev pub invariant-loop-byte : goal.invariant-loop-byte
invariant-loop-byte l = record {
  few : l.count ≤ l.byte-index;
  counted : l.count ≡ count_by is_lead (take l.byte-index l.bytes);
}
