use Rattle.std.proofs.Common.{◌-◌, ◌≤◌}
use denote.Shadow.{shadow}
use denote.Text.{Utf8}
use Rattle.html_text.specs.Plain.{IsCutAfter}
use Rattle.html_text.proofs.plain.rest_after.Given as goal

abbrev pub invariant-passing : goal.invariant-passing
invariant-passing l = shadow (Utf8 l.rest) × (l.left ≤ l.count) × IsCutAfter (l.count - l.left) l.text l.rest

abbrev pub decreases-passing : goal.decreases-passing
decreases-passing l = l.left
