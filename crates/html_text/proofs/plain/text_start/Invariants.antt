use Rattle.std.proofs.Common.{◌≤◌, length}
use Rattle.html_text.proofs.plain.text_start.Given as goal

abbrev pub invariant-blocks-2 : goal.invariant-blocks-2
invariant-blocks-2 l = l.len ≤ length l.bytes

abbrev pub decreases-blocks-2 : goal.decreases-blocks-2
decreases-blocks-2 l = l.len
