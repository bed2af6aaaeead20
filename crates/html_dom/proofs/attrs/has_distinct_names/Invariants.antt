use Rattle.std.proofs.Common.{◌≡◌, length}
use Rattle.html_dom.specs.Attributes.{has_distinct_names}
use Rattle.html_dom.proofs.attrs.has_distinct_names.Given as goal

abbrev pub invariant-names : goal.invariant-names
invariant-names l = has_distinct_names l.attrs ≡ has_distinct_names l.rest

abbrev pub decreases-names : goal.decreases-names
decreases-names l = length l.rest
