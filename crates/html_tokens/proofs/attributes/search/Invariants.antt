use Rattle.std.proofs.Common.{◌≡◌, take, false}
use Rattle.html_tokens.specs.Tag.{has_name}
use Rattle.html_tokens.proofs.attributes.search.Given as goal

abbrev pub invariant-loop-attr : goal.invariant-loop-attr
invariant-loop-attr l = record {
  none : has_name l.name (take l.attr-index l.attrs) ≡ false;
  compared : l.compared ≡ l.attr-index;
}
