use Rattle.std.proofs.Common.{◌≡◌}
use Rattle.std.specs.Cmp.Lexicographic.{slice_cmp}
use Rattle.std.specs.Ordering.{nat_cmp}
use Rattle.std.specs.Str.{chars, IsUtf8}
use Rattle.std.specs.Str.Iter.{encode_utf16_rest}
use Rattle.html_print.specs.Order.{code_units}
use Rattle.html_print.proofs.Units.{left}
use Rattle.html_print.proofs.attributes.compare_units.Given as goal

-- the rests compare as the texts do
abbrev pub invariant-units : goal.invariant-units
invariant-units l = record {
  can : (goal.iterator-units).can_next l.first;
  finite : (goal.iterator-units).is_finite l.first;
  text : IsUtf8 (encode_utf16_rest l.first);
  other : IsUtf8 (encode_utf16_rest l.second);
  same : slice_cmp nat_cmp (left l.first) (left l.second) ≡ slice_cmp nat_cmp (code_units (chars l.fn.a)) (code_units (chars l.fn.b));
}
