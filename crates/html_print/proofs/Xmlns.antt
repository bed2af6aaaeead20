-- The one attribute of foreign content that is printed otherwise than it is named.
use Rattle.std.proofs.Common.{◌≡◌, ℕ, true, false, List, refl, sym, ◌∙◌}
use Rattle.std.specs.Prelude.{codes}
use Rattle.std.specs.Str.{bytes_eq, chars, IsUtf8}
use Rattle.html_names.proofs.Adjusted.{same_text}
use Rattle.html_print.specs.Order.{printed_name}

own_points : chars (codes "xmlns xmlns") ≡ codes "xmlns xmlns"
unfolding lib.Utf8.encode chars
own_points = refl

pub xmlns_is : (name : List ℕ) → IsUtf8 name → bytes_eq name (codes "xmlns") ≡ true → chars (codes "xmlns xmlns") ≡ printed_name true (chars name)
xmlns_is name u e =
    let same : bytes_eq (chars name) (codes "xmlns") ≡ true = sym (same_text (codes "xmlns") name refl u) ∙ e in
    rw same own_points

pub other_is : (name : List ℕ) → IsUtf8 name → bytes_eq name (codes "xmlns") ≡ false → chars name ≡ printed_name true (chars name)
other_is name u e =
    let same : bytes_eq (chars name) (codes "xmlns") ≡ false = sym (same_text (codes "xmlns") name refl u) ∙ e in
    rw same refl
