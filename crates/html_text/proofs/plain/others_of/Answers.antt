use Rattle.std.proofs.Common.{◌%◌, ◌^◌, eqb, cond, bit_and, take, map, sym, ap, ◌∙◌, arith}
use Rattle.std.specs.Int.{bit_at}
use Rattle.std.proofs.lemmas.Nat.{and_le_r}
use Rattle.std.proofs.lemmas.Simd.{zip2_splat}
use lib.Lanes.{mask_l, top, zip2}
use Rattle.simdutf8.proofs.Lanes.{low_ok, looked_up}
use Rattle.html_text.specs.declared.plain.TheConstants.{OTHERS}
use Rattle.html_text.proofs.Marks.{unmarked}
use Rattle.html_text.proofs.plain.others_of.Goals as goal

pub swizzle-others : goal.swizzle-others
swizzle-others c = low_ok c.args.bytes c.fits-bytes

pub returns : goal.returns
returns c k small e =
    let v = c.args.bytes in
    let known = looked_up OTHERS (take 16 OTHERS) (λ x. bit_and x 15) v _ c.fits-bytes (zip2_splat bit_and v 64 15 c.fits-bytes.0) (λ x h. omega (arith, and_le_r x 15)) tt in
    unmarked v c.fits-bytes k small (ap (λ others. bit_at (mask_l (map (top 7) (zip2 (λ a b. cond (eqb a b) 255 0) others v)) % 2 ^ 64) k) (sym known) ∙ e)
