use Rattle.std.proofs.Common.{◌≡◌, ◌++◌, length, length-take, take, drop, sym, ap, ◌∙◌, arith}
use Rattle.std.proofs.lemmas.Result.{err_from_is_err_and}
use Rattle.html_input.proofs.Seams.{scalar_values-utf8, seam_after_utf8}
use Rattle.html_input.proofs.Steps.{move_at, too_long_at, cut_front}
use Rattle.html_input.proofs.decoder.Decoder.decode_well_formed.Goals as goal

pub returns-in_err-read-clause-err : goal.returns-in_err-read-clause-err
returns-in_err-read-clause-err c =
    let p = err_from_is_err_and c.from_residual.result c.from_residual.ensures.1 in
    rw p.1 (λ long.
    let t = c.in_err-read.ensures.err (sym p.2 ∙ long) in
    too_long_at (take t.0 c.args.bytes.now) _ (cut_front t.0 c.args.bytes.now) (seam_after_utf8 _ _ t.1.0) (scalar_values-utf8 _ t.1.0) t.1.1)

pub returns-clause-moves : goal.returns-clause-moves
returns-clause-moves c =
    let n = c.in_ok-read.read in
    let bytes = c.args.bytes.now in
    let len : n ≡ length (take n bytes) = omega (arith, c.in_ok-read.ensures.within, length-take n bytes) in
    move_at (take n bytes) _ (cut_front n bytes) (ap (λ t. t ++ drop n bytes) c.requires.settled ∙ ap (λ k. drop k bytes) len)
    (seam_after_utf8 _ _ c.in_ok-read.ensures.utf8) (scalar_values-utf8 _ c.in_ok-read.ensures.utf8) c.in_ok-read.ensures.ok
