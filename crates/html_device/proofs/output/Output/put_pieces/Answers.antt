use Rattle.std.proofs.Common.{drop, suc, sym, refl}
use Rattle.html_device.specs.Pieces.{piece_bytes, pieces_bytes}
use Rattle.html_device.proofs.OneByOne.{all_of, from_one, one_more}
use Rattle.html_device.proofs.Puts.{Moves-is, Moves-trans, front_after, put_err}
use Rattle.html_device.proofs.output.Output.put_pieces.Goals as goal

pub returns-in_err-put_piece-clause-bytes : goal.returns-in_err-put_piece-clause-bytes
returns-in_err-put_piece-clause-bytes g c =
    put_err _ _ _ _ _ _ c.from_residual.ensures.0
    (front_after _ _ _ _ _ _ _ _ c.pieces.invariant.put c.in_err-put_piece.ensures.bytes (pieces_bytes (drop (suc c.pieces.piece-index) c.args.pieces.now))
    (from_one piece_bytes c.args.pieces.now c.pieces.piece-index _ _ c.pieces-test.true refl))

pub pieces-preserved : goal.pieces-preserved
pieces-preserved g c = record {
  put =
      Moves-is _ _ _ _ _ _ (sym (one_more piece_bytes c.args.pieces.now c.pieces.piece-index _ _ c.pieces-test.true refl))
      (Moves-trans _ _ _ _ _ _ _ _ c.pieces.invariant.put c.in_ok-put_piece.ensures.bytes);
  failing = λ now. c.pieces.invariant.failing (c.in_ok-put_piece.ensures.failing now);
  stalling = λ now. c.pieces.invariant.stalling (c.in_ok-put_piece.ensures.stalling now);
}

pub returns-clause-bytes : goal.returns-clause-bytes
returns-clause-bytes g c = Moves-is _ _ _ _ _ _ (sym (all_of piece_bytes c.args.pieces.now c.pieces.piece-index c.pieces-test.false)) c.pieces.invariant.put
