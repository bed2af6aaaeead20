use Rattle.html_device.proofs.Puts.{flush_err, flush_ok, put_front}
use Rattle.html_device.proofs.pieces.write_pieces.Goals as goal

pub returns-clause-ok : goal.returns-clause-ok
returns-clause-ok g c = flush_ok _ _ _ _ _ _ c.new-output.ensures c.flush.result c.in_ok-put_pieces.ensures.bytes c.flush.ensures.ok

pub returns-clause-err : goal.returns-clause-err
returns-clause-err g c = flush_err _ _ _ _ _ _ c.new-output.ensures c.flush.result c.in_ok-put_pieces.ensures.bytes c.flush.ensures.err

pub returns-in_err-put_pieces-clause-err : goal.returns-in_err-put_pieces-clause-err
returns-in_err-put_pieces-clause-err g c = put_front _ _ _ _ c.new-output.ensures c.from_residual.result c.in_err-put_pieces.ensures.bytes
