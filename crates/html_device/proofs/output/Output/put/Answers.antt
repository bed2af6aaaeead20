use Rattle.html_device.proofs.Puts.{front_flushing, put_err, put_through}
use Rattle.html_device.proofs.output.Output.put.Goals as goal

pub returns-in_err-flush-clause-bytes : goal.returns-in_err-flush-clause-bytes
returns-in_err-flush-clause-bytes g c =
    put_err _ _ _ _ _ _ c.from_residual.ensures.0 (front_flushing _ _ _ c.args.bytes.now c.in_err-flush.ensures.err)

pub returns-clause-bytes : goal.returns-clause-bytes
returns-clause-bytes g c =
    put_through _ _ _ _ _ _ _ c.in_ok-flush.ensures.ok c.in_ok-flush.ensures.empty c.write_all.ensures.ok c.write_all.ensures.err
