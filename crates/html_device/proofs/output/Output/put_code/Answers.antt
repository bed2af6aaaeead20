use Rattle.html_device.proofs.HexDigits.{digits_left}
use Rattle.html_device.proofs.Puts.{put_is}
use Rattle.html_device.proofs.output.Output.put_code.Goals as goal

pub returns-clause-bytes : goal.returns-clause-bytes
returns-clause-bytes g c =
    put_is _ _ _ _ _ _ _ c.put.ensures.bytes (digits_left c.args.c c.digits_of.result c.left_out.result c.digits_of.ensures c.left_out.ensures.value)
