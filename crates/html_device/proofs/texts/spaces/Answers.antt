use Rattle.html_device.proofs.Spaces.{some_blanks}
use Rattle.html_device.proofs.texts.spaces.Goals as goal

pub returns : goal.returns
returns c = some_blanks 256 c.args.count c.requires
