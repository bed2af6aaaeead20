use Rattle.std.proofs.Common.{◌∙◌, ap}
use Rattle.html_names.specs.Foreign.{is_unknown_breakout}
use Rattle.html_modes.proofs.Words.{is_unknown_breakout-chars}
use Rattle.html_modes.proofs.modes.foreign.is_unknown_part.Goals as goal

pub returns : goal.returns
returns c = c.is_unknown_breakout.ensures ∙ is_unknown_breakout-chars c.name_of.result.now c.name_of.utf8 ∙ ap is_unknown_breakout c.name_of.ensures
