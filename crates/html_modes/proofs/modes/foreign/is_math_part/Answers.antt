use Rattle.std.proofs.Common.{◌∙◌, ap}
use Rattle.html_names.specs.Foreign.{is_math_text_part}
use Rattle.html_modes.proofs.Words.{is_math_text_part-chars}
use Rattle.html_modes.proofs.modes.foreign.is_math_part.Goals as goal

pub returns : goal.returns
returns c = c.is_math_text_part.ensures ∙ is_math_text_part-chars c.name_of.result.now c.name_of.utf8 ∙ ap is_math_text_part c.name_of.ensures
