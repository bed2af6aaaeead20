use Rattle.std.proofs.Common.{◌∙◌, ap}
use Rattle.html_modes.proofs.Words.{is_type-chars, type_name}
use Rattle.html_modes.proofs.hidden.is_type.Goals as goal

pub returns : goal.returns
returns c = c.is_type_name.ensures ∙ is_type-chars c.as_str.result.now c.as_str.utf8 ∙ ap type_name c.as_str.ensures.code_points
