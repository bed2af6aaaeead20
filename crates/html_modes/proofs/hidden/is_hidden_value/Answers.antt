use Rattle.std.proofs.Common.{◌∙◌, ap}
use Rattle.html_modes.proofs.Words.{hidden_value, is_hidden-chars}
use Rattle.html_modes.proofs.hidden.is_hidden_value.Goals as goal

pub returns : goal.returns
returns c = c.is_hidden_text.ensures ∙ is_hidden-chars c.as_str.result.now c.as_str.utf8 ∙ ap hidden_value c.as_str.ensures.code_points
