use Rattle.std.proofs.Common.{◌∙◌, ap}
use Rattle.html_names.specs.Foreign.{is_font_attr}
use Rattle.html_modes.proofs.Words.{is_font_attr-chars}
use Rattle.html_modes.proofs.modes.foreign.ends_font.Goals as goal

pub returns : goal.returns
returns c = c.is_font_attr.ensures ∙ is_font_attr-chars c.as_str.result.now c.as_str.utf8 ∙ ap is_font_attr c.as_str.ensures.code_points
