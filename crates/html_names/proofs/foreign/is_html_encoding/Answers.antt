use Rattle.std.proofs.Common.{◌∙◌}
use Rattle.html_names.proofs.Locals.{is_html_encoding-chars}
use Rattle.html_names.proofs.foreign.is_html_encoding.Goals as goal

pub returns-clause-code_points : goal.returns-clause-code_points
returns-clause-code_points c = c.is_html_type.ensures ∙ is_html_encoding-chars _ c.utf8.value
