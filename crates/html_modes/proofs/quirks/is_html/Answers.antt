use Rattle.std.proofs.Common.{ap, ◌∙◌}
use Rattle.html_construction.specs.Quirks.{is_html}
use Rattle.html_modes.proofs.Ids.{html-name}
use Rattle.html_modes.proofs.quirks.is_html.Goals as goal

pub returns-in-Some : goal.returns-in-Some
returns-in-Some c = record { value = html-name c.as_str.result.now c.in-Some.name.now c.is_html_text.result c.as_str.utf8 c.as_str.ensures.code_points c.is_html_text.ensures.value ∙ ap is_html c.in-Some.ensures }
