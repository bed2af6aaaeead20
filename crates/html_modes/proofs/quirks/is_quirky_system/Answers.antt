use Rattle.std.proofs.Common.{ap, ◌∙◌}
use Rattle.html_construction.specs.Quirks.{is_quirky_system}
use Rattle.html_modes.proofs.Ids.{system-id}
use Rattle.html_modes.proofs.quirks.is_quirky_system.Goals as goal

pub returns-in-Some : goal.returns-in-Some
returns-in-Some c = record { value = system-id c.as_str.result.now c.in-Some.id.now c.is_system_id.result c.as_str.utf8 c.as_str.ensures.code_points c.is_system_id.ensures.value ∙ ap is_quirky_system c.in-Some.ensures }
