use Rattle.std.proofs.Common.{ap, ◌∙◌}
use Rattle.html_construction.specs.Quirks.{is_quirky_public}
use Rattle.html_modes.proofs.Ids.{quirky-public}
use Rattle.html_modes.proofs.quirks.is_quirky_public.Goals as goal

pub returns-in-Some : goal.returns-in-Some
returns-in-Some c = record {
  value = quirky-public c.as_str.result.now c.in-Some.id.now c.is_quirky_public_id.result c.args.alone c.as_str.utf8 c.as_str.ensures.code_points c.is_quirky_public_id.ensures.value
      ∙ ap (λ o. is_quirky_public o c.args.alone) c.in-Some.ensures;
}
