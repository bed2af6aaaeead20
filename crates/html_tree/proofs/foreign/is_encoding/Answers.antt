use Rattle.std.proofs.Common.{◌∙◌, ap, refl}
use Rattle.std.specs.Prelude.{codes}
use Rattle.std.specs.Str.{bytes_eq}
use Rattle.html_names.proofs.Adjusted.{same_text}
use Rattle.html_tree.proofs.foreign.is_encoding.Goals as goal

pub returns : goal.returns
returns c = c.eq.ensures ∙ same_text (codes "encoding") c.as_str.result.now refl c.as_str.utf8 ∙ ap (λ v. bytes_eq v (codes "encoding")) c.as_str.ensures.code_points
