use Rattle.std.proofs.Common.{◌∙◌, sym}
use Rattle.html_text.proofs.Texts.{empty_text}
use Rattle.html_text.proofs.text.Str.is_empty.Goals as goal

pub returns : goal.returns
returns c =
    let d = empty_text c.as_str.result.now c.as_str.ensures.utf8 in
    let same = c.as_str.ensures.code_points ∙ c.self.view_is in
    (λ h. sym same ∙ d.0 (sym c.is_empty.ensures ∙ h), λ h. c.is_empty.ensures ∙ d.1 (same ∙ h))
