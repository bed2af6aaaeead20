use Rattle.std.proofs.Common.{◌≡◌, ◌∙◌, refl, sym}
use Rattle.std.specs.Str.{bytes_eq}
use Rattle.std.proofs.lemmas.Slice.Eq.{bytes_eq-Decides}
use Rattle.html_text.proofs.Texts.{same_text}
use Rattle.html_text.proofs.text.StrPartialEq.eq.Goals as goal

pub returns-clause-value : goal.returns-clause-value
returns-clause-value c =
    rw (← c.self.view_is, ← c.other.view_is)
    (c.eq.ensures ∙ same_text c.as_str.result.now c.as_str-2.result.now c.as_str.ensures.utf8 c.as_str-2.ensures.utf8
    ∙ rw (c.as_str.ensures.code_points, c.as_str-2.ensures.code_points) refl)

pub returns-clause-equal : goal.returns-clause-equal
returns-clause-equal c =
    let e : c.eq.result ≡ bytes_eq c.args.self.now c.args.other.now =
    rw (← c.self.view_is, ← c.other.view_is)
    (c.eq.ensures ∙ same_text c.as_str.result.now c.as_str-2.result.now c.as_str.ensures.utf8 c.as_str-2.ensures.utf8
    ∙ rw (c.as_str.ensures.code_points, c.as_str-2.ensures.code_points) refl) in
    let d = bytes_eq-Decides c.args.self.now c.args.other.now in
    (λ h. d.0 (sym e ∙ h), λ h. e ∙ d.1 h)
