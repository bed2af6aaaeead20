use Rattle.std.proofs.Common.{◌≡◌, ◌∙◌, IsUtf8, subst, sym, true}
use Rattle.std.specs.List.{list_all}
use Rattle.std.proofs.lemmas.Str.{encodes-chars}
use Rattle.html_text.specs.Plain.{is_plain_byte}
use Rattle.html_text.proofs.PlainTexts.{plain-text}
use Rattle.html_text.proofs.plain.PlainText.of.Goals as goal

pub invariant_of-result : goal.invariant_of-result
invariant_of-result c =
    let e = c.in-Ok.ensures in
    let u = subst IsUtf8 (sym e.0) e.1 in
    (u, c.count.ensures, plain-text c.in-Ok.text.now u (subst (λ v. list_all is_plain_byte v ≡ true) (sym e.0) c.requires.plain))

pub returns-in-Ok-clause-bytes : goal.returns-in-Ok-clause-bytes
returns-in-Ok-clause-bytes c = (let e = c.in-Ok.ensures in sym e.0 ∙ sym (encodes-chars c.in-Ok.text.now (subst IsUtf8 (sym e.0) e.1)))
