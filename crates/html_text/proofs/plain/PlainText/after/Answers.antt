use Rattle.std.proofs.Common.{◌≡◌, ◌∙◌, ◌≤◌, ap, arith, subst, sym, length, chars, drop}
use Rattle.std.specs.List.{list_all}
use Rattle.std.proofs.lemmas.List.{length-drop}
use Rattle.html_text.specs.Plain.{is_plain_char}
use Rattle.html_text.proofs.PlainTexts.{plain-rest, rest-chars}
use Rattle.html_text.proofs.plain.PlainText.after.Goals as goal

pub invariant_of-result : goal.invariant_of-result
invariant_of-result c =
    let text = c.self.inside.text.now in
    let within : c.args.count ≤ length (chars text) = subst (λ v. c.args.count ≤ length v) (sym c.self.view_is) c.requires in
    let rest : chars c.rest_after.result.now ≡ drop c.args.count (chars text) = rest-chars c.args.count text c.rest_after.result.now c.rest_after.ensures within in (
      c.rest_after.utf8,
      (let a = ap length rest in let b = length-drop c.args.count (chars text) in let d = c.self.invariant.1 in omega (arith, a, b, d)),
      ap (list_all is_plain_char) rest ∙ plain-rest (chars text) c.args.count c.self.invariant.2,
    )

pub returns : goal.returns
returns c =
    rest-chars c.args.count c.self.inside.text.now c.rest_after.result.now c.rest_after.ensures
    (subst (λ v. c.args.count ≤ length v) (sym c.self.view_is) c.requires) ∙ ap (drop c.args.count) c.self.view_is
