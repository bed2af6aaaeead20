use Rattle.std.proofs.Common.{◌≡◌, ◌∙◌, ◌≤◌, IsUtf8, ap, subst, sym, length, chars, take}
use Rattle.std.specs.List.{list_all}
use Rattle.std.proofs.lemmas.List.{length-take-le}
use Rattle.html_text.specs.Plain.{is_plain_char}
use Rattle.html_text.proofs.PlainTexts.{cut-boundary, cut-chars, cut-utf8, plain-front}
use Rattle.html_text.proofs.plain.PlainText.front.Goals as goal

pub split_at-requires : goal.split_at-requires
split_at-requires c = cut-boundary c.args.count c.self.inside.text.now c.rest_after-rest.result.now c.rest_after-rest.ensures c.self.invariant.0

pub invariant_of-result-2 : goal.invariant_of-result-2
invariant_of-result-2 c =
    let text = c.self.inside.text.now in
    let within : c.args.count ≤ length (chars text) = subst (λ v. c.args.count ≤ length v) (sym c.self.view_is) c.requires in
    let front : chars c.split_at.result.0.now ≡ take c.args.count (chars text)
    = ap chars c.split_at.ensures.front ∙ cut-chars c.args.count text c.rest_after-rest.result.now c.rest_after-rest.ensures in (
      subst IsUtf8 (sym c.split_at.ensures.front) (cut-utf8 c.args.count text c.rest_after-rest.result.now c.rest_after-rest.ensures),
      sym (ap length front ∙ length-take-le c.args.count (chars text) within),
      ap (list_all is_plain_char) front ∙ plain-front (chars text) c.args.count c.self.invariant.2,
    )
