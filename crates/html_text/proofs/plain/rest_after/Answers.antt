use Rattle.std.proofs.Common.{◌≡◌, ◌+◌, ◌-◌, ◌≤◌, ap, arith, chars, length, subst}
use Rattle.std.proofs.lemmas.List.{length-drop}
use Rattle.html_text.specs.Plain.{IsCutAfter}
use Rattle.html_text.proofs.PlainTexts.{cut-more, cut-none, rest-chars}
use Rattle.html_text.proofs.plain.rest_after.Goals as goal

pub passing-init : goal.passing-init
passing-init c =
    let none : 0 ≡ c.args.count - c.args.count = omega arith in
    (c.utf8.text, omega arith, subst (λ k. IsCutAfter k c.args.text.now c.args.text.now) none (cut-none c.args.text.now))

pub rest_after_first-rest-requires : goal.rest_after_first-rest-requires
rest_after_first-rest-requires c =
    let text = c.args.text.now in
    let passed = c.args.count - c.passing.left in
    let most = c.passing.invariant.1 in
    let few = c.requires in
    let within : passed ≤ length (chars text) = omega (arith, most, few) in
    let rest = ap length (rest-chars passed text c.passing.rest.now c.passing.invariant.2 within) in
    let len = length-drop passed (chars text) in
    let some = c.passing-test.true in
    omega (arith, rest, len, most, few, some)

pub passing-preserved : goal.passing-preserved
passing-preserved c =
    let text = c.args.text.now in
    let passed = c.args.count - c.passing.left in
    let most = c.passing.invariant.1 in
    let few = c.requires in
    let some = c.passing-test.true in
    let within : passed ≤ length (chars text) = omega (arith, most, few) in
    let one : passed + 1 ≡ c.args.count - (c.passing.left - 1) = omega (arith, most, some) in (
      c.rest_after_first-rest.utf8,
      omega (arith, most),
      subst (λ k. IsCutAfter k text c.rest_after_first-rest.result.now) one
          (cut-more passed text c.passing.rest.now c.rest_after_first-rest.result.now within c.passing.invariant.2 c.rest_after_first-rest.ensures),
    )
