use Rattle.std.proofs.Common.{◌≡◌, ◌+◌, ◌∙◌, arith, count_by}
use Rattle.html_text.specs.Plain.{is_lead}
use Rattle.html_text.proofs.PlainTexts.{counted}
use Rattle.html_text.proofs.plain.count.Goals as goal

pub returns : goal.returns
returns c =
    let known = c.loop-rest.invariant in
    let last = c.lead_count-2.ensures in
    let all : c.loop-rest.total + c.lead_count-2.result ≡ count_by is_lead c.args.text.now = omega (arith, known, last) in
    all ∙ counted c.args.text.now c.utf8.text
