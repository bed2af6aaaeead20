use Rattle.std.proofs.Common.{◌∙◌, ◌++◌, Some, ap, arith}
use Rattle.html_tokens.proofs.ReferenceLemmas.{few_codes}
use Rattle.html_tokens.proofs.reference.value_ref.Goals as goal

pub returns-in-Some-false : goal.returns-in-Some-false
returns-in-Some-false c =
    let opener = rw c.in-Named.is at c.in_ok-ref_opener.ensures in
    let none = rw c.in-None.is at c.in_ok-named-in-Named.ensures in
    let few = rw c.in-Some-false.is at c.in_ok-letters_after-in-None.ensures in
    ((λ more f. few_codes c.args.table.now (c.args.input.now.queue.items ++ more) (opener.0 more f) (none.0 more f) (few more f ∙ ap Some c.in-Some-false.field-0-test)), omega arith, c.requires)
