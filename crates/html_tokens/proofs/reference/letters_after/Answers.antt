use Rattle.std.proofs.Common.{refl}
use Rattle.html_tokens.proofs.ReferenceLemmas.{letters_one}
use Rattle.html_tokens.proofs.reference.letters_after.Goals as goal

pub returns-then-branch : goal.returns-then-branch
returns-then-branch c =
    let letter = rw c.if-branch.true at c.in_ok-is_letter_next.ensures in
    letters_one c.args.input.now c.args.table.now _ c.closed_within.result (rw c.longest_name.ensures.length refl) letter.0 c.closed_within.ensures
