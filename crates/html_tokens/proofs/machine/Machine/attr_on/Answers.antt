use Rattle.std.proofs.Math.Nat.{min-le_left}
use Rattle.html_tokens.proofs.WholeLemmas.{attr_bounded}
use Rattle.html_tokens.proofs.TagLemmas.{tag_skips}
use Rattle.html_tokens.proofs.machine.Machine.attr_on.Goals as goal

pub returns-clause-skips : goal.returns-clause-skips
returns-clause-skips c =
    tag_skips c.args.self.now c.pass.new.self c.in-Tag.draft c.take_whole.new.self c.in_ok-taken.taken.len c.in-Tag.is (rw c.unread.ensures at c.in_ok-taken.ensures.copies) c.pass.ensures

pub returns-clause-bounded : goal.returns-clause-bounded
returns-clause-bounded c = λ b.
    attr_bounded c.args.self.now c.pass.new.self c.in-Tag.draft c.take_whole.new.self c.in_ok-taken.taken.len c.in_ok-taken.taken.compared c.args.faults.now c.took.new.self c.in-Tag.is c.pass.ensures c.in_ok-taken.ensures.attrs
    c.took.ensures.list (rw c.took.ensures.compared (min-le_left _ _)) c.in_ok-taken.ensures.compared c.in_ok-taken.ensures.none b
