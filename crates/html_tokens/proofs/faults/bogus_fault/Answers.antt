use Rattle.std.proofs.Common.{arith, ◌++◌}
use Rattle.html_tokens.proofs.ToldLemmas.{bogus_cdata, bogus_other}
use Rattle.html_tokens.proofs.faults.bogus_fault.Goals as goal

pub returns-then-branch-3 : goal.returns-then-branch-3
returns-then-branch-3 c =
    let next = c.saturating_add-next.ensures in
    let place = c.saturating_add-place.ensures in
    record {
      told = λ more f.
          bogus_cdata c.args.place (c.args.input.now.queue.items ++ more) c.saturating_add-place.result ((rw c.if-branch.false at c.in_ok-is_at.ensures).0 more f) ((rw c.if-branch-2.false at c.in_ok-is_at-2.ensures).0 more f)
          ((rw c.if-branch-3.true at c.in_ok-is_cdata.ensures) more f) (omega (arith, next, place, c.requires.two, c.requires.room));
    }

pub returns-else-branch-3 : goal.returns-else-branch-3
returns-else-branch-3 c =
    let next = c.saturating_add-next.ensures in
    let place = c.saturating_add-place.ensures in
    record {
      told = λ more f.
          bogus_other c.args.place (c.args.input.now.queue.items ++ more) c.saturating_add-place.result ((rw c.if-branch.false at c.in_ok-is_at.ensures).0 more f) ((rw c.if-branch-2.false at c.in_ok-is_at-2.ensures).0 more f)
          ((rw c.if-branch-3.false at c.in_ok-is_cdata.ensures) more f) (omega (arith, next, place, c.requires.two, c.requires.room));
    }
