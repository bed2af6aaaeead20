use Rattle.html_tokens.proofs.ToldLemmas.{opens_both, opens_none}
use Rattle.html_tokens.proofs.faults.Faults.tag_close.Goals as goal

pub returns-then-not-draft-clause-opens : goal.returns-then-not-draft-clause-opens
returns-then-not-draft-clause-opens c = rw c.if-not-draft.true (opens_none c.args.self.now)

pub returns-clause-opens : goal.returns-clause-opens
returns-clause-opens c =
    rw c.if-not-draft.false (rw (c.saturating_sub-place.ensures, c.len.ensures) at (opens_both _ _ c.args.self.now c.tell_if.new.self c.tell_if-2.new.self c.tell_if.ensures.opens c.tell_if-2.ensures.opens))
