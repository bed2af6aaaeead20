use Rattle.std.proofs.Common.{append-nil}
use Rattle.html_tokens.proofs.EndLemmas.{differs}
use Rattle.html_tokens.proofs.ToldLemmas.{opens_both}
use Rattle.html_tokens.specs.Inside.{doctype_end_error, fault_if}
use Rattle.html_tokens.proofs.faults.Faults.doctype.Goals as goal

pub returns-in-None-clause-opens : goal.returns-in-None-clause-opens
returns-in-None-clause-opens c = rw (c.in-None.is, append-nil (fault_if (doctype_end_error c.args.part) c.args.place)) c.doctype_end.ensures.opens

pub returns-in-Some-clause-opens : goal.returns-in-Some-clause-opens
returns-in-Some-clause-opens c =
    let other = rw c.in-Some.is at c.in-Some.c-test.1 in
    rw (c.in-Some.is, differs c.in-Some.c 62 other)
    (opens_both _ _ c.args.self.now c.tell_named-in-Some.new.self c.null.new.self (rw c.char_fault.ensures.name at c.tell_named-in-Some.ensures.opens) c.null.ensures.opens)
