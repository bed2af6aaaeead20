use Rattle.html_tokens.proofs.machine.Machine.whole_tag.Goals as goal

pub whole_start-requires-clause-start : goal.whole_start-requires-clause-start
whole_start-requires-clause-start c = (rw c.in-Some-StartTag.field-0-is at c.in-Some-StartTag.ensures).0

pub whole_end-requires-clause-start : goal.whole_end-requires-clause-start
whole_end-requires-clause-start c = (rw c.in-Some-EndTag.field-0-is at c.in-Some-EndTag.ensures).0
