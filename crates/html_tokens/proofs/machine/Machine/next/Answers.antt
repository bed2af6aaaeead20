use Rattle.html_tokens.proofs.StreamLemmas.{run_skips, none_after, none_after_all, some_after, some_given}
use Rattle.html_tokens.proofs.ToldLemmas.{none_told_after, some_told, some_told_after}
use Rattle.html_tokens.proofs.machine.Machine.next.Goals as goal

pub returns-in_default-clause-given : goal.returns-in_default-clause-given
returns-in_default-clause-given c = some_given c.args.self.now c.whole_tag.new.self c.in_ok-found.found c.in_ok-found.ensures.given

pub returns-in_ok-answer-in-None-clause-given : goal.returns-in_ok-answer-in-None-clause-given
returns-in_ok-answer-in-None-clause-given c = some_after c.args.self.now c.whole_tag.new.self c.read_next.new.self c.in_ok-answer-in-None.answer (rw c.in-None.is at c.in_ok-found.ensures.begun) c.in_ok-answer-in-None.ensures.given

pub returns-in_ok-answer-in-None-clause-prompt : goal.returns-in_ok-answer-in-None-clause-prompt
returns-in_ok-answer-in-None-clause-prompt c = none_after c.args.self.now c.whole_tag.new.self c.read_next.new.self c.in_ok-answer-in-None.answer (rw c.in-None.is at c.in_ok-found.ensures.begun) c.in_ok-answer-in-None.ensures.prompt

pub returns-in_ok-answer-in-None-clause-all : goal.returns-in_ok-answer-in-None-clause-all
returns-in_ok-answer-in-None-clause-all c = none_after_all c.args.self.now c.whole_tag.new.self c.in_ok-answer-in-None.answer (rw c.in-None.is at c.in_ok-found.ensures.begun) c.in_ok-answer-in-None.ensures.all

pub returns-in_default-clause-telling : goal.returns-in_default-clause-telling
returns-in_default-clause-telling c = some_told c.args.self.now c.whole_tag.new.self c.args.faults.now c.whole_tag.new.faults c.in_ok-found.found c.in_ok-found.ensures.given c.in_ok-found.ensures.silent c.whole_tag.ensures.quiet

pub returns-in_ok-answer-in-None-clause-telling : goal.returns-in_ok-answer-in-None-clause-telling
returns-in_ok-answer-in-None-clause-telling c =
    let skips = rw c.in-None.is at c.in_ok-found.ensures.begun in
    some_told_after c.args.self.now c.whole_tag.new.self c.read_next.new.self c.args.faults.now c.whole_tag.new.faults c.read_next.new.faults c.in_ok-answer-in-None.answer skips c.whole_tag.ensures.quiet (λ run i. run_skips _ _ run skips i) c.in_ok-answer-in-None.ensures.telling

pub returns-in_ok-answer-in-None-clause-told : goal.returns-in_ok-answer-in-None-clause-told
returns-in_ok-answer-in-None-clause-told c =
    let skips = rw c.in-None.is at c.in_ok-found.ensures.begun in
    none_told_after c.args.self.now c.whole_tag.new.self c.read_next.new.self c.args.faults.now c.whole_tag.new.faults c.read_next.new.faults c.in_ok-answer-in-None.answer skips c.whole_tag.ensures.quiet (λ run i. run_skips _ _ run skips i) c.in_ok-answer-in-None.ensures.told
