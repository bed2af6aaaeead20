use Rattle.std.proofs.Common.{◌∙◌, arith}
use Rattle.html_tokens.proofs.StreamLemmas.{run_more, run_skips, run_given, run_wait, run_wait_all, run_ended, ended_prompt}
use Rattle.html_tokens.proofs.ToldLemmas.{told_given, told_more, told_same, told_skips}
use Rattle.html_tokens.proofs.machine.Machine.read_next.Goals as goal

pub returns-in-Ended-clause-prompt : goal.returns-in-Ended-clause-prompt
returns-in-Ended-clause-prompt c = λ run i. (run_skips _ _ run c.in_ok-read_on.ensures.skips (c.loop-self.invariant.goes_on run i), ended_prompt _ run (run_skips _ _ run c.in_ok-read_on.ensures.skips (c.loop-self.invariant.goes_on run i)) c.in-Ended.is)

pub returns-in-Ended-clause-all : goal.returns-in-Ended-clause-all
returns-in-Ended-clause-all c = λ run i f. run_ended _ run (run_skips _ _ run c.in_ok-read_on.ensures.skips (c.loop-self.invariant.goes_on run i)) c.in-Ended.is

pub returns-in-Wait-clause-prompt : goal.returns-in-Wait-clause-prompt
returns-in-Wait-clause-prompt c = λ run i. run_wait _ _ run (rw c.in-Wait.is at c.in_ok-progress.ensures.steps) (run_skips _ _ run c.in_ok-read_on.ensures.skips (c.loop-self.invariant.goes_on run i))

pub returns-in-Wait-clause-all : goal.returns-in-Wait-clause-all
returns-in-Wait-clause-all c = λ run i f. run_wait_all _ _ run (rw c.in-Wait.is at c.in_ok-progress.ensures.steps) (run_skips _ _ run c.in_ok-read_on.ensures.skips (c.loop-self.invariant.goes_on run i)) f

pub returns-in-Given-clause-given : goal.returns-in-Given-clause-given
returns-in-Given-clause-given c = λ run i switch. run_given _ _ run c.in-Given.token switch (rw c.in-Given.is at c.in_ok-progress.ensures.steps) (run_skips _ _ run c.in_ok-read_on.ensures.skips (c.loop-self.invariant.goes_on run i))

pub returns-in-Ended-clause-told : goal.returns-in-Ended-clause-told
returns-in-Ended-clause-told c = λ run i told.
    told_skips c.loop-self.self c.read_on.new.self c.loop-self.faults c.read_on.new.faults run c.in_ok-read_on.ensures.skips c.read_on.ensures.quiet (c.loop-self.invariant.goes_on run i) (c.loop-self.invariant.told run i told)

pub returns-in-Wait-clause-told : goal.returns-in-Wait-clause-told
returns-in-Wait-clause-told c = λ run i told.
    let steps = rw c.in-Wait.is at c.in_ok-progress.ensures.steps in
    let quiet = rw c.in-Wait.is at c.in_ok-progress.ensures.tells in
    rw steps.0
    (told_same c.read_on.new.self c.read_on.new.faults c.step.new.faults run quiet
    (told_skips c.loop-self.self c.read_on.new.self c.loop-self.faults c.read_on.new.faults run c.in_ok-read_on.ensures.skips c.read_on.ensures.quiet (c.loop-self.invariant.goes_on run i) (c.loop-self.invariant.told run i told)))

pub returns-in-Given-clause-telling : goal.returns-in-Given-clause-telling
returns-in-Given-clause-telling c = λ run i told switch.
    told_given c.read_on.new.self c.step.new.self c.read_on.new.faults c.step.new.faults run c.in-Given.token switch (rw c.in-Given.is at c.in_ok-progress.ensures.steps) (rw c.in-Given.is at c.in_ok-progress.ensures.tells)
    (run_skips _ _ run c.in_ok-read_on.ensures.skips (c.loop-self.invariant.goes_on run i))
    (told_skips c.loop-self.self c.read_on.new.self c.loop-self.faults c.read_on.new.faults run c.in_ok-read_on.ensures.skips c.read_on.ensures.quiet (c.loop-self.invariant.goes_on run i) (c.loop-self.invariant.told run i told))

pub loop-self-preserved : goal.loop-self-preserved
loop-self-preserved c =
    let steps = rw c.in-More.is at c.in_ok-progress.ensures.steps in
    let tells = rw c.in-More.is at c.in_ok-progress.ensures.tells in
    let on = c.in_ok-read_on.ensures.skips in
    let count = steps.2.count in
    let room = c.in_ok-read_on.ensures.room in
    let before = c.loop-self.invariant.room in
    record {
      goes_on = λ run i. run_more c.read_on.new.self c.step.new.self run steps (run_skips c.loop-self.self c.read_on.new.self run on (c.loop-self.invariant.goes_on run i));
      told = λ run i told.
          told_more c.read_on.new.self c.step.new.self c.read_on.new.faults c.step.new.faults run steps tells (run_skips c.loop-self.self c.read_on.new.self run on (c.loop-self.invariant.goes_on run i))
          (told_skips c.loop-self.self c.read_on.new.self c.loop-self.faults c.read_on.new.faults run on c.read_on.ensures.quiet (c.loop-self.invariant.goes_on run i) (c.loop-self.invariant.told run i told));
      bounded = λ b. c.in_ok-progress.ensures.bounded (c.in_ok-read_on.ensures.bounded (c.loop-self.invariant.bounded b));
      finished = steps.2.finished ∙ c.in_ok-read_on.ensures.finished ∙ c.loop-self.invariant.finished;
      room = omega (arith, count, room, before);
    }
