use Rattle.std.proofs.Common.{None, sym}
use Rattle.html_tokens.specs.Given.{Fed, Awaits}
use Rattle.html_tokens.proofs.CostLemmas.{run_costed}
use Rattle.html_tokens.proofs.FedLemmas.{after_unsaid, none_all, none_prompt, some_awaits, some_costed, some_unsaid}
use Rattle.html_tokens.proofs.tokenizer.Tokenizer.next.Goals as goal

pub returns-in-Some-clause-given : goal.returns-in-Some-clause-given
unfolding Fed Awaits
returns-in-Some-clause-given c = rw c.char_token.ensures (λ run h. (c.in-Some.ensures.given run h.0, sym c.if-is_lost.ensures, c.in-Some.ensures.telling run h.0 h.2))

pub returns-in-Some-clause-unsaid : goal.returns-in-Some-clause-unsaid
unfolding Fed
returns-in-Some-clause-unsaid c = rw c.char_token.ensures (λ run h. after_unsaid c.next_char.new.self c.next_char.new.faults run _ (c.in-Some.ensures.given run h.0, sym c.if-is_lost.ensures, c.in-Some.ensures.telling run h.0 h.2))

pub returns-in-Ok-clause-given : goal.returns-in-Ok-clause-given
unfolding Fed Awaits
returns-in-Ok-clause-given c =
    some_awaits c.args.self.now.machine c.next.new.self c.args.self.now.faults c.next.new.faults c.in-Ok.answer (rw c.in_default.ensures.still at c.in-Ok.ensures.kept)
    (rw c.in_default.ensures.none at c.in-Ok.ensures.given) (rw (c.in_default.ensures.none, c.in_default.ensures.still) at c.in-Ok.ensures.telling)

pub returns-in-Ok-clause-unsaid : goal.returns-in-Ok-clause-unsaid
unfolding Fed
returns-in-Ok-clause-unsaid c =
    some_unsaid c.args.self.now.machine c.next.new.self c.args.self.now.faults c.next.new.faults c.in-Ok.answer
    (some_awaits c.args.self.now.machine c.next.new.self c.args.self.now.faults c.next.new.faults c.in-Ok.answer (rw c.in_default.ensures.still at c.in-Ok.ensures.kept)
    (rw c.in_default.ensures.none at c.in-Ok.ensures.given) (rw (c.in_default.ensures.none, c.in_default.ensures.still) at c.in-Ok.ensures.telling))

pub returns-in-Ok-clause-prompt : goal.returns-in-Ok-clause-prompt
unfolding Fed
returns-in-Ok-clause-prompt c =
    none_prompt c.args.self.now.machine c.next.new.self c.args.self.now.faults c.next.new.faults c.in-Ok.answer (rw c.in_default.ensures.still at c.in-Ok.ensures.kept)
    (rw c.in_default.ensures.none at c.in-Ok.ensures.prompt) (rw (c.in_default.ensures.none, c.in_default.ensures.still) at c.in-Ok.ensures.told)

pub returns-in-Ok-clause-all : goal.returns-in-Ok-clause-all
unfolding Fed
returns-in-Ok-clause-all c = none_all c.args.self.now.machine c.args.self.now.faults c.in-Ok.answer (rw c.in_default.ensures.none at c.in-Ok.ensures.all)

pub returns-in-Some-clause-cost : goal.returns-in-Some-clause-cost
unfolding Fed
returns-in-Some-clause-cost c = rw c.char_token.ensures (λ run h. run_costed _ run _ (c.in-Some.ensures.given run h.0 None))

pub returns-in-Ok-clause-cost : goal.returns-in-Ok-clause-cost
unfolding Fed
returns-in-Ok-clause-cost c = some_costed c.in-Ok.answer c.args.self.now.machine c.next.new.self c.args.self.now.faults (rw c.in_default.ensures.none at c.in-Ok.ensures.given)
