use Rattle.std.proofs.Common.{◌+◌, refl, sym}
use Rattle.html_tokens.proofs.RunLemmas.{plain_told, plain_answered, passes_one, text_state}
use Rattle.html_tokens.proofs.machine.Machine.next_char.Goals as goal

pub returns-clause-given : goal.returns-clause-given
returns-clause-given c =
    let now = c.args.self.now in
    let items = c.take_plain.new.self.queue.items in
    let state = text_state now.state (sym c.if-not-is_text.ensures) in
    let new = record now { input = c.take_plain.new.self; place = now.place + 1 } in
    plain_answered now new c.in_ok-c.c items state c.in_ok-c.ensures.0 c.in_ok-c.ensures.1
    (passes_one now new c.in_ok-c.c items c.in_ok-c.ensures.1 refl c.in_ok-c.ensures.2 refl refl refl refl refl state)

pub returns-clause-telling : goal.returns-clause-telling
returns-clause-telling c = λ run i told.
    let now = c.args.self.now in
    let items = c.take_plain.new.self.queue.items in
    let state = text_state now.state (sym c.if-not-is_text.ensures) in
    let new = record now { input = c.take_plain.new.self; place = now.place + 1 } in
    plain_told now new c.in_ok-c.c items c.args.faults.now c.text_char.new.self run state c.in_ok-c.ensures.0 c.in_ok-c.ensures.1
    (passes_one now new c.in_ok-c.c items c.in_ok-c.ensures.1 refl c.in_ok-c.ensures.2 refl refl refl refl refl state) c.text_char.ensures.opens i told
