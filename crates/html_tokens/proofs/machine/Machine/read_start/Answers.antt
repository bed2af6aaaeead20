use Rattle.std.proofs.Math.Nat.{min-le_left}
use Rattle.std.proofs.Common.{◌≤◌, ◌∙◌, arith, length}
use Rattle.std.proofs.lemmas.List.{drop-drop, take_rest}
use Rattle.html_tokens.proofs.WholeLemmas.{begins_whole, closes_whole, fails_within, gives_bounded, on_refusal, whole_bounded}
use Rattle.html_tokens.proofs.machine.Machine.read_start.Goals as goal

pub returns-in-None-clause-begun : goal.returns-in-None-clause-begun
returns-in-None-clause-begun c =
    let items = c.args.self.now.input.queue.items in
    let fit = c.requires.fit in
    let some : 1 ≤ length items = omega (arith, fit) in
    rw c.enter.ensures
    (begins_whole c.args.self.now c.pass.new.self c.new-draft.result c.take_front.new.self c.in_ok-taken.taken.len c.requires.state some c.requires.begun c.requires.start c.requires.silent c.new-draft.ensures
    (rw (c.unread.ensures, take_rest items 1) at c.in_ok-taken.ensures.copies) c.pass.ensures)

pub returns-in-None-clause-bounded : goal.returns-in-None-clause-bounded
returns-in-None-clause-bounded c = λ b.
    rw c.enter.ensures
    (whole_bounded c.args.self.now c.pass.new.self c.new-draft.result c.take_front.new.self c.in_ok-taken.taken.len c.in_ok-taken.taken.compared c.args.faults.now c.took.new.self c.requires.state c.new-draft.ensures.3 c.in_ok-taken.ensures.bounds c.pass.ensures.place
    c.took.ensures.list (rw c.took.ensures.compared (min-le_left _ _)) b)

pub returns-in_ok-given-in-Some-clause-given : goal.returns-in_ok-given-in-Some-clause-given
returns-in_ok-given-in-Some-clause-given c =
    let items = c.args.self.now.input.queue.items in
    let n = c.in_ok-taken.taken.len in
    let fit = c.requires.fit in
    let some : 1 ≤ length items = omega (arith, fit) in
    let skips =
    begins_whole c.args.self.now c.pass.new.self c.new-draft.result c.take_front.new.self n c.requires.state some c.requires.begun c.requires.start c.requires.silent c.new-draft.ensures (rw (c.unread.ensures, take_rest items 1) at c.in_ok-taken.ensures.copies) c.pass.ensures in
    let named = rw (c.unread.ensures, take_rest items 1, drop-drop n 1 items, ← c.pass.ensures.items) at c.in_ok-taken.ensures.named in
    closes_whole c.args.self.now c.pass.new.self c.give_tag.new.self c.take_front.new.self c.in-Some.self_closing c.in-Some.len c.in_ok-given-in-Some.given skips named (rw c.unread-2.ensures at c.in-Some.ensures) c.in_ok-given-in-Some.ensures.ends c.requires.silent (c.in_ok-taken.ensures.copies.3 ∙ c.new-draft.ensures.0)

pub returns-in_ok-given-in-Some-clause-bounded : goal.returns-in_ok-given-in-Some-clause-bounded
returns-in_ok-given-in-Some-clause-bounded c = λ b.
    gives_bounded c.pass.new.self c.give_tag.new.self c.take_front.new.self c.in-Some.self_closing c.in-Some.len c.in_ok-given-in-Some.given c.took.new.self c.in_ok-given-in-Some.ensures.ends
    (whole_bounded c.args.self.now c.pass.new.self c.new-draft.result c.take_front.new.self c.in_ok-taken.taken.len c.in_ok-taken.taken.compared c.args.faults.now c.took.new.self c.requires.state c.new-draft.ensures.3 c.in_ok-taken.ensures.bounds c.pass.ensures.place
    c.took.ensures.list (rw c.took.ensures.compared (min-le_left _ _)) b)

pub returns-in_err-given-in-Some-clause-within : goal.returns-in_err-given-in-Some-clause-within
returns-in_err-given-in-Some-clause-within c = λ b.
    on_refusal c.from_residual-in_err-given-in-Some.result
    (fails_within c.pass.new.self c.give_tag.new.self c.take_front.new.self c.in-Some.len c.took.new.self c.in_err-given-in-Some.ensures.place
    (whole_bounded c.args.self.now c.pass.new.self c.new-draft.result c.take_front.new.self c.in_ok-taken.taken.len c.in_ok-taken.taken.compared c.args.faults.now c.took.new.self c.requires.state c.new-draft.ensures.3 c.in_ok-taken.ensures.bounds c.pass.ensures.place
    c.took.ensures.list (rw c.took.ensures.compared (min-le_left _ _)) b))
