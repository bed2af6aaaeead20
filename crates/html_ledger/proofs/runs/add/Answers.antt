use Rattle.std.proofs.Common.{◌<◌, ◌≤◌, length, arith, subst, ap, ◌∙◌}
use Rattle.html_ledger.specs.Runs.{spread, last_of}
use Rattle.html_ledger.proofs.Spreading.{last-count, spread-lengthened, AllFilled-lengthened, AllApart-lengthened, AllApart-appended, spread-appended, AllFilled-appended}
use Rattle.html_ledger.proofs.runs.add.Goals as goal

pub lengthen-requires-clause-some : goal.lengthen-requires-clause-some
lengthen-requires-clause-some c = subst (λ xs. 0 < length xs) c.as_slice.ensures.value (c.repeats.ensures.some c.if-repeats.true)

pub lengthen-requires-clause-room : goal.lengthen-requires-clause-room
lengthen-requires-clause-room c = λ run e.
    let some : 0 < length c.args.runs.now.items = subst (λ xs. 0 < length xs) c.as_slice.ensures.value (c.repeats.ensures.some c.if-repeats.true) in
    let most : run.count ≤ length (spread c.args.runs.now.items) = last-count c.args.runs.now.items run some e in
    omega (arith, c.requires.room)

pub returns-then-repeats-clause-filled : goal.returns-then-repeats-clause-filled
returns-then-repeats-clause-filled c =
    let some : 0 < length c.args.runs.now.items = subst (λ xs. 0 < length xs) c.as_slice.ensures.value (c.repeats.ensures.some c.if-repeats.true) in
    AllFilled-lengthened c.args.runs.now.items c.lengthen.new.runs.items c.args.count some c.requires.some c.lengthen.ensures.longer c.requires.filled

pub returns-then-repeats-clause-added : goal.returns-then-repeats-clause-added
returns-then-repeats-clause-added c =
    let some : 0 < length c.args.runs.now.items = subst (λ xs. 0 < length xs) c.as_slice.ensures.value (c.repeats.ensures.some c.if-repeats.true) in
    spread-lengthened c.args.runs.now.items c.lengthen.new.runs.items c.args.fate.now c.args.count some (λ run e. c.repeats.ensures.same run c.if-repeats.true (ap last_of c.as_slice.ensures.value ∙ e)) c.lengthen.ensures.longer

pub returns-else-repeats-clause-filled : goal.returns-else-repeats-clause-filled
returns-else-repeats-clause-filled c = AllFilled-appended c.append.result c.args.runs.now.items c.append.new.runs.items c.args.fate.now c.args.count c.requires.some c.append.ensures.added c.append.ensures.refused c.requires.filled

pub returns-else-repeats-clause-added : goal.returns-else-repeats-clause-added
returns-else-repeats-clause-added c = spread-appended c.append.result c.args.runs.now.items c.append.new.runs.items c.args.fate.now c.args.count c.append.ensures.added

pub returns-then-repeats-clause-apart : goal.returns-then-repeats-clause-apart
returns-then-repeats-clause-apart c =
    let some : 0 < length c.args.runs.now.items = subst (λ xs. 0 < length xs) c.as_slice.ensures.value (c.repeats.ensures.some c.if-repeats.true) in
    AllApart-lengthened c.args.runs.now.items c.lengthen.new.runs.items c.args.count some c.lengthen.ensures.longer c.requires.apart

pub returns-else-repeats-clause-apart : goal.returns-else-repeats-clause-apart
returns-else-repeats-clause-apart c = AllApart-appended c.append.result c.args.runs.now.items c.append.new.runs.items c.args.fate.now c.args.count c.append.ensures.added c.append.ensures.refused (λ run e. c.repeats.ensures.other run c.if-repeats.false (ap last_of c.as_slice.ensures.value ∙ e)) c.requires.apart
