use Rattle.std.proofs.Common.{arith, refl, false}
use Rattle.html_tokens.proofs.ShortLemmas.{short_gives}
use Rattle.html_tokens.proofs.machine.Machine.whole_start.Goals as goal

pub returns-then-closes-clause-given : goal.returns-then-closes-clause-given
returns-then-closes-clause-given c =
    let name = c.name_len-len.ensures in
    short_gives c.args.self.now c.take_start.new.self false 1 c.name_len-len.result.0 c.in_ok-given.given c.requires.state (omega arith) (name.fit c.if-closes.true) c.requires.begun (λ more f. rw (c.requires.start more f) refl) (λ more f. rw (c.requires.start more f) refl) name.name (name.close c.if-closes.true) c.in_ok-given.ensures.ends

pub returns-then-closes-clause-room : goal.returns-then-closes-clause-room
returns-then-closes-clause-room c =
    let count = (returns-then-closes-clause-given c).1.count in
    omega (arith, count)
