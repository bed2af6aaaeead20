use Rattle.std.proofs.Common.{arith, refl, true}
use Rattle.html_tokens.proofs.ShortLemmas.{short_gives}
use Rattle.html_tokens.proofs.machine.Machine.whole_end.Goals as goal

pub returns-clause-given : goal.returns-clause-given
returns-clause-given c =
    let name = c.name_len-len.ensures in
    let closes = c.if-not-closes.false in
    short_gives c.args.self.now c.take_end.new.self true 2 c.name_len-len.result.0 c.in_ok-given.given c.requires.state (omega arith) (name.fit closes) c.requires.begun (λ more f. rw (c.requires.start more f) refl) (λ more f. rw (c.requires.start more f) refl) name.name (name.close closes) c.in_ok-given.ensures.ends

pub returns-clause-room : goal.returns-clause-room
returns-clause-room c =
    let count = (returns-clause-given c).1.count in
    omega (arith, count)
