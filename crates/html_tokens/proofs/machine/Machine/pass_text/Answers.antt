use Rattle.std.proofs.Common.{◌+◌, subst, sym}
use Rattle.html_tokens.specs.Runs.{gave_all, plain_tokens}
use Rattle.html_tokens.specs.Stream.{AreTold, IsAt, fed}
use Rattle.html_tokens.proofs.PlainLemmas.{plain_taken, plain_told_of}
use Rattle.html_tokens.proofs.machine.Machine.pass_text.Goals as goal

pub returns-clause-given : goal.returns-clause-given
returns-clause-given c = λ run at.
    let old = c.args.self.now in
    let text = c.args.text.now in
    subst (λ n. IsAt (record old { place = old.place + n }) (gave_all (fed run text) (plain_tokens old.place text))) (sym c.len.ensures.count)
    (plain_taken old text c.requires.text c.requires.empty run c.requires.going c.len.ensures.plain at)

pub returns-clause-telling : goal.returns-clause-telling
returns-clause-telling c = λ faults run at told.
    let old = c.args.self.now in
    let text = c.args.text.now in
    subst (λ n. AreTold (record old { place = old.place + n }) faults (gave_all (fed run text) (plain_tokens old.place text))) (sym c.len.ensures.count)
    (plain_told_of old text c.requires.text c.requires.empty faults run c.requires.going c.len.ensures.plain at told)
