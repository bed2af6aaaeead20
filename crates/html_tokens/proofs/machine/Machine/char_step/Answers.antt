use Rattle.std.proofs.Common.{refl, arith}
use Rattle.html_tokens.proofs.Cuts.{shorter}
use Rattle.html_tokens.proofs.StepLemmas.{char_errors, char_given}
use Rattle.html_tokens.proofs.ToldLemmas.{tells_char}
use Rattle.html_tokens.proofs.machine.Machine.char_step.Goals as goal

pub returns-clause-steps : goal.returns-clause-steps
returns-clause-steps c =
    let t = c.args.self.now in rw c.enter.ensures (
      (λ more switch switches h. rw (c.token.ensures, c.enter.ensures, c.requires.state)
          (char_given t.table.now c.args.region _ t.mode t.last_name t.place _ _ _ _ _ more switch switches c.take-found.ensures.items (c.requires.text more h) (c.in-Some.ensures more h) c.text_char-c.ensures refl)),
      record { count = omega (arith, shorter _ _ _ c.take-found.ensures.items); finished = c.take-found.ensures.finished; table = refl; drained = λ _ h. absurd h },
      rw c.token.ensures refl,
      (λ more switch switches h. rw (c.token.ensures, c.requires.state)
          (char_errors t.table.now c.args.region _ t.mode t.last_name t.place _ _ _ _ more switch switches c.take-found.ensures.items (c.requires.text more h) (c.in-Some.ensures more h) refl)),
    )

pub returns-clause-tells : goal.returns-clause-tells
returns-clause-tells c =
    let t = c.args.self.now in
    let items = c.take-found.ensures.items in
    tells_char t c.args.region c.take-found.result c.args.faults.now c.text_char.new.self c.requires.state c.requires.text (λ more f. rw items refl) c.requires.some c.text_char.ensures.opens
