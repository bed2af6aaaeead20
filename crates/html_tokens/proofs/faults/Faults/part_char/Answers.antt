use Rattle.html_tokens.proofs.ToldLemmas.{opens_both}
use Rattle.html_tokens.proofs.faults.Faults.part_char.Goals as goal

pub returns-in-Number-clause-opens : goal.returns-in-Number-clause-opens
returns-in-Number-clause-opens c =
    rw c.in-Number.is (opens_both _ _ c.args.self.now c.number_char.new.self c.value_char-in-Number.new.self c.number_char.ensures.opens c.value_char-in-Number.ensures.opens)

pub returns-in-Ampersand-clause-opens : goal.returns-in-Ampersand-clause-opens
returns-in-Ampersand-clause-opens c =
    rw c.in-Ampersand.is (opens_both _ _ c.args.self.now c.ampersand.new.self c.value_char-in-Ampersand.new.self c.ampersand.ensures.opens c.value_char-in-Ampersand.ensures.opens)
