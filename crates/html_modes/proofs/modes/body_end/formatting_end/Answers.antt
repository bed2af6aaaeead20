use Rattle.html_modes.proofs.Closing.{closed-listed}
use Rattle.html_modes.proofs.InBody.{on-ok}
use Rattle.html_modes.proofs.modes.body_end.formatting_end.Goals as goal

pub returns-clause-plain : goal.returns-clause-plain
returns-clause-plain c = on-ok c.end_formatting.result c.end_formatting.ensures.tags c.end_formatting.ensures.exact c.end_formatting.ensures.rest (λ g e r h.
    closed-listed c.args.tag c.args.page.now c.end_formatting.new.self h c.args.page.now.fostering c.requires.formatting g e)
