use Rattle.std.proofs.Common.{◌∙◌, ap}
use Rattle.html_ledger.specs.Entries.{Entries, noted}
use Rattle.html_ledger.specs.Flags.{has_error}
use Rattle.html_ledger.proofs.Feeding.{Takes-given, quiet-noted, counted-noted}
use Rattle.html_ledger.proofs.ledger.Ledger.give.Goals as goal

pub returns-clause-given : goal.returns-clause-given
returns-clause-given c =
    c.in_ok-note.ensures.noted ∙ ap (λ b. noted c.args.self.now c.args.symbol c.args.fate b) (c.has_error-told.ensures.value ∙ ap (λ (e : Entries). has_error e.history c.args.symbol c.args.fate) c.self.view_is)

pub returns-clause-takes : goal.returns-clause-takes
returns-clause-takes c = Takes-given c.args.self.now _ c.args.symbol c.args.fate c.requires.may c.requires.quiet (returns-clause-given c)

pub returns-clause-quiet : goal.returns-clause-quiet
returns-clause-quiet c = quiet-noted c.args.self.now _ c.args.symbol c.args.fate _ c.in_ok-note.ensures.noted c.requires.quiet

pub returns-clause-counted : goal.returns-clause-counted
returns-clause-counted c = counted-noted c.args.self.now _ c.args.symbol c.args.fate _ c.in_ok-note.ensures.noted
