use Rattle.std.proofs.Common.{◌∙◌, ap}
use Rattle.html_ledger.specs.declared.fate.Fate.TheVariants.{Ended}
use Rattle.html_ledger.specs.Entries.{Entries}
use Rattle.html_ledger.specs.Flags.{has_error}
use Rattle.html_ledger.proofs.Feeding.{Takes-ended, ended-is, quiet-noted, counted-noted}
use Rattle.html_ledger.proofs.ledger.Ledger.end.Goals as goal

pub returns-clause-ended : goal.returns-clause-ended
returns-clause-ended c =
    ended-is c.args.self.now _ c.args.symbol c.args.ignored c.either-told.result c.has_error.result c.both.result c.may_be_ignored.result c.in_ok-note.ensures.noted c.either-told.ensures.value
    (c.has_error.ensures.value ∙ ap (λ (e : Entries). has_error e.history c.args.symbol Ended) c.self.view_is) c.both.ensures.value c.may_be_ignored.ensures.value

pub returns-clause-takes : goal.returns-clause-takes
returns-clause-takes c = Takes-ended c.args.self.now _ c.args.symbol c.args.ignored c.requires.end c.requires.quiet (returns-clause-ended c)

pub returns-clause-quiet : goal.returns-clause-quiet
returns-clause-quiet c = quiet-noted c.args.self.now _ c.args.symbol Ended _ c.in_ok-note.ensures.noted c.requires.quiet

pub returns-clause-counted : goal.returns-clause-counted
returns-clause-counted c = counted-noted c.args.self.now _ c.args.symbol Ended _ c.in_ok-note.ensures.noted
