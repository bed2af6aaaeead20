use Rattle.std.proofs.Common.{ℕ, List, ◌++◌, ◌∷◌, [], ap, ◌∙◌}
use Rattle.html_ledger.specs.Entries.{Entries}
use Rattle.html_ledger.proofs.Feeding.{Takes-kept}
use Rattle.html_ledger.proofs.ledger.Ledger.keep.Goals as goal

pub returns-clause-takes : goal.returns-clause-takes
returns-clause-takes c =
    let with : List ℕ → Entries = λ cs. record { fates = c.self.inside.fates; history = c.self.inside.history; kept = cs; errors = c.self.inside.errors.items } in
    Takes-kept c.args.self.now (with c.push.new.self.items) c.args.c (ap with c.in_ok-push.ensures.items ∙ ap (λ (e : Entries). record e { kept = e.kept ++ c.args.c ∷ [] }) c.self.view_is)
