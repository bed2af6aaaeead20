use Rattle.std.proofs.Common.{ℕ, List, [], ap, ◌∙◌}
use Rattle.html_ledger.specs.Entries.{Entries}
use Rattle.html_ledger.proofs.Feeding.{Releases-kept}
use Rattle.html_ledger.proofs.ledger.Ledger.take_kept.Goals as goal

pub returns-clause-releases : goal.returns-clause-releases
returns-clause-releases c =
    let with : List ℕ → Entries = λ cs. record { fates = c.self.inside.fates; history = c.self.inside.history; kept = cs; errors = c.self.inside.errors.items } in
    Releases-kept c.args.self.now (with c.replace.new.dest.items) c.replace.result.items
    (ap (λ v. with v.items) c.replace.ensures.after ∙ ap with c.new-empty.ensures.items ∙ ap (λ (e : Entries). record e { kept = [] }) c.self.view_is)
    (ap (λ v. v.items) c.replace.ensures.value ∙ ap (λ (e : Entries). e.kept) c.self.view_is)
