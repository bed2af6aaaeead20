use Rattle.std.proofs.Common.{ap, refl, arith}
use Rattle.html_ledger.specs.Entries.{Entries}
use Rattle.html_construction.proofs.Kept.{released, adds-none, unchanged}
use Rattle.html_construction.proofs.Working.{works-counted}
use Rattle.html_construction.proofs.construction.Construction.take_kept.Goals as goal

pub returns-clause-releases : goal.returns-clause-releases
returns-clause-releases c = released _ c.args.self.now _ c.take_kept.result.items c.self.view_is refl c.take_kept.ensures.releases (ap (λ (x : Entries). x.fates) c.take_kept.ensures.rest) refl

pub returns-clause-works : goal.returns-clause-works
returns-clause-works c = works-counted 0 c.args.self.now _ _ c.take_kept.new.self c.self.view_is (unchanged _) (adds-none _ _ (ap (λ (x : Entries). x.fates) c.take_kept.ensures.rest)) (omega arith)
