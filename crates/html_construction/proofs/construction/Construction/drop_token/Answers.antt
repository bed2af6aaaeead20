use Rattle.std.proofs.Common.{ap, refl, ◌∙◌, arith}
use Rattle.html_ledger.specs.Entries.{Entries}
use Rattle.html_construction.proofs.Kept.{adds, taken, unchanged, told-idle, gives, gives-dropped}
use Rattle.html_construction.specs.States.{State}
use Rattle.html_ledger.specs.declared.fate.Fate.TheVariants.{Dropped}
use Rattle.html_construction.proofs.Working.{works-counted}
use Rattle.html_construction.proofs.construction.Construction.drop_token.Goals as goal

pub returns-clause-takes : goal.returns-clause-takes
returns-clause-takes c = taken _ c.args.self.now _ c.args.token.now c.args.symbol c.self.view_is c.requires.symbol c.in_ok-give.ensures.takes (gives _ _ _ _ (ap (λ (x : Entries). x.fates) c.in_ok-give.ensures.given) (gives-dropped _ c.args.self.now c.args.cause c.self.view_is c.requires.allowed) refl) (unchanged _) refl (told-idle _ _ c.args.token.now (Dropped c.args.cause) refl (ap (λ (x : State). x.ledger.kept) c.self.view_is ∙ c.requires.quiet) (ap (λ (x : Entries). x.fates) c.in_ok-give.ensures.given) refl) refl

pub returns-clause-works : goal.returns-clause-works
returns-clause-works c = works-counted 0 c.args.self.now _ _ c.give.new.self c.self.view_is (unchanged _) (adds _ _ _ (ap (λ (x : Entries). x.fates) c.in_ok-give.ensures.given)) (omega arith)
