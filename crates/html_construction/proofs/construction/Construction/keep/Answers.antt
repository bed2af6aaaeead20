use Rattle.html_ledger.specs.declared.symbol.Symbol.TheVariants.{Char}
use Rattle.std.proofs.Common.{◌∙◌, ◌++◌, ◌∷◌, [], ap, refl, arith}
use Rattle.html_ledger.specs.Entries.{Entries}
use Rattle.html_construction.specs.States.{State}
use Rattle.html_construction.proofs.Doing.{keeping}
use Rattle.html_construction.proofs.Kept.{adds-none, taken, unchanged, told-keep, gives-none}
use Rattle.html_construction.proofs.Working.{works-counted}
use Rattle.html_construction.proofs.construction.Construction.keep.Goals as goal

pub returns-clause-takes : goal.returns-clause-takes
returns-clause-takes c = taken _ c.args.self.now _ c.args.token.now (Char c.args.c) c.self.view_is c.requires.symbol c.in_ok-keep.ensures.takes (gives-none _ _ _ (ap (λ (x : Entries). x.fates) c.in_ok-keep.ensures.kept)) (unchanged _) refl (told-keep _ _ c.args.token.now (ap (λ (x : Entries). x.fates) c.in_ok-keep.ensures.kept) refl) refl

pub returns-clause-works : goal.returns-clause-works
returns-clause-works c = works-counted 0 c.args.self.now _ _ c.keep.new.self c.self.view_is (unchanged _) (adds-none _ _ (ap (λ (x : Entries). x.fates) c.in_ok-keep.ensures.kept)) (omega arith)

pub returns-clause-follows : goal.returns-clause-follows
returns-clause-follows c =
    keeping c.args.c c.args.token.now c.args.self.now _ c.keep.new.self c.requires.symbol (ap (λ (x : State). record x { ledger = c.keep.new.self }) c.self.view_is)
    (c.in_ok-keep.ensures.kept ∙ ap (λ (x : State). record x.ledger { kept = x.ledger.kept ++ c.args.c ∷ [] }) c.self.view_is)
