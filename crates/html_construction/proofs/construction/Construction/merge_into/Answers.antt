use Rattle.html_ledger.specs.declared.symbol.Symbol.TheVariants.{Start}
use Rattle.std.proofs.Common.{ap, ◌∙◌, subst, sym, true, ◌≡◌, refl}
use Rattle.html_ledger.specs.Entries.{Entries}
use Rattle.html_construction.proofs.Kept.{adds, still, taken, told-merge, gives-merged}
use Rattle.html_tree.specs.States.{State as Tree}
use Rattle.html_construction.specs.States.{State}
use Rattle.std.specs.Prelude.{slice_index}
use Rattle.html_arena.specs.Tree.{named, with_merged}
use Rattle.html_open.specs.Marking.{bare}
use Rattle.html_construction.proofs.Originating.{outermost-in}
use Rattle.html_construction.proofs.Copying.{copied-merged, grown-given}
use Rattle.html_ledger.specs.declared.fate.Fate.TheVariants.{Merged}
use Rattle.html_construction.proofs.Working.{works-merged}
use Rattle.html_construction.specs.Tokens.{attrs_of}
use Rattle.html_construction.proofs.Telling.{handed-on, refused-by}
use Rattle.html_construction.specs.Budgets.{lacking_attrs}
use Rattle.html_arena.specs.Data.{attrs_in}
use Rattle.html_arena.specs.Merge.{lacking}
use Rattle.html_arena.specs.Weight.{attrs_weight, capped}
use Rattle.html_arena.specs.Tree.{label_of}
use Rattle.html_tree.specs.Inserting.{IsPassed}
use Rattle.html_construction.proofs.construction.Construction.merge_into.Goals as goal

pub invariant_of-self : goal.invariant_of-self
invariant_of-self c = still _ _ c.self.inside.ledger c.self.inside.registers.templates.items c.merge.ensures.tokens c.self.invariant

pub returns-clause-takes : goal.returns-clause-takes
returns-clause-takes c = taken _ c.args.self.now _ c.args.token.now (Start c.args.tag) c.self.view_is c.requires.symbol c.in_ok-give.ensures.takes (gives-merged _ _ _ (ap (λ (x : Entries). x.fates) c.in_ok-give.ensures.given)) c.in_ok-merge.ensures.keeps (ap (λ (x : Tree). x.tree.limits) c.in_ok-merge.ensures.exact) (told-merge _ _ c.args.token.now c.args.tag (slice_index c.self.inside.tree.stack c.args.index) c.requires.symbol c.requires.outermost (ap (λ (x : State). x.ledger.kept) c.self.view_is ∙ c.requires.quiet) (ap (λ (x : Entries). x.fates) c.in_ok-give.ensures.given) (outermost-in c.self.inside.tree.tree c.args.tag (slice_index c.self.inside.tree.stack c.args.index) c.requires.outermost (subst (λ (x : State). named x.tree.tree c.args.tag (slice_index x.tree.stack c.args.index) ≡ true) (sym c.self.view_is) c.requires.own)) (subst (λ (x : State). named x.tree.tree c.args.tag (slice_index x.tree.stack c.args.index) ≡ true) (sym c.self.view_is) c.requires.own)
    (ap (λ (x : Tree). x.tree) c.in_ok-merge.ensures.exact ∙ ap (λ own. bare (with_merged c.self.inside.tree.tree (slice_index c.self.inside.tree.stack c.args.index) own)) c.in_ok-attrs.ensures.attrs)) refl

pub returns-clause-grown : goal.returns-clause-grown
returns-clause-grown c =
    grown-given 0 0 0 _ c.args.self.now _ _ c.give.new.self Merged c.self.view_is (ap (λ (x : Entries). x.fates) c.in_ok-give.ensures.given) c.in_ok-merge.ensures.grown
    (copied-merged c.self.inside.tree.tree _ (slice_index c.self.inside.tree.stack c.args.index) c.in_ok-attrs.attrs (ap (λ (x : Tree). x.tree) c.in_ok-merge.ensures.exact))

pub returns-clause-works : goal.returns-clause-works
returns-clause-works c =
    works-merged c.args.self.now _ _ c.give.new.self (slice_index c.self.inside.tree.stack c.args.index) c.in_ok-attrs.attrs (attrs_of c.args.token.now) c.self.view_is c.in_ok-merge.ensures.keeps
    (adds _ _ _ (ap (λ (x : Entries). x.fates) c.in_ok-give.ensures.given)) c.in_ok-attrs.ensures.attrs (ap (λ (x : Tree). x.tree) c.in_ok-merge.ensures.exact) c.in_ok-merge.ensures.steps

pub returns-in_err-merge-clause-refuses : goal.returns-in_err-merge-clause-refuses
returns-in_err-merge-clause-refuses c =
    handed-on c.from_residual-in_err-merge.result c.args.token.now c.args.self.now _ c.in_err-merge.field-0.0 c.from_residual-in_err-merge.ensures.1
    (refused-by c.args.token.now c.args.self.now _ c.self.inside.tree 0 _ c.in_err-merge.field-0.0 (ap (λ (x : State). x.tree.tree.limits) c.self.view_is) (lacking_attrs c.args.tag c.args.index c.requires.symbol c.requires.outermost c.requires.early)
    (subst (λ own. IsPassed c.self.inside.tree c.merge.new.self 0 (capped (attrs_weight (lacking (attrs_in (label_of c.merge.new.self.tree (slice_index c.merge.new.self.stack c.args.index))) own))) c.in_err-merge.field-0.0) c.in_ok-attrs.ensures.attrs c.in_err-merge.ensures.told))
