use Rattle.html_ledger.specs.declared.symbol.Symbol.TheVariants.{Char}
use Rattle.std.proofs.Common.{ap, ◌∙◌, arith, refl, rules}
use Rattle.html_ledger.specs.Entries.{Entries, given}
use Rattle.html_construction.proofs.Kept.{adds, still, taken, told-char, gives-text}
use Rattle.html_tree.proofs.Texted.{text-limits}
use Rattle.html_tree.specs.States.{State as Tree}
use Rattle.html_construction.specs.States.{State}
use Rattle.html_ledger.specs.declared.fate.Fate.TheVariants.{Text}
use Rattle.html_construction.proofs.Copying.{copied-text, grown-given}
use Rattle.html_construction.proofs.Doing.{replacing_by}
use Rattle.html_construction.proofs.Working.{works-text}
use Rattle.std.proofs.lemmas.Grind.{common_steps}
use Rattle.html_construction.proofs.Telling.{handed-on-any, refused-text}
use Rattle.html_construction.proofs.construction.Construction.insert_null.Goals as goal

pub invariant_of-self : goal.invariant_of-self
invariant_of-self c = still _ _ c.self.inside.ledger c.self.inside.registers.templates.items c.append_run.ensures.tokens c.self.invariant

pub returns-clause-takes : goal.returns-clause-takes
returns-clause-takes c = taken _ c.args.self.now _ c.args.token.now (Char 0) c.self.view_is c.requires.symbol c.in_ok-give.ensures.takes (gives-text _ _ _ _ (ap (λ (x : Entries). x.fates) c.in_ok-give.ensures.given)) c.in_ok-node.ensures.keeps (ap (λ (x : Tree). x.tree.limits) c.in_ok-node.ensures.exact ∙ text-limits c.self.inside.tree c.self.inside.registers.fostering) (told-char _ _ c.self.inside.registers.fostering c.args.token.now c.in_ok-node.field-0-1 0 c.as_slice.result.now c.requires.symbol (c.as_slice.ensures) c.in_ok-node.ensures.count.0 (ap (λ (x : State). x.ledger.kept) c.self.view_is ∙ c.requires.quiet) (ap (λ (x : Tree). x.tree) c.in_ok-node.ensures.exact) (c.in_ok-give.ensures.given ∙ ap (λ d. given c.self.inside.ledger (Char 0) (Text d)) c.in_ok-node.ensures.node)) refl

pub returns-clause-grown : goal.returns-clause-grown
returns-clause-grown c =
    grown-given 1 0 0 _ c.args.self.now _ _ c.give.new.self _ c.self.view_is (ap (λ (x : Entries). x.fates) c.in_ok-give.ensures.given) c.in_ok-node.ensures.grown
    (copied-text c.self.inside.tree _ c.self.inside.registers.fostering _ (ap (λ (x : Tree). x.tree) c.in_ok-node.ensures.exact))

pub returns-clause-works : goal.returns-clause-works
returns-clause-works c =
    works-text 1 c.args.self.now _ _ c.give.new.self c.self.view_is c.laws.ensures.sound c.self.invariant.tokens c.in_ok-node.ensures.keeps (adds _ _ _ (ap (λ (x : Entries). x.fates) c.in_ok-give.ensures.given))
    (let h = c.in_ok-node.ensures.steps in let k = c.in_ok-node.ensures.count.1 in grind (arith, common_steps, h, k))

pub returns-in_err-node-clause-refuses : goal.returns-in_err-node-clause-refuses
returns-in_err-node-clause-refuses c =
    handed-on-any c.from_residual.result c.args.self.now _ c.in_err-node.field-0.0 c.from_residual.ensures.1
    (refused-text c.args.self.now _ c.self.inside.tree c.in_err-node.field-0.0 (ap (λ (x : State). x.tree.tree.limits) c.self.view_is) c.in_err-node.ensures.told)

pub returns-clause-follows : goal.returns-clause-follows
returns-clause-follows c = replacing_by 0 c.args.token.now c.args.self.now _ c.requires.symbol (search rules) (record { ledger_is = search rules }) (record { tree_is = search rules })
