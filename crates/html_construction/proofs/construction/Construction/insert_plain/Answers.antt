use Rattle.std.proofs.Common.{◌≡◌, subst, sym, take, ap, ◌∙◌, refl}
use Rattle.std.specs.Bool.{IsTrue}
use Rattle.html_ledger.specs.declared.fate.Fate.TheVariants.{Text}
use Rattle.html_ledger.specs.Flags.{may_text_run}
use Rattle.html_construction.specs.States.{State}
use Rattle.html_construction.proofs.Kept.{adds-run, front-run, run-visible, still, taken-run, told-run-text, gives-run}
use Rattle.html_tree.proofs.Texted.{text-limits}
use Rattle.html_tree.specs.States.{State as Tree}
use Rattle.html_ledger.specs.Entries.{TakesRun, given_run}
use Rattle.html_construction.proofs.Copying.{copied-text, grown-run}
use Rattle.html_construction.proofs.Working.{counted-text, works-text}
use Rattle.html_construction.proofs.Telling.{handed-on-any, refused-text}
use Rattle.html_construction.proofs.construction.Construction.insert_plain.Goals as goal

pub invariant_of-self : goal.invariant_of-self
invariant_of-self c = still _ _ c.self.inside.ledger c.self.inside.registers.templates.items c.append_plain.ensures.tokens c.self.invariant

pub give_plain-requires-clause-may : goal.give_plain-requires-clause-may
give_plain-requires-clause-may c = subst (λ r. IsTrue (may_text_run c.self.inside.ledger.history r)) (sym c.front.ensures) (front-run c.self.inside.ledger.history c.args.text.now c.in_ok-node.count (subst (λ (x : State). IsTrue (may_text_run x.ledger.history c.args.text.now)) (sym c.self.view_is) c.requires.may))

pub returns-clause-takes : goal.returns-clause-takes
returns-clause-takes c = taken-run _ c.args.self.now _ (take c.in_ok-node.count c.args.text.now) c.self.view_is (subst (λ r. TakesRun r c.self.inside.ledger c.give_plain.new.self) c.front.ensures c.in_ok-give_plain.ensures.takes) (gives-run _ _ _ (take c.in_ok-node.count c.args.text.now) c.in_ok-node.node (subst (λ r. c.give_plain.new.self ≡ given_run c.self.inside.ledger r (Text c.in_ok-node.node)) c.front.ensures c.in_ok-give_plain.ensures.given)) c.in_ok-node.ensures.keeps (ap (λ (x : Tree). x.tree.limits) c.in_ok-node.ensures.exact ∙ text-limits c.self.inside.tree c.self.inside.registers.fostering) (told-run-text _ _ c.self.inside.registers.fostering c.in_ok-node.count c.args.text.now c.in_ok-node.ensures.count.0 c.in_ok-node.ensures.count.1 (run-visible c.args.self.now.ledger.history c.args.text.now c.requires.may) (ap (λ (x : State). x.ledger.kept) c.self.view_is ∙ c.requires.quiet) (ap (λ (x : Tree). x.tree) c.in_ok-node.ensures.exact) ((subst (λ r. c.give_plain.new.self ≡ given_run c.self.inside.ledger r (Text c.in_ok-node.node)) c.front.ensures c.in_ok-give_plain.ensures.given) ∙ ap (λ d. given_run c.self.inside.ledger (take c.in_ok-node.count c.args.text.now) (Text d)) c.in_ok-node.ensures.node)) refl

pub returns-clause-grown : goal.returns-clause-grown
returns-clause-grown c =
    grown-run c.in_ok-node.count 0 _ c.args.text.now c.args.self.now _ _ c.give_plain.new.self _ c.in_ok-node.ensures.count.1 c.self.view_is (subst (λ r. c.give_plain.new.self ≡ given_run c.self.inside.ledger r (Text c.in_ok-node.node)) c.front.ensures c.in_ok-give_plain.ensures.given) c.in_ok-node.ensures.grown
    (copied-text c.self.inside.tree _ c.self.inside.registers.fostering _ (ap (λ (x : Tree). x.tree) c.in_ok-node.ensures.exact))

pub returns-clause-works : goal.returns-clause-works
returns-clause-works c =
    works-text c.in_ok-node.count c.args.self.now _ _ c.give_plain.new.self c.self.view_is c.laws.ensures.sound c.self.invariant.tokens c.in_ok-node.ensures.keeps
    (adds-run _ _ (take c.in_ok-node.count c.args.text.now) (Text c.in_ok-node.node) (subst (λ r. c.give_plain.new.self ≡ given_run c.self.inside.ledger r (Text c.in_ok-node.node)) c.front.ensures c.in_ok-give_plain.ensures.given)) c.in_ok-node.ensures.steps

pub returns-clause-counted : goal.returns-clause-counted
returns-clause-counted c = counted-text _ c.args.self.now _ c.in_ok-node.count c.in_ok-node.count c.self.view_is refl c.in_ok-node.ensures.counted

pub returns-in_err-node-clause-refuses : goal.returns-in_err-node-clause-refuses
returns-in_err-node-clause-refuses c =
    handed-on-any c.from_residual.result c.args.self.now _ c.in_err-node.field-0.0 c.from_residual.ensures.1
    (refused-text c.args.self.now _ c.self.inside.tree c.in_err-node.field-0.0 (ap (λ (x : State). x.tree.tree.limits) c.self.view_is) c.in_err-node.ensures.told)
