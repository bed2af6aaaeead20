use Rattle.std.proofs.Common.{refl, ◌<◌, ◌∙◌, length, ap, sym, subst}
use Rattle.html_construction.proofs.Kept.{kept, lighter-besides, stack-is, adds-none}
use Rattle.html_construction.proofs.Copying.{grown-kept}
use Rattle.html_construction.proofs.Cloning.{adopted-copies}
use Rattle.html_construction.proofs.Working.{works-adopted}
use Rattle.html_construction.specs.States.{State}
use Rattle.html_arena.specs.Tree.{tag_at}
use Rattle.html_tree.proofs.Kept.{same-tag_in, since-self}
use Rattle.html_construction.proofs.Telling.{handed-on-any, refused-clones}
use Rattle.html_construction.proofs.construction.Construction.adopt.Goals as goal

pub returns-clause-keeps : goal.returns-clause-keeps
returns-clause-keeps c = kept _ c.args.self.now _ c.self.view_is refl refl c.in_ok-end.ensures.keeps c.in_ok-end.ensures.clones

pub returns-clause-lighter : goal.returns-clause-lighter
returns-clause-lighter c = lighter-besides c.args.self.now c.self.inside.tree c.adopt.new.self (stack-is _ c.args.self.now c.self.view_is) c.adopt.ensures.lighter

pub returns-clause-grown : goal.returns-clause-grown
returns-clause-grown c =
    grown-kept 32 0 8 0 0 _ c.args.self.now _ _ c.self.view_is c.in_ok-end.ensures.grown
    (adopted-copies c.args.tag c.self.inside.registers.fostering c.in_ok-end.end c.self.inside.tree _ c.laws.ensures.sound c.in_ok-end.ensures.exact)

pub returns-clause-works : goal.returns-clause-works
returns-clause-works c = works-adopted c.args.self.now _ _ c.self.view_is c.laws.ensures.sound c.self.invariant.tokens c.requires.listed c.in_ok-end.ensures.keeps (adds-none _ _ refl) c.adopt.ensures.steps

pub returns-clause-tags_stay : goal.returns-clause-tags_stay
returns-clause-tags_stay c = λ x b.
    let k = c.in_ok-end.ensures.keeps c.self.inside.tree (since-self c.self.inside.tree) in
    same-tag_in _ _ (k.labels x (subst (λ (n : State). x < length n.tree.tree.labels) (sym c.self.view_is) b)) ∙ ap (λ (n : State). tag_at n.tree.tree x) c.self.view_is

pub returns-in_err-end-clause-refuses : goal.returns-in_err-end-clause-refuses
returns-in_err-end-clause-refuses c =
    handed-on-any c.from_residual.result c.args.self.now _ c.in_err-end.field-0.0 c.from_residual.ensures.1
    (refused-clones c.args.self.now _ c.self.inside.tree c.in_err-end.field-0.0 (ap (λ (x : State). x.tree.tree.limits) c.self.view_is) c.in_err-end.ensures.told)
