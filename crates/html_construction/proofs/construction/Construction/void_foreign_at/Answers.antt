use Rattle.html_ledger.specs.declared.symbol.Symbol.TheVariants.{Start}
use Rattle.std.proofs.Common.{refl, ap, ◌∙◌, arith}
use Rattle.html_ledger.specs.Runs.{last_of}
use Rattle.html_construction.specs.Origins.{foreign_if}
use Rattle.html_construction.specs.States.{State}
use Rattle.html_construction.proofs.Kept.{behind, made-next, taken-made, told-foreign, made-foreign, adds-none, gives-foreign}
use Rattle.html_tree.specs.States.{State as Tree}
use Rattle.html_tree.specs.Targets.{place_for}
use Rattle.html_arena.specs.declared.data.NewNode.TheVariants as new
use Rattle.html_arena.specs.declared.data.Origin.TheVariants.{Token}
use Rattle.html_construction.proofs.Copying.{copied-element, grown-made}
use Rattle.html_construction.proofs.Working.{works-walk-made}
use Rattle.html_construction.proofs.Telling.{handed-on, last-foreign, limits-made, told-passed}
use Rattle.html_construction.specs.Tokens.{tag_name}
use Rattle.html_construction.proofs.Opening.{foreign-root}
use Rattle.html_construction.proofs.construction.Construction.void_foreign_at.Goals as goal

pub insert_void-requires-clause-name : goal.insert_void-requires-clause-name
insert_void-requires-clause-name c = foreign-root c.args.space (tag_name c.args.token.now) c.in_ok-name.name c.requires.outside c.in_ok-name.ensures.name

pub insert_void-requires-clause-token : goal.insert_void-requires-clause-token
insert_void-requires-clause-token c = behind _ _ c.args.self.now c.in_ok-number.number c.self.view_is c.in_ok-number.ensures.number c.in_ok-number.ensures.behind

pub invariant_of-self : goal.invariant_of-self
invariant_of-self c = made-next _ _ c.args.self.now c.in_ok-number.number _ c.self.inside.registers.templates.items c.self.view_is c.in_ok-number.ensures.number c.in_ok-number.ensures.counted c.insert_void.ensures.tokens_most c.self.invariant.templates_fit

pub returns-clause-takes : goal.returns-clause-takes
returns-clause-takes c = taken-made _ _ c.args.self.now _ c.args.token.now (Start c.args.tag) c.self.view_is c.in_ok-number.ensures.rest refl refl c.requires.symbol c.in_ok-number.ensures.takes (gives-foreign _ _ _ _ c.in_ok-number.ensures.fate c.requires.asked) c.in_ok-node.ensures.keeps (place_for c.self.inside.tree c.args.target) (new.Element c.in_ok-name.name c.in_ok-attrs.attrs (Token c.in_ok-number.number)) (ap (λ (x : Tree). x.tree) c.in_ok-node.ensures.exact) (told-foreign _ _ _ _ c.args.token.now (Start c.args.tag) (place_for c.self.inside.tree c.args.target) (new.Element c.in_ok-name.name c.in_ok-attrs.attrs (Token c.in_ok-number.number)) c.self.view_is c.in_ok-number.ensures.rest refl c.in_ok-number.ensures.fate c.requires.quiet (made-foreign c.self.inside.tree.tree c.args.token.now c.args.tag c.args.space c.in_ok-name.name c.in_ok-attrs.attrs c.in_ok-number.number _ c.requires.symbol c.requires.outside c.in_ok-name.ensures.name c.in_ok-attrs.ensures.attrs c.in_ok-number.ensures.number) (ap (λ (x : Tree). x.tree) c.in_ok-node.ensures.exact))

pub returns-clause-grown : goal.returns-clause-grown
returns-clause-grown c =
    grown-made 2 0 0 _ c.args.self.now _ _ _ _ _ _ c.self.view_is c.in_ok-number.ensures.rest refl c.in_ok-number.ensures.fate c.in_ok-node.ensures.grown
    (copied-element c.self.inside.tree.tree _ (place_for c.self.inside.tree c.args.target) c.in_ok-name.name c.in_ok-attrs.attrs c.in_ok-number.number (ap (λ (x : Tree). x.tree) c.in_ok-node.ensures.exact))

pub returns-clause-works : goal.returns-clause-works
returns-clause-works c =
    works-walk-made c.args.self.now _ _ _ c.self.inside.ledger _ _ c.self.view_is c.in_ok-number.ensures.rest c.in_ok-number.ensures.fate
    c.laws.ensures.sound c.self.invariant.tokens c.in_ok-node.ensures.keeps (adds-none _ _ refl) (let h = c.in_ok-node.ensures.steps in omega (arith, h))

pub returns-in_err-node-clause-refuses : goal.returns-in_err-node-clause-refuses
returns-in_err-node-clause-refuses c =
    handed-on c.from_residual-in_err-node.result c.args.token.now c.args.self.now _ c.in_err-node.field-0.0 c.from_residual-in_err-node.ensures.1
    (told-passed c.args.token.now c.args.self.now _ c.self.inside.tree c.args.tag c.args.space c.in_ok-name.name c.in_ok-attrs.attrs c.in_ok-number.number c.in_err-node.field-0.0 (limits-made _ _ c.args.self.now c.self.view_is c.in_ok-number.ensures.rest)
    c.requires.symbol (ap (λ (x : State). foreign_if (last_of x.ledger.fates)) c.self.view_is ∙ last-foreign _ _ _ _ c.in_ok-number.ensures.fate) c.in_ok-name.ensures.name c.in_ok-attrs.ensures.attrs c.in_err-node.ensures.told)
