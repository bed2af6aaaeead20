use Rattle.html_ledger.specs.declared.symbol.Symbol.TheVariants.{Start}
use Rattle.html_names.specs.declared.tag.Tag.TheVariants as tag
use Rattle.html_names.specs.declared.tag.Tag.{Tag}
use Rattle.html_names.specs.Tags.{is_same}
use Rattle.std.proofs.Common.{refl, ap, arith, ◌∙◌, ◌<◌, length, subst, sym}
use Rattle.html_construction.specs.States.{State}
use Rattle.html_construction.proofs.Kept.{behind, made-next, taken-moved, told-moved, made-element, adds-none, gives-made}
use Rattle.html_construction.proofs.Building.{bodiless-labels, bodiless-limits}
use Rattle.html_tree.specs.Closing.{bodiless}
use Rattle.html_tree.specs.States.{State as Tree}
use Rattle.html_tree.specs.Targets.{place_for}
use Rattle.html_tree.specs.declared.groups.Target.TheVariants as target
use Rattle.html_tree.proofs.Texted.{new-limits}
use Rattle.html_arena.specs.declared.data.NewNode.TheVariants as new
use Rattle.html_arena.specs.declared.data.Origin.TheVariants.{Token}
use Rattle.html_construction.proofs.Originating.{named-plain}
use Rattle.html_construction.proofs.Copying.{copied-moved, grown-made}
use Rattle.html_construction.proofs.Working.{works-walk-made}
use Rattle.html_construction.proofs.Telling.{handed-on, limits-made, refused-node}
use Rattle.html_construction.proofs.construction.Construction.replace_body.Goals as goal

pub replace_body-requires-clause-token : goal.replace_body-requires-clause-token
replace_body-requires-clause-token c = behind _ _ c.args.self.now c.in_ok-number.number c.self.view_is c.in_ok-number.ensures.number c.in_ok-number.ensures.behind

pub replace_body-requires-clause-name : goal.replace_body-requires-clause-name
replace_body-requires-clause-name c = ap (λ (g : Tag). is_same g tag.Frameset) (c.in_ok-name.ensures.tag tag.Frameset c.requires.symbol)

pub invariant_of-self : goal.invariant_of-self
invariant_of-self c = made-next _ _ c.args.self.now c.in_ok-number.number _ c.self.inside.registers.templates.items c.self.view_is c.in_ok-number.ensures.number c.in_ok-number.ensures.counted c.replace_body.ensures.tokens_most c.self.invariant.templates_fit

pub returns-clause-takes : goal.returns-clause-takes
returns-clause-takes c = taken-moved _ _ c.args.self.now _ c.args.token.now (Start tag.Frameset) c.self.view_is c.in_ok-number.ensures.rest refl refl c.requires.symbol c.in_ok-number.ensures.takes (gives-made _ _ _ _ _ c.in_ok-number.ensures.fate) c.in_ok-replace_body.ensures.keeps
    (ap (λ (x : Tree). x.tree.limits) c.in_ok-replace_body.ensures.exact ∙ new-limits (bodiless c.self.inside.tree).tree (place_for (bodiless c.self.inside.tree) target.First) (new.Element c.in_ok-name.name c.in_ok-attrs.attrs (Token c.in_ok-number.number)) ∙ bodiless-limits c.self.inside.tree)
    (told-moved _ _ _ _ (bodiless c.self.inside.tree).tree c.args.token.now (Start tag.Frameset) (place_for (bodiless c.self.inside.tree) target.First) (new.Element c.in_ok-name.name c.in_ok-attrs.attrs (Token c.in_ok-number.number)) c.self.view_is c.in_ok-number.ensures.rest refl c.in_ok-number.ensures.fate c.requires.quiet
    (bodiless-labels c.self.inside.tree)
    (made-element (bodiless c.self.inside.tree).tree c.args.token.now tag.Frameset c.in_ok-name.name c.in_ok-attrs.attrs c.in_ok-number.number _ c.requires.symbol (named-plain tag.Frameset c.args.token.now c.in_ok-name.name refl c.in_ok-name.ensures.name) c.in_ok-attrs.ensures.attrs c.in_ok-number.ensures.number)
    (ap (λ (x : Tree). x.tree) c.in_ok-replace_body.ensures.exact))

pub returns-clause-grown : goal.returns-clause-grown
returns-clause-grown c =
    grown-made 2 0 _ _ c.args.self.now _ _ _ _ _ _ c.self.view_is c.in_ok-number.ensures.rest refl c.in_ok-number.ensures.fate c.in_ok-replace_body.ensures.grown
    (copied-moved c.self.inside.tree.tree (bodiless c.self.inside.tree).tree _ (place_for (bodiless c.self.inside.tree) target.First) c.in_ok-name.name c.in_ok-attrs.attrs c.in_ok-number.number (bodiless-labels c.self.inside.tree) (ap (λ (x : Tree). x.tree) c.in_ok-replace_body.ensures.exact))

pub returns-clause-works : goal.returns-clause-works
returns-clause-works c =
    works-walk-made c.args.self.now _ _ _ c.self.inside.ledger _ _ c.self.view_is c.in_ok-number.ensures.rest c.in_ok-number.ensures.fate
    c.laws.ensures.sound c.self.invariant.tokens c.in_ok-replace_body.ensures.keeps (adds-none _ _ refl) (let h = c.in_ok-replace_body.ensures.steps in
    let b : 1 < length c.self.inside.tree.stack = subst (λ (a : State). 1 < length a.tree.stack) (sym (c.self.view_is ∙ c.in_ok-number.ensures.rest)) c.requires.second in
    omega (arith, h, b))

pub returns-in_err-replace_body-clause-refuses : goal.returns-in_err-replace_body-clause-refuses
returns-in_err-replace_body-clause-refuses c =
    handed-on c.from_residual-in_err-replace_body.result c.args.token.now c.args.self.now _ c.in_err-replace_body.field-0.0 c.from_residual-in_err-replace_body.ensures.1
    (refused-node c.args.token.now c.args.self.now _ c.self.inside.tree (new.Element c.in_ok-name.name c.in_ok-attrs.attrs (Token c.in_ok-number.number)) c.in_err-replace_body.field-0.0 (limits-made _ _ c.args.self.now c.self.view_is c.in_ok-number.ensures.rest)
    (record { name_tag = tag.Frameset; start = c.requires.symbol; name_is = named-plain tag.Frameset c.args.token.now c.in_ok-name.name refl c.in_ok-name.ensures.name; attrs_are = c.in_ok-attrs.ensures.attrs }) c.in_err-replace_body.ensures.told)
