use Rattle.html_ledger.specs.declared.symbol.Symbol.TheVariants.{Start}
use Rattle.std.proofs.Common.{refl, ap}
use Rattle.html_construction.specs.Tokens.{attrs_of, tag_name}
use Rattle.html_construction.proofs.Kept.{behind, listed-made, made-next, taken-made, told-made, made-element, adds-none, gives-made}
use Rattle.html_tree.specs.States.{State as Tree}
use Rattle.html_tree.specs.Targets.{place_for}
use Rattle.html_arena.specs.declared.data.NewNode.TheVariants as new
use Rattle.html_arena.specs.declared.data.Origin.TheVariants.{Token}
use Rattle.html_tree.specs.declared.groups.Target.TheVariants as target
use Rattle.html_construction.proofs.Originating.{named-formatting}
use Rattle.html_construction.proofs.Copying.{copied-element, grown-made}
use Rattle.html_construction.proofs.Working.{works-listed-made}
use Rattle.html_construction.proofs.Telling.{handed-on, limits-made, refused-node}
use Rattle.std.proofs.Common.{rules}
use Rattle.html_construction.specs.Words.{InsertListed}
use Rattle.html_construction.proofs.Doing.{doing, fated_any}
use Rattle.html_construction.proofs.construction.Construction.insert_listed.Goals as goal

pub insert_listed-requires-clause-token : goal.insert_listed-requires-clause-token
insert_listed-requires-clause-token c = behind _ _ c.args.self.now c.in_ok-number.number c.self.view_is c.in_ok-number.ensures.number c.in_ok-number.ensures.behind

pub invariant_of-self : goal.invariant_of-self
invariant_of-self c = made-next _ _ c.args.self.now c.in_ok-number.number _ c.self.inside.registers.templates.items c.self.view_is c.in_ok-number.ensures.number c.in_ok-number.ensures.counted c.insert_listed.ensures.tokens_most c.self.invariant.templates_fit

pub returns-clause-takes : goal.returns-clause-takes
returns-clause-takes c = taken-made _ _ c.args.self.now _ c.args.token.now (Start c.args.tag) c.self.view_is c.in_ok-number.ensures.rest refl refl c.requires.symbol c.in_ok-number.ensures.takes (gives-made _ _ _ _ _ c.in_ok-number.ensures.fate) c.in_ok-insert_listed.ensures.keeps (place_for c.self.inside.tree (target.Current c.self.inside.registers.fostering)) (new.Element c.in_ok-name.name c.in_ok-attrs.attrs (Token c.in_ok-number.number)) (ap (λ (x : Tree). x.tree) c.in_ok-insert_listed.ensures.exact) (told-made _ _ _ _ c.args.token.now (Start c.args.tag) (place_for c.self.inside.tree (target.Current c.self.inside.registers.fostering)) (new.Element c.in_ok-name.name c.in_ok-attrs.attrs (Token c.in_ok-number.number)) c.self.view_is c.in_ok-number.ensures.rest refl c.in_ok-number.ensures.fate c.requires.quiet (made-element c.self.inside.tree.tree c.args.token.now c.args.tag c.in_ok-name.name c.in_ok-attrs.attrs c.in_ok-number.number _ c.requires.symbol (named-formatting c.args.tag c.args.token.now c.in_ok-name.name c.requires.formatting c.in_ok-name.ensures.name) c.in_ok-attrs.ensures.attrs c.in_ok-number.ensures.number) (ap (λ (x : Tree). x.tree) c.in_ok-insert_listed.ensures.exact))

pub returns-clause-exact : goal.returns-clause-exact
returns-clause-exact c =
    listed-made _ _ c.args.self.now _ c.in_ok-name.name (tag_name c.args.token.now) c.in_ok-attrs.attrs (attrs_of c.args.token.now) c.in_ok-number.number _
    c.self.view_is c.in_ok-number.ensures.rest c.in_ok-name.ensures.name c.in_ok-attrs.ensures.attrs c.in_ok-number.ensures.number c.in_ok-insert_listed.ensures.exact

pub returns-clause-grown : goal.returns-clause-grown
returns-clause-grown c =
    grown-made 2 1 1 _ c.args.self.now _ _ _ _ _ _ c.self.view_is c.in_ok-number.ensures.rest refl c.in_ok-number.ensures.fate c.in_ok-insert_listed.ensures.grown
    (copied-element c.self.inside.tree.tree _ (place_for c.self.inside.tree (target.Current c.self.inside.registers.fostering)) c.in_ok-name.name c.in_ok-attrs.attrs c.in_ok-number.number (ap (λ (x : Tree). x.tree) c.in_ok-insert_listed.ensures.exact))

pub returns-clause-works : goal.returns-clause-works
returns-clause-works c =
    works-listed-made c.args.self.now _ _ _ c.self.inside.ledger _ _ (place_for c.self.inside.tree (target.Current c.self.inside.registers.fostering)) c.in_ok-name.name c.in_ok-attrs.attrs (attrs_of c.args.token.now) c.in_ok-number.number
    c.self.view_is c.in_ok-number.ensures.rest c.in_ok-number.ensures.fate c.laws.ensures.sound c.self.invariant.tokens c.requires.listed c.in_ok-insert_listed.ensures.keeps (adds-none _ _ refl)
    c.in_ok-attrs.ensures.attrs (ap (λ (x : Tree). x.tree) c.in_ok-insert_listed.ensures.exact) c.in_ok-insert_listed.ensures.steps

pub returns-in_err-insert_listed-clause-refuses : goal.returns-in_err-insert_listed-clause-refuses
returns-in_err-insert_listed-clause-refuses c =
    handed-on c.from_residual-in_err-insert_listed.result c.args.token.now c.args.self.now _ c.in_err-insert_listed.field-0.0 c.from_residual-in_err-insert_listed.ensures.1
    (refused-node c.args.token.now c.args.self.now _ c.self.inside.tree (new.Element c.in_ok-name.name c.in_ok-attrs.attrs (Token c.in_ok-number.number)) c.in_err-insert_listed.field-0.0 (limits-made _ _ c.args.self.now c.self.view_is c.in_ok-number.ensures.rest)
    (record { name_tag = c.args.tag; start = c.requires.symbol; name_is = named-formatting c.args.tag c.args.token.now c.in_ok-name.name c.requires.formatting c.in_ok-name.ensures.name; attrs_are = c.in_ok-attrs.ensures.attrs }) c.in_err-insert_listed.ensures.told)

pub returns-clause-follows : goal.returns-clause-follows
returns-clause-follows c = doing InsertListed c.args.token.now c.args.self.now _ (fated_any (Start c.args.tag) c.args.token.now _ c.args.self.now _ c.requires.symbol (search rules) (record { ledger_is = search rules })) (returns-clause-exact c)
