use Rattle.html_ledger.specs.declared.symbol.Symbol.TheVariants.{Start}
use Rattle.html_names.specs.declared.tag.Tag.TheVariants as tag
use Rattle.std.proofs.Common.{refl, ap, arith}
use Rattle.html_construction.proofs.Kept.{behind, made-next, taken-made, told-made, made-element, adds-none, gives-made}
use Rattle.html_tree.specs.States.{State as Tree}
use Rattle.html_tree.specs.Targets.{place_for}
use Rattle.html_arena.specs.declared.data.NewNode.TheVariants as new
use Rattle.html_arena.specs.declared.data.Origin.TheVariants.{Token}
use Rattle.html_tree.specs.declared.groups.Target.TheVariants as target
use Rattle.html_names.specs.Names.{name_of}
use Rattle.html_construction.proofs.Originating.{named-html}
use Rattle.html_construction.proofs.Copying.{copied-element, grown-made}
use Rattle.html_construction.proofs.Working.{works-walk-made}
use Rattle.html_construction.proofs.Telling.{handed-on, limits-made, refused-node}
use Rattle.html_construction.proofs.construction.Construction.insert_root.Goals as goal

pub insert_root-requires : goal.insert_root-requires
insert_root-requires c = record { token = behind _ _ c.args.self.now c.in_ok-number.number c.self.view_is c.in_ok-number.ensures.number c.in_ok-number.ensures.behind }

pub invariant_of-self : goal.invariant_of-self
invariant_of-self c = made-next _ _ c.args.self.now c.in_ok-number.number _ c.self.inside.registers.templates.items c.self.view_is c.in_ok-number.ensures.number c.in_ok-number.ensures.counted c.insert_root.ensures.tokens_most c.self.invariant.templates_fit

pub returns-clause-takes : goal.returns-clause-takes
returns-clause-takes c = taken-made _ _ c.args.self.now _ c.args.token.now (Start tag.Html) c.self.view_is c.in_ok-number.ensures.rest refl refl c.requires.symbol c.in_ok-number.ensures.takes (gives-made _ _ _ _ _ c.in_ok-number.ensures.fate) c.in_ok-insert_root.ensures.keeps (place_for c.self.inside.tree target.Document) (new.Element (name_of tag.Html) c.in_ok-attrs.attrs (Token c.in_ok-number.number)) (ap (λ (x : Tree). x.tree) c.in_ok-insert_root.ensures.exact) (told-made _ _ _ _ c.args.token.now (Start tag.Html) (place_for c.self.inside.tree target.Document) (new.Element (name_of tag.Html) c.in_ok-attrs.attrs (Token c.in_ok-number.number)) c.self.view_is c.in_ok-number.ensures.rest refl c.in_ok-number.ensures.fate c.requires.quiet (made-element c.self.inside.tree.tree c.args.token.now tag.Html (name_of tag.Html) c.in_ok-attrs.attrs c.in_ok-number.number _ c.requires.symbol (named-html c.args.token.now c.requires.symbol) c.in_ok-attrs.ensures.attrs c.in_ok-number.ensures.number) (ap (λ (x : Tree). x.tree) c.in_ok-insert_root.ensures.exact))

pub returns-clause-grown : goal.returns-clause-grown
returns-clause-grown c =
    grown-made 2 0 1 _ c.args.self.now _ _ _ _ _ _ c.self.view_is c.in_ok-number.ensures.rest refl c.in_ok-number.ensures.fate c.in_ok-insert_root.ensures.grown
    (copied-element c.self.inside.tree.tree _ (place_for c.self.inside.tree target.Document) (name_of tag.Html) c.in_ok-attrs.attrs c.in_ok-number.number (ap (λ (x : Tree). x.tree) c.in_ok-insert_root.ensures.exact))

pub returns-clause-works : goal.returns-clause-works
returns-clause-works c =
    works-walk-made c.args.self.now _ _ _ c.self.inside.ledger _ _ c.self.view_is c.in_ok-number.ensures.rest c.in_ok-number.ensures.fate
    c.laws.ensures.sound c.self.invariant.tokens c.in_ok-insert_root.ensures.keeps (adds-none _ _ refl) (let h = c.in_ok-insert_root.ensures.steps in omega (arith, h))

pub returns-in_err-insert_root-clause-refuses : goal.returns-in_err-insert_root-clause-refuses
returns-in_err-insert_root-clause-refuses c =
    handed-on c.from_residual-in_err-insert_root.result c.args.token.now c.args.self.now _ c.in_err-insert_root.field-0.0 c.from_residual-in_err-insert_root.ensures.1
    (refused-node c.args.token.now c.args.self.now _ c.self.inside.tree (new.Element (name_of tag.Html) c.in_ok-attrs.attrs (Token c.in_ok-number.number)) c.in_err-insert_root.field-0.0 (limits-made _ _ c.args.self.now c.self.view_is c.in_ok-number.ensures.rest)
    (record { name_tag = tag.Html; start = c.requires.symbol; name_is = named-html c.args.token.now c.requires.symbol; attrs_are = c.in_ok-attrs.ensures.attrs }) c.in_err-insert_root.ensures.told)
