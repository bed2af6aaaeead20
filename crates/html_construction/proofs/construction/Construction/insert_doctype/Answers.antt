use Rattle.html_ledger.specs.declared.symbol.Symbol.TheVariants.{Doctype}
use Rattle.std.proofs.Common.{refl, ap, arith}
use Rattle.html_construction.proofs.Kept.{behind, made-next, taken-made, told-made, made-doctype, adds-none, gives-made}
use Rattle.html_tree.specs.States.{State as Tree}
use Rattle.html_tree.specs.Targets.{place_for}
use Rattle.html_arena.specs.declared.data.NewNode.TheVariants as new
use Rattle.html_tree.specs.declared.groups.Target.TheVariants as target
use Rattle.html_construction.proofs.Copying.{copied-doctype, grown-made}
use Rattle.html_construction.proofs.Working.{works-walk-made}
use Rattle.html_construction.proofs.Telling.{handed-on, limits-made, refused-node}
use Rattle.html_construction.proofs.construction.Construction.insert_doctype.Goals as goal

pub insert_doctype-requires : goal.insert_doctype-requires
insert_doctype-requires c = record { token = behind _ _ c.args.self.now c.in_ok-number.number c.self.view_is c.in_ok-number.ensures.number c.in_ok-number.ensures.behind }

pub invariant_of-self : goal.invariant_of-self
invariant_of-self c = made-next _ _ c.args.self.now c.in_ok-number.number _ c.self.inside.registers.templates.items c.self.view_is c.in_ok-number.ensures.number c.in_ok-number.ensures.counted c.insert_doctype.ensures.tokens_most c.self.invariant.templates_fit

pub returns-clause-takes : goal.returns-clause-takes
returns-clause-takes c = taken-made _ _ c.args.self.now _ c.args.token.now Doctype c.self.view_is c.in_ok-number.ensures.rest refl refl c.requires.symbol c.in_ok-number.ensures.takes (gives-made _ _ _ _ _ c.in_ok-number.ensures.fate) c.in_ok-insert_doctype.ensures.keeps (place_for c.self.inside.tree target.Document) (new.Doctype c.in_ok-ids.ids.name c.in_ok-ids.ids.«public» c.in_ok-ids.ids.system c.in_ok-number.number) (ap (λ (x : Tree). x.tree) c.in_ok-insert_doctype.ensures.exact) (told-made _ _ _ _ c.args.token.now Doctype (place_for c.self.inside.tree target.Document) (new.Doctype c.in_ok-ids.ids.name c.in_ok-ids.ids.«public» c.in_ok-ids.ids.system c.in_ok-number.number) c.self.view_is c.in_ok-number.ensures.rest refl c.in_ok-number.ensures.fate c.requires.quiet (made-doctype c.self.inside.tree.tree c.args.token.now c.in_ok-ids.ids.name c.in_ok-ids.ids.«public» c.in_ok-ids.ids.system c.in_ok-number.number _ c.requires.symbol c.in_ok-ids.ensures.name c.in_ok-ids.ensures.public c.in_ok-ids.ensures.system c.in_ok-number.ensures.number) (ap (λ (x : Tree). x.tree) c.in_ok-insert_doctype.ensures.exact))

pub returns-clause-grown : goal.returns-clause-grown
returns-clause-grown c =
    grown-made 2 0 0 _ c.args.self.now _ _ _ _ _ _ c.self.view_is c.in_ok-number.ensures.rest refl c.in_ok-number.ensures.fate c.in_ok-insert_doctype.ensures.grown
    (copied-doctype c.self.inside.tree.tree _ (place_for c.self.inside.tree target.Document) c.in_ok-ids.ids.name c.in_ok-ids.ids.«public» c.in_ok-ids.ids.system c.in_ok-number.number (ap (λ (x : Tree). x.tree) c.in_ok-insert_doctype.ensures.exact))

pub returns-clause-works : goal.returns-clause-works
returns-clause-works c =
    works-walk-made c.args.self.now _ _ _ c.self.inside.ledger _ _ c.self.view_is c.in_ok-number.ensures.rest c.in_ok-number.ensures.fate
    c.laws.ensures.sound c.self.invariant.tokens c.in_ok-insert_doctype.ensures.keeps (adds-none _ _ refl) (let h = c.in_ok-insert_doctype.ensures.steps in omega (arith, h))

pub returns-in_err-insert_doctype-clause-refuses : goal.returns-in_err-insert_doctype-clause-refuses
returns-in_err-insert_doctype-clause-refuses c =
    handed-on c.from_residual-in_err-insert_doctype.result c.args.token.now c.args.self.now _ c.in_err-insert_doctype.field-0.0 c.from_residual-in_err-insert_doctype.ensures.1
    (refused-node c.args.token.now c.args.self.now _ c.self.inside.tree (new.Doctype c.in_ok-ids.ids.name c.in_ok-ids.ids.«public» c.in_ok-ids.ids.system c.in_ok-number.number) c.in_err-insert_doctype.field-0.0 (limits-made _ _ c.args.self.now c.self.view_is c.in_ok-number.ensures.rest)
    (record { doctype = c.requires.symbol; name_is = c.in_ok-ids.ensures.name; public_is = c.in_ok-ids.ensures.«public»; system_is = c.in_ok-ids.ensures.system }) c.in_err-insert_doctype.ensures.told)
