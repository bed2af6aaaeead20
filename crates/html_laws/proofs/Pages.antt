-- Two answers of parsing for one input.
use Rattle.html_names.specs.declared.tag.Tag.TheVariants as tag
use Rattle.std.proofs.Common.{◌≡◌, ◌≤◌, ℕ, suc, zero, Bool, true, false, not, List, [], ◌∷◌, Some, inl, inr, sym, ◌∙◌, ap}
use Rattle.std.specs.Prelude.{slice_get}
use Rattle.std.specs.List.{list_all}
use Rattle.std.proofs.lemmas.Bool.{false≢true}
use Rattle.html_input.specs.Decode.{decode}
use Rattle.html_tokens.specs.declared.token.Token.{Token}
use Rattle.html_arena.specs.Tree.{Tree as Nodes}
use Rattle.html_ledger.specs.declared.fate.Fate.{Fate}
use Rattle.html_ledger.specs.declared.setting.Setting.{Setting}
use Rattle.html_ledger.specs.declared.symbol.Symbol.{Symbol}
use Rattle.html_ledger.specs.declared.symbol.Symbol.TheVariants as symbol
use Rattle.html_ledger.specs.Fates.{is_foreign}
use Rattle.html_ledger.specs.MayDrop.{MayBeForeign, embeds}
use Rattle.html_ledger.specs.Settings.{is_foreign_context}
use Rattle.html_construction.specs.Built.{is_native, symbols}
use Rattle.html_builder.specs.Built.{IsBuiltByRules}
use Rattle.html_parser.specs.declared.faults.PageFault.{PageFault}
use Rattle.html_parser.specs.Kinds.{kinds}
use Rattle.html_parser.specs.Parsed.{Headline}
use Rattle.html_parser.specs.Start.{Start, parses, text_start}
use Rattle.html_construction.proofs.Planned.{halves as both}
use Rattle.html_laws.specs.Contents.{InputsHaveNoTemplateInItself, TreesHaveNoTemplateInItself}
use Rattle.html_laws.specs.Elements.{InputsHaveOneBody, InputsHaveOneRoot, TreesHaveOneBody, TreesHaveOneRoot, count_of}
use Rattle.html_laws.specs.OnePage.{InputsHaveOnePage, InputsHaveOneTree, InputsHaveSameErrors, IsOnePage, RefusesForeign}
use Rattle.html_laws.specs.Outcomes.{BeginAlike}
use Rattle.html_laws.proofs.Bodies.{built-body}
use Rattle.html_laws.proofs.Founding.{pages-root}
use Rattle.html_laws.proofs.Hosting.{pages-hosts}
use Rattle.html_laws.proofs.Reading.{built-reads}
use Rattle.html_laws.proofs.Texts.{texts-one}

none-at : (p : Fate → Bool) (fs : List Fate) (i : ℕ) (f : Fate) → list_all p fs ≡ true → slice_get fs i ≡ Some f → p f ≡ true
none-at p [] zero f h e = absurd (let k = e in cc)
none-at p [] (suc i) f h e = absurd (let k = e in cc)
none-at p (g ∷ fs) zero f h e = ap p (let k : f ≡ g = cc in k) ∙ (both (p g) (list_all p fs) h).0
none-at p (g ∷ fs) (suc i) f h e = none-at p fs i f ((both (p g) (list_all p fs) h).1) e

embeds-foreign : (y : Symbol) (f : Fate) → embeds y f ≡ true → is_foreign f ≡ true
embeds-foreign (symbol.Start g) f h = h
embeds-foreign (symbol.End g) f h = absurd (false≢true h)
embeds-foreign (symbol.Char c) f h = absurd (false≢true h)
embeds-foreign symbol.Comment f h = absurd (false≢true h)
embeds-foreign symbol.Doctype f h = absurd (false≢true h)
embeds-foreign symbol.Eof f h = absurd (false≢true h)

-- no element of foreign content was made
not-foreign : (s : Setting) (ys : List Symbol) (fs : List Fate) → list_all is_native fs ≡ true → is_foreign_context s ≡ false → MayBeForeign s ys fs → ⊥
not-foreign s ys fs h c (inl k) =
    let f = embeds-foreign k.token k.fate k.is_such in
    false≢true (sym (ap not f) ∙ none-at is_native fs k.at k.fate h k.fate_is)
not-foreign s ys fs h c (inr k) = false≢true (sym c ∙ k)

-- two answers for one input
headlines-one : (start : Start) (bytes : List ℕ) (ts us : List Token) (fs gs : List Fate) (t u : Nodes) (root root' n n' steps steps' : ℕ) (errors errors' : List PageFault) → (p : Headline start bytes ts fs t root errors n steps)
    → (q : Headline start bytes us gs u root' errors' n' steps') → BeginAlike start.setting p.built.first q.built.first → IsOnePage ts us fs gs t u × (p.faults.told ≡ q.faults.told)
headlines-one start bytes ts us fs gs t u root root' n n' steps steps' errors errors' p q e =
    let k = texts-one start.setting start.limits (parses start.foreign) (decode bytes) (text_start start) ts us p.tokens_are.said q.tokens_are.said fs gs t u p.tokens_are.are q.tokens_are.are
    p.built q.built p.read q.read e in
    (record { same_tokens = k.0; outcome = k.1 }, p.told.errors_of_text ∙ k.2 ∙ sym q.told.errors_of_text)

pub inputs-page : InputsHaveOnePage
inputs-page start bytes page page' p q e =
    (headlines-one start bytes page.tokens page'.tokens page.fates page'.fates page.arena page'.arena page.root page'.root page.n page'.n page.steps page'.steps page.errors.items page'.errors.items p q e).0

pub inputs-errors : InputsHaveSameErrors
inputs-errors start bytes page page' p q e =
    (headlines-one start bytes page.tokens page'.tokens page.fates page'.fates page.arena page'.arena page.root page'.root page.n page'.n page.steps page'.steps page.errors.items page'.errors.items p q e).1

pub inputs-tree : InputsHaveOneTree
inputs-tree start bytes tree tree' p q e =
    (headlines-one start bytes p.tokens q.tokens p.fates q.fates tree.arena tree'.arena tree.root tree'.root tree.n tree'.n tree.steps tree'.steps tree.errors.items tree'.errors.items p.is q.is e).0.outcome.same_nodes

-- what was built, where foreign content is refused
abbrev built : (start : Start) (r : RefusesForeign start) (ts : List Token) (fs : List Fate) (t : Nodes) (b : IsBuiltByRules start.setting start.limits (parses start.foreign) (kinds ts) fs t) → IsBuiltByRules start.setting start.limits false (kinds ts) fs t
built start r ts fs t b = record { first = b.first; begins = b.begins; foreign_is = b.foreign_is ∙ ap parses r.refused; last = b.last; constructs = b.constructs; tree_is = b.tree_is; fates_are = b.fates_are }

pub inputs-root : InputsHaveOneRoot
inputs-root start bytes page r p =
    pages-root start.setting start.limits (kinds page.tokens) page.fates page.arena r.no_context (built start r page.tokens page.fates page.arena p.built)

pub trees-root : TreesHaveOneRoot
trees-root start bytes tree r p =
    pages-root start.setting start.limits (kinds p.tokens) p.fates tree.arena r.no_context (built start r p.tokens p.fates tree.arena p.is.built)

pub inputs-hosts : InputsHaveNoTemplateInItself
inputs-hosts start bytes page p = pages-hosts start.setting start.limits (parses start.foreign) (kinds page.tokens) page.fates page.arena p.built

pub trees-hosts : TreesHaveNoTemplateInItself
trees-hosts start bytes tree p = pages-hosts start.setting start.limits (parses start.foreign) (kinds p.tokens) p.fates tree.arena p.is.built

-- the bodies of what was built of an input
headline-body : (start : Start) (bytes : List ℕ) (ts : List Token) (fs : List Fate) (t : Nodes) (root n steps : ℕ) (errors : List PageFault) → RefusesForeign start → Headline start bytes ts fs t root errors n steps → count_of tag.Body t.labels ≤ 1
headline-body start bytes ts fs t root n steps errors r p =
    let b = built start r ts fs t p.built in
    built-body start.setting start.limits (kinds ts) fs t r.no_context b
    (built-reads start.setting start.limits (decode bytes) (text_start start) ts p.tokens_are.said fs t r.no_context p.tokens_are.are
    (p.tokens_are.by_fates (not-foreign start.setting (symbols (kinds ts)) fs (p.native r.refused r.no_context) r.no_context)) b)

pub inputs-body : InputsHaveOneBody
inputs-body start bytes page r p = headline-body start bytes page.tokens page.fates page.arena page.root page.n page.steps page.errors.items r p

pub trees-body : TreesHaveOneBody
trees-body start bytes tree r p = headline-body start bytes p.tokens p.fates tree.arena tree.root tree.n tree.steps tree.errors.items r p.is
