-- A page with its ledger.
use Rattle.std.proofs.Common.{◌≡◌, ℕ, List, Option, Some, Result, Ok, Err, refl, sym, subst}
use Rattle.std.specs.Prelude.{IfOk, IsOkAnd}
use Rattle.html_parser.specs.Parsed.{IsPageOf}
use Rattle.html_parser.specs.Start.{Start}
use Rattle.html_parser.specs.declared.page.Page.{Page}
use Rattle.html_parser.specs.declared.page.Tree.{Tree}
use Rattle.zilqumet_c.specs.Audits.{AreAudited, IsAudit, ledger_of, tree_of}
use Rattle.zilqumet_c.specs.declared.audits.Audited.{Audited}
use Rattle.zilqumet_c.specs.declared.held.Held.{Held}
use Rattle.zilqumet_c.specs.declared.held.Held.TheVariants as held
use Rattle.zilqumet_rows.specs.declared.ledger.Ledger.{Ledger}

-- what a page is parted into
pub parts_of : (start : Start) (bytes : List ℕ) (page : Page) (tree : Tree) (ledger : Ledger) → IsPageOf start bytes page → tree ≡ tree_of page → ledger ≡ ledger_of page
    → IsAudit start bytes tree ledger
parts_of start bytes page tree ledger is t l =
    subst (λ x. IsAudit start bytes tree x) (sym l) (subst (λ x. IsAudit start bytes x (ledger_of page)) (sym t) (record { is = is; count = refl }))

-- what was kept of it
pub both_kept : {E : Type 0} (r : Result Audited E) (page ledger : Option Held) (start : Start) (bytes : List ℕ)
    → IsOkAnd r (λ a. (page ≡ Some (held.Page a.page)) × (ledger ≡ Some (held.Ledger a.ledger))) → IfOk r (λ a. IsAudit start bytes a.page.tree a.ledger)
    → AreAudited start bytes page ledger
both_kept (Ok a) page ledger start bytes kept is = record { rooted = a.page; told = a.ledger; page_is = kept.0; ledger_is = kept.1; is = is }
both_kept (Err e) page ledger start bytes kept is = absurd kept
