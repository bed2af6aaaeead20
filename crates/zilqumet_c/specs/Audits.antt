-- Claimed, but for this crate's own functions: tree_of, ledger_of.
-- A page with its ledger.
use Rattle.std.specs.Prelude.{◌≡◌, ℕ, List, Option, Some, length}
use Rattle.html_parser.specs.Parsed.{Headline}
use Rattle.html_parser.specs.Start.{Start}
use Rattle.html_parser.specs.declared.page.Page.{Page}
use Rattle.html_parser.specs.declared.page.Tree.{Tree}
use Rattle.zilqumet_c.specs.declared.held.Held.{Held}
use Rattle.zilqumet_c.specs.declared.held.Held.TheVariants as held
use Rattle.zilqumet_c.specs.declared.held.Rooted.{Rooted}
use Rattle.zilqumet_rows.specs.declared.ledger.Ledger.{Ledger}

-- The tree and the ledger are those of one page of the input: the headline holds of both together.
pub record IsAudit (start : Start) (bytes : List ℕ) (tree : Tree) (ledger : Ledger) : Type 0 where
  pub is : Headline start bytes ledger.tokens ledger.fates tree.arena tree.root tree.errors.items tree.n tree.steps
  pub count : tree.token_count ≡ length ledger.tokens

-- a page without its ledger
abbrev pub tree_of : Page → Tree
tree_of p = record { arena = p.arena; root = p.root; token_count = length p.tokens; errors = p.errors; n = p.n; steps = p.steps }

-- its ledger
abbrev pub ledger_of : Page → Ledger
ledger_of p = record { tokens = p.tokens; fates = p.fates }

-- two handles hold such a tree and such a ledger
pub record AreAudited (start : Start) (bytes : List ℕ) (page ledger : Option Held) : Type 0 where
  pub rooted : Rooted
  pub told : Ledger
  pub page_is : page ≡ Some (held.Page rooted)
  pub ledger_is : ledger ≡ Some (held.Ledger told)
  pub is : IsAudit start bytes rooted.tree told
