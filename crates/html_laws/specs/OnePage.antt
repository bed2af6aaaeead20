-- Claimed.
-- That parsing has one outcome: what two answers for one input, however each was cut, have in common (13.2).
use Rattle.std.specs.Prelude.{◌≡◌, ℕ, false, List}
use Rattle.html_tokens.specs.declared.token.Token.{Token}
use Rattle.html_arena.specs.Tree.{Tree as Nodes}
use Rattle.html_ledger.specs.declared.fate.Fate.{Fate}
use Rattle.html_ledger.specs.Settings.{is_foreign_context}
use Rattle.html_parser.specs.Parsed.{IsPageOf, IsTreeOf}
use Rattle.html_parser.specs.Start.{Start}
use Rattle.html_parser.specs.declared.options.Foreign.TheVariants.{Refuse}
use Rattle.html_parser.specs.declared.page.Page.{Page}
use Rattle.html_parser.specs.declared.page.Tree.{Tree}
use Rattle.html_laws.specs.Likeness.{AreSameNodes}
use Rattle.html_laws.specs.Outcomes.{BeginAlike, IsOneOutcome}

-- The same tokens, the same fates, and the same nodes.
pub record IsOnePage (tokens tokens' : List Token) (fates fates' : List Fate) (t t' : Nodes) : Type 0 where
  pub same_tokens : tokens ≡ tokens'
  pub outcome : IsOneOutcome fates fates' t t'

-- Foreign content is refused, and is not the context.
pub record RefusesForeign (start : Start) : Type 0 where
  pub refused : start.foreign ≡ Refuse
  pub no_context : is_foreign_context start.setting ≡ false

-- Two pages of one input, whether foreign content is parsed or refused, whatever the context.
abbrev pub InputsHaveOnePage : Type 0
InputsHaveOnePage = (start : Start) (bytes : List ℕ) (page page' : Page) → (p : IsPageOf start bytes page) → (q : IsPageOf start bytes page') → BeginAlike start.setting p.built.first q.built.first
    → IsOnePage page.tokens page'.tokens page.fates page'.fates page.arena page'.arena

-- The tokenizer tells the same errors of it, name and place.
abbrev pub InputsHaveSameErrors : Type 0
InputsHaveSameErrors = (start : Start) (bytes : List ℕ) (page page' : Page) → (one : IsPageOf start bytes page) → (other : IsPageOf start bytes page') → BeginAlike start.setting one.built.first other.built.first
    → one.faults.told ≡ other.faults.told

-- Two trees of one input, likewise.
abbrev pub InputsHaveOneTree : Type 0
InputsHaveOneTree = (start : Start) (bytes : List ℕ) (tree tree' : Tree) → (p : IsTreeOf start bytes tree) → (q : IsTreeOf start bytes tree') → BeginAlike start.setting p.is.built.first q.is.built.first
    → AreSameNodes tree.arena tree'.arena
