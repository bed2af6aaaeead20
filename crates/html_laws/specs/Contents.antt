-- Claimed.
-- What stands in the contents of a template (4.12.3).
use Rattle.std.specs.Prelude.{◌≡◌, ℕ, Bool, List, Option, Some}
use Rattle.html_arena.specs.declared.arena.Limits.{Limits}
use Rattle.html_arena.specs.Tree.{Tree as Nodes, host_at, parent_of}
use Rattle.html_tokens.specs.declared.token.TokenKind.{TokenKind}
use Rattle.html_ledger.specs.declared.fate.Fate.{Fate}
use Rattle.html_ledger.specs.declared.setting.Setting.{Setting}
use Rattle.html_builder.specs.Built.{IsBuiltByRules}
use Rattle.html_parser.specs.Parsed.{IsPageOf, IsTreeOf}
use Rattle.html_parser.specs.Start.{Start}
use Rattle.html_parser.specs.declared.page.Page.{Page}
use Rattle.html_parser.specs.declared.page.Tree.{Tree}

-- r is an inclusive ancestor of x: x itself, its parent, or one above (DOM 1.1)
pub data IsOver (t : Nodes) (r : ℕ) : ℕ → Type 0 where
  itself : IsOver t r r
  above : (x p : ℕ) → parent_of t x ≡ Some p → IsOver t r p → IsOver t r x

-- x stands in the contents of the template h: below the node for them, or in the contents of a template that stands there
pub data StandsIn (t : Nodes) (h : ℕ) : ℕ → Type 0 where
  inside : (x c : ℕ) → IsOver t c x → host_at t c ≡ Some h → StandsIn t h x
  deeper : (x c k : ℕ) → IsOver t c x → host_at t c ≡ Some k → StandsIn t h k → StandsIn t h x

-- no template stands in its own contents
abbrev pub NoTemplateHoldsItself : Nodes → Type 0
NoTemplateHoldsItself t = (h : ℕ) → StandsIn t h h → ⊥

-- THE LAWS

-- So it is in what the rules build of tokens.
abbrev pub PagesHaveNoTemplateInItself : Type 0
PagesHaveNoTemplateInItself = (s : Setting) (limits : Option Limits) (foreign : Bool) (tokens : List TokenKind) (fates : List Fate) (t : Nodes)
    → IsBuiltByRules s limits foreign tokens fates t → NoTemplateHoldsItself t

-- So it is in a page of an input.
abbrev pub InputsHaveNoTemplateInItself : Type 0
InputsHaveNoTemplateInItself = (start : Start) (bytes : List ℕ) (page : Page) → IsPageOf start bytes page → NoTemplateHoldsItself page.arena

-- And in a tree of one.
abbrev pub TreesHaveNoTemplateInItself : Type 0
TreesHaveNoTemplateInItself = (start : Start) (bytes : List ℕ) (tree : Tree) → IsTreeOf start bytes tree → NoTemplateHoldsItself tree.arena
