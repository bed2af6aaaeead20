-- Claimed.
-- How many elements of a name a page has (13.2.6).
use Rattle.std.specs.Prelude.{◌≡◌, ◌≤◌, ℕ, Bool, false, not, ◌&&◌, List, Option}
use Rattle.std.specs.List.{count_by}
use Rattle.html_names.specs.declared.tag.Tag.{Tag}
use Rattle.html_names.specs.declared.tag.Tag.TheVariants as tag
use Rattle.html_names.specs.Tags.{is_same}
use Rattle.html_arena.specs.declared.arena.Limits.{Limits}
use Rattle.html_arena.specs.declared.data.NodeData.{NodeData}
use Rattle.html_arena.specs.Data.{is_clone_in, tag_in}
use Rattle.html_arena.specs.Tree.{Tree as Nodes}
use Rattle.html_tokens.specs.declared.token.TokenKind.{TokenKind}
use Rattle.html_ledger.specs.declared.fate.Fate.{Fate}
use Rattle.html_ledger.specs.declared.setting.Setting.{Setting}
use Rattle.html_ledger.specs.Settings.{is_foreign_context}
use Rattle.html_builder.specs.Built.{IsBuiltByRules}
use Rattle.html_parser.specs.Parsed.{IsPageOf, IsTreeOf}
use Rattle.html_parser.specs.Start.{Start}
use Rattle.html_parser.specs.declared.page.Page.{Page}
use Rattle.html_parser.specs.declared.page.Tree.{Tree}
use Rattle.html_laws.specs.OnePage.{RefusesForeign}
use Rattle.html_laws.specs.Reads.{ReadsNoTag}

-- an element of this name that is no clone
abbrev pub is_own : Tag → NodeData → Bool
is_own g d = not (is_clone_in d) && is_same (tag_in d) g

-- how many there are
abbrev pub count_of : Tag → List NodeData → ℕ
count_of g labels = count_by (is_own g) labels

-- THE LAWS

-- The rules make one html element of the tokens of a page, or none, where foreign content is refused and is not the context (13.2.6.4.2).
abbrev pub PagesHaveOneRoot : Type 0
PagesHaveOneRoot = (s : Setting) (limits : Option Limits) (tokens : List TokenKind) (fates : List Fate) (t : Nodes) → is_foreign_context s ≡ false
    → IsBuiltByRules s limits false tokens fates t → count_of tag.Html t.labels ≤ 1

-- So does a page of an input, likewise.
abbrev pub InputsHaveOneRoot : Type 0
InputsHaveOneRoot = (start : Start) (bytes : List ℕ) (page : Page) → RefusesForeign start → IsPageOf start bytes page → count_of tag.Html page.arena.labels ≤ 1

-- And so does a tree of one.
abbrev pub TreesHaveOneRoot : Type 0
TreesHaveOneRoot = (start : Start) (bytes : List ℕ) (tree : Tree) → RefusesForeign start → IsTreeOf start bytes tree → count_of tag.Html tree.arena.labels ≤ 1

-- They make one body of them, or none, one that a frameset replaced among them (13.2.6.4.7), where besides no start tag comes in the text of an element.
abbrev pub PagesHaveOneBody : Type 0
PagesHaveOneBody = (s : Setting) (limits : Option Limits) (tokens : List TokenKind) (fates : List Fate) (t : Nodes) → is_foreign_context s ≡ false
    → (b : IsBuiltByRules s limits false tokens fates t) → ReadsNoTag tokens b.first b.last b.constructs → count_of tag.Body t.labels ≤ 1

-- So does a page of an input, where foreign content is refused and is not the context: no start tag comes so in it.
abbrev pub InputsHaveOneBody : Type 0
InputsHaveOneBody = (start : Start) (bytes : List ℕ) (page : Page) → RefusesForeign start → IsPageOf start bytes page → count_of tag.Body page.arena.labels ≤ 1

-- And so does a tree of one.
abbrev pub TreesHaveOneBody : Type 0
TreesHaveOneBody = (start : Start) (bytes : List ℕ) (tree : Tree) → RefusesForeign start → IsTreeOf start bytes tree → count_of tag.Body tree.arena.labels ≤ 1
