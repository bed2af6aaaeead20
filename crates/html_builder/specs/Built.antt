-- Claimed.
-- What tree construction makes of the tokens of a page, by its rules (13.2.6).
use Rattle.std.specs.Prelude.{◌≡◌, Bool, List, Option}
use Rattle.html_arena.specs.declared.arena.Limits.{Limits}
use Rattle.html_arena.specs.Tree.{Tree}
use Rattle.html_tokens.specs.declared.token.TokenKind.{TokenKind}
use Rattle.html_ledger.specs.declared.setting.Setting.{Setting}
use Rattle.html_ledger.specs.declared.fate.Fate.{Fate}
use Rattle.html_open.specs.Marking.{bare}
use Rattle.html_construction.specs.Beginning.{IsFirst}
use Rattle.html_construction.specs.States.{State}
use Rattle.html_modes.specs.Dispatching.{Constructs}
use Rattle.html_builder.specs.Builders.{BuilderState}

-- the tree of a builder, but for marks and counted steps
abbrev pub IsTreeIn : BuilderState → Tree → Type 0
IsTreeIn b t = bare t ≡ b.page.tree.tree

-- The tree and the fates are those to which the rules lead from the beginning, where foreign content is parsed or refused, through these tokens.
pub record IsBuiltByRules (s : Setting) (limits : Option Limits) (foreign : Bool) (tokens : List TokenKind) (fates : List Fate) (t : Tree) : Type 0 where
  pub first : State
  pub begins : IsFirst s limits first
  pub foreign_is : first.parses_foreign ≡ foreign
  pub last : State
  pub constructs : Constructs tokens first last
  pub tree_is : bare t ≡ last.tree.tree
  pub fates_are : fates ≡ last.ledger.fates
