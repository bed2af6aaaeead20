-- Claimed, but for this crate's own functions: KeepsPaused, MayResume, AreGoing.
-- The stages of a parser between two calls, without the table of references.
use Rattle.std.specs.Prelude.{◌≡◌, ℕ, true, List, Option, Some}
use Rattle.html_charref.specs.declared.table.Row.{Row}
use Rattle.html_tokens.specs.Paused.{IsPaused}
use Rattle.html_parser.specs.Staged.{HasRead}
use Rattle.html_parser.specs.Start.{Start}
use Rattle.html_parser.specs.declared.paused.PausedStages.{PausedStages}
use Rattle.html_parser.specs.declared.stages.Stages.{Stages}

-- all of the stages but their table
pub record ArePaused (p : PausedStages) (s : Stages) : Type 0 where
  pub decoder_is : p.decoder ≡ s.decoder
  pub tokenizer_is : IsPaused p.tokenizer s.tokenizer
  pub builder_is : p.builder ≡ s.builder
  pub kept_is : p.kept ≡ s.kept

-- Stages by a table of these rows were fed these bytes, and then paused.
pub record HavePaused (start : Start) (rows : List Row) (p : PausedStages) (bytes : List ℕ) : Type 0 where
  pub rows_are : start.rows ≡ rows
  pub stages : Stages
  pub paused : ArePaused p stages
  pub read : HasRead start stages bytes

-- It keeps the tokens.
abbrev pub KeepsPaused : PausedStages → Type 0
KeepsPaused p = p.kept.keeps_tokens ≡ true

-- They are where some beginning and some bytes leave them, by a table of these rows, and may go on. (It cannot be that there are none: a fact of a struct has at most one proof.)
abbrev pub MayResume : List Row → PausedStages → Type 0
MayResume rows p = ((start : Start) (bytes : List ℕ) → HavePaused start rows p bytes → ⊥) → ⊥

-- There are such stages. (It cannot be that there are none.)
abbrev pub AreGoing : List Row → Option PausedStages → Type 0
AreGoing rows stages = ((p : PausedStages) → stages ≡ Some p → MayResume rows p → ⊥) → ⊥
