-- Claimed.
-- What a parser is made with.
use Rattle.std.specs.Prelude.{ℕ, Bool, true, false, min, List, Option, Some, None}
use Rattle.html_charref.specs.declared.table.Row.{Row}
use Rattle.html_input.specs.declared.decoder.TheConstants.{LIMIT}
use Rattle.html_tokens.specs.Stream.{Start as TextStart}
use Rattle.html_tokens.specs.declared.token.TextMode.{TextMode}
use Rattle.html_tokens.specs.declared.token.TextMode.TheVariants.{Data}
use Rattle.html_arena.specs.declared.arena.Limits.{Limits}
use Rattle.html_ledger.specs.declared.setting.Setting.{Setting}
use Rattle.html_ledger.specs.declared.setting.Setting.TheVariants.{Document}
use Rattle.html_builder.specs.Contexts.{setting_of, text_mode_of}
use Rattle.html_builder.specs.declared.context.Context.{Context}
use Rattle.html_parser.specs.declared.options.Foreign.{Foreign}
use Rattle.html_parser.specs.declared.options.Foreign.TheVariants.{Refuse, Parse}

-- the table of references, what is parsed, how its text begins to be read, the limits, if there are any, and what is done with foreign content
pub record Start : Type 0 where
  pub rows : List Row
  pub setting : Setting
  pub mode : TextMode
  pub limits : Option Limits
  pub foreign : Foreign

-- foreign content is parsed, and not refused
abbrev pub parses : Foreign → Bool
parses Refuse = false
parses Parse = true

-- a document
abbrev pub document_start : List Row → Option Limits → Start
document_start rows limits = record { rows = rows; setting = Document; mode = Data; limits = limits; foreign = Refuse }

-- a fragment in a context (13.4)
abbrev pub fragment_start : List Row → Context → Option Limits → Start
fragment_start rows context limits =
    record { rows = rows; setting = setting_of context; mode = text_mode_of context; limits = limits; foreign = Refuse }

-- a document, or a fragment in the context
abbrev pub setting_in : Option Context → Setting
setting_in None = Document
setting_in (Some context) = setting_of context

-- how the text of either begins to be read
abbrev pub mode_in : Option Context → TextMode
mode_in None = Data
mode_in (Some context) = text_mode_of context

-- the most code points of the input
abbrev pub most_within : Option Limits → ℕ
most_within None = LIMIT
most_within (Some l) = min l.code_points LIMIT

abbrev pub most_input : Start → ℕ
most_input start = most_within start.limits

-- how its text begins to be read: there is no start tag before it
abbrev pub text_start : Start → TextStart
text_start start = record { rows = start.rows; mode = start.mode; name = None }
