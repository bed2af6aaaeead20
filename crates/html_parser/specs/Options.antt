-- Claimed.
-- What a caller asks of parsing.
use Rattle.std.specs.Prelude.{ℕ, ◌≡◌, ◌<◌, Bool, true, false, List, Some}
use Rattle.html_charref.specs.declared.table.Row.{Row}
use Rattle.html_arena.specs.declared.arena.Limits.{Limits}
use Rattle.html_builder.specs.Contexts.{is_good, is_good_anywhere}
use Rattle.html_builder.specs.declared.context.Context.{Context}
use Rattle.html_parser.specs.Start.{Start, mode_in, setting_in}
use Rattle.html_parser.specs.declared.error.ParseError.{ParseError}
use Rattle.html_parser.specs.declared.error.ParseError.TheVariants.{OutOfMemory, BadContext, NodeBudget, HeldBudget}
use Rattle.html_parser.specs.declared.options.Foreign.{Foreign}
use Rattle.html_parser.specs.declared.options.Foreign.TheVariants.{Refuse, Parse}
use Rattle.html_parser.specs.declared.options.Options.{Options}

-- what a parser is made with, by this table
abbrev pub start_of : List Row → Options → Start
start_of rows o = record { rows = rows; setting = setting_in o.context; mode = mode_in o.context; limits = o.limits; foreign = o.foreign }

-- a name that the context of a fragment may have
abbrev pub is_context : Foreign → List ℕ → Bool
is_context Refuse name = is_good name
is_context Parse name = is_good_anywhere name

-- the context, where there is one, is good
abbrev pub HasGoodContext : Options → Type 0
HasGoodContext o = (c : Context) → o.context ≡ Some c → is_context o.foreign c.name ≡ true

-- Why there is no parser: for want of memory, for the context, or since not even the first node is within the limits. A document holds nothing.
abbrev pub IsBeginCause : Options → ParseError → Type 0
IsBeginCause o OutOfMemory = Unit {0}
IsBeginCause o BadContext = (c : Context) × (o.context ≡ Some c) × (is_context o.foreign c.name ≡ false)
IsBeginCause o (NodeBudget at) = (l : Limits) × (o.limits ≡ Some l) × (at ≡ 0) × (l.nodes < 1)
IsBeginCause o (HeldBudget at) = (l : Limits) × (c : Context) × (o.limits ≡ Some l) × (o.context ≡ Some c) × (at ≡ 0) × (l.held < 4)
IsBeginCause o _ = ⊥
