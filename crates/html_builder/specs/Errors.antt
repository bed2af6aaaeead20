-- Claimed.
-- What errors tell of what was refused.
use Rattle.std.specs.Prelude.{ℕ, Option}
use Rattle.html_arena.specs.declared.arena.ArenaError.TheVariants as arena
use Rattle.html_arena.specs.declared.arena.Limits.{Limits}
use Rattle.html_tokens.specs.declared.token.TokenKind.{TokenKind}
use Rattle.html_arena.specs.declared.arena.ArenaError.{ArenaError}
use Rattle.html_construction.specs.Budgets.{IsPassed}
use Rattle.html_construction.specs.States.{State}
use Rattle.html_builder.specs.declared.error.BuildError.{BuildError}
use Rattle.html_builder.specs.declared.error.BuildError.TheVariants as cause

-- the error of a token that begins at a place
abbrev pub error_at : ArenaError → ℕ → BuildError
error_at arena.OutOfMemory at = cause.OutOfMemory
error_at arena.NodeBudget at = cause.NodeBudget at
error_at arena.HeldBudget at = cause.HeldBudget at

-- A budget is told only where limits were set, and what was to be added next, with this token in hand, would pass that limit.
abbrev pub IsTold : Option Limits → TokenKind → State → BuildError → Type 0
IsTold limits token a (cause.NodeBudget at) = IsPassed limits token a arena.NodeBudget
IsTold limits token a (cause.HeldBudget at) = IsPassed limits token a arena.HeldBudget
IsTold limits token a _ = Unit {0}

-- the same with a code point in hand, of which nothing but itself is added
abbrev pub IsTextTold : Option Limits → State → BuildError → Type 0
IsTextTold limits a e = (token : TokenKind) → IsTold limits token a e
