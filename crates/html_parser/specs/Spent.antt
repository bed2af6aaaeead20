-- Claimed, but for this crate's own functions: counts_steps, AreFewSteps.
-- The limit on counted steps, and where it was passed.
use Rattle.std.specs.Prelude.{◌≡◌, ◌+◌, ◌-◌, ◌^◌, ◌<◌, ◌≤◌, ◌++◌, ℕ, Bool, false, min, nat_lt, List, Option, None, Some}
use Rattle.html_arena.specs.declared.arena.Limits.{Limits}
use Rattle.html_tokens.specs.Given.{Fed, steps_taken}
use Rattle.html_tokens.specs.Stream.{Run}
use Rattle.html_tokens.specs.declared.token.Token.{Token}
use Rattle.html_tokens.specs.declared.tokenizer.Tokenizer.{Tokenizer}
use Rattle.html_builder.specs.Builders.{BuilderState}
use Rattle.html_builder.specs.Handed.{Handed}
use Rattle.html_parser.specs.Kinds.{kinds}
use Rattle.html_parser.specs.Start.{Start, text_start}

-- there is a limit on steps, and one that 64 bits can pass
abbrev pub counts_steps : Option Limits → Bool
counts_steps None = false
counts_steps (Some l) = nat_lt l.steps (2 ^ 64 - 1)

-- No more steps are counted than the limit, where there is one, as far as 128 bits count.
abbrev pub AreFewSteps : Option Limits → ℕ → ℕ → Type 0
AreFewSteps limits own others = (l : Limits) → limits ≡ Some l → min (own + others) (2 ^ 128 - 1) ≤ l.steps

-- More steps are counted than the limit.
abbrev pub AreTooManySteps : Option Limits → ℕ → ℕ → Type 0
AreTooManySteps limits own others = (l : Limits) × (limits ≡ Some l) × (l.steps < min (own + others) (2 ^ 128 - 1))

-- When these tokens had been taken, more steps were counted than the limit: those of a tokenizer that was fed the text, or a front of it, and gave these tokens, and those of
-- tree construction, to which they were handed.
pub record IsSpent (start : Start) (text : List ℕ) (taken : List Token) : Type 0 where
  pub tokenizer : Tokenizer
  pub run : Run
  pub fed : Fed tokenizer run
  pub begun : run.start ≡ text_start start
  pub rest : List ℕ
  pub front : text ≡ run.text ++ rest
  pub given : run.given ≡ taken
  pub builder : BuilderState
  pub handed : Handed start.setting start.limits (kinds taken) builder
  pub spent : AreTooManySteps start.limits (steps_taken tokenizer) builder.page.tree.steps
