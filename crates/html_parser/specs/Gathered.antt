-- For this crate's own functions.
-- Text that was gathered from the tokenizer, before tree construction takes it.
use Rattle.std.specs.Prelude.{◌≡◌, ℕ, ◌≤◌, Bool, true, false, List, ◌++◌, length, Option, Some, None}
use Rattle.html_input.specs.Fed.{Fed as Decodes}
use Rattle.html_tokens.specs.Given.{Awaits, Fed, is_stopped}
use Rattle.html_tokens.specs.Runs.{gave_all}
use Rattle.html_tokens.specs.Stream.{Run, gave}
use Rattle.html_tokens.specs.declared.token.Token.{Token}
use Rattle.html_tokens.specs.declared.tokenizer.Tokenizer.{Tokenizer}
use Rattle.html_builder.specs.Handed.{Handed, fates_of, is_stopped as builder_stopped, parses_foreign}
use Rattle.html_builder.specs.Saying.{HasSaid}
use Rattle.html_construction.specs.Built.{chars_of}
use Rattle.html_parser.specs.Kinds.{kinds, starts_of}
use Rattle.html_parser.specs.Said.{AreSaid}
use Rattle.html_parser.specs.Start.{Start, most_input, parses, text_start}
use Rattle.html_parser.specs.declared.kept.Kept.{Kept}
use Rattle.html_parser.specs.declared.stages.Stages.{Stages}

-- A tokenizer gave code points, each a Char, of which the tokens were kept, and which stand behind a text; of the run after them this holds.
pub record Gathers (old : Tokenizer) (a b : Kept) (before after : List ℕ) (Then : Run → Type 0) : Type 0 where
  pub text : List ℕ
  pub text_is : after ≡ before ++ text
  pub tokens : List Token
  pub are : kinds tokens ≡ chars_of text
  pub given : (run : Run) → Fed old run → Then (gave_all run tokens)
  pub starts : b.starts ≡ a.starts ++ starts_of tokens
  pub kept : a.keeps_tokens ≡ true → b.tokens ≡ a.tokens ++ tokens

-- A token was given after a run, of which nothing has been said.
pub record Gives (t : Tokenizer) (token : Token) (run : Run) : Type 0 where
  pub awaits : Awaits t run token
  pub unsaid : Fed t (gave run token None)

-- Where the tokenizer is after a run: there, or it has given a token more.
abbrev pub Follows : Tokenizer → Option Token → Run → Type 0
Follows t None run = Fed t run
Follows t (Some token) run = Gives t token run

-- A tokenizer that was not refused has given a token after some run, and no more tokens were taken of it before than that run has. (It cannot be that there is no such
-- run: a fact of a struct has at most one proof.)
abbrev pub IsAwaiting : Tokenizer → List ℕ → Token → Type 0
IsAwaiting t starts token = is_stopped t ≡ false → ((run : Run) → Gives t token run → length starts ≤ length run.given → ⊥) → ⊥

-- so where it has given one
abbrev pub AreAwaiting : Tokenizer → List ℕ → Option Token → Type 0
AreAwaiting t starts None = Unit {0}
AreAwaiting t starts (Some token) = IsAwaiting t starts token

-- The stages after some bytes, as `IsRun` has them, but for where the tokenizer is.
pub record HasRest (start : Start) (finished : Bool) (p : Stages) (bytes : List ℕ) (run : Run) : Type 0 where
  pub begun : run.start ≡ text_start start
  pub ended : run.finished ≡ finished
  pub decoded : Decodes (most_input start) finished p.decoder bytes run.text
  pub handed : Handed start.setting start.limits (kinds run.given) p.builder
  pub said : AreSaid start.setting (kinds run.given) (fates_of p.builder) run.switches
  pub has_said : HasSaid start.setting start.limits start.mode (kinds run.given) run.switches p.builder
  pub foreign : parses_foreign p.builder ≡ parses start.foreign
  pub starts : p.kept.starts ≡ starts_of run.given
  pub tokens : p.kept.keeps_tokens ≡ true → p.kept.tokens ≡ run.given
  pub building : builder_stopped p.builder ≡ false
