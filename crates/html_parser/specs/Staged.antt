-- Claimed, but for this crate's own functions: IsFurther, IsHandedOn, IsEnded, AreStaged, HasTaken, IsBeginning.
-- The stages of a parser, and the bytes that they were fed, however they were cut.
use Rattle.std.specs.Prelude.{◌≡◌, ℕ, Bool, true, false, List, []}
use Rattle.html_charref.specs.declared.table.Row.{Row}
use Rattle.html_input.specs.Fed.{Fed as Decodes}
use Rattle.html_tokens.specs.Given.{Fed as Tokenizes, is_stopped as tokenizer_stopped, steps_taken}
use Rattle.html_tokens.specs.Stream.{IsPrompt, Run, tokens_of}
use Rattle.html_tokens.specs.declared.token.TextMode.{TextMode}
use Rattle.html_tokens.specs.declared.token.TextMode.TheVariants.{Foreign}
use Rattle.html_input.specs.declared.decoder.Decoder.{Decoder}
use Rattle.html_builder.specs.Builders.{BuilderState}
use Rattle.html_builder.specs.Handed.{Handed, fates_of, is_stopped as builder_stopped, parses_foreign, reads_foreign}
use Rattle.html_builder.specs.Saying.{HasSaid}
use Rattle.html_parser.specs.Kinds.{kinds, starts_of}
use Rattle.html_parser.specs.Said.{AreSaid}
use Rattle.html_parser.specs.Spent.{AreFewSteps}
use Rattle.html_parser.specs.Start.{Start, most_input, parses, text_start}
use Rattle.html_parser.specs.declared.stages.Stages.{Stages}

-- The stages after some bytes: the decoder has put out a text, of which the tokenizer was fed all and gave some tokens, which are those
-- that tree construction took, and for each of which the tokenizer was told what it says of the text after it.
pub record IsRun (start : Start) (finished : Bool) (p : Stages) (bytes : List ℕ) (run : Run) : Type 0 where
  pub begun : run.start ≡ text_start start
  pub ended : run.finished ≡ finished
  pub decoded : Decodes (most_input start) finished p.decoder bytes run.text
  pub tokenized : Tokenizes p.tokenizer run
  pub handed : Handed start.setting start.limits (kinds run.given) p.builder
  pub said : AreSaid start.setting (kinds run.given) (fates_of p.builder) run.switches
  pub has_said : HasSaid start.setting start.limits start.mode (kinds run.given) run.switches p.builder
  pub foreign : parses_foreign p.builder ≡ parses start.foreign
  -- what is kept of the tokens
  pub starts : p.kept.starts ≡ starts_of run.given
  pub tokens : p.kept.keeps_tokens ≡ true → p.kept.tokens ≡ run.given
  pub running : tokenizer_stopped p.tokenizer ≡ false
  pub building : builder_stopped p.builder ≡ false

-- The same text, of which some more tokens were given and taken.
pub record IsFurther (start : Start) (finished : Bool) (p : Stages) (bytes text : List ℕ) : Type 0 where
  pub run : Run
  pub is_run : IsRun start finished p bytes run
  pub text_is : run.text ≡ text

-- Of the text, all tokens were given and taken but those that end near its end; all of them, where it is whole.
pub record IsHandedOn (start : Start) (finished : Bool) (p : Stages) (bytes text : List ℕ) : Type 0 where
  pub further : IsFurther start finished p bytes text
  pub prompt : IsPrompt further.run
  pub all : finished ≡ true → tokens_of text further.run.switches further.run.start ≡ further.run.given

-- The input was ended, and the tokenizer has given all.
pub record IsEnded (start : Start) (p : Stages) (bytes : List ℕ) : Type 0 where
  pub run : Run
  pub is_run : IsRun start true p bytes run
  pub all : tokens_of run.text run.switches run.start ≡ run.given
  pub few : AreFewSteps start.limits (steps_taken p.tokenizer) p.builder.page.tree.steps

-- It keeps the tokens.
abbrev pub KeepsTokens : Stages → Type 0
KeepsTokens p = p.kept.keeps_tokens ≡ true

-- The stages are where some beginning and some bytes leave them, which may go on. (It cannot be that there are none: a fact of a struct has at
-- most one proof.)
abbrev pub AreStaged : Stages → Type 0
AreStaged p = ((start : Start) (bytes : List ℕ) (run : Run) → IsRun start false p bytes run → ⊥) → ⊥

-- They were fed these bytes.
pub record HasRead (start : Start) (p : Stages) (bytes : List ℕ) : Type 0 where
  pub run : Run
  pub is_run : IsRun start false p bytes run

-- They were fed these bytes, and have handed on all that these decide.
pub record HasTaken (start : Start) (p : Stages) (bytes : List ℕ) : Type 0 where
  pub text : List ℕ
  pub handed : IsHandedOn start false p bytes text

-- What stages are made of, before the first byte.
pub record IsBeginning (start : Start) (rows : List Row) (mode : TextMode) (decoder : Decoder) (builder : BuilderState) : Type 0 where
  pub rows_are : start.rows ≡ rows
  pub mode_is : start.mode ≡ mode
  pub decodes : Decodes (most_input start) false decoder [] []
  pub handed : Handed start.setting start.limits [] builder
  pub fates : fates_of builder ≡ []
  pub building : builder_stopped builder ≡ false
  pub foreign : parses_foreign builder ≡ parses start.foreign
  pub where_foreign : start.mode ≡ Foreign → reads_foreign builder ≡ true
