-- For this crate's own functions.
-- An input that was ended, and what was made of it.
use Rattle.std.specs.Prelude.{◌≡◌, ℕ, true, List}
use Rattle.html_input.specs.Fed.{Fed as Decodes}
use Rattle.html_input.specs.declared.decoder.Decoder.{Decoder}
use Rattle.html_tokens.specs.Given.{Fed as Tokenizes, steps_taken}
use Rattle.html_tokens.specs.Stream.{Run, tokens_of}
use Rattle.html_tokens.specs.declared.tokenizer.Tokenizer.{Tokenizer}
use Rattle.html_builder.specs.Builders.{BuilderState}
use Rattle.html_builder.specs.Handed.{Handed, fates_of, parses_foreign}
use Rattle.html_builder.specs.Saying.{HasSaid}
use Rattle.html_parser.specs.Kinds.{kinds, starts_of}
use Rattle.html_parser.specs.Said.{AreSaid}
use Rattle.html_parser.specs.Parsed.{Headline}
use Rattle.html_parser.specs.Spent.{AreFewSteps}
use Rattle.html_parser.specs.Start.{Start, most_input, parses, text_start}
use Rattle.html_parser.specs.declared.made.Made.{Made}

-- The stages after the end of an input of these bytes: the decoder has put out its text, of which the tokenizer has given all tokens, and
-- tree construction has taken them; these are the places where they begin.
pub record IsWhole (start : Start) (bytes : List ℕ) (run : Run) (d : Decoder) (t : Tokenizer) (b : BuilderState) (starts : List ℕ) : Type 0 where
  pub begun : run.start ≡ text_start start
  pub finished : run.finished ≡ true
  pub decoded : Decodes (most_input start) true d bytes run.text
  pub tokenized : Tokenizes t run
  pub handed : Handed start.setting start.limits (kinds run.given) b
  pub said : AreSaid start.setting (kinds run.given) (fates_of b) run.switches
  pub has_said : HasSaid start.setting start.limits start.mode (kinds run.given) run.switches b
  pub foreign : parses_foreign b ≡ parses start.foreign
  pub starts_are : starts ≡ starts_of run.given
  pub all : tokens_of run.text run.switches run.start ≡ run.given
  pub few : AreFewSteps start.limits (steps_taken t) b.page.tree.steps

-- what was made of its tokens
abbrev pub IsMade : Start → List ℕ → Run → Made → Type 0
IsMade start bytes run m = Headline start bytes run.given m.fates m.arena 0 m.errors.items m.n m.steps
