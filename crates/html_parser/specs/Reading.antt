-- Claimed.
-- Why a page could not be had from a reader.
use Rattle.std.specs.Prelude.{◌≡◌, ◌⊎◌, ℕ, Bool, true, List, Option}
use Rattle.std.specs.Io.KnownBytes.{Consumes, IsAtEnd}
use Rattle.html_parser.specs.Causes.{IsCause, IsFeedCause}
use Rattle.html_parser.specs.Fed.{IsFed}
use Rattle.html_parser.specs.Staged.{KeepsTokens}
use Rattle.html_parser.specs.Start.{Start}
use Rattle.html_parser.specs.declared.feeder.Feeder.{Feeder}
use Rattle.html_parser.specs.declared.error.ParseError.{ParseError}
use Rattle.html_parser.specs.declared.error.ParseError.TheVariants.{OutOfMemory, Read}

-- It was made so, was fed these bytes, refused none, and keeps its tokens.
pub record IsKeeping (start : Start) (p : Feeder) (bytes : List ℕ) : Type 0 where
  pub fed : IsFed start p bytes
  pub keeps : KeepsTokens p.stages

-- while bytes came: the reader failed, or a piece was refused by the bytes that were read up to its end
abbrev pub IsPieceCause : Start → Option (List ℕ) → Option (List ℕ) → Bool → ParseError → Type 0
IsPieceCause start old new failed Read = failed ≡ true
IsPieceCause start old new failed e = (bytes : List ℕ) × Consumes old new bytes × IsFeedCause start bytes e

-- The same, or the input was refused by all its bytes, after their end; or memory for the parser was refused, before a byte was read.
abbrev pub IsReaderCause : Start → Option (List ℕ) → Option (List ℕ) → Bool → ParseError → Type 0
IsReaderCause start old new failed Read = failed ≡ true
IsReaderCause start old new failed e = (e ≡ OutOfMemory)
    ⊎ ((bytes : List ℕ) × Consumes old new bytes × (IsFeedCause start bytes e ⊎ (IsAtEnd new × IsCause start bytes e)))
