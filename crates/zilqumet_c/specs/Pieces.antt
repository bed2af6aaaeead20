-- Claimed.
-- A parser in a handle, and the bytes that it was fed, however they were cut.
use Rattle.std.specs.Prelude.{◌≡◌, ◌≢◌, ◌↔◌, ◌++◌, ◌≤◌, ◌^◌, ℕ, List, Option, None, OnSome, IsSomeAnd, length}
use Rattle.html_tokens.specs.declared.token.Token.{Token}
use Rattle.html_parser.specs.Causes.{IsFeedCause, IsToldIn}
use Rattle.html_parser.specs.Feeding.{AreHandedOn}
use Rattle.html_parser.specs.Owned.{IsOwnedFed, IsOwnedStopped}
use Rattle.html_parser.specs.Start.{Start}
use Rattle.html_parser.specs.declared.error.ParseError.{ParseError}
use Rattle.zilqumet_c.specs.Causes.{IsToldBy}
use Rattle.zilqumet_c.specs.Reads.{parser_in}
use Rattle.zilqumet_c.specs.declared.held.Held.{Held}

-- The handle holds a parser that was made so, was fed these bytes, and refused none.
abbrev pub IsFedIn : Start → Option Held → List ℕ → Type 0
IsFedIn start held bytes = IsSomeAnd (parser_in held) (λ p. IsOwnedFed start p.feeder bytes)

-- The handle holds a parser that refused a piece.
abbrev pub IsStoppedIn : Option Held → Type 0
IsStoppedIn held = IsSomeAnd (parser_in held) (λ p. IsOwnedStopped p.feeder)

-- Each token of the bytes was handed to tree construction, but those that end so near to their end that more bytes may change them.
abbrev pub AreTakenIn : Start → Option Held → List ℕ → Type 0
AreTakenIn start held bytes = IsSomeAnd (parser_in held) (λ p. IsSomeAnd p.feeder.stages (λ s. (tokens : List Token) × AreHandedOn start s.builder bytes tokens))

-- why the last piece of these bytes was refused: for what the bytes are, and of a budget, since what the parser was to add next would have passed it
abbrev pub IsRefusedIn : Start → Option Held → List ℕ → ParseError → Type 0
IsRefusedIn start held bytes e = IsFeedCause start bytes e × IsSomeAnd (parser_in held) (λ p. IsSomeAnd p.feeder.stages (λ s. IsToldIn start.limits s.builder.page e))

-- What a piece came to: the handle before and after it, and what was answered.
pub record IsPushed (old new : Option Held) (piece : List ℕ) (status place : ℕ) : Type 0 where
  -- It was taken: the parser was fed it too, and handed on what it decides.
  pub fed : status ≡ 0 → (start : Start) (bytes : List ℕ) → IsFedIn start old bytes → IsFedIn start new (bytes ++ piece)
  pub few : status ≡ 0 → (start : Start) (bytes : List ℕ) → IsFedIn start old bytes → length (bytes ++ piece) ≤ 2 ^ 33
  pub prompt : status ≡ 0 → (start : Start) (bytes : List ℕ) → IsFedIn start old bytes → AreTakenIn start new (bytes ++ piece)
  -- It was refused: for a cause that the bytes so far are, with its place; and the parser takes no more.
  pub cause : status ≢ 0 → (start : Start) (bytes : List ℕ) → IsFedIn start old bytes → IsToldBy (IsRefusedIn start new (bytes ++ piece)) status place
  pub refused : status ≢ 0 → OnSome (parser_in old) (IsStoppedIn new)
  pub stopped : (status ≡ 9) ↔ IsStoppedIn old
  -- There is no parser.
  pub other : parser_in old ≡ None → (status ≡ 12) × (new ≡ old)
