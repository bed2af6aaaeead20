-- Claimed.
-- Tokens as pieces: a stretch of text, or one token.
use Rattle.std.specs.Prelude.{◌≡◌, ◌+◌, ◌<◌, ◌^◌, length, List, [], ◌∷◌, ◌++◌}
use Rattle.html_tokens.specs.Runs.{plain_tokens}
use Rattle.html_tokens.specs.declared.token.Token.{Token}
use Rattle.html_token_list.specs.declared.pieces.Piece.{Piece}
use Rattle.html_token_list.specs.declared.pieces.Stretch.{Stretch}
use Rattle.html_token_list.specs.declared.pieces.Piece.TheVariants as piece

-- the tokens of a piece
abbrev pub piece_tokens : Piece → List Token
piece_tokens (piece.Text s) = plain_tokens s.start s.text
piece_tokens (piece.Other t) = t ∷ []

-- the tokens of pieces in a row
abbrev pub all_tokens : List Piece → List Token
all_tokens [] = []
all_tokens (p ∷ ps) = piece_tokens p ++ all_tokens ps

-- a stretch counts its code points, and its places are numbers of 64 bits
abbrev pub IsCounted : Stretch → Type 0
IsCounted s = (s.count ≡ length s.text) × (s.start + s.count < 2 ^ 64)

-- a piece of text has some code points
abbrev pub IsWhole : Piece → Type 0
IsWhole (piece.Text s) = (0 < s.count) × IsCounted s
IsWhole (piece.Other t) = Unit {0}

abbrev pub AreWhole : List Piece → Type 0
AreWhole [] = Unit {0}
AreWhole (p ∷ ps) = IsWhole p × AreWhole ps
