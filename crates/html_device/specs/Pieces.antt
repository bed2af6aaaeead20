-- Claimed.
-- Pieces of a text.
use Rattle.std.specs.Prelude.{ℕ, List, decimal}
use Rattle.std.specs.List.{flat_map}
use Rattle.html_device.specs.Codes.{code_text}
use Rattle.html_device.specs.declared.pieces.Piece.{Piece}
use Rattle.html_device.specs.declared.pieces.Piece.TheVariants.{Text, Number, Code}

-- a text as it stands, a number in decimal, or that of a code point in hexadecimal
abbrev pub piece_bytes : Piece → List ℕ
piece_bytes (Text s) = s.now
piece_bytes (Number n) = decimal n
piece_bytes (Code c) = code_text c

-- the bytes of pieces, one after another
abbrev pub pieces_bytes : List Piece → List ℕ
pieces_bytes pieces = flat_map piece_bytes pieces
