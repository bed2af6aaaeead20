-- Claimed.
-- Where places of the text stand in its bytes, and in which lines and columns.
use Rattle.std.specs.Prelude.{◌≡◌, ℕ, ◌+◌, ◌≤◌, ◌==◌, List, [], ◌∷◌, length, take, drop, not, if◌then◌else◌}
use Rattle.std.specs.List.{list_all}
use Rattle.html_input.specs.Decode.{decode, normalise_newlines, scalar_values}
use Rattle.html_input.specs.declared.lines.Position.{Position}

-- how many line feeds there are
abbrev pub line_feeds : List ℕ → ℕ
line_feeds [] = 0
line_feeds (c ∷ cs) = if c == 10 then line_feeds cs + 1 else line_feeds cs

-- the longest end of the text that has no line feed
abbrev pub last_line : List ℕ → List ℕ
last_line [] = []
last_line (c ∷ cs) = if list_all (λ d. not (d == 10)) (c ∷ cs) then c ∷ cs else last_line cs

-- The bytes before the place are the text before it, and the others the text from it on (behind the last place: all bytes, and none). Its line is one more
-- than there are line feeds before it, and its column one more than there are code points between the last of these and it.
pub record StandsAt (bytes : List ℕ) (place : ℕ) (p : Position) : Type 0 where
  pub within : p.offset ≤ length bytes
  pub before : decode (take p.offset bytes) ≡ take place (decode bytes)
  pub behind : normalise_newlines (scalar_values (drop p.offset bytes)) ≡ drop place (decode bytes)
  pub line : p.line ≡ line_feeds (take place (decode bytes)) + 1
  pub column : p.column ≡ length (last_line (take place (decode bytes))) + 1
