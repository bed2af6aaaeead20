-- For this crate's own functions.
-- How far a walk through the bytes has come.
use Rattle.std.specs.Prelude.{◌≡◌, ℕ, ◌+◌, ◌<◌, ◌≤◌, false, List, [], length, take, drop}
use Rattle.html_input.specs.Count.{BeginsWithMark}
use Rattle.html_input.specs.Decode.{decode, scalar_values, starts_with_line_feed}
use Rattle.html_input.specs.Lines.{last_line, line_feeds}
use Rattle.html_input.specs.Previous.{last_of}
use Rattle.html_input.specs.Seam.{IsSeam}
use Rattle.html_input.specs.declared.previous.Previous.TheVariants.{Nothing, CarriageReturn}
use Rattle.html_input.specs.declared.lines.Here.{Here}

-- the bytes before the offset are the text before the place
pub record IsReached (bytes : List ℕ) (h : Here) : Type 0 where
  pub within : h.offset ≤ length bytes
  pub few : h.place ≤ h.offset
  pub seam : 0 < length (drop h.offset bytes) → IsSeam (take h.offset bytes) (take 1 (drop h.offset bytes))
  pub feed : last_of Nothing (scalar_values (take h.offset bytes)) ≡ CarriageReturn → starts_with_line_feed (scalar_values (drop h.offset bytes)) ≡ false
  pub mark : scalar_values (take h.offset bytes) ≡ [] → BeginsWithMark (scalar_values (drop h.offset bytes)) → ⊥
  pub place : h.place ≡ length (decode (take h.offset bytes))
  pub line : h.line ≡ line_feeds (decode (take h.offset bytes)) + 1
  pub column : h.column ≡ length (last_line (decode (take h.offset bytes))) + 1
