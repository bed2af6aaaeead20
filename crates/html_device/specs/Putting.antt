-- Claimed.
-- Bytes that go to a writer through a buffer.
use Rattle.std.specs.Prelude.{◌≡◌, ℕ, List, ◌++◌, take, Option, Result, MatchResult}
use Rattle.std.specs.Io.KnownBytes.{Appends}
use Rattle.html_device.specs.declared.device.DeviceFault.{DeviceFault}
use Rattle.html_device.specs.declared.output.Output.{Output}

-- the bytes that are kept
abbrev pub held : Output → List ℕ
held o = take o.len o.bytes

-- A writer took some bytes: those that were kept before, and then `bytes`, are these and the bytes `left`.
pub record Moves (old : Option (List ℕ)) (kept : List ℕ) (new : Option (List ℕ)) (left bytes : List ℕ) : Type 0 where
  pub moved : List ℕ
  pub taken : Appends old new moved
  pub split : kept ++ bytes ≡ moved ++ left

-- a writer took a front of the bytes that were kept, and then `bytes`
abbrev pub MovesFront : Option (List ℕ) → List ℕ → Option (List ℕ) → List ℕ → Type 0
MovesFront old kept new bytes = (left : List ℕ) × Moves old kept new left bytes

-- the bytes were put; after a fault of the writer it took a front
abbrev pub Puts : Option (List ℕ) → List ℕ → Option (List ℕ) → List ℕ → Result (Unit {0}) DeviceFault → List ℕ → Type 0
Puts old kept new left r bytes = MatchResult r (λ _. Moves old kept new left bytes) (λ _. MovesFront old kept new bytes)
