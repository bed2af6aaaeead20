-- Claimed, but for this crate's own functions: IsKeyTold.
-- What reached the writer to which a line was told.
use Rattle.std.specs.Prelude.{◌≡◌, ◌⊎◌, ℕ, Bool, true, List, Option}
use Rattle.std.specs.Io.KnownBytes.{Appends}
use Rattle.std.specs.Str.{encode_utf8_all}
use Rattle.html_charref.specs.declared.read.EntityError.{EntityError}
use Rattle.html_charref.specs.declared.read.EntityError.TheVariants.{OutOfMemory}
use Rattle.html_device.specs.Device.{AppendsFront}
use Rattle.html_print.specs.Outcome.{key_line, table_line_of}

-- all of the line, no more and no less; or a front of it, where the writer failed or took no bytes
abbrev pub IsTold : Option (List ℕ) → Option (List ℕ) → Bool → Bool → List ℕ → Type 0
IsTold old new failed stalled line = Appends old new line ⊎ (AppendsFront old new line × ((failed ≡ true) ⊎ (stalled ≡ true)))

-- the line of a fault of a table, or that there was no memory for it
abbrev pub IsTableTold : Option (List ℕ) → Option (List ℕ) → Bool → Bool → EntityError → Type 0
IsTableTold old new failed stalled e = IsTold old new failed stalled (table_line_of e) ⊎ IsTold old new failed stalled (table_line_of OutOfMemory)

-- the line of a key that breaks a rule, or that there was no memory for it
abbrev pub IsKeyTold : Option (List ℕ) → Option (List ℕ) → Bool → Bool → List ℕ → List ℕ → Type 0
IsKeyTold old new failed stalled rule key =
    IsTold old new failed stalled (key_line rule (encode_utf8_all key)) ⊎ IsTold old new failed stalled (table_line_of OutOfMemory)
