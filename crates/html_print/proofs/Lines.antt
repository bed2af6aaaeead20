-- What reached a writer, from what writing says.
use Rattle.std.proofs.Common.{◌≡◌, ◌⊎◌, inl, inr, ℕ, Bool, true, List, Option}
use Rattle.std.specs.Prelude.{Result, Ok, Err, OnOk, OnErr}
use Rattle.std.specs.Io.KnownBytes.{Appends}
use Rattle.html_device.specs.Device.{AppendsFront}
use Rattle.html_device.specs.declared.device.DeviceFault.{DeviceFault}
use Rattle.html_print.specs.Told.{IsTold}

pub told : (old new : Option (List ℕ)) (failed stalled : Bool) (line : List ℕ) (r : Result (Unit {0}) DeviceFault)
    → OnOk r (Appends old new line) → OnErr r (AppendsFront old new line) → OnErr r ((failed ≡ true) ⊎ (stalled ≡ true)) → IsTold old new failed stalled line
told old new failed stalled line (Ok u) a f d = inl a
told old new failed stalled line (Err e) a f d = inr (f, d)
