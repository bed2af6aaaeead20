-- Why a node or code points are refused.
use Rattle.std.proofs.Common.{◌≡◌, false, refl}
use Rattle.std.specs.Prelude.{Result, Ok, Err, OnOk}
use Rattle.std.specs.Result.{is_err}
use Rattle.html_arena.specs.declared.arena.ArenaError.{ArenaError}
use Rattle.html_arena.specs.declared.arena.ArenaError.TheVariants.{OutOfMemory}
use Rattle.html_arena.specs.Budget.{RefusedBy}

-- by the budget
pub refused_by_budget : (b : Result (Unit {0}) ArenaError) (e : ArenaError) → b ≡ Err e → RefusedBy b e
refused_by_budget b e h = rw h refl

-- for want of memory, within the budget
pub refused_by_memory : (b : Result (Unit {0}) ArenaError) (e : ArenaError) → b ≡ Ok tt → e ≡ OutOfMemory → RefusedBy b e
refused_by_memory b e h m = rw h m

-- what holds of a call that was not refused
pub unrefused : {T E P : Type 0} (r : Result T E) → is_err r ≡ false → OnOk r P → P
unrefused (Ok x) e p = p
unrefused (Err x) e p = absurd cc
