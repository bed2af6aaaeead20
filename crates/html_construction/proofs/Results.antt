-- Facts about results.
use Rattle.std.proofs.Common.{Result, Ok, Err, IfOk}

-- what follows from what an answer is
pub if-ok : {A : Type 0} {E : Type 0} {P : A → Type 0} {Q : A → Type 0} (r : Result A E) → IfOk r P → ((x : A) → P x → Q x) → IfOk r Q
if-ok (Ok x) h f = f x h
if-ok (Err e) h f = h
