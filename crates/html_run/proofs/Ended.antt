-- Where a parser was fed and ended, also where it was refused what it was fed: the first refusal is told.
use Rattle.std.proofs.Common.{◌≡◌}
use Rattle.std.specs.Prelude.{Result, Ok, Err, OnOk, IfOk, IfErr}
use Rattle.std.specs.Result.{result_and}
use Rattle.html_parser.specs.declared.error.ParseError.{ParseError}

pub ended-ok : {T : Type 0} (fed : Result (Unit {0}) ParseError) (end : Result T ParseError) (F : Type 0) (P : T → Type 0) → OnOk fed F → (F → IfOk end P) → IfOk (result_and fed end) P
ended-ok (Ok u) end F P f h = h f
ended-ok (Err e) end F P f h = tt

pub ended-err : {T : Type 0} (fed : Result (Unit {0}) ParseError) (end : Result T ParseError) (F G : Type 0) (P : ParseError → Type 0)
    → IfErr fed P → OnOk fed F → OnOk fed G → (F → G → IfErr end P) → IfErr (result_and fed end) P
ended-err (Ok u) end F G P e f g h = h f g
ended-err (Err x) end F G P e f g h = e

pub ended-on : {T : Type 0} (fed : Result (Unit {0}) ParseError) (end : Result T ParseError) (Q : Type 0) → OnOk fed Q → OnOk (result_and fed end) Q
ended-on (Ok u) (Ok x) Q q = q
ended-on (Ok u) (Err e) Q q = tt
ended-on (Err e) end Q q = tt

-- the refusal of what it was fed is the one that is told
pub ended-as : {T : Type 0} (fed : Result (Unit {0}) ParseError) (end : Result T ParseError) (e : ParseError) → fed ≡ Err e → result_and fed end ≡ Err e
ended-as (Ok u) end e is = absurd (let k = is in cc)
ended-as (Err x) end e is = (let k = is in cc)
