-- Claimed.
-- Fates in a row, equal neighbours once, each with its number.
use Rattle.std.specs.Prelude.{◌-◌, ◌<◌, ◌≢◌, List, [], ◌∷◌, ◌++◌, length, replicate, slice_get, Option}
use Rattle.html_ledger.specs.declared.fate.Fate.{Fate}
use Rattle.html_ledger.specs.declared.runs.Run.{Run}

-- the fates, one for each token
abbrev pub spread : List Run → List Fate
spread [] = []
spread (r ∷ rs) = replicate r.count r.fate ++ spread rs

-- no run is empty
abbrev pub AllFilled : List Run → Type 0
AllFilled [] = Unit {0}
AllFilled (r ∷ rs) = (0 < r.count) × AllFilled rs

-- no two neighbours have one fate
abbrev pub AllApart : List Run → Type 0
AllApart [] = Unit {0}
AllApart (r ∷ []) = Unit {0}
AllApart (r ∷ q ∷ rs) = (r.fate ≢ q.fate) × AllApart (q ∷ rs)

-- the last member, if there is one
abbrev pub last_of : {A : Type 0} → List A → Option A
last_of xs = slice_get xs (length xs - 1)
