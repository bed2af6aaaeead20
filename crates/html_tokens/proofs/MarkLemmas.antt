-- A name that is spelled code point by code point.
use Rattle.std.proofs.Common.{◌≡◌, ℕ, ◌+◌, ◌<◌, ◌≤◌, List, length, drop, get_or, Option, Some, None, true, false, refl, add-one, drop-cons}
use Rattle.std.specs.List.{slice_get}
use Rattle.std.specs.Option.{IfSome}
use Rattle.std.proofs.lemmas.Bool.{false≢true}
use Rattle.std.proofs.Math.ListN.{drop_of_length-le}
use Rattle.html_tokens.specs.Cut.{passes}
use Rattle.html_tokens.specs.Tag.{ends_name}
use Rattle.html_tokens.specs.Marks.{spells, is_lowered}

-- the name goes on
pub spells_on : (name : List ℕ) (i at e : ℕ) (found : Option ℕ) (text : List ℕ) → i < length name → e ≡ get_or name i e → slice_get text at ≡ found → is_lowered e found ≡ true →
    spells (drop i name) at text ≡ spells (drop (i + 1) name) (at + 1) text
spells_on name i at e found text h is s t = rw (add-one i, drop-cons name i e h, ← is, s, t) refl

-- the name goes on otherwise
pub spells_off : (name : List ℕ) (i at e : ℕ) (found : Option ℕ) (text : List ℕ) → i < length name → e ≡ get_or name i e → slice_get text at ≡ found → is_lowered e found ≡ false →
    spells (drop i name) at text ≡ false
spells_off name i at e found text h is s f = rw (drop-cons name i e h, ← is, s, f) refl

-- the name is whole
pub spells_end : (name : List ℕ) (i at : ℕ) (text : List ℕ) → length name ≤ i → spells (drop i name) at text ≡ passes ends_name (slice_get text at)
spells_end name i at text h = rw (drop_of_length-le name h) refl

pub lowered_there : (e k n : ℕ) (found : Option ℕ) → IfSome found (λ _. k < n) → is_lowered e found ≡ true → k < n
lowered_there e k n None h t = absurd (false≢true t)
lowered_there e k n (Some d) h t = h
