-- For this crate's own functions.
-- How the attributes of a tag are looked for: among the first few, else by their names; and how many comparisons that counts.
use Rattle.std.specs.Prelude.{◌≡◌, ℕ, suc, List, [], ◌∷◌, cond, take, true, false, ◌||◌, String, Some, is_some}
use Rattle.std.specs.BTreeMap.{BTreeMap, get_by_text}
use Rattle.std.specs.List.{list_any}
use Rattle.std.specs.Str.{bytes_eq, chars, encode_utf8_all}
use Rattle.html_tokens.specs.declared.attributes.Attr.{Attr}

-- with how many attributes a new name is compared: with all up to the first of that name, with each where there is none
unfoldable pub comparisons : List ℕ → List Attr → ℕ
comparisons name [] = 0
comparisons name (a ∷ more) = cond (bytes_eq a.name name) 1 (suc (comparisons name more))

abbrev pub few : ℕ
few = 16

-- a name that is there is one of the first few or has a place
abbrev pub AreFound : {Y : Type 0} → List Attr → BTreeMap (String Y) ℕ → Type 0
AreFound attrs places = (name : List ℕ) → list_any (λ a. bytes_eq a.name name) attrs ≡ true → (list_any (λ a. bytes_eq a.name name) (take few attrs) || is_some (get_by_text places (encode_utf8_all name))) ≡ true

-- where a name that is there has a place, and is none of the first few, that is the place of the first attribute of that name
abbrev pub AreFirst : {Y : Type 0} → List Attr → BTreeMap (String Y) ℕ → Type 0
AreFirst attrs places = (name : List ℕ) (place : ℕ) → chars (encode_utf8_all name) ≡ name → get_by_text places (encode_utf8_all name) ≡ Some place
    → list_any (λ a. bytes_eq a.name name) attrs ≡ true → list_any (λ a. bytes_eq a.name name) (take few attrs) ≡ false → comparisons name attrs ≡ suc place
