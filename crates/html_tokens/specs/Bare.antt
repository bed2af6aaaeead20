-- Claimed.
-- Tags without attributes, as they are spelled.
use Rattle.std.specs.Prelude.{◌≡◌, ℕ, Bool, true, false, ◌||◌, List, [], ◌∷◌, ◌++◌}
use Rattle.std.specs.List.{list_all}
use Rattle.html_tokens.specs.Tag.{between}

-- a tag by its name
pub record Bare : Type 0 where
  pub is_end : Bool
  pub name : List ℕ

-- a small ASCII letter, or a digit
abbrev pub is_bare_char : ℕ → Bool
is_bare_char c = between 97 122 c || between 48 57 c

-- The name is of these, and begins with a letter.
pub record IsBareName (name : List ℕ) : Type 0 where
  pub first : ℕ
  pub rest : List ℕ
  pub split : name ≡ first ∷ rest
  pub letter : between 97 122 first ≡ true
  pub all : list_all is_bare_char name ≡ true

-- `<`, or `</`
abbrev pub opening : Bool → List ℕ
opening false = 60 ∷ []
opening true = 60 ∷ 47 ∷ []

-- `<name>`, or `</name>`
abbrev pub spelling : Bare → List ℕ
spelling tag = opening tag.is_end ++ (tag.name ++ 62 ∷ [])
