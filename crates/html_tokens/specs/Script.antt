-- Claimed.
-- Where script text ends, over the whole of it: by the first mark of each region (HTML 13.2.5.4, 13.2.5.15 to 13.2.5.31).
use Rattle.std.specs.Prelude.{◌≡◌, ℕ, zero, suc, ◌+◌, List, [], ◌∷◌, take, drop, Bool, ◌||◌, cond, Option, Some, None, option_map, IfSome}
use Rattle.html_tokens.specs.Marks.{declares, leaves, opens_script, closes_script, is_end_mark}
use Rattle.html_tokens.specs.declared.token.Region.{Region}
use Rattle.html_tokens.specs.declared.token.Region.TheVariants.{Plain, Escaped, Double}

-- the first place of a text where this stands, if it stands anywhere
unfoldable pub first_place : (List ℕ → Bool) → List ℕ → Option ℕ
first_place stands [] = None
first_place stands (c ∷ rest) = cond (stands (c ∷ rest)) (Some 0) (option_map suc (first_place stands rest))

-- The marks of a region: in plain text `<!--` and the end mark; in escaped text `-->`, `<script` and a stop, and the end mark; in doubly
-- escaped text `-->`, and `</script` and a stop.
abbrev pub is_mark : Region → Option (List ℕ) → List ℕ → Bool
is_mark Plain name text = declares text || is_end_mark name text
is_mark Escaped name text = leaves text || (opens_script text || is_end_mark name text)
is_mark Double name text = leaves text || closes_script text

-- a region, and how many code points from the front of a mark on it begins
pub record Turn : Type 0 where
  pub region : Region
  pub from : ℕ

abbrev pub turn : Region → ℕ → Option Turn
turn region from = Some (record { region = region; from = from })

-- The region that the mark at the front turns to; the end mark turns to none. The dashes of `<!--` count for `-->`, and a stop belongs to what
-- follows it.
abbrev pub turn_at : Region → List ℕ → Option Turn
turn_at Plain text = cond (declares text) (turn Escaped 2) None
turn_at Escaped text = cond (leaves text) (turn Plain 3) (cond (opens_script text) (turn Double 7) None)
turn_at Double text = cond (leaves text) (turn Plain 3) (cond (closes_script text) (turn Escaped 8) None)

-- The first mark of the region stands here, and turns so.
pub record TurnsAt (region : Region) (name : Option (List ℕ)) (text : List ℕ) (at : ℕ) (t : Turn) : Type 0 where
  pub first : first_place (is_mark region name) text ≡ Some at
  pub turns : turn_at region (drop at text) ≡ Some t

-- so many code points later
abbrev pub later_by : ℕ → Option ℕ → Option ℕ
later_by n end = option_map (λ k. n + k) end

-- Script text that goes on in a region ends here, after so many turns: at the first mark, where that is the end mark, nowhere where there is no
-- mark, and else where the text ends that the mark turns to.
abbrev pub EndsAfter : ℕ → Region → Option (List ℕ) → List ℕ → Option ℕ → Type 0
EndsAfter zero region name text end = (first_place (is_mark region name) text ≡ end) × IfSome end (λ at. turn_at region (drop at text) ≡ None)
EndsAfter (suc n) region name text end =
    (at : ℕ) × ((t : Turn) × ((later : Option ℕ) × (TurnsAt region name text at t × (EndsAfter n t.region name (drop (at + t.from) text) later × (end ≡ later_by (at + t.from) later)))))

-- The place of the end mark that ends script text in a region, or none.
abbrev pub IsScriptEnd : Region → Option (List ℕ) → List ℕ → Option ℕ → Type 0
IsScriptEnd region name text end = (turns : ℕ) × EndsAfter turns region name text end

-- the text before a place, or all of it
abbrev pub before_end : Option ℕ → List ℕ → List ℕ
before_end None text = text
before_end (Some at) text = take at text
