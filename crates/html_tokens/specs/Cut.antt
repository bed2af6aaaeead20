-- Claimed.
-- A text is cut at the first place where a mark stands.
use Rattle.std.specs.Prelude.{ℕ, suc, List, [], ◌∷◌, Bool, false, ◌&&◌, ◌||◌, ◌==◌, cond, Option, slice_get, is_none}
use Rattle.std.specs.Prelude.{Some, None}

-- what stands before the mark, and how many code points that and the mark are
pub record Cut : Type 0 where
  pub before : List ℕ
  pub len : ℕ

-- one more code point before the mark
abbrev pub longer : ℕ → Cut → Cut
longer c after = record { before = c ∷ after.before; len = suc after.len }

-- A mark tells the length of what closes, where it stands at the front. The end of the text closes too.
abbrev pub cut_or : Option ℕ → Cut → Cut
cut_or (Some n) longer_cut = record { before = []; len = n }
cut_or None longer_cut = longer_cut

unfoldable pub cut : (List ℕ → Option ℕ) → List ℕ → Cut
cut mark [] = record { before = []; len = 0 }
cut mark (c ∷ rest) = cut_or (mark (c ∷ rest)) (longer c (cut mark rest))

-- the code point is there
abbrev pub is : ℕ → Option ℕ → Bool
is c None = false
is c (Some d) = d == c

-- two code points that close something together
abbrev pub mark_if : Bool → ℕ → Option ℕ → Option ℕ
mark_if stands n other = cond stands (Some n) other

-- `-->` and `--!>` close a comment, and so does what of `--!` stands at the end (HTML 13.2.5.50 to 13.2.5.52, the comment end states).
abbrev pub comment_mark_at : Option ℕ → Option ℕ → Option ℕ → Option ℕ → Option ℕ
comment_mark_at a b c d =
    mark_if (is 45 a && is 45 b && is 62 c) 3
    (mark_if (is 45 a && is 45 b && is 33 c && is 62 d) 4
    (mark_if (is 45 a && is_none b) 1
    (mark_if (is 45 a && is 45 b && is_none c) 2
    (mark_if (is 45 a && is 45 b && is 33 c && is_none d) 3 None))))

abbrev pub comment_mark : List ℕ → Option ℕ
comment_mark text = comment_mark_at (slice_get text 0) (slice_get text 1) (slice_get text 2) (slice_get text 3)

-- `>` closes a bogus comment (HTML 13.2.5.41).
abbrev pub greater_mark : List ℕ → Option ℕ
greater_mark text = mark_if (is 62 (slice_get text 0)) 1 None

-- `]]>` closes a section (HTML 13.2.5.69 to 13.2.5.71).
abbrev pub section_mark : List ℕ → Option ℕ
section_mark text = mark_if (is 93 (slice_get text 0) && is 93 (slice_get text 1) && is 62 (slice_get text 2)) 3 None

-- U+0000 becomes U+FFFD (HTML 13.2.5.3 and on).
abbrev pub null_replaced : ℕ → ℕ
null_replaced c = cond (c == 0) 65533 c

-- the code point is there, and of this kind
abbrev pub passes : (ℕ → Bool) → Option ℕ → Bool
passes p None = false
passes p (Some c) = p c

-- a code point of this kind stands at the front, and is no part of what stands before it
abbrev pub stop_mark : (ℕ → Bool) → List ℕ → Option ℕ
stop_mark p text = mark_if (passes p (slice_get text 0)) 0 None

abbrev pub is_space : ℕ → Bool
is_space c = c == 9 || c == 10 || c == 12 || c == 32

abbrev pub ends_unquoted : ℕ → Bool
ends_unquoted c = is_space c || c == 62

abbrev pub quote_mark : ℕ → List ℕ → Option ℕ
quote_mark quote text = mark_if (is quote (slice_get text 0)) 1 None
