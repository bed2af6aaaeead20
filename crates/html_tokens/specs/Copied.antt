-- For this crate's own functions.
-- Code points that names, values and comments take as they stand: they end nothing, begin nothing, become nothing else and tell no error.
use Rattle.std.specs.Prelude.{◌≡◌, ℕ, ◌+◌, ◌≤◌, List, [], ◌∷◌, ◌++◌, length, drop, Bool, true, false, not, ◌||◌, ◌==◌, Some}
use Rattle.std.specs.List.{slice_get}
use Rattle.html_tokens.specs.AttrNames.{names_in}
use Rattle.html_tokens.specs.Cut.{Cut, ends_unquoted}
use Rattle.html_tokens.specs.Draft.{draft_cut}
use Rattle.html_tokens.specs.Inside.{comment_errors}
use Rattle.html_tokens.specs.InsideTags.{part_errors}
use Rattle.html_tokens.specs.Tag.{between, ends_attr, draft_tag, tag_by}
use Rattle.html_charref.specs.declared.table.Row.{Row}
use Rattle.html_tokens.specs.declared.comment.CommentDraft.{CommentDraft}
use Rattle.html_tokens.specs.declared.comment.CommentKind.{CommentKind}
use Rattle.html_tokens.specs.declared.comment.CommentKind.TheVariants as comments
use Rattle.html_tokens.specs.declared.tag.TagDraft.{TagDraft}
use Rattle.html_tokens.specs.declared.tag.ValueEnd.{ValueEnd}
use Rattle.html_tokens.specs.declared.tag.ValueEnd.TheVariants as ends
use Rattle.html_tokens.specs.declared.copied.Copied.{Copied}
use Rattle.html_tokens.specs.declared.copied.Copied.TheVariants.{Name, DoubleQuoted, SingleQuoted, Unquoted, Comment, Bogus}

-- each code point passes
abbrev pub AllPass : (ℕ → Bool) → List ℕ → Type 0
AllPass p [] = Unit {0}
AllPass p (c ∷ cs) = (p c ≡ true) × AllPass p cs

-- the code point after so many, if there is one, does not pass
abbrev pub EndsAt : (ℕ → Bool) → List ℕ → ℕ → Type 0
EndsAt p text n = (c : ℕ) → slice_get text n ≡ Some c → p c ≡ false

-- neither U+0000 nor one of these two
abbrev pub is_without : ℕ → ℕ → ℕ → Bool
is_without first second c = not (c == 0 || (c == first || c == second))

abbrev pub is_copied : Copied → ℕ → Bool
is_copied Name c = not (ends_attr c || (c == 0 || (c == 34 || (c == 39 || (c == 60 || between 65 90 c)))))
is_copied DoubleQuoted c = not (c == 0 || (c == 34 || c == 38))
is_copied SingleQuoted c = not (c == 0 || (c == 39 || c == 38))
is_copied Unquoted c = not (ends_unquoted c || (c == 0 || (c == 34 || (c == 39 || (c == 38 || (c == 60 || (c == 61 || c == 96)))))))
is_copied Comment c = not (c == 0 || (c == 45 || c == 60))
is_copied Bogus c = not (c == 0 || c == 62)

-- what a value takes that closes so
abbrev pub copied_in : ValueEnd → Copied
copied_in ends.DoubleQuote = DoubleQuoted
copied_in ends.SingleQuote = SingleQuoted
copied_in ends.Space = Unquoted

-- So many code points of a text are copied in a tag, which comes to the same.
abbrev pub CopiesTag : TagDraft → List ℕ → ℕ → TagDraft → Type 0
CopiesTag old text n new =
    ((rows : List Row) (more : List ℕ) → draft_tag rows old (text ++ more) ≡ tag_by n (draft_tag rows new (drop n text ++ more)))
    × (n ≤ length text) × (new.start ≡ old.start) × (new.is_end ≡ old.is_end)
    × ((rows : List Row) (place : ℕ) (more : List ℕ) → part_errors rows (names_in old) old.part place (text ++ more) ≡ part_errors rows (names_in new) new.part (place + n) (drop n text ++ more))

-- so many code points more
abbrev pub cut_by : ℕ → Cut → Cut
cut_by k after = record { before = after.before; len = k + after.len }

-- what a comment takes of this kind
abbrev pub copied_by : CommentKind → Copied
copied_by comments.Declared = Comment
copied_by comments.Bogus = Bogus

-- the same in a comment
abbrev pub CopiesComment : CommentDraft → List ℕ → ℕ → CommentDraft → Type 0
CopiesComment old text n new =
    ((more : List ℕ) → draft_cut old (text ++ more) ≡ cut_by n (draft_cut new (drop n text ++ more)))
    × (n ≤ length text) × (new.start ≡ old.start)
    × ((place : ℕ) (more : List ℕ) → comment_errors old.kind place (text ++ more) ≡ comment_errors new.kind (place + n) (drop n text ++ more))
