-- What the code points and the end of a comment tell.
use Rattle.std.proofs.Common.{◌≡◌, ℕ, ◌+◌, ◌<◌, List, [], ◌∷◌, ◌++◌, length, drop, false, Some, None, refl, inl, inr, arith, add-zero}
use Rattle.html_tokens.specs.Draft.{mark_of}
use Rattle.html_tokens.specs.Inside.{ClosesComment, comment_char_errors, comment_end_errors, comment_errors, comment_told, is_closed, kind_errors}
use Rattle.html_tokens.specs.declared.comment.CommentKind.{CommentKind}
use Rattle.html_tokens.specs.declared.comment.CommentKind.TheVariants.{Declared, Bogus}

-- a code point more belongs to the comment
pub more_errors : (kind : CommentKind) (place c : ℕ) (rest : List ℕ) → mark_of kind (c ∷ rest) ≡ None → comment_errors kind place (c ∷ rest) ≡ comment_char_errors kind place (c ∷ rest) ++ comment_errors kind (place + 1) rest
unfolding comment_errors
more_errors kind place c rest e = rw e refl

more_told : (kind : CommentKind) (place c : ℕ) (rest : List ℕ) → mark_of kind (c ∷ rest) ≡ None → comment_told kind place (c ∷ rest) ≡ comment_char_errors kind place (c ∷ rest)
more_told kind place c rest e = rw e refl

pub comment_goes : (kind : CommentKind) (place : ℕ) (text : List ℕ) → mark_of kind text ≡ None → 0 < length text →
    (comment_errors kind place text ≡ comment_told kind place text ++ comment_errors kind (place + 1) (drop 1 text)) × (comment_told kind place text ≡ comment_char_errors kind place text)
comment_goes kind place [] e h = absurd (omega arith)
comment_goes kind place (c ∷ rest) e h = let told = more_told kind place c rest e in (rw told (more_errors kind place c rest e), told)

-- what closes it is told at once
close_errors : (kind : CommentKind) (place n c : ℕ) (rest : List ℕ) → mark_of kind (c ∷ rest) ≡ Some n → comment_errors kind place (c ∷ rest) ≡ kind_errors kind (is_closed n (c ∷ rest)) n place
unfolding comment_errors
close_errors kind place n c rest e = rw e refl

close_told : (kind : CommentKind) (place n c : ℕ) (rest : List ℕ) → mark_of kind (c ∷ rest) ≡ Some n → comment_told kind place (c ∷ rest) ≡ kind_errors kind (is_closed n (c ∷ rest)) n place
close_told kind place n c rest e = rw e refl

end_errors : (kind : CommentKind) (place : ℕ) → comment_errors kind place [] ≡ comment_end_errors kind place
unfolding comment_errors
end_errors kind place = refl

end_kind : (kind : CommentKind) (place : ℕ) → comment_end_errors kind place ≡ kind_errors kind false 0 place
end_kind Bogus place = refl
end_kind Declared place = rw add-zero refl

pub comment_ends : (kind : CommentKind) (place n : ℕ) (text : List ℕ) → ClosesComment kind text n →
    (comment_errors kind place text ≡ kind_errors kind (is_closed n text) n place) × (comment_told kind place text ≡ kind_errors kind (is_closed n text) n place)
comment_ends kind place n [] (inl (e, h)) = absurd (omega arith)
comment_ends kind place n (c ∷ rest) (inl (e, h)) = (close_errors kind place n c rest e, close_told kind place n c rest e)
comment_ends kind place n text (inr (e, z)) = rw (e, z) (rw (end_errors kind place) (end_kind kind place), end_kind kind place)
