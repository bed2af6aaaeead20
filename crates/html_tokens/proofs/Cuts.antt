use Rattle.std.proofs.Common.{◌≡◌, ℕ, ◌+◌, ◌<◌, List, [], ◌∷◌, ◌++◌, length, drop, Option, Some, None, refl, append-nil, append_assoc, arith, length-append}
use Rattle.std.specs.List.{slice_get}
use Rattle.html_tokens.specs.Cut.{cut, longer, null_replaced}
use Rattle.html_tokens.specs.Draft.{draft_cut, mark_of, passed}
use Rattle.html_tokens.specs.declared.comment.CommentDraft.{CommentDraft}

pub cut_closed : (mark : List ℕ → Option ℕ) (text : List ℕ) (n : ℕ) → mark text ≡ Some n → 0 < length text → cut mark text ≡ record { before = []; len = n }
unfolding cut
cut_closed mark [] n e h = absurd (omega arith)
cut_closed mark (c ∷ rest) n e h = rw e refl

pub cut_longer : (mark : List ℕ → Option ℕ) (c : ℕ) (rest : List ℕ) → mark (c ∷ rest) ≡ None → cut mark (c ∷ rest) ≡ longer c (cut mark rest)
unfolding cut
cut_longer mark c rest e = rw e refl

pub cut_none : (mark : List ℕ → Option ℕ) → cut mark [] ≡ record { before = []; len = 0 }
unfolding cut
cut_none mark = refl

pub closed_draft : (draft : CommentDraft) (text : List ℕ) (n : ℕ) → mark_of draft.kind text ≡ Some n → 0 < length text → draft_cut draft text ≡ record { before = draft.«data»; len = n }
closed_draft draft text n e h = rw (cut_closed (mark_of draft.kind) text n e h, append-nil draft.«data») refl

pub ended_draft : (draft : CommentDraft) → draft_cut draft [] ≡ record { before = draft.«data»; len = 0 }
ended_draft draft = rw (cut_none (mark_of draft.kind), append-nil draft.«data») refl

pub longer_draft : (draft : CommentDraft) (c : ℕ) (rest : List ℕ) → mark_of draft.kind (c ∷ rest) ≡ None →
    draft_cut draft (c ∷ rest) ≡ passed (draft_cut (record draft { «data» = draft.«data» ++ null_replaced c ∷ [] }) rest)
longer_draft draft c rest e = rw (cut_longer (mark_of draft.kind) c rest e, append_assoc) refl

pub empty_rest : (text : List ℕ) → slice_get text 0 ≡ None → text ≡ []
empty_rest [] e = refl
empty_rest (c ∷ rest) e = cc

pub not_empty : (items more : List ℕ) → 0 < length items → 0 < length (items ++ more)
not_empty items more h = omega (arith, length-append items more)

pub longer_read : (draft : CommentDraft) (items items' more new : List ℕ) (c d : ℕ) → mark_of draft.kind (items ++ more) ≡ None → items ≡ c ∷ items' → d ≡ null_replaced c → new ≡ draft.«data» ++ d ∷ [] →
    draft_cut draft (items ++ more) ≡ passed (draft_cut (record draft { «data» = new }) (items' ++ more))
longer_read draft items items' more new c d none e f g =
    let none' = rw e at none in rw (e, g, f) (longer_draft draft c (items' ++ more) none')

pub shorter : (items items' : List ℕ) (c : ℕ) → items ≡ c ∷ items' → length items ≡ length items' + 1
shorter items items' c e = rw e (omega arith)

pub rest_of : (items items' : List ℕ) (c : ℕ) → items ≡ c ∷ items' → items' ≡ drop 1 items
rest_of items items' c e = rw e refl

pub first_of : (items more : List ℕ) (c : ℕ) → slice_get (items ++ more) 0 ≡ Some c → 0 < length items → items ++ more ≡ c ∷ (drop 1 items ++ more)
first_of [] more c e h = absurd (omega arith)
first_of (d ∷ items) more c e h = let f : d ≡ c = cc in rw f refl
