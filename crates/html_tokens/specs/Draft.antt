-- Claimed, but for this crate's own functions: Reads.
-- What a comment that is being read comes to.
use Rattle.std.specs.Prelude.{◌≡◌, ℕ, suc, ◌≤◌, ◌<◌, List, ◌++◌, length, map, drop, Option}
use Rattle.html_tokens.specs.Cut.{Cut, cut, comment_mark, greater_mark, null_replaced}
use Rattle.html_tokens.specs.Input.{MayFollow, IsShort}
use Rattle.html_tokens.specs.declared.input.Input.{Input}
use Rattle.html_tokens.specs.declared.comment.CommentKind.{CommentKind}
use Rattle.html_tokens.specs.declared.comment.CommentKind.TheVariants.{Declared, Bogus}
use Rattle.html_tokens.specs.declared.comment.CommentDraft.{CommentDraft}
use Rattle.html_tokens.specs.declared.comment.Reading.{Reading}
use Rattle.html_tokens.specs.declared.comment.Reading.TheVariants.{More, Closed, Wait}

abbrev pub mark_of : CommentKind → List ℕ → Option ℕ
mark_of Declared text = comment_mark text
mark_of Bogus text = greater_mark text

-- the data so far, and what of the rest belongs to it
abbrev pub draft_cut : CommentDraft → List ℕ → Cut
draft_cut draft rest =
    let after = cut (mark_of draft.kind) rest in
    record { before = draft.data ++ map null_replaced after.before; len = after.len }

-- a code point more is passed
abbrev pub passed : Cut → Cut
passed after = record { before = after.before; len = suc after.len }

abbrev pub Reads : CommentDraft → Input → Reading → CommentDraft → Input → Type 0
Reads old input More new input' =
    ((more : List ℕ) → MayFollow input.finished more → draft_cut old (input.queue.items ++ more) ≡ passed (draft_cut new (input'.queue.items ++ more)))
    × (input'.queue.items ≡ drop 1 input.queue.items) × (0 < length input.queue.items) × (new.start ≡ old.start) × (input'.finished ≡ input.finished)
Reads old input (Closed n) new input' =
    ((more : List ℕ) → MayFollow input.finished more → draft_cut old (input.queue.items ++ more) ≡ record { before = new.data; len = n })
    × (n ≤ length input.queue.items) × (input'.queue.items ≡ input.queue.items) × (input'.finished ≡ input.finished) × (new.start ≡ old.start)
Reads old input Wait new input' = (new ≡ old) × (input' ≡ input) × IsShort input 3
