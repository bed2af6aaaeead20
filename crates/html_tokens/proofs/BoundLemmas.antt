-- A step keeps the bounds.
use Rattle.std.proofs.Common.{◌≡◌, ℕ, ◌+◌, ◌*◌, ◌≤◌, ◌<◌, length, refl, arith}
use Rattle.std.proofs.Math.Nat.{add-mul, mul-add}
use Rattle.std.proofs.lemmas.Nat.{mul-le}
use Rattle.html_tokens.specs.Bounds.{Bounded, Told, IsWithin, due, searches, attr_count}
use Rattle.html_tokens.specs.declared.faults.Faults.{Faults}
use Rattle.html_tokens.specs.declared.tag.TagDraft.{TagDraft}
use Rattle.html_tokens.specs.Fed.{BeginsTag, EndsTag, BeginsDoctype, GivesChars, Passes}
use Rattle.std.proofs.Common.{Option, Some, None}
use Rattle.html_tokens.specs.Bounds.{IsBounded}
use Rattle.html_tokens.specs.declared.machine.Machine.{Machine}
use Rattle.html_tokens.specs.declared.machine.Progress.{Progress}
use Rattle.html_tokens.specs.declared.token.Region.{Region}
use Rattle.html_tokens.specs.declared.token.Region.TheVariants.{Plain}
use Rattle.std.proofs.Common.{Bool, true, false, cond, Result, Ok, Err}
use Rattle.std.specs.Result.{IfOk, OnOk}
use Rattle.html_tokens.specs.declared.machine.State.{State}
use Rattle.html_tokens.specs.declared.machine.State.TheVariants.{Text, Second, Comment, Doctype, Tag}
use Rattle.html_tokens.specs.declared.comment.CommentDraft.{CommentDraft}

square_more : (p n : ℕ) → p * p + p ≤ (p + n) * (p + n) + (p + n)
square_more p n = omega arith

pub square_on : (p n : ℕ) → p * p + p + n ≤ (p + n) * (p + n) + (p + n)
square_on p n = let f : p * p ≤ (p + n) * (p + n) = mul-le p p (p + n) (p + n) (omega arith) (omega arith) in omega arith

square_one : (p : ℕ) → (p + 1) * (p + 1) ≡ p * p + p + (p + 1)
square_one p = simp (add-mul, mul-add) (omega arith)

square_next : (p n : ℕ) → 0 < n → p * p + p + (p + n) ≤ (p + n) * (p + n) + (p + n)
square_next p n h =
    let e = square_one p in
    let f : (p + 1) * (p + 1) ≤ (p + n) * (p + n) = mul-le (p + 1) (p + 1) (p + n) (p + n) (omega arith) (omega arith) in
    omega arith

-- a step to a state that is no tag
pub to_text : (s s' : State) (p p' n k : ℕ) (f f' : Faults) → Bounded s p f → Told k 0 f f' → p' ≡ p + n → k + due s' ≤ due s + 8 * n → searches s' p' ≡ 0 → attr_count s' ≡ 0 → Bounded s' p' f'
to_text s s' p p' n k f f' b t e d z a =
    let m : p * p + p ≤ p' * p' + p' = rw e (square_more p n) in
    let u = b.told in let v = b.compared in let t0 = t.0 in let t1 = t.1 in
    record { told = omega arith; compared = omega arith; attrs = omega arith }

-- a tag begins
pub to_tag : (s : State) (d : TagDraft) (p p' n k : ℕ) (f f' : Faults) → Bounded s p f → Told k 0 f f' → p' ≡ p + n → 0 < n → k + 15 ≤ due s + 8 * n → length d.attrs ≡ 0 → Bounded (Tag d) p' f'
to_tag s d p p' n k f f' b t e h g a =
    let m : p * p + p + p' ≤ p' * p' + p' = rw e (square_next p n h) in
    let u = b.told in let v = b.compared in let t0 = t.0 in let t1 = t.1 in
    record { told = omega arith; compared = omega arith; attrs = omega arith }

-- a tag goes on
pub tag_on : (d d' : TagDraft) (p p' n k : ℕ) (f f' : Faults) → Bounded (Tag d) p f → Told k (length d.attrs) f f' → p' ≡ p + n → 0 < n → k ≤ 8 → length d'.attrs ≤ length d.attrs + 1 → Bounded (Tag d') p' f'
tag_on d d' p p' n k f f' b t e h g a =
    let m : p * p + p + p' ≤ p' * p' + p' = rw e (square_next p n h) in
    let u = b.told in let v = b.compared in let w = b.attrs in let t0 = t.0 in let t1 = t.1 in
    record { told = omega arith; compared = omega arith; attrs = omega arith }

-- a tag ends
pub tag_off : (d : TagDraft) (s' : State) (p p' n k : ℕ) (f f' : Faults) → Bounded (Tag d) p f → Told k (length d.attrs) f f' → p' ≡ p + n → k + due s' ≤ 15 + 8 * n → searches s' p' ≡ 0 → attr_count s' ≡ 0 → Bounded s' p' f'
tag_off d s' p p' n k f f' b t e g z a =
    let m : p * p + p ≤ p' * p' + p' = rw e (square_more p n) in
    let u = b.told in let v = b.compared in let w = b.attrs in let t0 = t.0 in let t1 = t.1 in
    record { told = omega arith; compared = omega arith; attrs = omega arith }

-- a step in a tag is refused
pub tag_fails : (d : TagDraft) (p p' n k : ℕ) (f f' : Faults) → Bounded (Tag d) p f → Told k (length d.attrs) f f' → p' ≡ p + n → k ≤ 15 → IsWithin p' f'
tag_fails d p p' n k f f' b t e g =
    let m : p * p + p ≤ p' * p' + p' = rw e (square_more p n) in
    let u = b.told in let v = b.compared in let w = b.attrs in let t0 = t.0 in let t1 = t.1 in
    (omega arith, omega arith)

-- a step is refused and nothing was told
pub fails : (s : State) (p : ℕ) (f : Faults) → Bounded s p f → IsWithin p f
fails s p f b = let u = b.told in let v = b.compared in (omega arith, omega arith)

pub told_sum : (a b m : ℕ) (f g h : Faults) → Told a m f g → Told b 0 g h → Told (a + b) m f h
told_sum a b m f g h s t = let s0 = s.0 in let s1 = s.1 in let t0 = t.0 in let t1 = t.1 in (omega arith, omega arith)

pub tag_begun : (old new : Machine) (region : Region) (is_end : Bool) (opened k : ℕ) (f f' : Faults) → old.state ≡ Text region → BeginsTag old is_end opened new → Told k 0 f f' → 0 < opened → k ≤ 1 → IsBounded old f → IsBounded new f'
tag_begun old new region is_end opened k f f' s (d, n, p) t h g b =
    rw p.state (to_tag (Text region) d old.place new.place opened k f f' (rw s at b) t p.place h (omega arith) (rw n.3 refl))

pub doctype_begun : (old new : Machine) (region : Region) (k : ℕ) (f f' : Faults) → old.state ≡ Text region → BeginsDoctype old new → Told k 0 f f' → k ≤ 1 → IsBounded old f → IsBounded new f'
doctype_begun old new region k f f' s (d, n, p) t g b =
    rw p.state (to_text (Text region) (Doctype d) old.place new.place 9 k f f' (rw s at b) t p.place (omega arith) refl refl)

-- what closes a tag has a code point or two
pub closing_some : (self_closing : Bool) (n : ℕ) → n ≡ cond self_closing 2 1 → 0 < n
closing_some true n e = omega arith
closing_some false n e = omega arith

pub tag_closed : {E : Type 0} (r : Result Progress E) (old new : Machine) (d d' : TagDraft) (self_closing : Bool) (n : ℕ) (f f' : Faults) → old.state ≡ Tag d → IfOk r (λ progress. EndsTag (record old { state = Tag d' }) self_closing n progress new) → new.place ≡ old.place + n →
    0 < n → Told 8 (length d.attrs) f f' → IsBounded old f → OnOk r (IsBounded new f')
tag_closed (Ok progress) old new d d' self_closing n f f' s ends e h t b =
    let at_end = ends d' refl in
    rw at_end.state (tag_off d (Text Plain) old.place new.place n 8 f f' (rw s at b) t e (omega arith) refl refl)
tag_closed (Err error) old new d d' self_closing n f f' s ends e h t b = tt

pub plain_bounded : (old new : Machine) (f f' : Faults) → old.state ≡ Text Plain → Passes old 1 (Text Plain) new → Told 2 0 f f' → IsBounded old f → IsBounded new f'
plain_bounded old new f f' s p t b = rw p.state (to_text (Text Plain) (Text Plain) old.place new.place 1 2 f f' (rw s at b) t p.place (omega arith) refl refl)

-- a front of the rest is copied, which tells nothing
pub tag_copied : (old new : Machine) (d d' : TagDraft) (n : ℕ) (f : Faults) → old.state ≡ Tag d → Passes (record old { state = Tag d' }) n (Tag d') new → d'.attrs ≡ d.attrs → IsBounded old f → IsBounded new f
tag_copied old new d d' n f s p a b =
    let m : old.place * old.place + old.place + n ≤ (old.place + n) * (old.place + n) + (old.place + n) = square_on old.place n in
    let c = rw s at b in
    rw (p.state, p.place) (let u = c.told in let v = c.compared in let w = c.attrs in record { told = omega arith; compared = omega arith; attrs = rw a (omega arith) })

pub comment_copied : (old new : Machine) (d d' : CommentDraft) (n : ℕ) (f : Faults) → old.state ≡ Comment d → Passes (record old { state = Comment d' }) n (Comment d') new → IsBounded old f → IsBounded new f
comment_copied old new d d' n f s p b = rw p.state (to_text (Comment d) (Comment d') old.place new.place n 0 f f (rw s at b) (omega arith, omega arith) p.place (omega arith) refl refl)

-- plain text is taken, which tells nothing
pub run_bounded : (old new : Machine) (n : ℕ) (f : Faults) → old.state ≡ Text Plain → Passes old n old.state new → IsBounded old f → IsBounded new f
run_bounded old new n f s p b = rw (p.state, s) (to_text (Text Plain) (Text Plain) old.place new.place n 0 f f (rw s at b) (omega arith, omega arith) p.place (omega arith) refl refl)

-- the code points of a reference are given
pub chars_bounded : (old new : Machine) (region : Region) (len first : ℕ) (second : Option ℕ) (progress : Progress) (f f' : Faults) → old.state ≡ Text region → GivesChars old len first second progress new → Told 1 0 f f' → 0 < len → IsBounded old f → IsBounded new f'
chars_bounded old new region len first None progress f f' s (g, p) t h b = rw p.state (to_text (Text region) (Text Plain) old.place new.place len 1 f f' (rw s at b) t p.place (omega arith) refl refl)
chars_bounded old new region len first (Some c) progress f f' s (g, p) t h b = rw p.state (to_text (Text region) (Second c (old.place + 1)) old.place new.place len 1 f f' (rw s at b) t p.place (omega arith) refl refl)
