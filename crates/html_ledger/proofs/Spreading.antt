-- Runs of fates: some more at the end.
use Rattle.std.proofs.Common.{ℕ, zero, suc, ◌+◌, ◌-◌, ◌<◌, ◌≤◌, ◌≡◌, List, [], ◌∷◌, ◌++◌, length, refl, sym, ap, subst, ◌∙◌, arith, replicate, drop, get_or, set, length-append, append_assoc}
use Rattle.std.specs.Prelude.{slice_get, Some, ◌≢◌, Result, Ok, Err, OnOk, OnErr}
use Rattle.std.proofs.lemmas.List.{length_push, drop_more, get_or_at, set_at, replicate_more, append-nil, length-replicate, replicate-append-replicate}
use Rattle.std.proofs.lemmas.Option.{slice_get_within}
use Rattle.html_ledger.specs.declared.fate.Fate.{Fate}
use Rattle.html_ledger.specs.declared.runs.Run.{Run}
use Rattle.html_ledger.specs.Runs.{spread, AllApart, AllFilled, last_of}
use Rattle.html_ledger.proofs.Since.{slice_get-last}

pub split_last : {A : Type 0} → (xs : List A) → 0 < length xs → (front : List A) × (x : A) × (xs ≡ front ++ x ∷ [])
split_last [] h = absurd (omega arith)
split_last (x ∷ []) h = ([], x, refl)
split_last (x ∷ y ∷ ys) h = let w = split_last (y ∷ ys) (omega arith) in (x ∷ w.0, w.1, ap (λ zs. x ∷ zs) w.2)

pub last_of-push : {A : Type 0} → (xs : List A) (x : A) → last_of (xs ++ x ∷ []) ≡ Some x
last_of-push xs x =
    let e : length (xs ++ x ∷ []) - 1 ≡ length xs = omega (arith, length_push xs x) in
    ap (λ n. slice_get (xs ++ x ∷ []) n) e ∙ slice_get-last xs x

pub spread-append : (xs ys : List Run) → spread (xs ++ ys) ≡ spread xs ++ spread ys
spread-append [] ys = refl
spread-append (x ∷ xs) ys =
    ap (λ zs. replicate x.count x.fate ++ zs) (spread-append xs ys) ∙ sym (append_assoc (replicate x.count x.fate) (spread xs) (spread ys))

spread-one : (r : Run) → spread (r ∷ []) ≡ replicate r.count r.fate
spread-one r = append-nil (replicate r.count r.fate)

pub spread-longer : (xs : List Run) (r : Run) (n : ℕ) → spread (xs ++ record r { count = r.count + n } ∷ []) ≡ spread (xs ++ r ∷ []) ++ replicate n r.fate
spread-longer xs r n =
    let long : Run = record r { count = r.count + n } in
    spread-append xs (long ∷ [])
    ∙ ap (λ zs. spread xs ++ zs) (spread-one long ∙ sym (replicate-append-replicate r.count n r.fate))
    ∙ sym (append_assoc (spread xs) (replicate r.count r.fate) (replicate n r.fate))
    ∙ ap (λ zs. zs ++ replicate n r.fate) (ap (λ zs. spread xs ++ zs) (sym (spread-one r)) ∙ sym (spread-append xs (r ∷ [])))

pub spread-new : (xs : List Run) (f : Fate) (n : ℕ) → spread (xs ++ record { fate = f; count = n } ∷ []) ≡ spread xs ++ replicate n f
spread-new xs f n =
    let run : Run = record { fate = f; count = n } in
    spread-append xs (run ∷ []) ∙ ap (λ zs. spread xs ++ zs) (spread-one run)

pub AllFilled-append : (xs ys : List Run) → AllFilled xs → AllFilled ys → AllFilled (xs ++ ys)
AllFilled-append [] ys a b = b
AllFilled-append (x ∷ xs) ys a b = (a.0, AllFilled-append xs ys a.1 b)

pub AllFilled-front : (xs ys : List Run) → AllFilled (xs ++ ys) → AllFilled xs
AllFilled-front [] ys a = tt
AllFilled-front (x ∷ xs) ys a = (a.0, AllFilled-front xs ys a.1)

pub count-within : (xs : List Run) (r : Run) → r.count ≤ length (spread (xs ++ r ∷ []))
count-within xs r =
    let e : length (spread (xs ++ r ∷ [])) ≡ length (spread xs) + r.count =
    ap length (spread-append xs (r ∷ [])) ∙ length-append (spread xs) (spread (r ∷ [])) ∙ ap (λ n. length (spread xs) + n) (ap length (spread-one r) ∙ length-replicate r.count r.fate) in
    omega arith

pub last-filled : (xs : List Run) → AllFilled xs → 0 < length xs → 0 < length (spread xs)
last-filled [] a h = absurd (omega arith)
last-filled (x ∷ xs) a h =
    let e : length (spread (x ∷ xs)) ≡ x.count + length (spread xs) = length-append (replicate x.count x.fate) (spread xs) ∙ ap (λ n. n + length (spread xs)) (length-replicate x.count x.fate) in
    omega (arith, a.0)

pub set-longer : (items front : List Run) (run got : Run) (n k : ℕ) → items ≡ front ++ run ∷ [] → n ≡ length items → got ≡ get_or items (n - 1) got → set items (n - 1) (record { fate = got.fate; count = got.count + k }) ≡ front ++ record { fate = run.fate; count = run.count + k } ∷ []
set-longer items front run got n k e m g =
    let d : n - 1 ≡ length front = omega (arith, ap length e, length_push front run) in
    let more : Run → Run = λ r. record { fate = r.fate; count = r.count + k } in
    let same : got ≡ run = g ∙ ap (λ zs. get_or zs (n - 1) got) e ∙ ap (λ i. get_or (front ++ run ∷ []) i got) d ∙ get_or_at front run [] got (length front) refl in
    ap (λ r. set items (n - 1) (more r)) same ∙ ap (λ zs. set zs (n - 1) (more run)) e ∙ ap (λ i. set (front ++ run ∷ []) i (more run)) d ∙ set_at front run [] (more run) (length front) refl

pub last-count : (xs : List Run) (r : Run) → 0 < length xs → last_of xs ≡ Some r → r.count ≤ length (spread xs)
last-count xs r h e =
    let w = split_last xs h in
    let is : Some w.1 ≡ Some r = sym (last_of-push w.0 w.1) ∙ sym (ap last_of w.2) ∙ e in
    let same : w.1 ≡ r = cc in
    subst (λ zs. r.count ≤ length (spread zs)) (sym (w.2 ∙ ap (λ y. w.0 ++ y ∷ []) same)) (count-within w.0 r)

-- the last run made longer
pub spread-lengthened : (old new : List Run) (f : Fate) (n : ℕ) → 0 < length old → ((r : Run) → last_of old ≡ Some r → r.fate ≡ f) → ((front : List Run) (r : Run) → old ≡ front ++ r ∷ [] → new ≡ front ++ record r { count = r.count + n } ∷ []) → spread new ≡ spread old ++ replicate n f
spread-lengthened old new f n h same made =
    let w = split_last old h in
    let is : w.1.fate ≡ f = same w.1 (ap last_of w.2 ∙ last_of-push w.0 w.1) in
    ap spread (made w.0 w.1 w.2) ∙ spread-longer w.0 w.1 n ∙ ap (λ zs. spread zs ++ replicate n w.1.fate) (sym w.2) ∙ ap (λ y. spread old ++ replicate n y) is

pub AllFilled-lengthened : (old new : List Run) (n : ℕ) → 0 < length old → 0 < n → ((front : List Run) (r : Run) → old ≡ front ++ r ∷ [] → new ≡ front ++ record r { count = r.count + n } ∷ []) → AllFilled old → AllFilled new
AllFilled-lengthened old new n h some made a =
    let w = split_last old h in
    let front : AllFilled w.0 = AllFilled-front w.0 (w.1 ∷ []) (subst (λ zs. AllFilled zs) w.2 a) in
    let more : 0 < w.1.count + n = omega arith in
    subst (λ zs. AllFilled zs) (sym (made w.0 w.1 w.2)) (AllFilled-append w.0 (record w.1 { count = w.1.count + n } ∷ []) front (more, tt))

-- one more run, or nothing
pub spread-appended : {T E : Type 0} (result : Result T E) (old new : List Run) (f : Fate) (n : ℕ) → OnOk result (new ≡ old ++ record { fate = f; count = n } ∷ []) → OnOk result (spread new ≡ spread old ++ replicate n f)
spread-appended (Ok x) old new f n e = ap spread e ∙ spread-new old f n
spread-appended (Err x) old new f n e = tt

pub AllFilled-appended : {T E : Type 0} (result : Result T E) (old new : List Run) (f : Fate) (n : ℕ) → 0 < n → OnOk result (new ≡ old ++ record { fate = f; count = n } ∷ []) → OnErr result (new ≡ old) → AllFilled old → AllFilled new
AllFilled-appended (Ok x) old new f n some e r a =
    subst (λ zs. AllFilled zs) (sym e) (AllFilled-append old (record { fate = f; count = n } ∷ []) a (some, tt))
AllFilled-appended (Err x) old new f n some e r a = subst (λ zs. AllFilled zs) (sym r) a

all-filled : (xs : List Run) (r : Run) → AllFilled (xs ++ r ∷ []) → 0 < r.count
all-filled [] r a = a.0
all-filled (x ∷ xs) r a = all-filled xs r a.1

replicate-last : (xs : List Fate) (n : ℕ) (f : Fate) → 0 < n → last_of (xs ++ replicate n f) ≡ Some f
replicate-last xs n f h =
    let e : n - 1 + 1 ≡ n = omega arith in
    let s : xs ++ replicate n f ≡ (xs ++ replicate (n - 1) f) ++ f ∷ [] =
    ap (λ m. xs ++ replicate m f) (sym e) ∙ ap (λ ys. xs ++ ys) (sym (replicate_more (n - 1) f)) ∙ sym (append_assoc xs (replicate (n - 1) f) (f ∷ [])) in
    ap last_of s ∙ last_of-push (xs ++ replicate (n - 1) f) f

-- the fate of the last run is the last fate
pub last_of-spread : (xs : List Run) (r : Run) → AllFilled xs → last_of xs ≡ Some r → last_of (spread xs) ≡ Some r.fate
last_of-spread xs r a e =
    let within : length xs - 1 < length xs = slice_get_within xs (length xs - 1) r e in
    let h : 0 < length xs = omega arith in
    let w = split_last xs h in
    let is : Some w.1 ≡ Some r = sym (last_of-push w.0 w.1) ∙ sym (ap last_of w.2) ∙ e in
    let same : w.1 ≡ r = cc in
    let all : xs ≡ w.0 ++ r ∷ [] = w.2 ∙ ap (λ y. w.0 ++ y ∷ []) same in
    let some : 0 < r.count = all-filled w.0 r (subst (λ zs. AllFilled zs) all a) in
    ap (λ zs. last_of (spread zs)) all ∙ ap last_of (spread-append w.0 (r ∷ []) ∙ ap (λ zs. spread w.0 ++ zs) (spread-one r)) ∙ replicate-last (spread w.0) r.count r.fate some

slice_get-after : {A : Type 0} → (xs ys : List A) (i n : ℕ) → length xs ≡ n → n ≤ i → slice_get (xs ++ ys) i ≡ slice_get ys (i - n)
slice_get-after [] ys i n e h = let z : i - n ≡ i = omega arith in rw z refl
slice_get-after (x ∷ xs) ys zero n e h = absurd (omega arith)
slice_get-after (x ∷ xs) ys (suc i) n e h =
    let p : length xs ≡ n - 1 = omega arith in
    let q : n - 1 ≤ i = omega arith in
    let z : i - (n - 1) ≡ suc i - n = omega arith in
    slice_get-after xs ys i (n - 1) p q ∙ ap (λ m. slice_get ys m) z

slice_get-replicate : {A : Type 0} → (n : ℕ) (x : A) (ys : List A) (i : ℕ) → i < n → slice_get (replicate n x ++ ys) i ≡ Some x
slice_get-replicate zero x ys i h = absurd (omega arith)
slice_get-replicate (suc n) x ys zero h = refl
slice_get-replicate (suc n) x ys (suc i) h = slice_get-replicate n x ys i (omega arith)

-- the fates from a run on
pub slice_get-within : (r : Run) (xs : List Run) (i : ℕ) → i < r.count → slice_get (spread (r ∷ xs)) i ≡ Some r.fate
slice_get-within r xs i h = slice_get-replicate r.count r.fate (spread xs) i h

pub slice_get-past : (r : Run) (xs : List Run) (i : ℕ) → r.count ≤ i → slice_get (spread (r ∷ xs)) i ≡ slice_get (spread xs) (i - r.count)
slice_get-past r xs i h = slice_get-after (replicate r.count r.fate) (spread xs) i r.count (length-replicate r.count r.fate) h

-- what is left of the runs from this one on
left_is : (xs : List Run) (i : ℕ) (r : Run) → i < length xs → r ≡ get_or xs i r → spread (drop i xs) ≡ spread (r ∷ drop (i + 1) xs)
left_is xs i r h e = ap spread (drop_more xs i r h) ∙ ap (λ y. spread (y ∷ drop (i + 1) xs)) (sym e)

pub found-fate : (xs : List Run) (i left index : ℕ) (r : Run) → i < length xs → r ≡ get_or xs i r → slice_get (spread (drop i xs)) left ≡ slice_get (spread xs) index → left < r.count → Some r.fate ≡ slice_get (spread xs) index
found-fate xs i left index r h e same lt =
    sym (slice_get-within r (drop (i + 1) xs) left lt) ∙ ap (λ zs. slice_get zs left) (sym (left_is xs i r h e)) ∙ same

pub passed-fate : (xs : List Run) (i left index : ℕ) (r : Run) → i < length xs → r ≡ get_or xs i r → slice_get (spread (drop i xs)) left ≡ slice_get (spread xs) index → r.count ≤ left → slice_get (spread (drop (i + 1) xs)) (left - r.count) ≡ slice_get (spread xs) index
passed-fate xs i left index r h e same le =
    sym (slice_get-past r (drop (i + 1) xs) left le) ∙ ap (λ zs. slice_get zs left) (sym (left_is xs i r h e)) ∙ same

-- the last run with another of its fate in its place
AllApart-changed : (xs : List Run) (r q : Run) → q.fate ≡ r.fate → AllApart (xs ++ r ∷ []) → AllApart (xs ++ q ∷ [])
AllApart-changed [] r q e a = tt
AllApart-changed (x ∷ []) r q e a = (λ same. a.0 (same ∙ e), tt)
AllApart-changed (x ∷ y ∷ xs) r q e a = (a.0, AllApart-changed (y ∷ xs) r q e a.1)

AllApart-push : (xs : List Run) (r q : Run) → r.fate ≢ q.fate → AllApart (xs ++ r ∷ []) → AllApart ((xs ++ r ∷ []) ++ q ∷ [])
AllApart-push [] r q n a = (n, tt)
AllApart-push (x ∷ []) r q n a = (a.0, (n, tt))
AllApart-push (x ∷ y ∷ xs) r q n a = (a.0, AllApart-push (y ∷ xs) r q n a.1)

pub AllApart-lengthened : (old new : List Run) (n : ℕ) → 0 < length old → ((front : List Run) (r : Run) → old ≡ front ++ r ∷ [] → new ≡ front ++ record r { count = r.count + n } ∷ []) → AllApart old → AllApart new
AllApart-lengthened old new n h made a =
    let w = split_last old h in
    subst (λ zs. AllApart zs) (sym (made w.0 w.1 w.2)) (AllApart-changed w.0 w.1 (record w.1 { count = w.1.count + n }) refl (subst (λ zs. AllApart zs) w.2 a))

AllApart-new : (old : List Run) (q : Run) → ((r : Run) → last_of old ≡ Some r → r.fate ≢ q.fate) → AllApart old → AllApart (old ++ q ∷ [])
AllApart-new [] q n a = tt
AllApart-new (x ∷ xs) q n a =
    let some : 0 < length (x ∷ xs) = omega arith in
    let w = split_last (x ∷ xs) some in
    let other : w.1.fate ≢ q.fate = n w.1 (ap last_of w.2 ∙ last_of-push w.0 w.1) in
    subst (λ zs. AllApart (zs ++ q ∷ [])) (sym w.2) (AllApart-push w.0 w.1 q other (subst (λ zs. AllApart zs) w.2 a))

pub AllApart-appended : {T E : Type 0} (result : Result T E) (old new : List Run) (f : Fate) (n : ℕ) → OnOk result (new ≡ old ++ record { fate = f; count = n } ∷ []) → OnErr result (new ≡ old) → ((r : Run) → last_of old ≡ Some r → r.fate ≢ f) → AllApart old → AllApart new
AllApart-appended (Ok x) old new f n e r other a = subst (λ zs. AllApart zs) (sym e) (AllApart-new old (record { fate = f; count = n }) other a)
AllApart-appended (Err x) old new f n e r other a = subst (λ zs. AllApart zs) (sym r) a
