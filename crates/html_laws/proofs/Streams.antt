-- The tokens of a text up to one hang on the modes in which the text after those before it is read; and the errors on all of these.
use Rattle.std.proofs.Common.{◌≡◌, ℕ, zero, suc, ◌+◌, ◌-◌, ◌≤◌, List, [], ◌∷◌, ◌++◌, length, take, drop, Option, refl, ◌∙◌, ap, subst, arith, length-append}
use Rattle.html_charref.specs.declared.table.Row.{Row}
use Rattle.html_tokens.specs.declared.token.TextMode.{TextMode}
use Rattle.html_tokens.specs.declared.token.Token.{Token}
use Rattle.html_tokens.specs.Errors.{errors_after, front_errors, inside_errors, piece_errors}
use Rattle.html_tokens.specs.Marks.{begin_at}
use Rattle.html_tokens.specs.declared.token.Region.TheVariants.{Plain}
use Rattle.html_tokens.specs.Tokens.{mode_after, mode_after_kind, name_after, next, switch_of, tokens_after}

abbrev pub Said : Type 0
Said = List (Option TextMode)

-- After each of the first n tokens the text is read in one mode, by the one and by the other, where it is read in this mode before them.
abbrev pub Agrees : ℕ → TextMode → List Token → Said → Said → Type 0
Agrees zero mode ts s u = Unit {0}
Agrees (suc n) mode [] s u = Unit {0}
Agrees (suc n) mode (t ∷ ts) s u =
    (mode_after_kind t.kind (switch_of s) mode ≡ mode_after_kind t.kind (switch_of u) mode) × Agrees n (mode_after_kind t.kind (switch_of s) mode) ts (drop 1 s) (drop 1 u)

drop-more : (k : ℕ) (s : Said) → drop k (drop 1 s) ≡ drop (suc k) s
drop-more zero [] = refl
drop-more (suc k) [] = refl
drop-more k (x ∷ s) = refl

-- After tokens that go before others it is one mode; and so it goes on.
agrees-later : (ts xs : List Token) (n m : ℕ) (mode : TextMode) (s u : Said) → n ≡ length ts + m → Agrees n mode (ts ++ xs) s u
    → (mode_after ts s mode ≡ mode_after ts u mode) × Agrees m (mode_after ts s mode) xs (drop (length ts) s) (drop (length ts) u)
agrees-later [] xs n m mode s u l h = (refl, (let k : n ≡ m = omega (arith, l) in subst (λ v. Agrees v mode xs s u) k h))
agrees-later (t ∷ ts) xs zero m mode s u l h = absurd (omega (arith, l))
agrees-later (t ∷ ts) xs (suc n) m mode s u l h =
    let now : TextMode = mode_after_kind t.kind (switch_of s) mode in
    let r = agrees-later ts xs n m now (drop 1 s) (drop 1 u) (omega (arith, l)) h.1 in (
      r.0 ∙ ap (mode_after ts (drop 1 u)) h.0,
      subst (λ v. Agrees m (mode_after ts (drop 1 s) now) xs (drop (suc (length ts)) s) v) (drop-more (length ts) u)
          (subst (λ v. Agrees m (mode_after ts (drop 1 s) now) xs v (drop (length ts) (drop 1 u))) (drop-more (length ts) s) r.1),
    )

-- the first tokens of some that go before others
join-one : (ts xs ys : List Token) (n : ℕ) → ((m : ℕ) → n ≡ length ts + m → take m xs ≡ take m ys) → take n (ts ++ xs) ≡ take n (ts ++ ys)
join-one [] xs ys n h = h n (omega arith)
join-one (t ∷ ts) xs ys zero h = refl
join-one (t ∷ ts) xs ys (suc n) h = ap (λ v. t ∷ v) (join-one ts xs ys n (λ m e. h m (omega (arith, e))))

-- what comes after the tokens of a piece, where it is one function of the mode and of what is said
later-one : (f : TextMode → Said → List Token) (mode : TextMode) (s u : Said) (n : ℕ) (ts : List Token) → Agrees n mode (ts ++ f (mode_after ts s mode) (drop (length ts) s)) s u
    → ((mode : TextMode) (s u : Said) (m : ℕ) → Agrees m mode (f mode s) s u → take (suc m) (f mode s) ≡ take (suc m) (f mode u))
    → (m : ℕ) → suc n ≡ length ts + m → take m (f (mode_after ts s mode) (drop (length ts) s)) ≡ take m (f (mode_after ts u mode) (drop (length ts) u))
later-one f mode s u n ts h r zero l = refl
later-one f mode s u n ts h r (suc m) l =
    let k = agrees-later ts (f (mode_after ts s mode) (drop (length ts) s)) n m mode s u (omega (arith, l)) h in
    r (mode_after ts s mode) (drop (length ts) s) (drop (length ts) u) m k.1 ∙ ap (λ v. take (suc m) (f v (drop (length ts) u))) k.0

pub tokens-one : (rows : List Row) (passed : ℕ) (mode : TextMode) (name : Option (List ℕ)) (place : ℕ) (text : List ℕ) (s u : Said) (n : ℕ) → Agrees n mode (tokens_after rows passed mode name place text s) s u
    → take (suc n) (tokens_after rows passed mode name place text s) ≡ take (suc n) (tokens_after rows passed mode name place text u)
unfolding tokens_after
tokens-one rows passed mode name place [] s u n h = refl
tokens-one rows zero mode name place (c ∷ rest) s u n h =
    let first = next rows mode name place (c ∷ rest) in
    join-one first.tokens
    (tokens_after rows (first.len - 1) (mode_after first.tokens s mode) (name_after first.tokens name) (place + 1) rest (drop (length first.tokens) s))
    (tokens_after rows (first.len - 1) (mode_after first.tokens u mode) (name_after first.tokens name) (place + 1) rest (drop (length first.tokens) u)) (suc n)
    (later-one (λ mode s. tokens_after rows (first.len - 1) mode (name_after first.tokens name) (place + 1) rest s) mode s u n first.tokens h
    (λ mode s u m h. tokens-one rows (first.len - 1) mode (name_after first.tokens name) (place + 1) rest s u m h))
tokens-one rows (suc k) mode name place (c ∷ rest) s u n h = tokens-one rows k mode name (place + 1) rest s u n h

pub errors-one : (rows : List Row) (passed : ℕ) (mode : TextMode) (name : Option (List ℕ)) (place : ℕ) (text : List ℕ) (s u : Said) (n : ℕ) → length (tokens_after rows passed mode name place text s) ≤ n
    → Agrees n mode (tokens_after rows passed mode name place text s) s u → errors_after rows passed mode name place text s ≡ errors_after rows passed mode name place text u
unfolding tokens_after errors_after
errors-one rows passed mode name place [] s u n l h = refl
errors-one rows zero mode name place (c ∷ rest) s u n l h =
    let first = next rows mode name place (c ∷ rest) in
    let begins = begin_at mode Plain name (c ∷ rest) in
    let later : List Token = tokens_after rows (first.len - 1) (mode_after first.tokens s mode) (name_after first.tokens name) (place + 1) rest (drop (length first.tokens) s) in
    let both = length-append first.tokens later in
    let k = agrees-later first.tokens later n (n - length first.tokens) mode s u (omega (arith, l, both)) h in
    ap (λ es. front_errors mode Plain name place (c ∷ rest) ++ (piece_errors rows begins place (c ∷ rest) ++ (inside_errors rows begins place (c ∷ rest) ++ es)))
    (errors-one rows (first.len - 1) (mode_after first.tokens s mode) (name_after first.tokens name) (place + 1) rest (drop (length first.tokens) s) (drop (length first.tokens) u) (n - length first.tokens)
    (omega (arith, l, both)) k.1
    ∙ ap (λ v. errors_after rows (first.len - 1) v (name_after first.tokens name) (place + 1) rest (drop (length first.tokens) u)) k.0)
errors-one rows (suc k) mode name place (c ∷ rest) s u n l h = errors-one rows k mode name (place + 1) rest s u n l h
