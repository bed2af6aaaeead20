-- What tokens say of the text after them, as more tokens come.
use Rattle.std.proofs.Common.{ℕ, zero, suc, ◌+◌, ◌-◌, ◌≤◌, ◌≡◌, ◌∙◌, inl, inr, Bool, true, false, arith, List, [], ◌∷◌, ◌++◌, length, take, replicate, Option, Some, None, refl, sym, ap, subst, append_assoc, length-append}
use Rattle.std.specs.Prelude.{slice_get}
use Rattle.std.proofs.lemmas.Bool.{cases_lt}
use Rattle.html_arena.specs.declared.arena.Limits.{Limits}
use Rattle.html_tokens.specs.declared.token.TextMode.{TextMode}
use Rattle.html_tokens.specs.declared.token.TextMode.TheVariants.{Foreign}
use Rattle.html_tokens.specs.declared.token.TokenKind.{TokenKind}
use Rattle.html_tokens.specs.declared.token.TokenKind.TheVariants.{Start, End, Char, Comment, Doctype, Eof}
use Rattle.html_ledger.specs.declared.fate.Fate.{Fate}
use Rattle.html_ledger.specs.declared.setting.Setting.{Setting}
use Rattle.html_ledger.specs.declared.symbol.Symbol.{Symbol}
use Rattle.html_ledger.specs.MayDrop.{MayBeForeign}
use Rattle.html_ledger.specs.Runs.{last_of}
use Rattle.html_construction.specs.Built.{chars_of, symbols}
use Rattle.html_construction.proofs.Building.{symbols-append}
use Rattle.html_builder.specs.Builders.{BuilderState}
use Rattle.html_builder.specs.declared.context.Context.{Context}
use Rattle.html_builder.specs.Handed.{Handed, HaveFates, reads_foreign}
use Rattle.html_builder.specs.Saying.{HasSaid}
use Rattle.html_builder.proofs.Saying.{get-front, get-within}
use Rattle.html_builder.proofs.SayingOn.{begun-foreign, none-said as none-said-by}
use Rattle.html_builder.specs.Switches.{switch_after, switch_by, switches_by}
use Rattle.html_parser.specs.Said.{AreSaid, AreSaidByFates, MaySayAfter}
use Rattle.html_parser.specs.Start.{mode_in, setting_in}

-- MORE OF A LIST

get-none : {A : Type 0} → (i : ℕ) → slice_get {X = A} [] i ≡ None
get-none zero = refl
get-none (suc i) = refl

some-none : {A B : Type 0} → (x : A) → Some x ≡ None → B
some-none x e = absurd (let k = e in cc)

get-behind : {A : Type 0} → (xs ys : List A) (i : ℕ) → slice_get (xs ++ ys) (length xs + i) ≡ slice_get ys i
get-behind [] ys i = let e : 0 + i ≡ i = omega arith in ap (slice_get ys) e
get-behind (x ∷ xs) ys i =
    let e : suc (length xs) + i ≡ suc (length xs + i) = omega arith in
    ap (slice_get (x ∷ (xs ++ ys))) e ∙ get-behind xs ys i

-- a part of a front is a part of all
get-taken : {A : Type 0} → (n : ℕ) (xs ys : List A) (i : ℕ) (x : A) → slice_get (take n xs) i ≡ Some x → slice_get (take n (xs ++ ys)) i ≡ Some x
get-taken zero xs ys i x e = some-none x (sym e ∙ get-none i)
get-taken (suc n) [] ys i x e = some-none x (sym e ∙ get-none i)
get-taken (suc n) (y ∷ xs) ys zero x e = e
get-taken (suc n) (y ∷ xs) ys (suc i) x e = get-taken n xs ys i x e

pub get-whole : {A : Type 0} → (n : ℕ) (xs : List A) (i : ℕ) (x : A) → slice_get (take n xs) i ≡ Some x → slice_get xs i ≡ Some x
get-whole zero xs i x e = some-none x (sym e ∙ get-none i)
get-whole (suc n) [] i x e = some-none x (sym e ∙ get-none i)
get-whole (suc n) (y ∷ xs) zero x e = e
get-whole (suc n) (y ∷ xs) (suc i) x e = get-whole n xs i x e

take-all : {A : Type 0} → (n : ℕ) (xs : List A) → length xs ≤ n → take n xs ≡ xs
take-all zero [] h = refl
take-all zero (x ∷ xs) h = absurd (let no : suc (length xs) ≤ 0 = h in omega (arith, no))
take-all (suc n) [] h = refl
take-all (suc n) (x ∷ xs) h = let less : suc (length xs) ≤ suc n = h in ap (λ r. x ∷ r) (take-all n xs (omega (arith, less)))

same-some : {A : Type 0} → (x y : A) → Some x ≡ Some y → x ≡ y
same-some x y e = cc

-- OF TOKENS

pub symbols-length : (ts : List TokenKind) → length (symbols ts) ≡ length ts
symbols-length [] = refl
symbols-length (t ∷ ts) = ap suc (symbols-length ts)

-- there is a fate for each token of the front
pub front-counted : (s : Setting) (ts : List TokenKind) (fs : List Fate) (h : HaveFates s ts fs) → length h.front ≡ length fs
front-counted s ts fs h = sym (h.fated.counted ∙ symbols-length h.front)

chars-length : (cs : List ℕ) → length (chars_of cs) ≡ length cs
chars-length [] = refl
chars-length (c ∷ cs) = ap suc (chars-length cs)

pub chars-append : (xs ys : List ℕ) → chars_of (xs ++ ys) ≡ chars_of xs ++ chars_of ys
chars-append [] ys = refl
chars-append (x ∷ xs) ys = ap (λ r. Char x ∷ r) (chars-append xs ys)

pub kept-more : (s : Setting) (ts : List TokenKind) (text : List ℕ) (fs : List Fate) → HaveFates s ts fs → HaveFates s (ts ++ chars_of text) fs
kept-more s ts text fs h = record {
  front = h.front;
  kept = h.kept ++ text;
  tokens_are = ap (λ xs. xs ++ chars_of text) h.tokens_are ∙ append_assoc h.front (chars_of h.kept) (chars_of text)
      ∙ ap (λ xs. h.front ++ xs) (sym (chars-append h.kept text));
  fated = h.fated;
}

-- code points say nothing, whatever becomes of them
char-none : (c : ℕ) (f : Option Fate) → switch_after (Char c) f ≡ None
char-none c None = refl
char-none c (Some f) = refl

char-at : (cs : List ℕ) (i : ℕ) (t : TokenKind) → slice_get (chars_of cs) i ≡ Some t → (c : ℕ) × (t ≡ Char c)
char-at [] i t e = some-none t (sym e ∙ get-none i)
char-at (c ∷ cs) zero t e = (c, sym (same-some (Char c) t e))
char-at (c ∷ cs) (suc i) t e = char-at cs i t e

-- what a token says by its fate stays so when more fates are given
same-says : (front : List TokenKind) (kept : List ℕ) (fs gs : List Fate) (i : ℕ) (t : TokenKind) → length front ≡ length fs
    → slice_get (front ++ chars_of kept) i ≡ Some t → switch_after t (slice_get fs i) ≡ switch_after t (slice_get (fs ++ gs) i)
same-says front kept fs gs i t e is = elim (cases_lt i (length fs)) [
  | inl less ↦ ap (switch_after t) (sym (get-within fs gs i less))
  | inr more ↦
      let n : ℕ = i - length front in
      let at : length front + n ≡ i = omega (arith, e, more) in
      let late : slice_get (chars_of kept) n ≡ Some t
      = sym (get-behind front (chars_of kept) n) ∙ ap (slice_get (front ++ chars_of kept)) at ∙ is in
      let c = char-at kept n t late in
      ap (λ u. switch_after u (slice_get fs i)) c.1 ∙ char-none c.0 (slice_get fs i) ∙ sym (char-none c.0 (slice_get (fs ++ gs) i))
      ∙ ap (λ u. switch_after u (slice_get (fs ++ gs) i)) (sym c.1)
]

-- FOREIGN CONTENT

-- what was made is made
pub since-more : (s : Setting) (ys zs : List Symbol) (fs gs : List Fate) → ((i : ℕ) (y : Symbol) → slice_get ys i ≡ Some y → slice_get zs i ≡ Some y)
    → ((i : ℕ) (f : Fate) → slice_get fs i ≡ Some f → slice_get gs i ≡ Some f) → MayBeForeign s ys fs → MayBeForeign s zs gs
since-more s ys zs fs gs p q (inl w) = inl (record {
  at = w.at;
  token = w.token;
  fate = w.fate;
  token_is = p w.at w.token w.token_is;
  fate_is = q w.at w.fate w.fate_is;
  is_such = w.is_such;
  kept = λ k t less is. refl;
})
since-more s ys zs fs gs p q (inr h) = inr h

more-tokens : (ts us : List TokenKind) (i : ℕ) (y : Symbol) → slice_get (symbols ts) i ≡ Some y → slice_get (symbols (ts ++ us)) i ≡ Some y
more-tokens ts us i y e = ap (λ ys. slice_get ys i) (symbols-append ts us) ∙ get-front (symbols ts) (symbols us) i y e

-- MORE TOKENS

none-said : (s : Setting) → AreSaid s [] [] []
none-said s = record { count = refl; each = λ i t m is said. some-none t (sym is ∙ get-none i) }

pub nothing-said : (s : Setting) (ts : List TokenKind) (fs : List Fate) (ms : List (Option TextMode)) → ts ≡ [] → fs ≡ [] → ms ≡ [] → AreSaid s ts fs ms
nothing-said s ts fs ms a b c = subst (λ x. AreSaid s x fs ms) (sym a) (subst (λ x. AreSaid s [] x ms) (sym b) (subst (λ x. AreSaid s [] [] x) (sym c) (none-said s)))

-- and by the rules
pub nothing-read : (s : Setting) (l : Option Limits) (mode : TextMode) (ts : List TokenKind) (ms : List (Option TextMode)) (b : BuilderState) → Handed s l [] b → (mode ≡ Foreign → reads_foreign b ≡ true) → ts ≡ [] → ms ≡ []
    → HasSaid s l mode ts ms b
nothing-read s l mode ts ms b h k e f = subst (λ x. HasSaid s l mode x ms b) (sym e) (subst (λ x. HasSaid s l mode [] x b) (sym f) (none-said-by s l mode b h k))

-- where tree construction begins in a context, or in none
pub begun-in : (o : Option Context) (l : Option Limits) (b : BuilderState) → Handed (setting_in o) l [] b → mode_in o ≡ Foreign → reads_foreign b ≡ true
begun-in None l b h e = cc
begun-in (Some c) l b h e = begun-foreign c l b h e

-- what a token said it said, when more tokens come and more fates are given
may-more : (s : Setting) (ts us : List TokenKind) (fs gs : List Fate) (i : ℕ) (t : TokenKind) (m : Option TextMode) → switch_after t (slice_get fs i) ≡ switch_after t (slice_get (fs ++ gs) i)
    → MaySayAfter s ts (take (suc i) fs) t (slice_get fs i) m → MaySayAfter s (ts ++ us) (take (suc i) (fs ++ gs)) t (slice_get (fs ++ gs) i) m
may-more s ts us fs gs i t m same (inl e) = inl (e ∙ same)
may-more s ts us fs gs i t m same (inr (none, foreign, data_is)) =
    inr (
      sym same ∙ none,
      since-more s (symbols ts) (symbols (ts ++ us)) (take (suc i) fs) (take (suc i) (fs ++ gs)) (more-tokens ts us) (get-taken (suc i) fs gs) foreign,
      data_is,
    )

-- so with all of them, and what the new ones say
pub said-more : (s : Setting) (ts us : List TokenKind) (fs gs : List Fate) (ms ns : List (Option TextMode)) → HaveFates s ts fs → AreSaid s ts fs ms → length ns ≡ length us
    → ((j : ℕ) (t : TokenKind) (m : Option TextMode) → slice_get us j ≡ Some t → slice_get ns j ≡ Some m
    → MaySayAfter s (ts ++ us) (take (suc (length ts + j)) (fs ++ gs)) t (slice_get (fs ++ gs) (length ts + j)) m)
    → AreSaid s (ts ++ us) (fs ++ gs) (ms ++ ns)
said-more s ts us fs gs ms ns h a n each = record {
  count = let p = a.count in let q = length-append ms ns in let r = length-append ts us in omega (arith, p, q, r, n);
  each = λ i t m is said. elim (cases_lt i (length ts)) [
    | inl less ↦
        let here : slice_get ts i ≡ Some t = sym (get-within ts us i less) ∙ is in
        let count : length ms ≡ length ts = a.count in
        let there : slice_get ms i ≡ Some m = sym (get-within ms ns i (omega (arith, less, count))) ∙ said in
        let same = same-says h.front h.kept fs gs i t (front-counted s ts fs h) (ap (λ xs. slice_get xs i) (sym h.tokens_are) ∙ here) in
        may-more s ts us fs gs i t m same (a.each i t m here there)
    | inr more ↦
        let j : ℕ = i - length ts in
        let at : length ts + j ≡ i = omega (arith, more) in
        let count : length ms ≡ length ts = a.count in
        let also : length ms + j ≡ i = omega (arith, more, count) in
        let here : slice_get us j ≡ Some t = sym (get-behind ts us j) ∙ ap (slice_get (ts ++ us)) at ∙ is in
        let there : slice_get ns j ≡ Some m = sym (get-behind ms ns j) ∙ ap (slice_get (ms ++ ns)) also ∙ said in
        subst (λ k. MaySayAfter s (ts ++ us) (take (suc k) (fs ++ gs)) t (slice_get (fs ++ gs) k) m) at (each j t m here there)
  ];
}

none-at : (n i : ℕ) (m : Option TextMode) → slice_get (replicate n None) i ≡ Some m → m ≡ None
none-at zero i m e = some-none m (sym e ∙ get-none i)
none-at (suc n) zero m e = sym (same-some None m e)
none-at (suc n) (suc i) m e = none-at n i m e

nones-length : (n : ℕ) → length (replicate {A = Option TextMode} n None) ≡ n
nones-length zero = refl
nones-length (suc n) = ap suc (nones-length n)

-- plain text says nothing
pub says-text : (s : Setting) (ts : List TokenKind) (text : List ℕ) (fs gs : List Fate) (ms : List (Option TextMode)) → HaveFates s ts fs → AreSaid s ts fs ms
    → AreSaid s (ts ++ chars_of text) (fs ++ gs) (ms ++ replicate (length text) None)
says-text s ts text fs gs ms h a = said-more s ts (chars_of text) fs gs ms (replicate (length text) None) h a (nones-length (length text) ∙ sym (chars-length text))
    (λ j t m is said.
    let c = char-at text j t is in
    inl (none-at (length text) j m said ∙ sym (char-none c.0 (slice_get (fs ++ gs) (length ts + j))) ∙ ap (λ u. switch_after u (slice_get (fs ++ gs) (length ts + j))) (sym c.1)))

-- THE LAST TOKEN

abbrev is_char : TokenKind → Bool
is_char (Start name attrs closes) = false
is_char (End name) = false
is_char (Char c) = true
is_char (Comment text) = false
is_char (Doctype name public_text system_text forced) = false
is_char Eof = false

abbrev ends_char : List TokenKind → Bool
ends_char [] = false
ends_char (t ∷ []) = is_char t
ends_char (t ∷ u ∷ us) = ends_char (u ∷ us)

ends-one : (ts : List TokenKind) (t : TokenKind) → ends_char (ts ++ t ∷ []) ≡ is_char t
ends-one [] t = refl
ends-one (x ∷ []) t = refl
ends-one (x ∷ y ∷ ys) t = ends-one (y ∷ ys) t

ends-more : (ts : List TokenKind) (t : TokenKind) (us : List TokenKind) → ends_char (ts ++ t ∷ us) ≡ ends_char (t ∷ us)
ends-more [] t us = refl
ends-more (x ∷ []) t us = refl
ends-more (x ∷ y ∷ ys) t us = ends-more (y ∷ ys) t us

ends-chars : (c : ℕ) (cs : List ℕ) → ends_char (chars_of (c ∷ cs)) ≡ true
ends-chars c [] = refl
ends-chars c (d ∷ ds) = ends-chars d ds

none-kept : (ts front : List TokenKind) (t : TokenKind) (kept : List ℕ) → is_char t ≡ false → ts ++ t ∷ [] ≡ front ++ chars_of kept → length kept ≡ 0
none-kept ts front t [] other e = refl
none-kept ts front t (c ∷ cs) other e =
    let a : ends_char (ts ++ t ∷ []) ≡ is_char t = ends-one ts t in
    let b : ends_char (front ++ chars_of (c ∷ cs)) ≡ true = ends-more front (Char c) (chars_of cs) ∙ ends-chars c cs in
    let d : ends_char (ts ++ t ∷ []) ≡ ends_char (front ++ chars_of (c ∷ cs)) = ap ends_char e in
    let no : false ≡ true = sym other ∙ sym a ∙ d ∙ b in
    cc

-- so many fates as tokens, or fewer where the last tokens are code points
all-counted : (s : Setting) (ts : List TokenKind) (fs : List Fate) (h : HaveFates s ts fs) → length ts ≡ length fs + length h.kept
all-counted s ts fs h =
    let a : length ts ≡ length h.front + length (chars_of h.kept) = ap length h.tokens_are ∙ length-append h.front (chars_of h.kept) in
    let b : length h.front ≡ length fs = front-counted s ts fs h in
    let c : length (chars_of h.kept) ≡ length h.kept = chars-length h.kept in
    omega (arith, a, b, c)

-- what the last token says by the last fate, it says by its own
last-says : (s : Setting) (ts : List TokenKind) (t : TokenKind) (fs : List Fate) → HaveFates s (ts ++ t ∷ []) fs → switch_after t (last_of fs) ≡ switch_after t (slice_get fs (length ts))
last-says s ts t fs k = by t refl
  where
    other : is_char t ≡ false → switch_after t (last_of fs) ≡ switch_after t (slice_get fs (length ts))
    other plain =
        let none : length k.kept ≡ 0 = none-kept ts k.front t k.kept plain k.tokens_are in
        let all : length (ts ++ t ∷ []) ≡ length fs + length k.kept = all-counted s (ts ++ t ∷ []) fs k in
        let one : length (ts ++ t ∷ []) ≡ length ts + 1 = length-append ts (t ∷ []) in
        let at : length fs - 1 ≡ length ts = omega (arith, none, all, one) in
        ap (λ n. switch_after t (slice_get fs n)) at

    by : (u : TokenKind) → t ≡ u → switch_after t (last_of fs) ≡ switch_after t (slice_get fs (length ts))
    by (Char c) e =
        ap (λ u. switch_after u (last_of fs)) e ∙ char-none c (last_of fs) ∙ sym (char-none c (slice_get fs (length ts)))
        ∙ ap (λ u. switch_after u (slice_get fs (length ts))) (sym e)
    by (Start name attrs closes) e = other (ap is_char e)
    by (End name) e = other (ap is_char e)
    by (Comment text) e = other (ap is_char e)
    by (Doctype name public_text system_text forced) e = other (ap is_char e)
    by Eof e = other (ap is_char e)

-- one more token
pub says-one : (s : Setting) (ts : List TokenKind) (t : TokenKind) (fs gs : List Fate) (ms : List (Option TextMode)) (m : Option TextMode) → HaveFates s ts fs → HaveFates s (ts ++ t ∷ []) (fs ++ gs) → AreSaid s ts fs ms
    → MaySayAfter s (ts ++ t ∷ []) (fs ++ gs) t (last_of (fs ++ gs)) m → AreSaid s (ts ++ t ∷ []) (fs ++ gs) (ms ++ m ∷ [])
says-one s ts t fs gs ms m h k a may = said-more s ts (t ∷ []) fs gs ms (m ∷ []) h a refl each
  where
    same : switch_after t (last_of (fs ++ gs)) ≡ switch_after t (slice_get (fs ++ gs) (length ts))
    same = last-says s ts t (fs ++ gs) k

    few : take (suc (length ts)) (fs ++ gs) ≡ fs ++ gs
    few =
        let all : length (ts ++ t ∷ []) ≡ length (fs ++ gs) + length k.kept = all-counted s (ts ++ t ∷ []) (fs ++ gs) k in
        let one : length (ts ++ t ∷ []) ≡ length ts + 1 = length-append ts (t ∷ []) in
        take-all (suc (length ts)) (fs ++ gs) (omega (arith, all, one))

    here : MaySayAfter s (ts ++ t ∷ []) (fs ++ gs) t (last_of (fs ++ gs)) m → MaySayAfter s (ts ++ t ∷ []) (take (suc (length ts)) (fs ++ gs)) t (slice_get (fs ++ gs) (length ts)) m
    here (inl e) = inl (e ∙ same)
    here (inr (none, foreign, data_is)) = inr (sym same ∙ none, subst (MayBeForeign s (symbols (ts ++ t ∷ []))) (sym few) foreign, data_is)

    each : (j : ℕ) (u : TokenKind) (n : Option TextMode) → slice_get (t ∷ []) j ≡ Some u → slice_get (m ∷ []) j ≡ Some n
        → MaySayAfter s (ts ++ t ∷ []) (take (suc (length ts + j)) (fs ++ gs)) u (slice_get (fs ++ gs) (length ts + j)) n
    each zero u n is said =
        let at : length ts ≡ length ts + 0 = omega arith in
        let w = subst (λ x. MaySayAfter s (ts ++ t ∷ []) (take (suc x) (fs ++ gs)) t (slice_get (fs ++ gs) x) m) at (here may) in
        subst (λ x. MaySayAfter s (ts ++ t ∷ []) (take (suc (length ts + 0)) (fs ++ gs)) x (slice_get (fs ++ gs) (length ts + 0)) n) (same-some t u is)
        (subst (λ x. MaySayAfter s (ts ++ t ∷ []) (take (suc (length ts + 0)) (fs ++ gs)) t (slice_get (fs ++ gs) (length ts + 0)) x) (same-some m n said) w)
    each (suc j) u n is said = some-none u (sym is ∙ get-none j)

-- WITHOUT FOREIGN CONTENT

all-by-fates : (ts : List TokenKind) (fs : List Fate) (ms : List (Option TextMode)) → length ms ≡ length ts
    → ((i : ℕ) (t : TokenKind) (m : Option TextMode) → slice_get ts i ≡ Some t → slice_get ms i ≡ Some m → m ≡ switch_after t (slice_get fs i)) → ms ≡ switches_by ts fs
all-by-fates [] fs [] n h = refl
all-by-fates [] fs (m ∷ ms) n h = cc
all-by-fates (t ∷ ts) fs [] n h = cc
all-by-fates (t ∷ ts) [] (m ∷ ms) n h =
    let shorter : suc (length ms) ≡ suc (length ts) = n in
    let rest = all-by-fates ts [] ms (omega (arith, shorter)) (λ i u v is said. h (suc i) u v is said ∙ ap (switch_after u) (sym (get-none i))) in
    ap (λ x. x ∷ ms) (h 0 t m refl refl) ∙ ap (λ xs. None ∷ xs) rest
all-by-fates (t ∷ ts) (f ∷ fs) (m ∷ ms) n h =
    let shorter : suc (length ms) ≡ suc (length ts) = n in
    let rest = all-by-fates ts fs ms (omega (arith, shorter)) (λ i u v is said. h (suc i) u v is said) in
    ap (λ x. x ∷ ms) (h 0 t m refl refl) ∙ ap (λ xs. switch_by t f ∷ xs) rest

pub by-fates : (s : Setting) (ts : List TokenKind) (fs : List Fate) (ms : List (Option TextMode)) → AreSaid s ts fs ms → AreSaidByFates s ts fs ms
by-fates s ts fs ms a = λ none. all-by-fates ts fs ms a.count (λ i t m is said. one none i t m (a.each i t m is said))
  where
    one : (MayBeForeign s (symbols ts) fs → ⊥) → (i : ℕ) (t : TokenKind) (m : Option TextMode) → MaySayAfter s ts (take (suc i) fs) t (slice_get fs i) m → m ≡ switch_after t (slice_get fs i)
    one none i t m (inl e) = e
    one none i t m (inr (silent, foreign, data_is)) = absurd (none (since-more s (symbols ts) (symbols ts) (take (suc i) fs) fs (λ k y e. e) (get-whole (suc i) fs) foreign))
