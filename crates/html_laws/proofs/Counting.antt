-- Each token gets one fate, or is kept: by what the plans say, and the tables of the rules.
use Rattle.std.proofs.Common.{◌≡◌, ℕ, suc, ◌+◌, Bool, true, false, not, cond, ◌&&◌, List, [], ◌∷◌, ◌++◌, length, if◌then◌else◌, refl, sym, ◌∙◌, ap, length-append, subst, arith}
use Rattle.std.proofs.lemmas.Bool.{false≢true}
use Rattle.html_tokens.specs.declared.token.TokenKind.{TokenKind}
use Rattle.html_tokens.specs.declared.token.TokenKind.TheVariants as kind
use Rattle.html_ledger.specs.declared.symbol.Symbol.{Symbol}
use Rattle.html_ledger.specs.declared.symbol.Symbol.TheVariants as symbol
use Rattle.html_ledger.specs.Symbols.{symbol_of}
use Rattle.html_construction.specs.declared.mode.Mode.{Mode}
use Rattle.html_construction.specs.Plans.{Adopt, Again, Ask, By, CloseLink, Do, Each, Ending, Foster, IsMoved, Over, Plan, Reconstruct, Refused, Rules, Runs, Settle, Stop, adopts, asks, closes_link, does, does_each, ends_each, fosters, goes_by, reconstructs, settles, stops}
use Rattle.html_construction.specs.States.{State}
use Rattle.html_construction.specs.Tokens.{char_of}
use Rattle.html_construction.specs.Words.{AddMarker, Becomes, BeginOwnPart, ClearTo, ClearToMarker, CloseForm, CloseNamed, CloseThrough, Drop, End, Enter, FramesetOff, Implied, Imply, ImplyHead, ImplyPart, ImplyRoot, ImplyVoid, Insert, InsertAt, InsertCharacter, InsertClosedForm, InsertComment, InsertCommentAt, InsertDoctype, InsertForeign, InsertForeignVoid, InsertForm, InsertHead, InsertListed, InsertPart, InsertReplacement, InsertRoot, InsertVoid, InsertVoidAt, Keep, Leave, MergeIntoBody, MergeIntoRoot, Pop, PopTemplate, PushTemplate, Quirks, ReplaceBody, Reset, Switch, Word, after, answer, with_kept}
use Rattle.html_construction.proofs.Planned.{halves as both}
use Rattle.html_laws.proofs.Words.{becomes-core}

-- WHAT A PLAN SAYS OF FATES

-- the token is a code point
abbrev pub is_char : Symbol → Bool
is_char (symbol.Char c) = true
is_char _ = false

-- the word gives the token its fate, or keeps it, as it does a code point
abbrev pub gives : Bool → Word → Bool
gives c Keep = c
gives c Insert = true
gives c (InsertAt g) = true
gives c InsertPart = true
gives c (InsertVoid n) = true
gives c (InsertVoidAt n g) = true
gives c InsertListed = true
gives c InsertHead = true
gives c InsertForm = true
gives c InsertClosedForm = true
gives c ReplaceBody = true
gives c InsertRoot = true
gives c InsertComment = true
gives c (InsertCommentAt g) = true
gives c InsertDoctype = true
gives c InsertCharacter = true
gives c InsertReplacement = true
gives c MergeIntoRoot = true
gives c MergeIntoBody = true
gives c (Drop cause) = true
gives c End = true
gives c (InsertForeign s) = true
gives c (InsertForeignVoid s) = true
gives c _ = false

abbrev pub is_flat : Plan → Bool
is_flat (Each cs q p) = false
is_flat _ = true

-- Followed where the token has no fate yet, or has one: where the token is done with, it has one, and where it is reprocessed, none.
abbrev pub due : Bool → Bool → Plan → Bool
due c d (Do w p) = is_flat p && cond (gives c w) (d && due c false p) (due c d p)
due c d (Ask q p n) = (is_flat p && is_flat n) && (due c d p && due c d n)
due c d (Reconstruct p) = is_flat p && due c d p
due c d (Adopt g p) = is_flat p && due c d p
due c d (CloseLink p) = is_flat p && due c d p
due c d (Foster p) = is_flat p && due c d p
due c d (Settle q p) = (is_flat q && is_flat p) && (due true true q && due c d p)
due c d (Each cs q p) = (is_flat q && is_flat p) && (due true true q && due c d p)
due c d (Stop Over) = not d
due c d (Stop Again) = d
due c d (Stop (Refused s)) = true
due c d (By m) = d

abbrev pub AreDue : Rules → Type 0
AreDue r = (m : Mode) (y : Symbol) → (due (is_char y) true (r m y) ≡ true) × (is_flat (r m y) ≡ true)

-- WHAT A RUN SAYS OF FATES

-- how many tokens have a fate or are kept
abbrev pub total : State → ℕ
total a = length a.ledger.fates + length a.ledger.kept

abbrev pub one : Bool → ℕ
one true = 1
one false = 0

-- code points that wait
abbrev pub extra : Plan → ℕ
extra (Each cs q p) = length cs
extra _ = 0

pub record IsGiven (d : Bool) (n : ℕ) (e : Ending) (a z : State) : Type 0 where
  pub over : e ≡ Over → total z ≡ total a + n + one d
  pub again : e ≡ Again → (d ≡ true) × (total z ≡ total a + n)

pub flat-extra : (p : Plan) → is_flat p ≡ true → extra p ≡ 0
flat-extra (Each cs q p) h = absurd (false≢true h)
flat-extra p h = refl

-- another state before
from-other : (d : Bool) (n m : ℕ) (e : Ending) (a b z : State) → total b + n ≡ total a + m → IsGiven d n e b z → IsGiven d m e a z
from-other d n m e a b z f k = record {
  over = λ i. (let g = k.over i in omega (arith, f, g));
  again = λ i. (let g = k.again i in (g.0, (let h = g.1 in omega (arith, f, h))));
}

-- a fate was given before
from-given : (d : Bool) (e : Ending) (a b z : State) → d ≡ true → total b ≡ total a + 1 → IsGiven false 0 e b z → IsGiven d 0 e a z
from-given true e a b z f t k = record { over = λ i. (let g = k.over i in omega (arith, t, g)); again = λ i. absurd (false≢true (k.again i).0) }
from-given false e a b z f t k = absurd (false≢true f)

total-becomes : (m b : State) → Becomes m b → total b ≡ total m
total-becomes m b k = ap (λ (v : State). total v) (becomes-core m b k)

total-moved : (a b : State) → IsMoved a b → total b ≡ total a
total-moved a b k = ap (λ (v : State). total v) k.rest

one-more : {X : Type 0} (xs : List X) (x : X) (k : ℕ) → length (xs ++ x ∷ []) + k ≡ length xs + k + 1
one-more xs x k = (let e = length-append xs (x ∷ []) in omega (arith, e))

char-one : (t : TokenKind) → is_char (symbol_of t) ≡ true → length (char_of t) ≡ 1
char-one (kind.Char c) h = refl
char-one (kind.Start n attrs s) h = absurd (false≢true h)
char-one (kind.End n) h = absurd (false≢true h)
char-one (kind.Comment x) h = absurd (false≢true h)
char-one (kind.Doctype n p s f) h = absurd (false≢true h)
char-one kind.Eof h = absurd (false≢true h)

char-none : (t : TokenKind) → is_char (symbol_of t) ≡ false → length (char_of t) ≡ 0
char-none (kind.Char c) h = absurd (false≢true (sym h))
char-none (kind.Start n attrs s) h = refl
char-none (kind.End n) h = refl
char-none (kind.Comment x) h = refl
char-none (kind.Doctype n p s f) h = refl
char-none kind.Eof h = refl

-- what a word adds
word-given : (w : Word) (t : TokenKind) (a : State) → gives (is_char (symbol_of t)) w ≡ true → total (after w t a) ≡ total a + 1
word-given (ClearTo c) t a h = absurd (false≢true h)
word-given Pop t a h = absurd (false≢true h)
word-given (CloseThrough g e) t a h = absurd (false≢true h)
word-given CloseNamed t a h = absurd (false≢true h)
word-given (Implied except) t a h = absurd (false≢true h)
word-given AddMarker t a h = absurd (false≢true h)
word-given ClearToMarker t a h = absurd (false≢true h)
word-given Insert t a h = one-more a.ledger.fates _ (length a.ledger.kept)
word-given (InsertAt g) t a h = one-more a.ledger.fates _ (length a.ledger.kept)
word-given InsertPart t a h = one-more a.ledger.fates _ (length a.ledger.kept)
word-given (InsertVoid n) t a h = one-more a.ledger.fates _ (length a.ledger.kept)
word-given (InsertVoidAt n g) t a h = one-more a.ledger.fates _ (length a.ledger.kept)
word-given InsertListed t a h = one-more a.ledger.fates _ (length a.ledger.kept)
word-given InsertHead t a h = one-more a.ledger.fates _ (length a.ledger.kept)
word-given InsertForm t a h = one-more a.ledger.fates _ (length a.ledger.kept)
word-given InsertClosedForm t a h = one-more a.ledger.fates _ (length a.ledger.kept)
word-given CloseForm t a h = absurd (false≢true h)
word-given ReplaceBody t a h = one-more a.ledger.fates _ (length a.ledger.kept)
word-given InsertRoot t a h = one-more a.ledger.fates _ (length a.ledger.kept)
word-given (Imply n) t a h = absurd (false≢true h)
word-given (ImplyPart n) t a h = absurd (false≢true h)
word-given (ImplyVoid n) t a h = absurd (false≢true h)
word-given ImplyHead t a h = absurd (false≢true h)
word-given ImplyRoot t a h = absurd (false≢true h)
word-given InsertComment t a h = one-more a.ledger.fates _ (length a.ledger.kept)
word-given (InsertCommentAt g) t a h = one-more a.ledger.fates _ (length a.ledger.kept)
word-given InsertDoctype t a h = one-more a.ledger.fates _ (length a.ledger.kept)
word-given InsertCharacter t a h = one-more a.ledger.fates _ (length a.ledger.kept)
word-given InsertReplacement t a h = one-more a.ledger.fates _ (length a.ledger.kept)
word-given MergeIntoRoot t a h = one-more a.ledger.fates _ (length a.ledger.kept)
word-given MergeIntoBody t a h = one-more a.ledger.fates _ (length a.ledger.kept)
word-given (Drop cause) t a h = one-more a.ledger.fates _ (length a.ledger.kept)
word-given End t a h = one-more a.ledger.fates _ (length a.ledger.kept)
word-given (Switch m) t a h = absurd (false≢true h)
word-given (Enter m) t a h = absurd (false≢true h)
word-given Leave t a h = absurd (false≢true h)
word-given FramesetOff t a h = absurd (false≢true h)
word-given (Quirks q) t a h = absurd (false≢true h)
word-given Reset t a h = absurd (false≢true h)
word-given (PushTemplate m) t a h = absurd (false≢true h)
word-given PopTemplate t a h = absurd (false≢true h)
word-given (InsertForeign s) t a h = one-more a.ledger.fates _ (length a.ledger.kept)
word-given (InsertForeignVoid s) t a h = one-more a.ledger.fates _ (length a.ledger.kept)
word-given Keep t a h = (let e = length-append a.ledger.kept (char_of t) in let f = char-one t h in omega (arith, e, f))
word-given BeginOwnPart t a h = absurd (false≢true h)

word-none : (w : Word) (t : TokenKind) (a : State) → gives (is_char (symbol_of t)) w ≡ false → total (after w t a) ≡ total a
word-none (ClearTo c) t a h = refl
word-none Pop t a h = refl
word-none (CloseThrough g e) t a h = refl
word-none CloseNamed t a h = refl
word-none (Implied except) t a h = refl
word-none AddMarker t a h = refl
word-none ClearToMarker t a h = refl
word-none Insert t a h = absurd (false≢true (sym h))
word-none (InsertAt g) t a h = absurd (false≢true (sym h))
word-none InsertPart t a h = absurd (false≢true (sym h))
word-none (InsertVoid n) t a h = absurd (false≢true (sym h))
word-none (InsertVoidAt n g) t a h = absurd (false≢true (sym h))
word-none InsertListed t a h = absurd (false≢true (sym h))
word-none InsertHead t a h = absurd (false≢true (sym h))
word-none InsertForm t a h = absurd (false≢true (sym h))
word-none InsertClosedForm t a h = absurd (false≢true (sym h))
word-none CloseForm t a h = refl
word-none ReplaceBody t a h = absurd (false≢true (sym h))
word-none InsertRoot t a h = absurd (false≢true (sym h))
word-none (Imply n) t a h = refl
word-none (ImplyPart n) t a h = refl
word-none (ImplyVoid n) t a h = refl
word-none ImplyHead t a h = refl
word-none ImplyRoot t a h = refl
word-none InsertComment t a h = absurd (false≢true (sym h))
word-none (InsertCommentAt g) t a h = absurd (false≢true (sym h))
word-none InsertDoctype t a h = absurd (false≢true (sym h))
word-none InsertCharacter t a h = absurd (false≢true (sym h))
word-none InsertReplacement t a h = absurd (false≢true (sym h))
word-none MergeIntoRoot t a h = absurd (false≢true (sym h))
word-none MergeIntoBody t a h = absurd (false≢true (sym h))
word-none (Drop cause) t a h = absurd (false≢true (sym h))
word-none End t a h = absurd (false≢true (sym h))
word-none (Switch m) t a h = refl
word-none (Enter m) t a h = refl
word-none Leave t a h = refl
word-none FramesetOff t a h = refl
word-none (Quirks q) t a h = refl
word-none Reset t a h = refl
word-none (PushTemplate m) t a h = refl
word-none PopTemplate t a h = refl
word-none (InsertForeign s) t a h = absurd (false≢true (sym h))
word-none (InsertForeignVoid s) t a h = absurd (false≢true (sym h))
word-none Keep t a h = (let e = length-append a.ledger.kept (char_of t) in let f = char-none t h in omega (arith, e, f))
word-none BeginOwnPart t a h = refl

-- the plan after a word
word-due : (g c d : Bool) (p : Plan) (e : Ending) (a b z : State) → cond g (d && due c false p) (due c d p) ≡ true → is_flat p ≡ true → (g ≡ true → total b ≡ total a + 1) → (g ≡ false → total b ≡ total a)
    → ((x : Bool) → due c x p ≡ true → IsGiven x (extra p) e b z) → IsGiven d 0 e a z
word-due true c d p e a b z h f i j k =
    let n = both d (due c false p) h in
    from-given d e a b z n.0 (i refl) (subst (λ m. IsGiven false m e b z) (flat-extra p f) (k false n.1))
word-due false c d p e a b z h f i j k = from-other d (extra p) 0 e a b z (let m = flat-extra p f in let l = j refl in omega (arith, l, m)) (k d h)

same-due : (c d : Bool) (p : Plan) (e : Ending) (a b z : State) → is_flat p ≡ true → total b ≡ total a → IsGiven d (extra p) e b z → IsGiven d 0 e a z
same-due c d p e a b z f l k = from-other d (extra p) 0 e a b z (let m = flat-extra p f in omega (arith, l, m)) k

chosen-due : (x c d : Bool) (p n : Plan) → ((is_flat p && is_flat n) && (due c d p && due c d n)) ≡ true → (is_flat (if x then p else n) ≡ true) × (due c d (if x then p else n) ≡ true)
chosen-due x c d p n h = by x
  where
    f : (is_flat p ≡ true) × (is_flat n ≡ true)
    f = both (is_flat p) (is_flat n) (both (is_flat p && is_flat n) (due c d p && due c d n) h).0

    g : (due c d p ≡ true) × (due c d n ≡ true)
    g = both (due c d p) (due c d n) (both (is_flat p && is_flat n) (due c d p && due c d n) h).1

    by : (x : Bool) → (is_flat (if x then p else n) ≡ true) × (due c d (if x then p else n) ≡ true)
    by true = (f.0, g.0)
    by false = (f.1, g.1)

abbrev is_over : Ending → Bool
is_over Over = true
is_over _ = false

abbrev is_again : Ending → Bool
is_again Again = true
is_again _ = false

stop-due : (e : Ending) (c d : Bool) (a z : State) → due c d (Stop e) ≡ true → total z ≡ total a → IsGiven d 0 e a z
stop-due Over c true a z h l = absurd (false≢true h)
stop-due Over c false a z h l = record { over = λ i. omega (arith, l); again = λ i. absurd (false≢true (sym (ap is_over i))) }
stop-due Again c d a z h l = record { over = λ i. absurd (false≢true (ap is_over i)); again = λ i. (h, omega (arith, l)) }
stop-due (Refused s) c d a z h l = record { over = λ i. absurd (false≢true (ap is_over i)); again = λ i. absurd (false≢true (ap is_again i)) }

module _ (r : Rules) (all : AreDue r) where
  pub runs-due : (c d : Bool) (p : Plan) (t : TokenKind) (a : State) (e : Ending) (z : State) → c ≡ is_char (symbol_of t) → due c d p ≡ true → Runs r p t a e z → IsGiven d (extra p) e a z
  runs-due c d _ _ _ _ _ l h (does w p t a b e z i k) =
      let n = both (is_flat p) (cond (gives c w) (d && due c false p) (due c d p)) h in
      let m = total-becomes (after w t a) b i in
      word-due (gives c w) c d p e a b z n.1 n.0 (λ g. m ∙ word-given w t a (ap (λ v. gives v w) (sym l) ∙ g)) (λ g. m ∙ word-none w t a (ap (λ v. gives v w) (sym l) ∙ g))
      (λ x g. runs-due c x p t b e z l g k)
  runs-due c d _ _ _ _ _ l h (asks q p n t a b e z i k) =
      let m = chosen-due (answer q t a) c d p n h in
      same-due c d (if answer q t a then p else n) e a b z m.0 (total-becomes a b i) (runs-due c d (if answer q t a then p else n) t b e z l m.1 k)
  runs-due c d _ _ _ _ _ l h (reconstructs p t a b e z i j k) =
      let n = both (is_flat p) (due c d p) h in
      same-due c d p e a b z n.0 (total-moved a b i) (runs-due c d p t b e z l n.1 k)
  runs-due c d _ _ _ _ _ l h (adopts g p t a b e z i j k) =
      let n = both (is_flat p) (due c d p) h in
      same-due c d p e a b z n.0 (total-moved a b i) (runs-due c d p t b e z l n.1 k)
  runs-due c d _ _ _ _ _ l h (closes_link p t a b e z i j k) =
      let n = both (is_flat p) (due c d p) h in
      same-due c d p e a b z n.0 (total-moved a b i) (runs-due c d p t b e z l n.1 k)
  runs-due c d _ _ _ _ _ l h (fosters p t a b x e z i k j) =
      let n = both (is_flat p) (due c d p) h in
      let g = same-due c d p e a b x n.0 (total-becomes (record a { fostering = true }) b i) (runs-due c d p t b e x l n.1 k) in
      let m = total-becomes (record x { fostering = false }) z j in
      record { over = λ v. m ∙ g.over v; again = λ v. ((g.again v).0, m ∙ (g.again v).1) }
  runs-due c d _ _ _ _ _ l h (settles q p t a b e z i k) =
      from-other d (length a.ledger.kept) 0 e a b z (let m = total-becomes (with_kept [] a) b i in omega (arith, m)) (runs-due c d (Each a.ledger.kept q p) t b e z l h k)
  runs-due c d _ _ _ _ _ l h (ends_each q p t a e z k) =
      let f = both (is_flat q && is_flat p) (due true true q && due c d p) h in
      subst (λ m. IsGiven d m e a z) (flat-extra p (both (is_flat q) (is_flat p) f.0).1) (runs-due c d p t a e z l (both (due true true q) (due c d p) f.1).1 k)
  runs-due c d _ _ _ _ _ l h (does_each x cs q p t a b e z i k) =
      let f = both (is_flat q && is_flat p) (due true true q && due c d p) h in
      let g = (runs-due true true q (kind.Char x) a Over b refl (both (due true true q) (due c d p) f.1).0 i).over refl in
      let m = flat-extra q (both (is_flat q) (is_flat p) f.0).0 in
      from-other d (length cs) (suc (length cs)) e a b z (omega (arith, g, m)) (runs-due c d (Each cs q p) t b e z l h k)
  runs-due c d _ _ _ _ _ l h (stops t a e z i) = stop-due e c d a z h (total-becomes a z i)
  runs-due c d _ _ _ _ _ l h (goes_by m t a e z k) =
      let n = all m (symbol_of t) in
      subst (λ v. IsGiven v 0 e a z) (sym h)
      (subst (λ v. IsGiven true v e a z) (flat-extra (r m (symbol_of t)) n.1) (runs-due c true (r m (symbol_of t)) t a e z l (ap (λ v. due v true (r m (symbol_of t))) l ∙ n.0) k))
