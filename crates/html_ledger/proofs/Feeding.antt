-- The tokens handed in, after each call.
use Rattle.std.proofs.Common.{ℕ, suc, Bool, ◌||◌, ◌&&◌, ◌+◌, ◌≤◌, ◌<◌, ◌≡◌, IsTrue, List, [], ◌∷◌, ◌++◌, length, take, get_or, true, false, refl, sym, ap, subst, ◌∙◌, arith, length-append, append_assoc}
use Rattle.std.specs.Prelude.{slice_get, Some}
use Rattle.std.proofs.lemmas.List.{length_push, take_more, take_all, append-nil}
use Rattle.std.proofs.lemmas.Option.{slice_get_read, slice_get-get_or}
use Rattle.html_ledger.specs.declared.symbol.Symbol.{Symbol}
use Rattle.html_ledger.specs.declared.symbol.Symbol.TheVariants.{Char}
use Rattle.html_ledger.specs.declared.setting.Setting.{Setting}
use Rattle.html_ledger.specs.declared.fate.Fate.{Fate}
use Rattle.html_ledger.specs.declared.fate.Fate.TheVariants.{Ended}
use Rattle.html_ledger.specs.declared.history.History.{History}
use Rattle.std.proofs.lemmas.Bool.{both_ways}
use Rattle.html_ledger.specs.Symbols.{chars_of}
use Rattle.html_ledger.specs.Fated.{IsFate, Fated, is_end}
use Rattle.html_ledger.specs.Errors.{IsTold, may_be_ignored}
use Rattle.html_ledger.specs.Flags.{may_have, after, has_error}
use Rattle.html_ledger.specs.Known.{Knows}
use Rattle.html_ledger.specs.Entries.{Entries, Settled, Fed, Keeps, Takes, Releases, begun, noted, given, ended}
use Rattle.html_ledger.proofs.Rising.{rising-count}
use Rattle.html_ledger.proofs.Telling.{Each-push, AreErrors-push, AreErrors-none, told-given, told-ended}
use Rattle.html_ledger.proofs.Flagged.{Knows-after, Knows-none}
use Rattle.html_ledger.proofs.Words.{Decides-may_have}

Fated-push : (s : Setting) (ts : List Symbol) (fs : List Fate) (t : Symbol) (f : Fate) → Fated s ts fs → IsFate s ts fs t f → Fated s (ts ++ t ∷ []) (fs ++ f ∷ [])
Fated-push s ts fs t f a h =
    let same : length fs ≡ length ts = a.counted in record {
      counted = length_push fs f ∙ ap (λ n. n + 1) same ∙ sym (length_push ts t);
      each = Each-push (λ i before given token fate. IsFate s before given token fate) ts fs t f same a.each h;
    }

Settled-noted : (s : Setting) (e : Entries) (ts : List Symbol) (t : Symbol) (f : Fate) (told : Bool) → IsTrue (may_have e.history t f) → IsTold told s ts t f → Settled s e ts → Settled s (noted e t f told) (ts ++ t ∷ [])
Settled-noted s e ts t f told h w a = record {
  fated = Fated-push s ts e.fates t f a.fated ((Decides-may_have s e.history ts e.fates t f a.known).0 h);
  known = Knows-after s e.history ts e.fates t f a.known;
  told = AreErrors-push s ts e.fates e.errors t f told a.fated.counted w a.told;
}

-- where nothing is kept, the tokens handed in are those that have their fates
front-is : (ts front : List Symbol) (kept : List ℕ) → ts ≡ front ++ chars_of kept → kept ≡ [] → ts ≡ front
front-is ts front kept e none = e ∙ ap (λ cs. front ++ chars_of cs) none ∙ append-nil front

Fed-noted : (e : Entries) (t : Symbol) (f : Fate) (told : Bool) → IsTrue (may_have e.history t f) → ((s : Setting) (ts : List Symbol) → Knows s e.history ts e.fates → IsTold told s ts t f) → e.kept ≡ [] → Takes t e (noted e t f told)
Fed-noted e t f told h w none = λ s ts a. record {
  front = a.front ++ t ∷ [];
  settled = Settled-noted s e a.front t f told h (w s a.front a.settled.known) a.settled;
  split = ap (λ us. us ++ t ∷ []) (front-is ts a.front e.kept a.split none) ∙ sym (append-nil (a.front ++ t ∷ [])) ∙ ap (λ cs. (a.front ++ t ∷ []) ++ chars_of cs) (sym none);
}

pub Takes-given : (e n : Entries) (t : Symbol) (f : Fate) → IsTrue (may_have e.history t f) → e.kept ≡ [] → n ≡ given e t f → Takes t e n
Takes-given e n t f h none is =
    subst (λ x. Takes t e x) (sym is) (Fed-noted e t f (has_error e.history t f) h (λ s ts k. told-given s e.history ts e.fates t f k) none)

pub Takes-ended : (e n : Entries) (t : Symbol) (ignored : Bool) → IsTrue (is_end t) → e.kept ≡ [] → n ≡ ended e t ignored → Takes t e n
Takes-ended e n t ignored h none is =
    subst (λ x. Takes t e x) (sym is) (Fed-noted e t Ended (has_error e.history t Ended || (ignored && may_be_ignored t)) h (λ s ts k. told-ended s e.history ts e.fates t Ended ignored k) none)

-- what the code computes is what an end tag's error is
pub ended-is : (e n : Entries) (t : Symbol) (ignored r a b m : Bool) → n ≡ noted e t Ended r → r ≡ (a || b) → a ≡ has_error e.history t Ended → b ≡ (ignored && m) → m ≡ may_be_ignored t → n ≡ ended e t ignored
ended-is e n t ignored r a b m is p q x y =
    is ∙ ap (λ k. noted e t Ended k) (p ∙ ap (λ k. k || b) q ∙ ap (λ k. has_error e.history t Ended || k) (x ∙ ap (λ k. ignored && k) y))

pub quiet-noted : (e n : Entries) (t : Symbol) (f : Fate) (told : Bool) → n ≡ noted e t f told → e.kept ≡ [] → n.kept ≡ []
quiet-noted e n t f told is none = ap (λ (x : Entries). x.kept) is ∙ none

pub counted-noted : (e n : Entries) (t : Symbol) (f : Fate) (told : Bool) → n ≡ noted e t f told → length n.fates ≡ length e.fates + 1
counted-noted e n t f told is = ap (λ (x : Entries). length x.fates) is ∙ length_push e.fates f

-- other code points are kept
Settled-kept : (s : Setting) (e : Entries) (cs : List ℕ) (ts : List Symbol) → Settled s e ts → Settled s (record e { kept = cs }) ts
Settled-kept s e cs ts a = record { fated = a.fated; known = a.known; told = a.told }

pub chars_of-push : (cs : List ℕ) (c : ℕ) → chars_of (cs ++ c ∷ []) ≡ chars_of cs ++ Char c ∷ []
chars_of-push [] c = refl
chars_of-push (d ∷ cs) c = ap (λ us. Char d ∷ us) (chars_of-push cs c)

length-chars_of : (cs : List ℕ) → length (chars_of cs) ≡ length cs
length-chars_of [] = refl
length-chars_of (c ∷ cs) = ap (λ n. suc n) (length-chars_of cs)

pub Takes-kept : (e n : Entries) (c : ℕ) → n ≡ record e { kept = e.kept ++ c ∷ [] } → Takes (Char c) e n
Takes-kept e n c is = subst (λ x. Takes (Char c) e x) (sym is) (λ s ts a. record {
  front = a.front;
  settled = Settled-kept s e (e.kept ++ c ∷ []) a.front a.settled;
  split = ap (λ us. us ++ Char c ∷ []) a.split ∙ append_assoc a.front (chars_of e.kept) (Char c ∷ []) ∙ ap (λ us. a.front ++ us) (sym (chars_of-push e.kept c));
})

pub Releases-kept : (e n : Entries) (cs : List ℕ) → n ≡ record e { kept = [] } → cs ≡ e.kept → Releases cs e n
Releases-kept e n cs is same = subst (λ x. Releases cs e x) (sym is) (λ s ts a. (
  a.front,
  record {
    front = a.front;
    settled = Settled-kept s e [] a.front a.settled;
    split = sym (append-nil a.front);
  },
  a.split ∙ ap (λ ds. a.front ++ chars_of ds) (sym same),
))

pub Fed-count : (s : Setting) (e : Entries) (ts : List Symbol) → Fed s e ts → length ts ≡ length e.fates + length e.kept
Fed-count s e ts a =
    let k : length e.fates ≡ length a.front = a.settled.fated.counted in
    ap length a.split ∙ length-append a.front (chars_of e.kept) ∙ ap (λ n. length a.front + n) (length-chars_of e.kept) ∙ ap (λ n. n + length e.kept) (sym k)

-- no more errors than fates
pub Fed-errors : (s : Setting) (e : Entries) (ts : List Symbol) → Fed s e ts → length e.errors ≤ length e.fates
Fed-errors s e ts a = let w : 0 + length e.errors ≤ length e.fates = rising-count 0 e.errors (length e.fates) a.settled.told.rising in omega arith

pub Fated-none : (s : Setting) → Fated s [] []
Fated-none s = record { counted = refl; each = λ i u g p q. absurd (let w : slice_get [] i ≡ Some u = p in cc) }

pub Fed-none : (s : Setting) → Fed s (begun s) []
Fed-none s = record {
  front = [];
  settled = record { fated = Fated-none s; known = Knows-none s; told = AreErrors-none s };
  split = refl;
}

-- the judge: the tokens so far, and one more, or one that fails
pub judged-more : (s : Setting) (h : History) (ts : List Symbol) (fs : List Fate) (i : ℕ) (d : Symbol) (f : Fate) → i < length ts → i < length fs → f ≡ get_or fs i f → may_have h (get_or ts i d) f ≡ true → Fated s (take i ts) (take i fs) × Knows s h (take i ts) (take i fs) → Fated s (take (i + 1) ts) (take (i + 1) fs) × Knows s (after h (get_or ts i d) f) (take (i + 1) ts) (take (i + 1) fs)
judged-more s h ts fs i d f lt lf is_f m a =
    let t : Symbol = get_or ts i d in
    let at_ts : take (i + 1) ts ≡ take i ts ++ t ∷ [] = take_more ts i d lt in
    let at_fs : take (i + 1) fs ≡ take i fs ++ f ∷ [] = take_more fs i f lf ∙ ap (λ x. take i fs ++ x ∷ []) (sym is_f) in
    rw (at_ts, at_fs) (Fated-push s (take i ts) (take i fs) t f a.0 ((Decides-may_have s h (take i ts) (take i fs) t f a.1).0 m), Knows-after s h (take i ts) (take i fs) t f a.1)

pub judged-never : (s : Setting) (h : History) (ts : List Symbol) (fs : List Fate) (i : ℕ) (d : Symbol) (f : Fate) → i < length ts → i < length fs → f ≡ get_or fs i f → may_have h (get_or ts i d) f ≡ false → Knows s h (take i ts) (take i fs) → Fated s ts fs → ⊥
judged-never s h ts fs i d f lt lf is_f m k a =
    let t : Symbol = get_or ts i d in
    both_ways (may_have h t f) m ((Decides-may_have s h (take i ts) (take i fs) t f k).1 (a.each i t f (slice_get-get_or ts i d lt) (slice_get_read fs (length fs) i f refl lf is_f)))

pub judged-all : (s : Setting) (h : History) (ts : List Symbol) (fs : List Fate) (i : ℕ) → length ts ≡ length fs → i ≡ length ts → Fated s (take i ts) (take i fs) × Knows s h (take i ts) (take i fs) → Fated s ts fs
judged-all s h ts fs i e n a =
    let at_ts : take i ts ≡ ts = take_all i ts (omega arith) in
    let at_fs : take i fs ≡ fs = take_all i fs (omega arith) in
    rw (at_ts, at_fs) at a.0

-- code points that were taken out, one by one
pub Releases-next : (a b d : Entries) (c : ℕ) (cs : List ℕ) → Releases (c ∷ cs) a b → Takes (Char c) b d → Releases cs a d
Releases-next a b d c cs r t = λ s ts f.
    let w = r s ts f in (w.0 ++ Char c ∷ [], t s w.0 w.1, w.2 ∙ sym (append_assoc w.0 (Char c ∷ []) (chars_of cs)))

pub Releases-none : (a b : Entries) → Releases [] a b → Keeps a b
Releases-none a b r = λ s ts f. let w = r s ts f in subst (λ us. Fed s b us) (sym (w.2 ∙ append-nil w.0)) w.1
