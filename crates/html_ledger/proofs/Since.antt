-- One more token with its fate, at the end of the lists.
use Rattle.std.proofs.Common.{ℕ, ◌≡◌, ◌<◌, ◌⊎◌, inl, inr, Bool, true, false, ◌&&◌, ◌||◌, IsTrue, List, [], ◌∷◌, ◌++◌, length, refl, ap, subst, arith, zero, suc}
use Rattle.std.specs.Prelude.{slice_get, Some, Decides}
use Rattle.std.proofs.lemmas.Bool.Decides.{Decides-and, Decides-or, Decides-like}
use Rattle.std.proofs.lemmas.List.{length_push}
use Rattle.std.proofs.lemmas.Option.{slice_get_within}
use Rattle.html_ledger.specs.declared.symbol.Symbol.{Symbol}
use Rattle.html_ledger.specs.declared.fate.Fate.{Fate}
use Rattle.html_ledger.specs.MayDrop.{Since, any_token, no_token}

pub slice_get-more : {A : Type 0} → (xs ys : List A) (d : ℕ) (x : A) → slice_get xs d ≡ Some x → slice_get (xs ++ ys) d ≡ Some x
slice_get-more [] ys d x e = absurd cc
slice_get-more (z ∷ xs) ys zero x e = e
slice_get-more (z ∷ xs) ys (suc d) x e = slice_get-more xs ys d x e

pub slice_get-last : {A : Type 0} → (xs : List A) (y : A) → slice_get (xs ++ y ∷ []) (length xs) ≡ Some y
slice_get-last [] y = refl
slice_get-last (x ∷ xs) y = slice_get-last xs y

-- the last member, or an earlier one
pub last_or_before : {A : Type 0} → (xs : List A) (y : A) (d : ℕ) (x : A) → slice_get (xs ++ y ∷ []) d ≡ Some x → ((d ≡ length xs) × (y ≡ x)) ⊎ (slice_get xs d ≡ Some x)
last_or_before [] y zero x e = inl (refl, cc)
last_or_before [] y (suc d) x e = absurd cc
last_or_before (z ∷ xs) y zero x e = inr e
last_or_before (z ∷ xs) y (suc d) x e =
    elim (last_or_before xs y d x e) [ inl p ↦ inl (ap (λ n. suc n) p.0, p.1) | inr q ↦ inr q ]

-- the last token is such
pub since-last : (p : Symbol → Fate → Bool) (q : Symbol → Bool) (ts : List Symbol) (fs : List Fate) (t : Symbol) (f : Fate) → length fs ≡ length ts → IsTrue (p t f) → Since p q (ts ++ t ∷ []) (fs ++ f ∷ [])
since-last p q ts fs t f e h = record {
  at = length ts;
  token = t;
  fate = f;
  token_is = slice_get-last ts t;
  fate_is = rw (← e) (slice_get-last fs f);
  is_such = h;
  kept = λ k u lt is. absurd (let w : k < length (ts ++ t ∷ []) = slice_get_within _ k u is in omega (arith, length_push ts t));
}

-- an earlier one is, and the last one is as asked
pub since-more : (p : Symbol → Fate → Bool) (q : Symbol → Bool) (ts : List Symbol) (fs : List Fate) (t : Symbol) (f : Fate) → Since p q ts fs → IsTrue (q t) → Since p q (ts ++ t ∷ []) (fs ++ f ∷ [])
since-more p q ts fs t f s h = record {
  at = s.at;
  token = s.token;
  fate = s.fate;
  token_is = slice_get-more ts _ s.at s.token s.token_is;
  fate_is = slice_get-more fs _ s.at s.fate s.fate_is;
  is_such = s.is_such;
  kept = λ k u lt is. elim (last_or_before ts t k u is) [ inl a ↦ subst (λ x. IsTrue (q x)) a.1 h | inr b ↦ s.kept k u lt b ];
}

pub since-split : (p : Symbol → Fate → Bool) (q : Symbol → Bool) (ts : List Symbol) (fs : List Fate) (t : Symbol) (f : Fate) → length fs ≡ length ts → Since p q (ts ++ t ∷ []) (fs ++ f ∷ []) → (Since p q ts fs × IsTrue (q t)) ⊎ IsTrue (p t f)
since-split p q ts fs t f e s =
    elim (last_or_before ts t s.at s.token s.token_is) [
      | inl a ↦ elim (last_or_before fs f s.at s.fate s.fate_is) [
        | inl b ↦ inr (rw (a.1, b.1) s.is_such)
        | inr b ↦ absurd (let w : s.at < length fs = slice_get_within fs s.at s.fate b in omega arith)
      ]
      | inr a ↦ let w : s.at < length ts = slice_get_within ts s.at s.token a in
          elim (last_or_before fs f s.at s.fate s.fate_is) [
            | inl b ↦ absurd (let g : s.at ≡ length fs = b.0 in omega arith)
            | inr b ↦ inl (
              record {
                at = s.at;
                token = s.token;
                fate = s.fate;
                token_is = a;
                fate_is = b;
                is_such = s.is_such;
                kept = λ k u lt is. s.kept k u lt (slice_get-more ts _ k u is);
              },
              s.kept (length ts) t w (slice_get-last ts t),
            )
          ]
    ]

-- the flag of such a fact, after one more token
pub Decides-since : (p : Symbol → Fate → Bool) (q : Symbol → Bool) (ts : List Symbol) (fs : List Fate) (t : Symbol) (f : Fate) (b : Bool) → length fs ≡ length ts → Decides b (Since p q ts fs) → Decides ((b && q t) || p t f) (Since p q (ts ++ t ∷ []) (fs ++ f ∷ []))
Decides-since p q ts fs t f b e d =
    Decides-like ((b && q t) || p t f)
    (λ w. elim w [ inl a ↦ since-more p q ts fs t f a.0 a.1 | inr c ↦ since-last p q ts fs t f e c ])
    (λ s. since-split p q ts fs t f e s)
    (Decides-or (b && q t) (p t f) (Decides-and b (q t) d (λ h. h, λ h. h)) (λ h. h, λ h. h))

pub Decides-since_any : (p : Symbol → Fate → Bool) (ts : List Symbol) (fs : List Fate) (t : Symbol) (f : Fate) (b : Bool) → length fs ≡ length ts → Decides b (Since p any_token ts fs) → Decides (b || p t f) (Since p any_token (ts ++ t ∷ []) (fs ++ f ∷ []))
Decides-since_any p ts fs t f true e d = Decides-since p any_token ts fs t f true e d
Decides-since_any p ts fs t f false e d = Decides-since p any_token ts fs t f false e d

pub Decides-since_none : (p : Symbol → Fate → Bool) (ts : List Symbol) (fs : List Fate) (t : Symbol) (f : Fate) (b : Bool) → length fs ≡ length ts → Decides b (Since p no_token ts fs) → Decides (p t f) (Since p no_token (ts ++ t ∷ []) (fs ++ f ∷ []))
Decides-since_none p ts fs t f true e d = Decides-since p no_token ts fs t f true e d
Decides-since_none p ts fs t f false e d = Decides-since p no_token ts fs t f false e d

-- such a fact, or one of the context
pub Decides-since_or : (p : Symbol → Fate → Bool) (P : Type 0) (ts : List Symbol) (fs : List Fate) (t : Symbol) (f : Fate) (b : Bool) → length fs ≡ length ts → Decides b (Since p any_token ts fs ⊎ P) → Decides (b || p t f) (Since p any_token (ts ++ t ∷ []) (fs ++ f ∷ []) ⊎ P)
Decides-since_or p P ts fs t f b e d =
    Decides-like (b || p t f)
    (λ w. elim w [
      | inl a ↦ elim a [ inl s ↦ inl (since-more p any_token ts fs t f s refl) | inr x ↦ inr x ]
      | inr c ↦ inl (since-last p any_token ts fs t f e c)
    ])
    (λ w. elim w [
      | inl s ↦ elim (since-split p any_token ts fs t f e s) [ inl a ↦ inl (inl a.0) | inr c ↦ inr c ]
      | inr x ↦ inl (inr x)
    ])
    (Decides-or b (p t f) d (λ h. h, λ h. h))

-- no token is before the first
pub since-none : (p : Symbol → Fate → Bool) (q : Symbol → Bool) (fs : List Fate) → Since p q [] fs → ⊥
since-none p q fs s = let e : slice_get [] s.at ≡ Some s.token = s.token_is in cc
