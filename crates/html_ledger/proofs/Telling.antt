-- One more token with its fate, and with an error or without.
use Rattle.std.proofs.Common.{ℕ, ◌≤◌, ◌<◌, ◌≡◌, inl, inr, Bool, true, false, ◌||◌, ◌&&◌, List, [], ◌∷◌, ◌++◌, length, take, sym, ap, subst, ◌∙◌, arith, cond}
use Rattle.std.specs.Prelude.{slice_get, Some, Decides}
use Rattle.std.proofs.lemmas.Bool.{false_from_ne_true}
use Rattle.std.proofs.lemmas.Bool.Decides.{Decides-and, Decides-or}
use Rattle.std.proofs.lemmas.List.{length_push, take_at, take-append-le}
use Rattle.std.proofs.lemmas.Option.{slice_get_within}
use Rattle.html_ledger.specs.declared.symbol.Symbol.{Symbol}
use Rattle.html_ledger.specs.declared.setting.Setting.{Setting}
use Rattle.html_ledger.specs.declared.fate.Fate.{Fate}
use Rattle.html_ledger.specs.declared.history.History.{History}
use Rattle.html_ledger.specs.Fates.{is_error}
use Rattle.html_ledger.specs.Fated.{EachToken}
use Rattle.html_ledger.specs.Errors.{AreErrors, AreNumbersBelow, HasError, IsTold, ends_initial, has_number, is_replaced, may_be_ignored}
use Rattle.html_ledger.specs.Flags.{has_error}
use Rattle.html_ledger.specs.Known.{Knows}
use Rattle.html_ledger.proofs.Since.{last_or_before}
use Rattle.html_ledger.proofs.Rising.{rising-push, rising-more, rising-below, has-last, has-other}

pub Each-push : (P : ℕ → List Symbol → List Fate → Symbol → Fate → Type 0) (ts : List Symbol) (fs : List Fate) (t : Symbol) (f : Fate) → length fs ≡ length ts → EachToken P ts fs → P (length ts) ts fs t f → EachToken P (ts ++ t ∷ []) (fs ++ f ∷ [])
Each-push P ts fs t f same a h = λ i u g is_u is_g.
    elim (last_or_before ts t i u is_u) [
      | inl p ↦ elim (last_or_before fs f i g is_g) [
        | inl q ↦
            let at_ts : take i (ts ++ t ∷ []) ≡ ts = take_at ts (t ∷ []) i (sym p.0) in
            let at_fs : take i (fs ++ f ∷ []) ≡ fs = take_at fs (f ∷ []) i (sym q.0) in
            rw (at_ts, at_fs) (subst (λ n. P n ts fs u g) (sym p.0) (subst (λ y. P (length ts) ts fs y g) p.1 (subst (λ y. P (length ts) ts fs t y) q.1 h)))
        | inr q ↦ absurd (let w : i < length fs = slice_get_within fs i g q in let e : i ≡ length ts = p.0 in omega arith)
      ]
      | inr p ↦
          let w : i < length ts = slice_get_within ts i u p in
          let le : i ≤ length ts = omega arith in
          let lf : i ≤ length fs = omega arith in
          elim (last_or_before fs f i g is_g) [
            | inl q ↦ absurd (let e : i ≡ length fs = q.0 in omega arith)
            | inr q ↦
                let at_ts : take i (ts ++ t ∷ []) ≡ take i ts = take-append-le i ts (t ∷ []) le in
                let at_fs : take i (fs ++ f ∷ []) ≡ take i fs = take-append-le i fs (f ∷ []) lf in
                rw (at_ts, at_fs) (a i u g p q)
          ]
    ]

-- a number that none has is not among them
no-number : (es : List ℕ) (n : ℕ) → AreNumbersBelow n es → has_number n es ≡ false
no-number es n a = false_from_ne_true (has_number n es) (λ h. let w : n < n = rising-below 0 es n n a h in omega arith)

pub AreErrors-push : (s : Setting) (ts : List Symbol) (fs : List Fate) (es : List ℕ) (t : Symbol) (f : Fate) (told : Bool) → length fs ≡ length ts → IsTold told s ts t f → AreErrors s ts fs es → AreErrors s (ts ++ t ∷ []) (fs ++ f ∷ []) (cond told (es ++ length fs ∷ []) es)
AreErrors-push s ts fs es t f true same h a = record {
  rising = subst (λ n. AreNumbersBelow n (es ++ length fs ∷ [])) (sym (length_push fs f)) (rising-push 0 es (length fs) a.rising);
  each = Each-push (λ i before given token fate. IsTold (has_number i (es ++ length fs ∷ [])) s before token fate) ts fs t f same
      (λ i u g is_u is_g. let w : i < length fs = slice_get_within fs i g is_g in subst (λ b. IsTold b s (take i ts) u g) (sym (has-other es (length fs) i w)) (a.each i u g is_u is_g))
      (subst (λ b. IsTold b s ts t f) (sym (has-last es (length fs)) ∙ ap (λ n. has_number n (es ++ length fs ∷ [])) same) h);
}
AreErrors-push s ts fs es t f false same h a = record {
  rising = let more : length fs ≤ length (fs ++ f ∷ []) = omega (arith, length_push fs f) in rising-more 0 es (length fs) (length (fs ++ f ∷ [])) more a.rising;
  each = Each-push (λ i before given token fate. IsTold (has_number i es) s before token fate) ts fs t f same a.each
      (subst (λ b. IsTold b s ts t f) (sym (no-number es (length fs) a.rising) ∙ ap (λ n. has_number n es) same) h);
}

pub AreErrors-none : (s : Setting) → AreErrors s [] [] []
AreErrors-none s = record { rising = omega arith; each = λ i u g p q. absurd (let w : slice_get [] i ≡ Some u = p in cc) }

pub Decides-has_error : (s : Setting) (h : History) (ts : List Symbol) (fs : List Fate) (t : Symbol) (f : Fate) → Knows s h ts fs → Decides (has_error h t f) (HasError s ts t f)
Decides-has_error s h ts fs t f k =
    Decides-or (is_error f) (is_replaced t f || (ends_initial t && h.awaits_doctype)) (λ e. e, λ e. e)
    (Decides-or (is_replaced t f) (ends_initial t && h.awaits_doctype) (λ e. e, λ e. e) (Decides-and (ends_initial t) h.awaits_doctype (λ e. e, λ e. e) k.awaits_doctype))

-- what the flags tell
pub told-given : (s : Setting) (h : History) (ts : List Symbol) (fs : List Fate) (t : Symbol) (f : Fate) → Knows s h ts fs → IsTold (has_error h t f) s ts t f
told-given s h ts fs t f k = let d = Decides-has_error s h ts fs t f k in record { must = d.1; may = λ e. inl (d.0 e) }

pub told-ended : (s : Setting) (h : History) (ts : List Symbol) (fs : List Fate) (t : Symbol) (f : Fate) (ignored : Bool) → Knows s h ts fs → IsTold (has_error h t f || (ignored && may_be_ignored t)) s ts t f
told-ended s h ts fs t f ignored k =
    let d = Decides-or (has_error h t f) (ignored && may_be_ignored t) (Decides-has_error s h ts fs t f k) (Decides-and ignored (may_be_ignored t) (λ e. e, λ e. e) (λ e. e, λ e. e)) in
    record { must = λ e. d.1 (inl e); may = λ e. elim (d.0 e) [ inl a ↦ inl a | inr b ↦ inr b.1 ] }
