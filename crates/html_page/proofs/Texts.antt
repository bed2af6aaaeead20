-- The texts of a walk's events are the text of its forest.
use Rattle.std.proofs.Common.{◌≡◌, ℕ, zero, suc, Bool, true, false, cond, List, [], ◌∷◌, ◌++◌, length, None, inl, inr, refl, sym, ◌∙◌, ap, subst, append_assoc, append-nil}
use Rattle.html_arena.specs.Below.{IsForestAt, above, below, kids, levels_below, or_self, row}
use Rattle.html_arena.specs.Data.{contents_in, host_in}
use Rattle.html_arena.specs.Forest.{Forest, relabel}
use Rattle.html_arena.specs.Forest.Forest.{empty, tree}
use Rattle.html_arena.specs.Siblings.{has}
use Rattle.html_arena.specs.Steps.{events, events_then}
use Rattle.html_arena.specs.Tree.{Tree, WellFormed, children_of, label_of}
use Rattle.html_arena.specs.declared.walk.Event.{Event}
use Rattle.html_arena.specs.declared.walk.Event.TheVariants.{Leave}
use Rattle.html_arena.specs.declared.walk.Show.{Show}
use Rattle.html_arena.specs.declared.walk.Show.TheVariants.{All, Written}
use Rattle.html_page.specs.declared.profile.Profile.{Profile}
use Rattle.html_page.specs.Html.{html_of, is_raw, is_void}
use Rattle.html_page.specs.Serialised.{event_text, html_below, is_raw_below}
use Rattle.html_page.specs.Shows.{label_at}
use Rattle.html_page.proofs.Kin.{IsKid, cases_bool, cases_eqb, eqb-self, hides_is, kid}

-- the texts of events, one after another
abbrev pub texts : Profile → Tree → List Event → List ℕ
texts p t [] = []
texts p t (e ∷ es) = event_text p t e ++ texts p t es

nothing : (s : Show) (t : Tree) (f : Forest ℕ) → IsForestAt s t [] f → f ≡ empty
nothing s t empty a = refl
nothing s t (tree x f g) a = absurd a

module _ (p : Profile) (t : Tree) (w : WellFormed t) where
  -- nothing is written below a void element
  hidden : (x : ℕ) (b : Bool) (f : Forest ℕ) → IsForestAt Written t (kids Written t x) f
      → cond (is_void (label_at t x)) [] (html_of p b (relabel (label_at t) f)) ≡ html_of p b (relabel (label_at t) f)
  hidden x b f a = elim (cases_bool (is_void (label_at t x))) [
    | inl e ↦
        let k : is_void (label_at t x) ≡ true = e in
        let n : IsForestAt Written t [] f = rw (hides_is t w x, k) at a in
        rw (k, nothing Written t f n) refl
    | inr e ↦ (let k : is_void (label_at t x) ≡ false = e in rw k refl)
  ]

  -- where void elements have nothing below them, the text is the same
  rows_same : (g h : ℕ → Forest ℕ) (xs : List ℕ) (b : Bool)
      → ((x : ℕ) (c : Bool) → is_void (label_at t x) ≡ false → html_of p c (relabel (label_at t) (g x)) ≡ html_of p c (relabel (label_at t) (h x)))
      → html_of p b (relabel (label_at t) (row g xs)) ≡ html_of p b (relabel (label_at t) (row h xs))
  rows_same g h [] b e = refl
  rows_same g h (x ∷ xs) b e = elim (cases_bool (is_void (label_at t x))) [
    | inl k ↦ (let v : is_void (label_at t x) ≡ true = k in rw (v, rows_same g h xs b e) refl)
    | inr k ↦ (let v : is_void (label_at t x) ≡ false = k in rw (v, e x (is_raw (label_at t x)) v, rows_same g h xs b e) refl)
  ]

  levels_same : (n x : ℕ) (b : Bool) → is_void (label_at t x) ≡ false
      → html_of p b (relabel (label_at t) (levels_below n All t x)) ≡ html_of p b (relabel (label_at t) (levels_below n Written t x))
  levels_same zero x b v = refl
  levels_same (suc n) x b v =
      rw (hides_is t w x, v)
      (rows_same (levels_below n All t) (levels_below n Written t) (children_of t (or_self x (contents_in (label_of t x)))) b (λ y c k. levels_same n y c k))

  texts_then : (f : Forest ℕ) (x : ℕ) (xs : List ℕ) (es : List Event) → host_in (label_of t x) ≡ None → ((y : ℕ) → has y xs ≡ true → has y (kids Written t x) ≡ true)
      → IsForestAt Written t xs f → texts p t (events_then f es) ≡ html_of p (is_raw (label_at t x)) (relabel (label_at t) f) ++ texts p t es
  texts_then empty x xs es n h a = refl
  texts_then (tree z f g) x [] es n h a = absurd a
  texts_then (tree z f g) x (y ∷ ys) es n h a =
      let i : IsKid Written t w x z = subst (λ (v : ℕ). IsKid Written t w x v) (sym a.0) (kid Written t w x y n (h y (rw (eqb-self y) refl))) in
      let b : IsForestAt Written t (kids Written t z) f = subst (λ (v : ℕ). IsForestAt Written t (kids Written t v) f) (sym a.0) a.1 in
      let r : is_raw_below t (above t z) ≡ is_raw (label_at t x) = ap (is_raw_below t) i.up in
      let inner = texts_then f z (kids Written t z) (Leave z ∷ events_then g es) i.lone (λ q k. k) b in
      let later = texts_then g x ys es n (λ q k. h q (elim (cases_eqb q y) [ inl e ↦ rw e.0 refl | inr e ↦ rw e.0 k ])) a.2 in
      rw (r, inner, later, hidden z (is_raw (label_at t z)) f b) (simp append_assoc)

  -- the texts of all events
  pub texts_all : (r : ℕ) → host_in (label_of t r) ≡ None → IsForestAt Written t (kids Written t r) (below Written t r) → html_below p t r ≡ texts p t (events (below Written t r))
  texts_all r o a =
      let e = texts_then (below Written t r) r (kids Written t r) [] o (λ q k. k) a ∙ append-nil (html_of p (is_raw (label_at t r)) (relabel (label_at t) (below Written t r))) in
      elim (cases_bool (is_void (label_at t r))) [
        | inl k ↦ (
            let v : is_void (label_at t r) ≡ true = k in
            let n : IsForestAt Written t [] (below Written t r) = rw (hides_is t w r, v) at a in
            rw (v, nothing Written t (below Written t r) n) refl)
        | inr k ↦ (let v : is_void (label_at t r) ≡ false = k in rw v (levels_same (length t.labels) r (is_raw (label_at t r)) v ∙ sym e))
      ]
