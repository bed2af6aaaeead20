-- What is not above a node by way of a template's contents either is none of its ancestors.
use Rattle.std.proofs.Common.{◌≡◌, ℕ, zero, suc, ◌<◌, Bool, true, false, cond, eqb, List, [], ◌∷◌, length, Some, None, inl, inr, refl, ◌∙◌, ap, subst}
use Rattle.html_arena.specs.Below.{above, above_of, or_self}
use Rattle.html_arena.specs.Data.{contents_in, host_in, is_linkable}
use Rattle.html_arena.specs.Siblings.{has}
use Rattle.html_arena.specs.Tree.{Climbs, Tree, WellFormed, ancestors, label_of}
use Rattle.html_arena.specs.declared.data.NodeData.{NodeData}
use Rattle.html_arena.specs.declared.data.NodeData.TheVariants.{Document, Contents, Element, Text, Comment, Doctype}
use Rattle.html_arena.proofs.Laws.{ancestors-climb, ancestors-root}
use Rattle.html_arena.proofs.Shown.{cases_option}
use Rattle.html_arena.proofs.Siblings.{cases_eqb}
use Rattle.html_dom.specs.Places.{meets_within, would_cycle}

linkable-no_host : (d : NodeData) → is_linkable d ≡ true → host_in d ≡ None
linkable-no_host Document h = absurd cc
linkable-no_host (Contents x) h = absurd cc
linkable-no_host (Element e) h = refl
linkable-no_host (Text s) h = refl
linkable-no_host (Comment s i) h = refl
linkable-no_host (Doctype n p s i) h = refl

neither : (c x : ℕ) (xs : List ℕ) → eqb c x ≡ false → has c xs ≡ false → has c (x ∷ xs) ≡ false
neither c x xs e h = rw (e, h) refl

-- a test that is passed at neither of two places
not_first : (b r : Bool) → cond b true r ≡ false → (b ≡ false) × (r ≡ false)
not_first true r e = absurd cc
not_first false r e = (refl, e)

not_end : (b r : Bool) → b ≡ false → cond b false r ≡ false → r ≡ false
not_end true r e h = absurd cc
not_end false r e h = h

module _ (t : Tree) (w : WellFormed t) (c : ℕ) (l : is_linkable (label_of t c) ≡ true) where
  -- c is no Contents node
  no_contents : (x h : ℕ) → host_in (label_of t x) ≡ Some h → eqb c x ≡ false
  no_contents x h e = elim (cases_eqb c x) [
    | inl k ↦ absurd (
        let n : host_in (label_of t x) ≡ None = subst (λ (v : ℕ). host_in (label_of t v) ≡ None) k.1 (linkable-no_host (label_of t c) l) in
        cc)
    | inr k ↦ k.0
  ]

  at_top : (x p : ℕ) (us : List ℕ) → Climbs t p us → eqb c x ≡ false → (h : ℕ) → host_in (label_of t p) ≡ Some h → has c (x ∷ p ∷ us) ≡ false
  at_top x p [] a f h e = neither c x (p ∷ []) f (neither c p [] (no_contents p h e) refl)
  at_top x p (q ∷ us) a f h e = absurd (let k = w.contents_alone p h e in let m = a.0 in cc)

  pub apart : (n x : ℕ) (us : List ℕ) → Climbs t x us → meets_within n t c x ≡ false → has c (x ∷ us) ≡ false
  apart zero x us a h = absurd cc
  apart (suc n) x [] a h = neither c x [] (not_first (eqb c x) _ h).0 refl
  apart (suc n) x (p ∷ us) a h =
      let first = not_first (eqb c x) _ h in
      elim (cases_option (host_in (label_of t p))) [
        | inl e ↦
            let up : above t x ≡ Some p = ap (above_of t) a.0 ∙ rw e refl in
            let later : meets_within n t c p ≡ false = rw up at first.1 in
            neither c x (p ∷ us) first.0 (apart n p us a.1 later)
        | inr e ↦ at_top x p us a.1 first.0 e.0 e.1
      ]

  -- c is not x, and none of its ancestors
  pub apart_from : (x : ℕ) → x < length t.labels → would_cycle t c x ≡ false → has c (x ∷ ancestors t x) ≡ false
  apart_from x b h = elim (cases_option (host_in (label_of t x))) [
    | inl e ↦ apart (length t.labels) x (ancestors t x) (ancestors-climb t w x b).0 (rw (← ap (or_self x) e) h)
    | inr e ↦
        let top = ancestors-root t x (w.contents_alone x e.0 e.1) in
        rw top (neither c x [] (no_contents x e.0 e.1) refl)
  ]

  -- nor is it what stands at the top of a template's contents
  pub apart_inside : (x : ℕ) → x < length t.labels → would_cycle t c x ≡ false
      → has c (or_self x (contents_in (label_of t x)) ∷ ancestors t (or_self x (contents_in (label_of t x)))) ≡ false
  apart_inside x b h = elim (cases_option (contents_in (label_of t x))) [
    | inl e ↦ rw e (apart_from x b h)
    | inr e ↦
        let host = (w.templates.contents_is x e.0 e.1).1 in
        let top = ancestors-root t e.0 (w.contents_alone e.0 x host) in
        rw e.1 (rw top (neither c e.0 [] (no_contents e.0 x host) refl))
  ]
