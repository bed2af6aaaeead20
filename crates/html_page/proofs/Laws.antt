-- What an arena shows below a root is one forest.
use Rattle.std.proofs.Common.{◌≡◌, ℕ, ◌<◌, true, false, cond, List, [], ◌∷◌, length, inl, inr, refl, sym, ◌∙◌, ap, append-nil}
use Rattle.html_arena.specs.Below.{IsForestAt, below, kids}
use Rattle.html_arena.specs.Forest.{Forest, relabel}
use Rattle.html_arena.specs.Forest.Forest.{empty, tree}
use Rattle.html_arena.specs.Siblings.{has}
use Rattle.html_arena.specs.Tree.{Tree, WellFormed}
use Rattle.html_arena.specs.declared.walk.Show.TheVariants.{All}
use Rattle.html_page.specs.declared.profile.Profile.{Profile}
use Rattle.html_page.specs.Forest.{single}
use Rattle.html_page.specs.Html.{html_of, is_raw, is_void}
use Rattle.html_page.specs.Label.{Label}
use Rattle.html_page.specs.Label.Label.{document}
use Rattle.html_page.specs.Serialised.{forest_below, html_below}
use Rattle.html_page.specs.Shows.{Shows, label_at}
use Rattle.html_page.proofs.Kin.{cases_eqb, eqb-self}

module _ (t : Tree) where
  -- the trees that nodes show are theirs alone
  pub Shows-same : (ids : List ℕ) (f g : Forest Label) → Shows t ids f → Shows t ids g → f ≡ g
  Shows-same [] empty empty a b = refl
  Shows-same [] empty (tree y g h) a b = absurd b
  Shows-same [] (tree y g h) k a b = absurd a
  Shows-same (x ∷ xs) empty g a b = absurd a
  Shows-same (x ∷ xs) (tree y f h) empty a b = absurd b
  Shows-same (x ∷ xs) (tree y f h) (tree z k m) a b =
      let l : y ≡ z = sym a.1 ∙ b.1 in
      let e = Shows-same (kids All t x) f k a.2 b.2 in
      let d = Shows-same xs h m a.3 b.3 in
      rw (l, e, d) refl

  module _ (w : WellFormed t) where
    inside : (p x : ℕ) → has x (kids All t p) ≡ true → x < length t.labels
    inside p x h = w.child_in _ x h

    shows_forest : (f : Forest ℕ) (ids : List ℕ) → ((x : ℕ) → has x ids ≡ true → x < length t.labels) → IsForestAt All t ids f → Shows t ids (relabel (label_at t) f)
    shows_forest empty [] h a = tt
    shows_forest empty (x ∷ xs) h a = absurd a
    shows_forest (tree z f g) [] h a = absurd a
    shows_forest (tree z f g) (x ∷ xs) h a = (
      h x (rw (eqb-self x) refl),
      ap (label_at t) (sym a.0),
      shows_forest f (kids All t x) (inside x) a.1,
      shows_forest g xs (λ y k. h y (elim (cases_eqb y x) [ inl e ↦ rw e.0 refl | inr e ↦ rw e.0 k ])) a.2,
    )

    pub shows_below : (r : ℕ) → IsForestAt All t (kids All t r) (below All t r) → Shows t (kids All t r) (relabel (label_at t) (below All t r))
    shows_below r a = shows_forest (below All t r) (kids All t r) (inside r) a

-- the text of a document
pub document_text : (p : Profile) (t : Tree) (r : ℕ) (inner : Forest Label) → label_at t r ≡ document → inner ≡ forest_below t r
    → html_of p false (single document inner) ≡ html_below p t r
document_text p t r inner h e =
    append-nil (html_of p false inner) ∙ ap (html_of p false) e ∙ ap (λ (l : Label). cond (is_void l) [] (html_of p (is_raw l) (forest_below t r))) (sym h)
