-- A walk under way: what its next event is, and what is left after it.
use Rattle.std.proofs.Common.{◌≡◌, ℕ, suc, ◌<◌, ◌≤◌, true, false, List, [], ◌∷◌, length, inl, inr, refl, sym, ◌∙◌, ap, subst, arith}
use Rattle.html_arena.specs.Tree.{Tree, WellFormed, label_of}
use Rattle.html_arena.proofs.Siblings.{eqb-self}
use Rattle.html_arena.specs.declared.walk.Show.{Show}
use Rattle.html_arena.specs.declared.walk.Event.{Event}
use Rattle.html_arena.specs.declared.walk.Event.TheVariants.{Enter}
use Rattle.html_arena.specs.Data.{contents_in}
use Rattle.html_arena.specs.Below.{above_of, or_self, below}
use Rattle.html_arena.specs.Steps.{events, step, node_in, is_end, rest, Remain}
use Rattle.html_arena.specs.Walking.{IsPlaced, IsRoot, IsUnderWay}
use Rattle.html_arena.proofs.Shown.{cases_option}
use Rattle.html_arena.proofs.Events.{steps_from-is, remain_all}

pub inner_in : (t : Tree) (x : ℕ) → WellFormed t → x < length t.labels → or_self x (contents_in (label_of t x)) < length t.labels
inner_in t x w l = elim (cases_option (contents_in (label_of t x))) [
  | inl e ↦ rw e l
  | inr e ↦ rw e.1 (w.templates.contents_is x e.0 e.1).0
]

-- a node that nothing is above
pub root-placed : (t : Tree) (r : ℕ) → IsRoot t r → IsPlaced t r
root-placed t r o = record { inside = o.inside; no_host = o.no_host; ups = []; rises = ap (above_of t) o.alone }

module _ (t : Tree) (s : Show) (r : ℕ) where
  pub begun : IsPlaced t r → WellFormed t → (e : Event) → e ≡ step s t (Enter r) → IsUnderWay t s r e
  begun o w e i = record {
    placed = o;
    well_formed = w;
    to_come = events (below s t r);
    few = omega arith;
    remain = subst (λ (v : Event). Remain s t r v (events (below s t r))) (sym i) (remain_all s t w r o.ups o.rises o.no_host);
  }

  pub begun_events : IsPlaced t r → WellFormed t → (e : Event) → e ≡ step s t (Enter r) → rest s t r e ≡ events (below s t r)
  unfolding begun
  begun_events o w e i = steps_from-is (suc (length (events (below s t r)))) s t r e (events (below s t r)) (begun o w e i).remain (omega arith)

  pub record GoesOn (e : Event) : Type 0 where
    pub inside : node_in e < length t.labels
    pub later : IsUnderWay t s r (step s t e)
    pub split : rest s t r e ≡ e ∷ rest s t r (step s t e)

  going : (e : Event) → IsPlaced t r → WellFormed t → is_end r e ≡ false → (es : List Event) → length es ≤ length (events (below s t r)) → Remain s t r e es → GoesOn e
  going e o w h [] l a = absurd (let k : is_end r e ≡ true = rw a (eqb-self r) in cc)
  going e o w h (f ∷ es) l a =
      let n = suc (length (events (below s t r))) in
      let u = steps_from-is n s t r e (f ∷ es) a (omega arith) in
      let v = steps_from-is n s t r (step s t e) es a.3 (omega arith) in
      record {
        inside = a.2;
        later = record { placed = o; well_formed = w; to_come = es; few = omega arith; remain = a.3 };
        split = u ∙ ap (λ (d : Event). d ∷ es) a.0 ∙ ap (λ (ds : List Event). e ∷ ds) (sym v);
      }

  pub goes_on : (e : Event) → IsUnderWay t s r e → is_end r e ≡ false → GoesOn e
  goes_on e i h = going e i.placed i.well_formed h i.to_come i.few i.remain

  pub over : (e : Event) → is_end r e ≡ true → rest s t r e ≡ []
  over e h = rw h refl
