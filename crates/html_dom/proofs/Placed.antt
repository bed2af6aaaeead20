-- Above a node that is placed the nodes come to an end, and so does a walk below it.
use Rattle.std.proofs.Common.{◌≡◌, ℕ, zero, suc, ◌<◌, Bool, true, false, ◌&&◌, nat_lt, is_none, List, [], ◌∷◌, ◌++◌, length, Option, Some, None, inl, inr, refl, sym, ◌∙◌, ap, arith, append_assoc, append-nil}
use Rattle.std.proofs.lemmas.Bool.Decides.{nat_tests}
use Rattle.html_arena.specs.Below.{above}
use Rattle.html_arena.specs.Data.{host_in}
use Rattle.html_arena.specs.Forest.{Forest, labels}
use Rattle.html_arena.specs.Forest.Forest.{empty, tree}
use Rattle.html_arena.specs.Steps.{events, events_then}
use Rattle.html_arena.specs.Tree.{Tree, WellFormed, label_of}
use Rattle.html_arena.specs.Walking.{IsPlaced, Upward}
use Rattle.html_arena.specs.declared.walk.Event.{Event}
use Rattle.html_arena.specs.declared.walk.Event.TheVariants.{Leave}
use Rattle.html_arena.specs.declared.walk.Show.TheVariants.{All}
use Rattle.html_arena.proofs.Shown.{above_in, cases_option}
use Rattle.html_arena.proofs.Upward.{Upward-length}
use Rattle.html_dom.specs.Places.{ends_within, is_placed}
use Rattle.html_dom.specs.Reads.{entered}

ends-rises : (n : ℕ) (t : Tree) (x : ℕ) (us : List ℕ) → Upward (above t) x us → length us < n → ends_within n t x ≡ true
ends-rises zero t x us a l = absurd (omega arith)
ends-rises (suc n) t x [] a l = rw a refl
ends-rises (suc n) t x (u ∷ us) a l = rw a.0 (ends-rises n t u us a.1 (omega arith))

rises-ends : (n : ℕ) (t : Tree) (x : ℕ) → ends_within n t x ≡ true → (us : List ℕ) × Upward (above t) x us
rises-ends zero t x e = absurd cc
rises-ends (suc n) t x e = elim (cases_option (above t x)) [
  | inl k ↦ ([], k)
  | inr k ↦
      let later : ends_within n t k.0 ≡ true = rw k.1 at e in
      let r = rises-ends n t k.0 later in
      (k.0 ∷ r.0, (k.1, r.1))
]

both : (a b : Bool) → (a && b) ≡ true → (a ≡ true) × (b ≡ true)
both true b e = (refl, e)
both false b e = absurd cc

none-is : (o : Option ℕ) → is_none o ≡ true → o ≡ None
none-is None e = refl
none-is (Some x) e = absurd cc

below-is : (x n : ℕ) → nat_lt x n ≡ true → x < n
below-is x n e = grind (arith, nat_tests)

is-below : (x n : ℕ) → x < n → nat_lt x n ≡ true
is-below x n l = grind (arith, nat_tests)

pub placed : (t : Tree) (x : ℕ) → is_placed t x ≡ true → IsPlaced t x
placed t x e =
    let a = both (nat_lt x (length t.labels)) _ e in
    let b = both (is_none (host_in (label_of t x))) _ a.1 in
    let r = rises-ends (length t.labels) t x b.1 in
    record { inside = below-is x (length t.labels) a.0; no_host = none-is (host_in (label_of t x)) b.0; ups = r.0; rises = r.1 }

pub placed-is : (t : Tree) (x : ℕ) → WellFormed t → IsPlaced t x → is_placed t x ≡ true
placed-is t x w p =
    let l = Upward-length (above t) (length t.labels) (above_in All t w) x p.ups p.rises p.inside in
    rw (is-below x (length t.labels) p.inside, p.no_host, ends-rises (length t.labels) t x p.ups p.rises l) refl

entered_then : (f : Forest ℕ) (es : List Event) → entered (events_then f es) ≡ labels f ++ entered es
entered_then empty es = refl
entered_then (tree x f g) es =
    ap (λ l. x ∷ l) (entered_then f (Leave x ∷ events_then g es) ∙ ap (λ l. labels f ++ l) (entered_then g es) ∙ sym (append_assoc (labels f) (labels g) (entered es)))

pub entered-all : (f : Forest ℕ) → entered (events f) ≡ labels f
entered-all f = entered_then f [] ∙ append-nil (labels f)
