-- What calls make of the limits: they stay.
use Rattle.std.proofs.Common.{◌≡◌, ℕ, Bool, List, [], ◌∷◌, ◌++◌, length, Option, Some, None, refl, ◌∙◌, ap}
use Rattle.html_names.specs.declared.tag.Tag.{Tag}
use Rattle.html_arena.specs.declared.data.NewNode.TheVariants.{CloneOf}
use Rattle.html_arena.specs.Make.{made}
use Rattle.html_arena.specs.Tree.{Tree, inserted, parent_of}
use Rattle.html_open.specs.declared.adoption.AdoptEnd.{AdoptEnd}
use Rattle.html_open.specs.declared.places.Place.{Place}
use Rattle.html_open.specs.declared.places.Place.TheVariants.{Before, Last}
use Rattle.html_open.specs.Adopting.{Adopted, Ends, Rounds, closes, eight, fewer, forgets, no_entry, no_round, one_more, out_of_scope, popped}
use Rattle.html_open.specs.Opened.{Open}
use Rattle.html_open.specs.Placing.{place_of, put}
use Rattle.html_open.specs.Reopening.{Reopened, closed, with_clone, with_clones}

pub put-limits : (t : Tree) (p : Place) (c : ℕ) → (put t p c).limits ≡ t.limits
put-limits t (Last q) c = refl
put-limits t (Before b) c = by (parent_of t b)
  where
    by : (o : Option ℕ) → (inserted t c b o).limits ≡ t.limits
    by None = refl
    by (Some q) = refl

clone-limits : (t : Tree) (s : List ℕ) (f : Bool) (x : ℕ) → (with_clone t s f x).limits ≡ t.limits
clone-limits t s f x = put-limits (made t (CloneOf x)) (place_of t s None f) (length t.labels)

pub clones-limits : (t : Tree) (s : List ℕ) (f : Bool) (xs : List ℕ) → (with_clones t s f xs).limits ≡ t.limits
clones-limits t s f [] = refl
clones-limits t s f (x ∷ xs) = clones-limits (with_clone t s f x) (s ++ length t.labels ∷ []) f xs ∙ clone-limits t s f x

pub reopened-limits : (f : Bool) (o p : Open) → Reopened f o p → p.tree.limits ≡ o.tree.limits
reopened-limits f o p r = ap (λ (t : Tree). t.limits) r.tree_is ∙ clones-limits o.tree o.stack f (closed o)

pub rounds-limits : (s : Tag) (f : Bool) (n : ℕ) (o p : Open) → Rounds s f n o p → p.tree.limits ≡ o.tree.limits
rounds-limits s f n o p (no_round q) = refl
rounds-limits s f n o p (one_more m a b c rs r) = r.limits_are ∙ rounds-limits s f m a b rs

ends-limits : (s : Tag) (end : AdoptEnd) (o p : Open) → Ends s end o p → p.tree.limits ≡ o.tree.limits
ends-limits s end o p (closes a b k) = ap (λ (t : Tree). t.limits) k.tree_is
ends-limits s end o p (forgets a b k) = ap (λ (t : Tree). t.limits) k.tree_is
ends-limits s end o p (out_of_scope a b k) = ap (λ (t : Tree). t.limits) k.unchanged.tree_is
ends-limits s end o p (no_entry a b k) = ap (λ (t : Tree). t.limits) k.unchanged.tree_is

pub adopted-limits : (s : Tag) (f : Bool) (end : AdoptEnd) (o q : Open) → Adopted s f end o q → q.tree.limits ≡ o.tree.limits
adopted-limits s f end o q (popped a b k) = ap (λ (t : Tree). t.limits) k.tree_is
adopted-limits s f end o q (eight a b e rs) = rounds-limits s f 8 a b rs
adopted-limits s f end o q (fewer d n a b c e few rs en) = ends-limits s d b c en ∙ rounds-limits s f n a b rs
