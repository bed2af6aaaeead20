-- The events of a walk after the first.
use Rattle.std.proofs.Common.{◌≡◌, ◌<◌, ℕ, suc, List, ◌∷◌, subst, arith}
use Rattle.std.specs.List.{All}
use Rattle.html_arena.specs.declared.walk.Event.{Event}
use Rattle.html_arena.specs.Steps.{node_in}

module _ (n : ℕ) (all : List Event) (e : Event) (es : List Event) (split : all ≡ e ∷ es) (nodes : All (λ (e : Event). node_in e < n) all) where
  cut : All (λ (e : Event). node_in e < n) (e ∷ es)
  cut = subst (All (λ (e : Event). node_in e < n)) split nodes

  pub first_in : node_in e < n
  first_in = cut 0 e (omega arith)

  pub rest_in : All (λ (e : Event). node_in e < n) es
  rest_in = λ k d h. cut (suc k) d (omega arith)
