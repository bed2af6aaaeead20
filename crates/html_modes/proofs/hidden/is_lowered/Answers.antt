use Rattle.std.proofs.Common.{◌≡◌, ◌≢◌, sym, refl, ℕ, ◌==◌, Bool, true, false, ◌&&◌, List, [], ◌∷◌, length, arith}
use Rattle.std.specs.Char.{to_ascii_lowercase}
use Rattle.html_names.specs.Foreign.{is_lowered}
use Rattle.html_modes.proofs.hidden.is_lowered.Goals as goal

never : (b : Bool) → (b && false) ≡ false
never true = refl
never false = refl

unlike : (cs ds : List ℕ) → length cs ≢ length ds → is_lowered cs ds ≡ false
unlike [] [] h = absurd (h refl)
unlike [] (d ∷ ds) h = refl
unlike (c ∷ cs) [] h = refl
unlike (c ∷ cs) (d ∷ ds) h = rw (unlike cs ds (λ e. h (omega (arith, e)))) (never (to_ascii_lowercase c == d))

pub returns-then-capital-lower : goal.returns-then-capital-lower
returns-then-capital-lower c = sym (unlike _ _ c.if-capital-lower.true)
