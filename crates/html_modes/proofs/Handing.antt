-- Code points handed in one after another.
use Rattle.std.proofs.Common.{ℕ, ◌≡◌, List, [], ◌∷◌, ◌++◌, Result, Ok, Err, IfErr, refl, sym, ap, subst, ◌∙◌}
use Rattle.std.proofs.lemmas.List.{append_assoc, append-nil}
use Rattle.html_tokens.specs.declared.token.TokenKind.{TokenKind}
use Rattle.html_tokens.specs.declared.token.TokenKind.TheVariants as kind
use Rattle.html_arena.specs.declared.arena.ArenaError.{ArenaError}
use Rattle.html_construction.specs.Budgets.{IsRefusedAny, Refuses, RefusesAny}
use Rattle.html_construction.specs.Built.{Handed, IsBuilt, Keeps, Takes, TakesRun, Releases, chars_of, with_tokens}
use Rattle.html_construction.specs.States.{State}

chars-append : (xs ys : List ℕ) → chars_of (xs ++ ys) ≡ chars_of xs ++ chars_of ys
chars-append [] ys = refl
chars-append (x ∷ xs) ys = ap (λ ts. kind.Char x ∷ ts) (chars-append xs ys)

with-none : (h : Handed) → with_tokens h [] ≡ h
unfolding with_tokens
with-none h = ap (λ ts. record h { tokens = ts }) (append-nil h.tokens)

with-then : (h : Handed) (xs ys : List TokenKind) → with_tokens (with_tokens h xs) ys ≡ with_tokens h (xs ++ ys)
unfolding with_tokens
with-then h xs ys = ap (λ ts. record h { tokens = ts }) (append_assoc h.tokens xs ys)

with-run : (h : Handed) (xs ys : List ℕ) → with_tokens (with_tokens h (chars_of xs)) (chars_of ys) ≡ with_tokens h (chars_of (xs ++ ys))
with-run h xs ys = with-then h (chars_of xs) (chars_of ys) ∙ ap (λ ts. with_tokens h ts) (sym (chars-append xs ys))

pub run-none : (a : State) → TakesRun [] a a
run-none a = λ h w. subst (λ x. IsBuilt x a) (sym (with-none h)) w

pub run-then : (xs ys : List ℕ) (a b d : State) → TakesRun xs a b → TakesRun ys b d → TakesRun (xs ++ ys) a d
run-then xs ys a b d f g = λ h w. subst (λ x. IsBuilt x d) (with-run h xs ys) (g (with_tokens h (chars_of xs)) (f h w))

-- one more code point
pub run-next : (xs : List ℕ) (c : ℕ) (a b d : State) → TakesRun xs a b → Takes (kind.Char c) b d → TakesRun (xs ++ c ∷ []) a d
run-next xs c a b d f g = run-then xs (c ∷ []) a b d f g

-- code points that were taken out, and handed in again
pub run-released : (cs : List ℕ) (a b d : State) → Releases cs a b → TakesRun cs b d → Keeps a d
run-released cs a b d r f = λ h w. let x = r h w in subst (λ y. IsBuilt y d) (sym x.2) (f x.0 x.1)

-- what a later call was refused for, where the tokens handed in are the same
pub refuses-kept : {A : Type 0} (r : Result A ArenaError) (t : TokenKind) (a m z : State) → Keeps a m → IfErr r (λ e. Refuses t e m z) → IfErr r (λ e. Refuses t e a z)
refuses-kept (Ok x) t a m z k f = tt
refuses-kept (Err e) t a m z k f = λ h w. f h (k h w)

-- and where code points were handed in before: the limits are the same
with-limits : (h : Handed) (ts : List TokenKind) → (with_tokens h ts).limits ≡ h.limits
unfolding with_tokens
with-limits h ts = refl

pub run-refused : (cs : List ℕ) (a b z : State) (e : ArenaError) → TakesRun cs a b → RefusesAny e b z → RefusesAny e a z
run-refused cs a b z e t k = λ h w. subst (λ l. IsRefusedAny l z e) (with-limits h (chars_of cs)) (k (with_tokens h (chars_of cs)) (t h w))
