use Rattle.std.proofs.Common.{◌≡◌, ◌∙◌, ap, sym, refl, ℕ, ◌<◌, ◌==◌, Bool, false, ◌&&◌, List, [], ◌∷◌, length, drop, arith, eq-eqb, drop_of_length-le}
use Rattle.std.proofs.lemmas.List.{drop_more}
use borrow.Author.Tests.{ne_eqb}
use Rattle.html_names.specs.Names.{begins_with}
use Rattle.html_names.proofs.names.begins_with.Goals as goal

never : (b : Bool) → (b && false) ≡ false
never Bool.true = refl
never Bool.false = refl

too_short : (p xs : List ℕ) → length xs < length p → begins_with p xs ≡ false
too_short [] xs h = absurd (omega arith)
too_short (c ∷ cs) [] h = refl
too_short (c ∷ cs) (d ∷ ds) h = rw (too_short cs ds (omega arith)) (never (c == d))

pub returns-then-text-front : goal.returns-then-text-front
returns-then-text-front c = sym (too_short _ _ c.if-text-front.true)

pub returns-then-w-c : goal.returns-then-w-c
returns-then-w-c c =
    let i = c.loop-i.i in
    let there : i < length c.args.text.now = omega arith in
    let other = ne_eqb _ _ c.if-w-c.true in
    sym (c.loop-i.invariant ∙ rw (drop_more _ i 0 there, drop_more _ i 0 c.loop-i-test.true, other))

pub loop-i-preserved : goal.loop-i-preserved
loop-i-preserved c =
    let i = c.loop-i.i in
    let there : i < length c.args.text.now = omega arith in
    let same = eq-eqb _ _ c.if-w-c.false in
    c.loop-i.invariant ∙ rw (drop_more _ i 0 there, drop_more _ i 0 c.loop-i-test.true, same)

pub returns : goal.returns
returns c = sym (c.loop-i.invariant ∙ ap (λ p. begins_with p (drop c.loop-i.i c.args.text.now)) (drop_of_length-le c.args.front.now c.loop-i-test.false))
