-- How often a token entered the rules of a mode, from one entry to the next.
use Rattle.std.proofs.Common.{ℕ, ◌+◌, ◌≡◌, ◌<◌, ◌≤◌, ap, subst, arith}
use Rattle.html_construction.specs.States.{State}
use Rattle.html_construction.specs.Weights.{weight}
use Rattle.html_ledger.specs.declared.symbol.Symbol.{Symbol}
use Rattle.html_modes.specs.Entering.{Enters}
use Rattle.html_modes.specs.Ranks.{rank, top_rank}
use Rattle.html_modes.specs.Steps.{Falls}
use Rattle.html_modes.specs.declared.outcome.Outcome.{Outcome}
use Rattle.html_modes.specs.declared.outcome.Outcome.TheVariants.{Done, Reprocess}
use Rattle.html_modes.proofs.Moded.{rank-top}

-- what is left to pay for entries, where the token in hand is known
abbrev left : Symbol → State → ℕ
left y a = weight a.stack + rank a.mode y

counted : (y : Symbol) (m n : State) → n ≡ record m { tree = n.tree } → left y n ≡ left y m
counted y m n e = ap (λ (x : State). left y x) e

pub enters-next : (o : Outcome) (y : Symbol) (i m n b : State) (before k l : ℕ) → o ≡ Reprocess → n ≡ record m { tree = n.tree } → Falls o y n b → l ≤ k + 1
    → k + left y m ≤ before + left y i → l + left y b ≤ before + left y i
enters-next o y i m n b before k l q e f h p =
    let v : left y b < left y n = subst (λ x. Falls x y n b) q f in
    let s = counted y m n e in
    omega (arith, v, s, h, p)

pub enters-done : (o : Outcome) (y : Symbol) (i m n b d : State) (before k l : ℕ) → o ≡ Done → n ≡ record m { tree = n.tree } → Falls o y n b → d ≡ record b { mode = d.mode }
    → top_rank d.mode ≤ top_rank b.mode → l ≤ k + 1 → k + left y m ≤ before + left y i → Enters 1 before l i d
enters-done o y i m n b d before k l q e f z t h p =
    let v : weight b.stack + top_rank b.mode ≤ weight n.stack + 15 = subst (λ x. Falls x y n b) q f in
    let s : weight n.stack ≡ weight m.stack = ap (λ (x : State). weight x.stack) e in
    let w : weight d.stack ≡ weight b.stack = ap (λ (x : State). weight x.stack) z in
    let r = rank-top i.mode y in
    omega (arith, v, s, w, t, r, h, p)
