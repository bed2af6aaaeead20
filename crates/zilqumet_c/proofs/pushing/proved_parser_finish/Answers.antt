use Rattle.std.proofs.Common.{◌≡◌, ◌∙◌, ℕ, List, inl, inr, subst, sym}
use Rattle.std.specs.Prelude.{IfErr, IfOk, IsSomeAnd}
use Rattle.html_parser.specs.Causes.{IsCause}
use Rattle.html_parser.specs.Owned.{IsOwnedFed, IsOwnedStopped}
use Rattle.html_parser.specs.Parsed.{IsTreeOf}
use Rattle.html_parser.specs.Start.{Start}
use Rattle.zilqumet_c.specs.Status.{status_of}
use Rattle.zilqumet_c.proofs.pushing.proved_parser_finish.Goals as goal

pub returns-in-Some-clause-parsed : goal.returns-in-Some-clause-parsed
returns-in-Some-clause-parsed c = λ is_ok.
    let k = c.keep.ensures.ok is_ok in
    let tree = subst (λ v. IfOk v (λ r. (start : Start) (bytes : List ℕ) → IsOwnedFed start c.in-Some.parser.feeder bytes → IsTreeOf start bytes r.tree)) k.1 c.end.ensures.tree in
    (k.0, k.2, λ start bytes fed. tree start bytes (subst (λ o. IsSomeAnd o (λ p. IsOwnedFed start p.feeder bytes)) (sym c.taken.ensures.parser ∙ c.in-Some.is) fed))

pub returns-in-Some-clause-cause : goal.returns-in-Some-clause-cause
returns-in-Some-clause-cause c = λ bad start bytes fed. elim (c.keep.ensures.cause bad) [
  | inl m ↦ inl m
  | inr t ↦
      let cause = subst (λ v. IfErr v (λ e. (start : Start) (bytes : List ℕ) → IsOwnedFed start c.in-Some.parser.feeder bytes → IsCause start bytes e)) t.1 c.end.ensures.cause in
      inr (t.0, cause start bytes (subst (λ o. IsSomeAnd o (λ p. IsOwnedFed start p.feeder bytes)) (sym c.taken.ensures.parser ∙ c.in-Some.is) fed), t.2, t.3)
]

pub returns-in-Some-clause-stopped : goal.returns-in-Some-clause-stopped
returns-in-Some-clause-stopped c = λ was.
    subst (λ v. IfErr v (λ e. c.keep.result ≡ status_of e)) (c.end.ensures.stopped (subst (λ o. IsSomeAnd o (λ p. IsOwnedStopped p.feeder)) (sym c.taken.ensures.parser ∙ c.in-Some.is) was))
    c.keep.ensures.told
