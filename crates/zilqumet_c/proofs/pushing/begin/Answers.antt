use Rattle.std.proofs.Common.{[], inl, inr, subst, sym}
use Rattle.std.specs.Prelude.{IfErr, IfOk, OnOk}
use Rattle.html_parser.specs.Options.{HasGoodContext, IsBeginCause, start_of}
use Rattle.html_parser.specs.Owned.{IsOwnedFed}
use Rattle.zilqumet_c.specs.Kept.{unboxed}
use Rattle.zilqumet_c.specs.Pieces.{IsFedIn}
use Rattle.zilqumet_c.specs.Reads.{rows_in}
use Rattle.zilqumet_c.proofs.Pushed.{begin_place}
use Rattle.zilqumet_c.proofs.pushing.begin.Goals as goal

pub returns-clause-begun : goal.returns-clause-begun
returns-clause-begun c = λ is_ok.
    let k = c.hold.ensures.ok is_ok in
    let fed = subst (λ v. IfOk v (λ p. IsOwnedFed (start_of (rows_in (unboxed c.take-held.result)) c.args.options.now) p.feeder [])) k.1 c.begun_by-begun.ensures.begun in
    let of_rows = subst (λ v. IsOwnedFed (start_of (rows_in v) c.args.options.now) k.0.feeder []) c.take-held.ensures.value fed in
    subst (λ v. IsFedIn (start_of (rows_in c.args.entities.now.value) c.args.options.now) v []) (sym k.2) of_rows

pub returns-clause-good : goal.returns-clause-good
returns-clause-good c = λ is_ok. subst (λ v. OnOk v (HasGoodContext c.args.options.now)) (c.hold.ensures.ok is_ok).1 c.begun_by-begun.ensures.good

pub returns-clause-cause : goal.returns-clause-cause
returns-clause-cause c = λ bad. elim (c.hold.ensures.cause bad) [
  | inl m ↦ inl m
  | inr t ↦
      let cause = subst (λ v. IfErr v (IsBeginCause c.args.options.now)) t.1 c.begun_by-begun.ensures.cause in
      inr (t.0, cause, t.2, begin_place c.args.options.now t.0 cause)
]
