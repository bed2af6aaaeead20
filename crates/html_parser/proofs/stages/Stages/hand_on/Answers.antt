use Rattle.std.proofs.Common.{◌∙◌}
use Rattle.std.proofs.lemmas.Result.{err_from_is_err_and}
use Rattle.html_parser.proofs.Further.{cause_of, further_on, handed_on}
use Rattle.html_parser.proofs.stages.Stages.hand_on.Goals as goal

pub returns-in_err-some-clause-cause : goal.returns-in_err-some-clause-cause
returns-in_err-some-clause-cause c =
    let p = err_from_is_err_and c.from_residual.result c.from_residual.ensures.1 in
    rw (p.1, p.2) (λ start finished bytes run r. cause_of start finished c.tokens.self bytes run.text _
    (c.tokens.invariant.0 start finished bytes run r) (c.in_err-some.ensures.cause start finished bytes))

pub returns-in_err-some-clause-told : goal.returns-in_err-some-clause-told
returns-in_err-some-clause-told c =
    let p = err_from_is_err_and c.from_residual.result c.from_residual.ensures.1 in
    rw (p.1, p.2) (λ start finished bytes run r.
    let f = c.tokens.invariant.0 start finished bytes run r in
    c.in_err-some.ensures.told start finished bytes f.run f.is_run)

pub returns-then-not-some-clause-handed : goal.returns-then-not-some-clause-handed
returns-then-not-some-clause-handed c = λ start finished bytes run r. handed_on start finished c.tokens.self _ bytes run.text
    (c.tokens.invariant.0 start finished bytes run r) (c.in_ok-some.ensures.none c.if-not-some.true start finished bytes)

pub tokens-preserved : goal.tokens-preserved
tokens-preserved c = (
  (λ start finished bytes run r. further_on start finished c.tokens.self _ bytes run.text
      (c.tokens.invariant.0 start finished bytes run r) (c.in_ok-some.ensures.further start finished bytes)),
  c.hand_next.ensures.keeps ∙ c.tokens.invariant.1,
)
