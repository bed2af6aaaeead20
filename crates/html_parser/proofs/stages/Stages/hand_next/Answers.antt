use Rattle.std.proofs.Common.{arith}
use Rattle.std.proofs.lemmas.Result.{err_from_is_err_and}
use Rattle.html_parser.proofs.Further.{cause_of, further_on, handed_on}
use Rattle.html_parser.proofs.stages.Stages.hand_next.Goals as goal

pub returns-in_err-some-clause-cause : goal.returns-in_err-some-clause-cause
returns-in_err-some-clause-cause c =
    let p = err_from_is_err_and c.from_residual-in_err-some.result c.from_residual-in_err-some.ensures.1 in
    rw (p.1, p.2) (λ start finished bytes run r. cause_of start finished c.hand_text.new.self bytes run.text _
    (c.in_ok-hand_text.ensures.further start finished bytes run r) (c.in_err-some.ensures.cause start finished bytes))

pub returns-in_err-some-clause-told : goal.returns-in_err-some-clause-told
returns-in_err-some-clause-told c =
    let p = err_from_is_err_and c.from_residual-in_err-some.result c.from_residual-in_err-some.ensures.1 in
    rw (p.1, p.2) (λ start finished bytes run r.
    let f = c.in_ok-hand_text.ensures.further start finished bytes run r in
    c.in_err-some.ensures.told start finished bytes f.run f.is_run)

pub returns-clause-further : goal.returns-clause-further
returns-clause-further c = λ start finished bytes run r. further_on start finished c.hand_text.new.self _ bytes run.text
    (c.in_ok-hand_text.ensures.further start finished bytes run r) (c.in_ok-some.ensures.further start finished bytes)

pub returns-clause-none : goal.returns-clause-none
returns-clause-none c = λ no start finished bytes run r. handed_on start finished c.hand_text.new.self _ bytes run.text
    (c.in_ok-hand_text.ensures.further start finished bytes run r) (c.in_ok-some.ensures.none no start finished bytes)

pub returns-clause-more : goal.returns-clause-more
returns-clause-more c = λ some. let least = c.in_ok-hand_text.ensures.same in let more = c.in_ok-some.ensures.more some in omega (arith, least, more)
