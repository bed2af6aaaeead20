use Rattle.std.proofs.Common.{arith}
use Rattle.std.proofs.lemmas.Result.{on_ok_weaker, IfErr-weaker}
use Rattle.html_input.proofs.Steps.{feeds}
use Rattle.html_input.proofs.Feeding.{Fed-Settles, Fed-more, Fed-Decodes, Fed-bounded}
use Rattle.html_input.proofs.decoder.Decoder.feed.Goals as goal

pub returns-else-is_err-clause-fed : goal.returns-else-is_err-clause-fed
returns-else-is_err-clause-fed c =
    on_ok_weaker c.decode-outcome.result (λ moves limit bytes text f. Fed-more c.args.piece.now f moves c.decode-outcome.ensures.limit c.decode-outcome.ensures.running) c.decode-outcome.ensures.moves

pub returns-else-is_err-clause-decoded : goal.returns-else-is_err-clause-decoded
returns-else-is_err-clause-decoded c =
    on_ok_weaker c.decode-outcome.result (λ fed limit bytes text f. Fed-Decodes (fed limit bytes text f)) (returns-else-is_err-clause-fed c)

pub returns-then-is_err-clause-too_long : goal.returns-then-is_err-clause-too_long
returns-then-is_err-clause-too_long c =
    IfErr-weaker c.decode-outcome.result _ _ (λ e passes long limit bytes text f more. omega (arith, f.limit_is, passes long _ _ (feeds c.args.piece.now (Fed-Settles f)) more)) c.decode-outcome.ensures.err

pub returns-else-is_err-clause-bounded : goal.returns-else-is_err-clause-bounded
returns-else-is_err-clause-bounded c =
    on_ok_weaker c.decode-outcome.result (λ fed limit bytes text f. Fed-bounded (fed limit bytes text f)) (returns-else-is_err-clause-fed c)
