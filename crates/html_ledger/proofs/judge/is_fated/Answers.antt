use Rattle.std.proofs.Common.{◌<◌, ◌≡◌, length, arith, refl, sym}
use Rattle.html_ledger.proofs.Feeding.{Fated-none, judged-more, judged-never, judged-all}
use Rattle.html_ledger.proofs.judge.is_fated.Goals as goal

pub judging-init : goal.judging-init
judging-init c = (Fated-none c.args.setting, c.at-history.ensures.known)

pub returns-then-not-may_have : goal.returns-then-not-may_have
returns-then-not-may_have c =
    let lf : c.judging.i < length c.args.fates.now = omega arith in
    record { decides = (λ e. absurd cc, λ a. absurd (judged-never c.args.setting c.judging.history c.args.tokens.now c.args.fates.now c.judging.i _ c.index-fates-i.result c.judging-test.true lf c.index-fates-i.is (sym c.if-not-may_have.ensures.value) c.judging.invariant.1 a)) }

pub judging-preserved : goal.judging-preserved
judging-preserved c =
    let lf : c.judging.i < length c.args.fates.now = omega arith in
    rw c.after-history.ensures.value (judged-more c.args.setting c.judging.history c.args.tokens.now c.args.fates.now c.judging.i _ c.index-fates-i.result c.judging-test.true lf c.index-fates-i.is (sym c.if-not-may_have.ensures.value) c.judging.invariant)

pub returns : goal.returns
returns c =
    let whole : c.judging.i ≡ length c.args.tokens.now = omega arith in
    record { decides = (λ e. judged-all c.args.setting c.judging.history c.args.tokens.now c.args.fates.now c.judging.i c.if-tokens-fates.false whole c.judging.invariant, λ a. refl) }
