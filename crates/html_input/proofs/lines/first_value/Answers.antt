use Rattle.std.proofs.Common.{◌⊎◌, inl, inr, ◌<◌, ◌≤◌, length, arith, sym, subst, ⊎_elim}
use Rattle.std.proofs.lemmas.Bool.{cases_lt}
use Rattle.std.proofs.lemmas.Bool.Decides.{nat_tests}
use Rattle.html_input.specs.Starts.{StartsWith}
use Rattle.html_input.proofs.Walking.{starts_ascii, starts_front}
use Rattle.html_input.proofs.lines.first_value.Goals as goal

pub returns-then-first-lt128-clause-some : goal.returns-then-first-lt128-clause-some
returns-then-first-lt128-clause-some c =
    let test = c.if-is_empty.ensures in
    let some : 0 < length c.args.bytes.now = grind (arith, nat_tests) in
    subst (λ b. StartsWith c.args.bytes.now b 1) (sym c.from.ensures) (starts_ascii c.args.bytes.now some c.if-first-lt128.true)

pub returns-clause-some : goal.returns-clause-some
returns-clause-some c =
    let wide : (4 ≤ c.min.result) ⊎ (length c.args.bytes.now ≤ c.min.result) = ⊎_elim
    (λ (long : 4 < length c.args.bytes.now). inl (omega (arith, long, c.min.ensures)))
    (λ (short : length c.args.bytes.now ≤ 4). inr (omega (arith, short, c.min.ensures)))
    (cases_lt 4 (length c.args.bytes.now)) in
    starts_front c.min.result c.args.bytes.now c.short_value.result.0 c.short_value.result.1 wide c.short_value.ensures.starts
