use Rattle.std.proofs.Common.{◌≡◌, ◌+◌, ◌≤◌, ◌++◌, ap, arith, length, string_bytes, take, ◌∙◌}
use Rattle.std.proofs.lemmas.List.{length-take-le}
use Rattle.std.specs.Str.{chars}
use Rattle.html_text.proofs.Encoding.{read-ascii, utf8-ascii}
use Rattle.html_text.proofs.run.push_front.Goals as goal

pub push_bytes-requires : goal.push_bytes-requires
push_bytes-requires c =
    let run = c.args.run.now in
    let most = c.min-most.result in
    let within : most ≤ length run = omega (arith, c.min-most.ensures) in
    let all : most ≡ 0 + length (take most run) = (let l = length-take-le most run within in omega (arith, l)) in
    utf8-ascii _ (take most run) (c.narrow.ensures.ascii c.if-narrow.true) (ap (λ n. take n c.narrow.new.block) all ∙ c.narrow.ensures.copied c.if-narrow.true)

pub returns-then-narrow-clause-ok : goal.returns-then-narrow-clause-ok
returns-then-narrow-clause-ok c =
    let run = c.args.run.now in
    let most = c.min-most.result in
    let within : most ≤ length run = omega (arith, c.min-most.ensures) in
    let all : most ≡ 0 + length (take most run) = (let l = length-take-le most run within in omega (arith, l)) in
    c.in_ok-push_bytes.ensures.ok
    ∙ ap (λ v. chars (string_bytes c.args.text.now) ++ v) (read-ascii _ (take most run) (c.narrow.ensures.ascii c.if-narrow.true) (ap (λ n. take n c.narrow.new.block) all ∙ c.narrow.ensures.copied c.if-narrow.true))
