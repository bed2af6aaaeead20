use Rattle.std.proofs.Common.{◌≡◌, ◌∷◌, ◌++◌, [], take, drop, sym, ap, subst, ◌∙◌}
use Rattle.std.proofs.lemmas.Result.{err_from_is_err_and}
use Rattle.html_input.specs.Added.{added}
use Rattle.html_input.specs.Normal.{ReadsOn, PassesLimit}
use Rattle.html_input.proofs.Steps.{move_ascii, too_long_ascii, first_one, first_ascii, plain_ascii}
use Rattle.html_input.proofs.decoder.Decoder.decode_ascii.Goals as goal

pub returns-in_err-read-clause-err : goal.returns-in_err-read-clause-err
returns-in_err-read-clause-err c =
    let p = err_from_is_err_and c.from_residual.result c.from_residual.ensures.1 in
    let bytes = c.args.bytes.now in
    let one : c.from.result ∷ [] ≡ take 1 bytes = ap (λ b. b ∷ []) c.from.ensures ∙ sym (first_one bytes c.requires.1) in
    rw p.1 (λ long. too_long_ascii 1 bytes (first_ascii bytes c.requires.1 c.requires.2)
    (subst (PassesLimit c.args.self.now.normaliser) one (c.in_err-read.ensures.err (sym p.2 ∙ long))))

pub returns-then-len-eq0-clause-moves : goal.returns-then-len-eq0-clause-moves
returns-then-len-eq0-clause-moves c =
    let bytes = c.args.bytes.now in
    let one : c.from.result ∷ [] ≡ take 1 bytes = ap (λ b. b ∷ []) c.from.ensures ∙ sym (first_one bytes c.requires.1) in
    move_ascii 1 bytes (first_ascii bytes c.requires.1 c.requires.2) (ap (λ t. t ++ drop 1 bytes) c.requires.0)
    (subst (λ r. ReadsOn c.args.self.now.normaliser c.read.new.self r (added c.args.out.now.items c.read.new.out.items)) one c.in_ok-read.ensures.ok)

pub returns-in_err-read_plain-clause-err : goal.returns-in_err-read_plain-clause-err
returns-in_err-read_plain-clause-err c =
    let p = err_from_is_err_and c.from_residual-in_err-read_plain.result c.from_residual-in_err-read_plain.ensures.1 in
    rw p.1 (λ long. too_long_ascii c.plain_len-len.result c.args.bytes.now (plain_ascii _ c.plain_len-len.ensures.plain)
    (c.in_err-read_plain.ensures.err (sym p.2 ∙ long)))

pub returns-clause-moves : goal.returns-clause-moves
returns-clause-moves c =
    move_ascii c.plain_len-len.result c.args.bytes.now (plain_ascii _ c.plain_len-len.ensures.plain) (ap (λ t. t ++ drop c.plain_len-len.result c.args.bytes.now) c.requires.0)
    c.in_ok-read_plain.ensures.ok
