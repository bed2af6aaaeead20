use Rattle.std.proofs.Common.{◌≡◌, ◌+◌, ◌-◌, ◌++◌, ◌∙◌, ap, arith, chars, length, length-append}
use Rattle.std.proofs.lemmas.Grind.{common_steps}
use Rattle.html_input.specs.Added.{added}
use Rattle.html_input.proofs.Free.{reads_free}
use Rattle.html_input.proofs.normaliser.Normaliser.read_free.Goals as goal

pub returns-clause-ok : goal.returns-clause-ok
returns-clause-ok c =
    let is : added c.args.out.now.items c.put_chars.new.out.items ≡ chars c.args.text.now = grind (arith, common_steps) in
    let len : c.len.result - c.len-start.result ≡ length (chars c.args.text.now) =
    (let whole = ap length (c.put_chars.ensures.kept ∙ ap (λ t. c.args.out.now.items ++ t) is) in
    let parts = length-append c.args.out.now.items (chars c.args.text.now) in
    omega arith) in
    let more = c.in_ok-count_more.ensures in
    reads_free (chars c.args.text.now) c.requires.free c.requires.inside more.previous (more.count ∙ ap (λ n. c.args.self.now.count + n) len) (more.put_out ∙ ap (λ n. c.args.self.now.put_out + n) len) is
