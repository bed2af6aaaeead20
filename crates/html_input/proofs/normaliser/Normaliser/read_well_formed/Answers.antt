use Rattle.std.proofs.Common.{◌≡◌, ◌+◌, ◌-◌, ◌++◌, ◌∙◌, ap, arith, chars, length, length-append, take}
use Rattle.html_input.specs.Added.{added}
use Rattle.html_input.proofs.Free.{reads_free}
use Rattle.html_input.proofs.normaliser.Normaliser.read_well_formed.Goals as goal

pub returns-clause-ok : goal.returns-clause-ok
returns-clause-ok c =
    let run = chars (take c.in-Ok.read c.args.bytes.now) in
    let is : added c.args.out.now.items c.put_well_formed.new.out.items ≡ run = c.in-Ok.ensures.ok in
    let len : c.len.result - c.len-start.result ≡ length run =
    (let whole = ap length (c.in-Ok.ensures.kept ∙ ap (λ t. c.args.out.now.items ++ t) is) in
    let parts = length-append c.args.out.now.items run in
    omega arith) in
    let more = c.in_ok-count_more.ensures in
    reads_free run c.in-Ok.ensures.free c.requires.inside more.previous (more.count ∙ ap (λ n. c.args.self.now.count + n) len) (more.put_out ∙ ap (λ n. c.args.self.now.put_out + n) len) is
