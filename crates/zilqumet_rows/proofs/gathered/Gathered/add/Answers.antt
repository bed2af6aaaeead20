use Rattle.std.proofs.Common.{◌≡◌, ◌∙◌, ap, arith, length, ◌++◌}
use Rattle.zilqumet_rows.proofs.Gathering.{added}
use Rattle.zilqumet_rows.proofs.gathered.Gathered.add.Goals as goal

pub returns : goal.returns
returns c = λ texts a.
    let grown : c.extend_from_slice.new.self.items ≡ c.args.self.now.bytes.items ++ c.args.text.now =
    c.in_ok-extend_from_slice.ensures.items ∙ ap (λ l. c.args.self.now.bytes.items ++ l) c.as_bytes.ensures.value in
    let count : c.len.result ≡ length c.extend_from_slice.new.self.items = omega (arith, c.len.ensures, c.extend_from_slice.new.self.ok.0) in
    rw (grown, c.in_ok-push.ensures.items) (added _ _ c.args.text.now c.len.result texts c.utf8.text (count ∙ ap length grown) a)
