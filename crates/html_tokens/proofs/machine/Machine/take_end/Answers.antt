use Rattle.std.proofs.Common.{◌≡◌, ◌+◌, ◌-◌, ◌∙◌, refl, arith, true}
use Rattle.html_tokens.proofs.ShortLemmas.{ends_short}
use Rattle.html_tokens.proofs.machine.Machine.take_end.Goals as goal

pub returns-clause-ends : goal.returns-clause-ends
returns-clause-ends c =
    let e : c.args.opened + c.args.len - c.args.opened ≡ c.args.len = omega arith in
    let text = rw (c.new-name.ensures, c.unread.ensures, e) at c.in_ok-push_all.ensures.ok in
    let p = c.pass.ensures in
    ends_short c.args.self.now _ true c.args.opened c.args.len c.token.result (c.token.ensures ∙ rw (text, p.place) refl) p.items p.finished p.place refl p.name (p.state ∙ c.requires.state) p.table
