use Rattle.std.proofs.Common.{◌≡◌, ◌+◌, ◌-◌, ◌∙◌, refl, arith, false}
use Rattle.html_tokens.proofs.ShortLemmas.{ends_short}
use Rattle.html_tokens.proofs.machine.Machine.take_start.Goals as goal

pub returns-clause-ends : goal.returns-clause-ends
returns-clause-ends c =
    let e : c.args.opened + c.args.len - c.args.opened ≡ c.args.len = omega arith in
    let text = rw (c.new-name.ensures, c.unread.ensures, e) at c.in_ok-push_all.ensures.ok in
    let last = rw (c.unread.ensures, e) at c.in_ok-keep_name.ensures in
    let p = c.pass.ensures in
    ends_short c.args.self.now _ false c.args.opened c.args.len c.token.result (c.token.ensures ∙ rw (text, p.place, c.new.ensures) refl) p.items p.finished p.place p.mode (p.name ∙ last) (p.state ∙ c.requires.state) p.table
