use Rattle.std.proofs.Common.{◌≡◌, ◌∙◌, sym, map-id, chars}
use Rattle.std.proofs.lemmas.Iterator.{YieldsList-from_chars}
use Rattle.std.proofs.lemmas.Iterator.Consumers.{YieldsList-end}
use Rattle.html_dom.proofs.making.wide.Goals as goal

pub returns : goal.returns
returns c =
    let road = YieldsList-from_chars c.args.text.now c.utf8.text cc in
    let end = YieldsList-end road c.loop-c.yielded _ c.loop-c.yielded_by _ _ c.in-None.is c.next.ensures.steps in
    let all : c.loop-c.yielded ≡ chars c.args.text.now = sym (map-id c.loop-c.yielded) ∙ end.0 in
    c.loop-c.invariant ∙ all
