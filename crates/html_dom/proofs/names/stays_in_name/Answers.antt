use Rattle.std.proofs.Common.{true, false, not, ◌≡◌, ◌++◌, ◌∷◌, length, drop, ◌+◌, sym, ap, subst, ◌∙◌, map-id, chars}
use Rattle.std.specs.List.{list_all}
use Rattle.std.proofs.lemmas.Iterator.{YieldsList-from_chars}
use Rattle.std.proofs.lemmas.Iterator.Consumers.{YieldsList-so_far, YieldsList-turn, YieldsList-end}
use Rattle.html_dom.specs.Names.{stays_in_name}
use Rattle.html_dom.proofs.Letters.{all-broken, turned}
use Rattle.html_dom.proofs.names.stays_in_name.Goals as goal

pub returns-then-ends_name : goal.returns-then-ends_name
returns-then-ends_name c =
    let all = chars c.args.name.now in
    let road = YieldsList-from_chars c.args.name.now c.utf8.name cc in
    let front = YieldsList-so_far road c.loop-c.yielded _ c.loop-c.yielded_by in
    let turn = YieldsList-turn road c.loop-c.yielded _ c.loop-c.yielded_by _ _ c.in-Some.c c.in-Some.is c.next.ensures.steps in
    let is : all ≡ c.loop-c.yielded ++ (c.in-Some.c ∷ drop (length c.loop-c.yielded + 1) all) =
    turned c.loop-c.yielded all c.in-Some.c (sym (map-id c.loop-c.yielded) ∙ front) turn.0 turn.1 in
    let stop : stays_in_name c.in-Some.c ≡ false = ap not (sym c.ends_name.ensures ∙ c.if-ends_name.true) in
    sym (ap (λ cs. list_all stays_in_name cs) is ∙ all-broken stays_in_name c.loop-c.yielded (drop (length c.loop-c.yielded + 1) all) c.in-Some.c stop)

pub returns : goal.returns
returns c =
    let road = YieldsList-from_chars c.args.name.now c.utf8.name cc in
    let end = YieldsList-end road c.loop-c.yielded _ c.loop-c.yielded_by _ _ c.in-None.is c.next.ensures.steps in
    let all : c.loop-c.yielded ≡ chars c.args.name.now = sym (map-id c.loop-c.yielded) ∙ end.0 in
    sym (subst (λ cs. list_all stays_in_name cs ≡ true) all c.loop-c.invariant)
