use Rattle.html_print.proofs.Units.{begin_alike, begin_apart, both_end, longer, next_none, next_some, shorter}
use Rattle.html_print.proofs.attributes.compare_units.Goals as goal

pub returns-in_default-next : goal.returns-in_default-next
returns-in_default-next c =
    let v = c.units.invariant in
    let a = next_some c.units.first c.next.new.self c.in-Some.unit v.text c.in-Some.ensures.steps in
    longer _ _ _ _ _ a.0 (next_none c.units.second c.next-in-Some.new.self c.in_default-next.ensures.steps) v.same

pub returns-then-unit-other : goal.returns-then-unit-other
returns-then-unit-other c =
    let v = c.units.invariant in
    let a = next_some c.units.first c.next.new.self c.in-Some.unit v.text c.in-Some.ensures.steps in
    let b = next_some c.units.second c.next-in-Some.new.self c.in-Some-next.other v.other c.in-Some-next.ensures.steps in
    begin_apart _ _ _ _ _ _ _ _ a.0 b.0 c.cmp.ensures c.if-unit-other.true v.same

pub units-preserved : goal.units-preserved
units-preserved c =
    let v = c.units.invariant in
    let a = next_some c.units.first c.next.new.self c.in-Some.unit v.text c.in-Some.ensures.steps in
    let b = next_some c.units.second c.next-in-Some.new.self c.in-Some-next.other v.other c.in-Some-next.ensures.steps in
    record {
      can = tt;
      finite = tt;
      text = a.1;
      other = b.1;
      same = begin_alike _ _ _ _ _ _ _ a.0 b.0 c.if-unit-other.false v.same;
    }

pub returns-in-Some-next-2 : goal.returns-in-Some-next-2
returns-in-Some-next-2 c =
    let v = c.units.invariant in
    let b = next_some c.units.second c.next-2.new.self c.in-Some-next-2.field-0 v.other c.in-Some-next-2.ensures.steps in
    shorter _ _ _ _ _ (next_none c.units.first c.next.new.self c.in_default.ensures.steps) b.0 v.same

pub returns-in-None : goal.returns-in-None
returns-in-None c =
    let v = c.units.invariant in
    both_end _ _ _ (next_none c.units.first c.next.new.self c.in_default.ensures.steps) (next_none c.units.second c.next-2.new.self c.in-None.ensures.steps) v.same
