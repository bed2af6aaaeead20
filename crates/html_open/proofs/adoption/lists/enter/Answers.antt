use Rattle.std.proofs.Common.{◌≡◌, ◌<◌, ap, subst, length, arith, refl}
use Rattle.html_arena.specs.Tree.{Tree}
use Rattle.html_open.specs.Cloning.{HaveEntered}
use Rattle.html_open.proofs.Marked.{entered-none, entered-step, marks-both}
use Rattle.html_open.proofs.adoption.lists.enter.Goals as goal

pub loop-number-init : goal.loop-number-init
loop-number-init c = record { same = refl; entered = entered-none c.args.arena.now c.args.arena.now c.args.first refl }

pub loop-number-preserved : goal.loop-number-preserved
loop-number-preserved c =
    let e = ap (λ (t : Tree). length t.labels) c.loop-number.invariant.same in
    let m = c.forest.ensures.well_formed.as_many_marks in
    let a = c.at-node.ensures in
    let t = c.loop-number-test.true in
    let q = c.requires.end_in in
    let r : c.at-node.result < length c.loop-number.arena.marks = omega (arith, e, m, a, t, q) in
    record {
      same = marks-both c.args.arena.now c.loop-number.arena c.set_mark.new.self c.set_mark-in-loop-number.new.self _ _ c.loop-number.invariant.same c.set_mark.ensures c.set_mark-in-loop-number.ensures;
      entered = entered-step c.args.arena.now c.loop-number.arena c.set_mark.new.self c.set_mark-in-loop-number.new.self c.args.first c.loop-number.number c.at-node.result c.loop-number.auto.number c.at-node.ensures r
          c.loop-number.invariant.entered c.set_mark.ensures c.set_mark-in-loop-number.ensures;
    }

pub returns-clause-marks : goal.returns-clause-marks
returns-clause-marks c =
    let f = c.loop-number-test.false in
    let h = c.loop-number.auto.number-end c.requires.ordered in
    let e : c.loop-number.number ≡ c.args.end = omega arith in
    subst (HaveEntered c.args.arena.now c.loop-number.arena c.args.first) e c.loop-number.invariant.entered
