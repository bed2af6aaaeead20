use Rattle.std.proofs.Common.{◌≡◌, ◌∷◌, [], ℕ, take, sym, ap, subst, length, arith, true}
use Rattle.html_arena.specs.Siblings.{has}
use Rattle.html_arena.specs.Tree.{Tree}
use Rattle.std.proofs.lemmas.Result.{err_from_is_err_and}
use Rattle.html_arena.specs.declared.arena.ArenaError.{ArenaError}
use Rattle.html_open.specs.Cloning.{IsCutShort}
use Rattle.html_open.proofs.Cutting.{cut-next}
use Rattle.html_open.proofs.Counting.{grown-then}
use Rattle.html_open.proofs.Clones.{cloned-formatting, cloned-longer, cloned-step}
use Rattle.html_open.proofs.Lists.{has-at}
use Rattle.html_open.proofs.adoption.clones.make_clones.Goals as goal

pub make_clone-requires-clause-node_in : goal.make_clone-requires-clause-node_in
make_clone-requires-clause-node_in c =
    let f = cloned-formatting c.args.arena.now c.loop-node.arena (take c.loop-node.node-index c.args.originals.now) c.args.originals.now c.loop-node.invariant.cloned c.requires in
    (f c.node-item.result (subst (λ (y : ℕ). has y c.args.originals.now ≡ true) (sym c.node-item.is) (has-at c.args.originals.now c.loop-node.node-index c.node-item.result c.loop-node-test.true))).0

pub make_clone-requires-clause-formatting : goal.make_clone-requires-clause-formatting
make_clone-requires-clause-formatting c =
    let f = cloned-formatting c.args.arena.now c.loop-node.arena (take c.loop-node.node-index c.args.originals.now) c.args.originals.now c.loop-node.invariant.cloned c.requires in
    (f c.node-item.result (subst (λ (y : ℕ). has y c.args.originals.now ≡ true) (sym c.node-item.is) (has-at c.args.originals.now c.loop-node.node-index c.node-item.result c.loop-node-test.true))).1

pub loop-node-preserved : goal.loop-node-preserved
loop-node-preserved c =
    let b = (c.requires c.node-item.result (subst (λ (y : ℕ). has y c.args.originals.now ≡ true) (sym c.node-item.is) (has-at c.args.originals.now c.loop-node.node-index c.node-item.result c.loop-node-test.true))).0 in
    record { cloned = cloned-step c.args.arena.now c.loop-node.arena c.make_clone.new.arena c.args.originals.now c.loop-node.node-index c.node-item.result c.loop-node-test.true c.node-item.is b c.loop-node.invariant.cloned c.in_ok-make_clone.ensures.cloned; counted = grown-then c.args.arena.now c.loop-node.arena c.make_clone.new.arena (cloned-longer c.args.arena.now c.loop-node.arena (take c.loop-node.node-index c.args.originals.now) c.loop-node.invariant.cloned) (cloned-longer c.loop-node.arena c.make_clone.new.arena (c.node-item.result ∷ []) c.in_ok-make_clone.ensures.cloned) c.loop-node.invariant.counted c.make_clone.ensures.steps }

pub returns-in_err-make_clone-clause-cut : goal.returns-in_err-make_clone-clause-cut
returns-in_err-make_clone-clause-cut c =
    let p = err_from_is_err_and c.from_residual.result c.from_residual.ensures.1 in
    let b = (c.requires c.node-item.result (subst (λ (y : ℕ). has y c.args.originals.now ≡ true) (sym c.node-item.is) (has-at c.args.originals.now c.loop-node.node-index c.node-item.result c.loop-node-test.true))).0 in
    rw p.1 (subst (λ (e : ArenaError). IsCutShort c.args.arena.now c.make_clone.new.arena c.args.originals.now e) (sym p.2)
    (cut-next c.args.arena.now c.loop-node.arena c.make_clone.new.arena c.args.originals.now c.loop-node.node-index c.node-item.result c.in_err-make_clone.field-0.0 c.loop-node-test.true c.node-item.is b c.loop-node.invariant.cloned c.forest.ensures.held
    c.in_err-make_clone.ensures.cause c.in_err-make_clone.ensures.same))

pub returns-in_err-make_clone-clause-steps : goal.returns-in_err-make_clone-clause-steps
returns-in_err-make_clone-clause-steps c =
    let e = ap (λ (t : Tree). length t.labels) c.in_err-make_clone.ensures.same in
    grown-then c.args.arena.now c.loop-node.arena c.make_clone.new.arena (cloned-longer c.args.arena.now c.loop-node.arena (take c.loop-node.node-index c.args.originals.now) c.loop-node.invariant.cloned) (omega (arith, e)) c.loop-node.invariant.counted c.make_clone.ensures.steps
