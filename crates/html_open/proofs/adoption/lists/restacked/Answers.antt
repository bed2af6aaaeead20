use Rattle.std.proofs.Common.{◌-◌, ◌+◌, ◌++◌, ◌∷◌, [], List, ℕ, take, drop, sym, ◌∙◌, ap, length, arith}
use Rattle.std.proofs.lemmas.List.{length-drop, take_all}
use Rattle.html_open.specs.Adopting.{clones_down}
use Rattle.html_open.proofs.Clones.{clone-pushed, clones-done, restacked-is}
use Rattle.html_open.proofs.Lists.{get_or-default}
use Rattle.html_open.proofs.adoption.lists.restacked.Goals as goal

pub loop-number-preserved : goal.loop-number-preserved
loop-number-preserved c = record {
  low = omega arith;
  high = omega arith;
  so_far = clone-pushed c.loop-number.stack.items c.push.new.self.items _ c.args.first c.loop-number.number _ c.loop-number-test.true c.in_ok-push.ensures.items c.at.ensures c.loop-number.invariant.so_far;
}

pub returns : goal.returns
returns c =
    let n = length-drop (c.args.block_at + 1) c.args.nodes.now in
    let e = take_all (length c.args.nodes.now - (c.args.block_at + 1)) (drop (c.args.block_at + 1) c.args.nodes.now) (omega (arith, n)) in
    let g = c.index-nodes-block_at.is ∙ get_or-default c.args.nodes.now c.args.block_at c.index-nodes-block_at.result 0 c.requires.block_in in
    restacked-is c.loop-number.stack.items c.push-2.new.self.items c.push-3.new.self.items c.extend_from_slice-2.new.self.items (take c.args.at c.args.nodes.now)
    (clones_down c.args.first (c.args.clone - c.args.first)) _ c.args.clone (drop (c.args.block_at + 1) c.args.nodes.now)
    (sym (clones-done c.loop-number.stack.items c.args.first c.loop-number.number c.loop-number-test.false) ∙ c.loop-number.invariant.so_far)
    (c.in_ok-push-2.ensures.items ∙ ap (λ (x : ℕ). c.loop-number.stack.items ++ x ∷ []) g)
    c.in_ok-push-3.ensures.items
    (c.in_ok-extend_from_slice-2.ensures.items ∙ ap (λ (v : List ℕ). c.push-3.new.self.items ++ v) e)
