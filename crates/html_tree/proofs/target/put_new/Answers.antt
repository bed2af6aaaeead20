use Rattle.std.proofs.Common.{◌≡◌, ap, arith, subst, length, ◌+◌}
use Rattle.html_arena.specs.Tree.{Tree, more}
use Rattle.html_tree.specs.Inserting.{IsNew}
use Rattle.html_tree.specs.Targets.{target_steps}
use Rattle.html_tree.proofs.Inserted.{is-new, list-charged, on-ok, on-ok-both, push-charged, target-most}
use Rattle.html_tree.proofs.target.put_new.Goals as goal

pub returns-clause-new : goal.returns-clause-new
returns-clause-new c =
    on-ok-both c.insert-node.result c.insert-node.ensures.laws c.insert-node.ensures.tree
    (λ h f. subst (λ a. IsNew c.args.arena.now c.insert-node.new.arena a c.args.new (length c.args.stack.now + 3)) c.place_at-place.ensures.place
    (is-new c.args.arena.now c.place_at-place.new.arena c.insert-node.new.arena (target_steps c.args.arena.now c.args.stack.now c.args.target) (length c.args.stack.now + 3) c.place_at-place.result c.args.new c.forest.ensures.well_formed
    c.place_at-place.ensures.there c.place_at-place.ensures.steps (target-most c.args.arena.now c.args.stack.now c.args.target) h f))

pub returns-clause-can_push : goal.returns-clause-can_push
returns-clause-can_push c =
    on-ok c.insert-node.result c.insert-node.ensures.can_push (λ p. push-charged c.args.stack.now c.args.arena.now c.place_at-place.new.arena c.insert-node.new.arena _ c.args.new c.place_at-place.ensures.steps c.place_at-place.ensures.keeps
    (λ l. p c.args.stack.now l))

pub returns-clause-can_list : goal.returns-clause-can_list
returns-clause-can_list c =
    on-ok c.insert-node.result c.insert-node.ensures.can_list (λ p. list-charged c.args.stack.now c.args.arena.now c.place_at-place.new.arena c.insert-node.new.arena _ c.args.new c.place_at-place.ensures.steps c.place_at-place.ensures.keeps
    (λ l. p c.args.stack.now l))

pub returns-clause-steps : goal.returns-clause-steps
returns-clause-steps c =
    on-ok c.insert-node.result c.insert-node.ensures.steps
    (λ k. let p : c.place_at-place.new.arena.steps ≡ more c.args.arena.now.steps (target_steps c.args.arena.now c.args.stack.now c.args.target) = ap (λ (v : Tree). v.steps) c.place_at-place.ensures.steps in omega (arith, k, p))
