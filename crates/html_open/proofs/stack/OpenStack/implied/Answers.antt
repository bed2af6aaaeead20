use Rattle.std.proofs.Common.{◌≡◌, ℕ, ◌+◌, ◌-◌, ◌∙◌, ap, drop, take, length, List, refl}
use Rattle.html_arena.specs.declared.marks.Mark.TheVariants.{OnStack}
use Rattle.html_arena.specs.Tree.{Tree}
use Rattle.html_open.specs.Lists.{above, last_index}
use Rattle.html_open.specs.Marking.{all_unmarked, bare, charged}
use Rattle.html_open.specs.Scopes.{implied_steps, stays}
use Rattle.html_open.proofs.Lists.{after-above, after-up_to, twice-above}
use Rattle.html_open.proofs.Keeps.{moved_stack, open-charged}
use Rattle.html_open.proofs.Popping.{all_unmarked-charged}
use Rattle.html_open.proofs.Lasting.{all-steps, same-place}
use Rattle.html_open.proofs.stack.OpenStack.implied.Goals as goal

pub returns-clause-stack : goal.returns-clause-stack
returns-clause-stack c =
    let p = stays c.args.arena.now c.args.except in
    let f = c.last_index-found.ensures.index ∙ ap (last_index p) (c.as_slice-nodes.ensures.value ∙ c.self.view_is) in
    c.pop_to.ensures.stack ∙ ap (λ n. take n c.args.self.now) c.after-kept.ensures.value ∙ after-up_to p c.args.self.now c.last_index-found.result f

pub returns-clause-tree : goal.returns-clause-tree
returns-clause-tree c =
    let p = stays c.args.arena.now c.args.except in
    let q = c.as_slice-nodes.ensures.value ∙ c.self.view_is in
    let f = c.last_index-found.ensures.index ∙ ap (last_index p) q in
    let d = ap (λ n. drop n c.args.self.now) c.after-kept.ensures.value ∙ after-above p c.args.self.now c.last_index-found.result f in
    let t = twice-above p c.args.self.now c.last_index-found.result (length c.as_slice-nodes.result.now) (ap length q) f in
    let v = c.after-kept.ensures.value in
    let s = c.steps_to-looked.ensures in
    let n : (length c.as_slice-nodes.result.now - c.after-kept.result) + c.steps_to-looked.result ≡ implied_steps c.args.arena.now c.args.except c.args.self.now = cc in
    c.pop_to.ensures.tree
    ∙ ap (λ (u : Tree). all_unmarked u OnStack (drop c.after-kept.result c.args.self.now)) c.charge.ensures
    ∙ all_unmarked-charged c.args.arena.now OnStack ((length c.as_slice-nodes.result.now - c.after-kept.result) + c.steps_to-looked.result) (drop c.after-kept.result c.args.self.now)
    ∙ ap (λ (xs : List ℕ). charged (all_unmarked c.args.arena.now OnStack xs) ((length c.as_slice-nodes.result.now - c.after-kept.result) + c.steps_to-looked.result)) d
    ∙ ap (charged (all_unmarked c.args.arena.now OnStack (above p c.args.self.now))) n

pub returns-clause-keeps : goal.returns-clause-keeps
returns-clause-keeps c = λ l k.
    c.pop_to.ensures.keeps l
    (moved_stack c.args.self.now c.args.self.now l (charged c.args.arena.now ((length c.as_slice-nodes.result.now - c.after-kept.result) + c.steps_to-looked.result)) c.charge.new.self refl c.charge.ensures
    (open-charged c.args.self.now l c.args.arena.now ((length c.as_slice-nodes.result.now - c.after-kept.result) + c.steps_to-looked.result) k))

pub returns-clause-tree_kept : goal.returns-clause-tree_kept
returns-clause-tree_kept c = c.pop_to.ensures.tree_kept ∙ ap bare c.charge.ensures

pub returns-clause-steps : goal.returns-clause-steps
returns-clause-steps c = all-steps c.args.arena.now c.pop_to.new.arena OnStack (above (stays c.args.arena.now c.args.except) c.args.self.now) (implied_steps c.args.arena.now c.args.except c.args.self.now) (returns-clause-tree c)

pub returns-clause-can_place : goal.returns-clause-can_place
returns-clause-can_place c = λ b h. c.pop_to.ensures.can_place b (same-place c.args.self.now c.args.arena.now c.charge.new.self (ap bare c.charge.ensures) h)
