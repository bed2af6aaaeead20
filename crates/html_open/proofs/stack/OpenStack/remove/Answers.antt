use Rattle.std.proofs.Common.{arith, eqb, sym, ◌∙◌, ap, length, refl, false}
use Rattle.html_arena.specs.declared.marks.Mark.TheVariants.{OnStack}
use Rattle.html_arena.specs.Siblings.{first_of, has}
use Rattle.html_arena.specs.Tree.{Tree, with_marked}
use Rattle.html_open.specs.Entries.{removal_steps}
use Rattle.html_open.specs.Lists.{last_index, without_last}
use Rattle.html_open.specs.Marking.{bare, charged}
use Rattle.html_open.proofs.Lists.{removal-is, without_last-some, without_last-none, looked-some}
use Rattle.html_open.proofs.Keeps.{remove-keeps}
use Rattle.html_open.proofs.Lasting.{first-free, first-removed, lasting-place, not-removed}
use Rattle.html_open.proofs.stack.OpenStack.remove.Goals as goal

pub remove-requires : goal.remove-requires
remove-requires c =
    let k = looked-some (eqb c.args.node) c.as_slice-nodes.result.now c.in-Some.index (sym c.last_index-found.ensures.index ∙ c.in-Some.is) in
    let l = c.as_slice-nodes.ensures.len in omega (arith, k.1, l)

stack_is : goal.returns-in-Some-clause-stack
stack_is c =
    c.remove.ensures.items
    ∙ without_last-some (eqb c.args.node) c.self.inside.nodes.items c.in-Some.index (ap (last_index (eqb c.args.node)) (sym c.as_slice-nodes.ensures.value) ∙ sym c.last_index-found.ensures.index ∙ c.in-Some.is)
    ∙ ap (without_last (eqb c.args.node)) c.self.view_is

pub returns-in-Some-clause-stack : goal.returns-in-Some-clause-stack
returns-in-Some-clause-stack c = stack_is c

tree_is : goal.returns-in-Some-clause-tree
tree_is c =
    c.charge.ensures ∙ ap (λ (t : Tree). charged t c.removal-steps.result) c.set_mark.ensures
    ∙ ap (charged (with_marked c.args.arena.now OnStack c.args.node false))
    (c.removal-steps.ensures ∙ removal-is (eqb c.args.node) c.as_slice-nodes.result.now c.last_index-found.result (length c.as_slice-nodes.result.now) refl c.last_index-found.ensures.index
    ∙ ap (removal_steps (eqb c.args.node)) (c.as_slice-nodes.ensures.value ∙ c.self.view_is))

pub returns-in-Some-clause-tree : goal.returns-in-Some-clause-tree
returns-in-Some-clause-tree c = tree_is c

pub returns-in-Some-clause-keeps : goal.returns-in-Some-clause-keeps
returns-in-Some-clause-keeps c = λ l k.
    remove-keeps c.args.self.now c.remove.new.self.items l c.args.arena.now c.charge.new.self c.args.node (removal_steps (eqb c.args.node) c.args.self.now) c.forest.ensures.well_formed.as_many_marks
    (stack_is c) (tree_is c) k

stack_default : goal.returns-in_default-clause-stack
stack_default c =
    without_last-none (eqb c.args.node) c.args.self.now
    (ap (last_index (eqb c.args.node)) (sym (c.as_slice-nodes.ensures.value ∙ c.self.view_is)) ∙ sym c.last_index-found.ensures.index ∙ c.in_default.is)

pub returns-in_default-clause-stack : goal.returns-in_default-clause-stack
returns-in_default-clause-stack c = stack_default c

tree_default : goal.returns-in_default-clause-tree
tree_default c =
    c.charge.ensures ∙ ap (λ (t : Tree). charged t c.removal-steps.result) c.set_mark.ensures
    ∙ ap (charged (with_marked c.args.arena.now OnStack c.args.node false))
    (c.removal-steps.ensures ∙ removal-is (eqb c.args.node) c.as_slice-nodes.result.now c.last_index-found.result (length c.as_slice-nodes.result.now) refl c.last_index-found.ensures.index
    ∙ ap (removal_steps (eqb c.args.node)) (c.as_slice-nodes.ensures.value ∙ c.self.view_is))

pub returns-in_default-clause-tree : goal.returns-in_default-clause-tree
returns-in_default-clause-tree c = tree_default c

pub returns-in_default-clause-keeps : goal.returns-in_default-clause-keeps
returns-in_default-clause-keeps c = λ l k.
    remove-keeps c.args.self.now c.args.self.now l c.args.arena.now c.charge.new.self c.args.node (removal_steps (eqb c.args.node) c.args.self.now) c.forest.ensures.well_formed.as_many_marks
    (stack_default c) (tree_default c) k

pub returns-in-Some-clause-tree_kept : goal.returns-in-Some-clause-tree_kept
returns-in-Some-clause-tree_kept c = ap bare (tree_is c)

pub returns-in-Some-clause-steps : goal.returns-in-Some-clause-steps
returns-in-Some-clause-steps c = ap (λ (u : Tree). u.steps) (tree_is c)

pub returns-in-Some-clause-fewer : goal.returns-in-Some-clause-fewer
returns-in-Some-clause-fewer c = λ x h. ap (has x) (stack_is c) ∙ not-removed c.args.node x c.args.self.now h

pub returns-in-Some-clause-first : goal.returns-in-Some-clause-first
returns-in-Some-clause-first c = λ n. ap first_of (stack_is c) ∙ first-removed c.args.node c.args.self.now n

pub returns-in-Some-clause-can_place : goal.returns-in-Some-clause-can_place
returns-in-Some-clause-can_place c = λ n h. lasting-place c.args.self.now c.remove.new.self.items c.args.arena.now c.charge.new.self (ap bare (tree_is c)) (returns-in-Some-clause-first c n) h

pub returns-in-Some-clause-first_free : goal.returns-in-Some-clause-first_free
returns-in-Some-clause-first_free c = λ l n h. first-free c.args.self.now c.remove.new.self.items l (λ b. returns-in-Some-clause-first c n) h

pub returns-in_default-clause-tree_kept : goal.returns-in_default-clause-tree_kept
returns-in_default-clause-tree_kept c = ap bare (tree_default c)

pub returns-in_default-clause-steps : goal.returns-in_default-clause-steps
returns-in_default-clause-steps c = ap (λ (u : Tree). u.steps) (tree_default c)

pub returns-in_default-clause-fewer : goal.returns-in_default-clause-fewer
returns-in_default-clause-fewer c = λ x h. ap (has x) (stack_default c) ∙ not-removed c.args.node x c.args.self.now h

pub returns-in_default-clause-first : goal.returns-in_default-clause-first
returns-in_default-clause-first c = λ n. ap first_of (stack_default c) ∙ first-removed c.args.node c.args.self.now n

pub returns-in_default-clause-can_place : goal.returns-in_default-clause-can_place
returns-in_default-clause-can_place c = λ n h. lasting-place c.args.self.now c.args.self.now c.args.arena.now c.charge.new.self (ap bare (tree_default c)) (returns-in_default-clause-first c n) h

pub returns-in_default-clause-first_free : goal.returns-in_default-clause-first_free
returns-in_default-clause-first_free c = λ l n h. first-free c.args.self.now c.args.self.now l (λ b. returns-in_default-clause-first c n) h
