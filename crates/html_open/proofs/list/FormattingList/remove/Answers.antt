use Rattle.std.proofs.Common.{arith, sym, ◌∙◌, ap, length, refl, false}
use Rattle.html_arena.specs.declared.marks.Mark.TheVariants.{InList}
use Rattle.html_arena.specs.Tree.{Tree, with_marked}
use Rattle.html_open.specs.Entries.{has_node, is_node, removal_steps}
use Rattle.html_open.specs.Lists.{last_index, without_last}
use Rattle.html_open.specs.Marking.{bare, charged}
use Rattle.html_open.proofs.Lists.{removal-is, without_last-some, without_last-none, looked-some}
use Rattle.html_open.proofs.Keeps.{remove_list-keeps}
use Rattle.html_open.proofs.Lasting.{entries-without, fewer-free}
use Rattle.html_open.proofs.list.FormattingList.remove.Goals as goal

pub remove-requires : goal.remove-requires
remove-requires c =
    let k = looked-some (is_node c.args.node) c.as_slice-entries.result.now c.in-Some.index (sym c.last_entry-found.ensures.index ∙ c.in-Some.is) in
    let l = c.as_slice-entries.ensures.len in omega (arith, k.1, l)

stack_is : goal.returns-in-Some-clause-list
stack_is c =
    c.remove.ensures.items
    ∙ without_last-some (is_node c.args.node) c.self.inside.entries.items c.in-Some.index (ap (last_index (is_node c.args.node)) (sym c.as_slice-entries.ensures.value) ∙ sym c.last_entry-found.ensures.index ∙ c.in-Some.is)
    ∙ ap (without_last (is_node c.args.node)) c.self.view_is

pub returns-in-Some-clause-list : goal.returns-in-Some-clause-list
returns-in-Some-clause-list c = stack_is c

tree_is : goal.returns-in-Some-clause-tree
tree_is c =
    c.charge.ensures ∙ ap (λ (t : Tree). charged t c.removal-steps.result) c.set_mark.ensures
    ∙ ap (charged (with_marked c.args.arena.now InList c.args.node false))
    (c.removal-steps.ensures ∙ removal-is (is_node c.args.node) c.as_slice-entries.result.now c.last_entry-found.result (length c.as_slice-entries.result.now) refl c.last_entry-found.ensures.index
    ∙ ap (removal_steps (is_node c.args.node)) (c.as_slice-entries.ensures.value ∙ c.self.view_is))

pub returns-in-Some-clause-tree : goal.returns-in-Some-clause-tree
returns-in-Some-clause-tree c = tree_is c

pub returns-in-Some-clause-keeps : goal.returns-in-Some-clause-keeps
returns-in-Some-clause-keeps c = λ l k.
    remove_list-keeps l c.args.self.now c.remove.new.self.items c.args.arena.now c.charge.new.self c.args.node (removal_steps (is_node c.args.node) c.args.self.now) c.forest.ensures.well_formed.as_many_marks
    (stack_is c) (tree_is c) k

stack_default : goal.returns-in_default-clause-list
stack_default c =
    without_last-none (is_node c.args.node) c.args.self.now
    (ap (last_index (is_node c.args.node)) (sym (c.as_slice-entries.ensures.value ∙ c.self.view_is)) ∙ sym c.last_entry-found.ensures.index ∙ c.in_default.is)

pub returns-in_default-clause-list : goal.returns-in_default-clause-list
returns-in_default-clause-list c = stack_default c

tree_default : goal.returns-in_default-clause-tree
tree_default c =
    c.charge.ensures ∙ ap (λ (t : Tree). charged t c.removal-steps.result) c.set_mark.ensures
    ∙ ap (charged (with_marked c.args.arena.now InList c.args.node false))
    (c.removal-steps.ensures ∙ removal-is (is_node c.args.node) c.as_slice-entries.result.now c.last_entry-found.result (length c.as_slice-entries.result.now) refl c.last_entry-found.ensures.index
    ∙ ap (removal_steps (is_node c.args.node)) (c.as_slice-entries.ensures.value ∙ c.self.view_is))

pub returns-in_default-clause-tree : goal.returns-in_default-clause-tree
returns-in_default-clause-tree c = tree_default c

pub returns-in_default-clause-keeps : goal.returns-in_default-clause-keeps
returns-in_default-clause-keeps c = λ l k.
    remove_list-keeps l c.args.self.now c.args.self.now c.args.arena.now c.charge.new.self c.args.node (removal_steps (is_node c.args.node) c.args.self.now) c.forest.ensures.well_formed.as_many_marks
    (stack_default c) (tree_default c) k

pub returns-in-Some-clause-tree_kept : goal.returns-in-Some-clause-tree_kept
returns-in-Some-clause-tree_kept c = ap bare (tree_is c)

pub returns-in-Some-clause-steps : goal.returns-in-Some-clause-steps
returns-in-Some-clause-steps c = ap (λ (u : Tree). u.steps) (tree_is c)

pub returns-in-Some-clause-fewer : goal.returns-in-Some-clause-fewer
returns-in-Some-clause-fewer c = λ x h. ap (has_node x) (stack_is c) ∙ entries-without (is_node c.args.node) c.args.self.now x h

pub returns-in-Some-clause-first_free : goal.returns-in-Some-clause-first_free
returns-in-Some-clause-first_free c = λ s h. fewer-free s c.args.self.now c.remove.new.self.items (returns-in-Some-clause-fewer c) h

pub returns-in_default-clause-tree_kept : goal.returns-in_default-clause-tree_kept
returns-in_default-clause-tree_kept c = ap bare (tree_default c)

pub returns-in_default-clause-steps : goal.returns-in_default-clause-steps
returns-in_default-clause-steps c = ap (λ (u : Tree). u.steps) (tree_default c)

pub returns-in_default-clause-fewer : goal.returns-in_default-clause-fewer
returns-in_default-clause-fewer c = λ x h. ap (has_node x) (stack_default c) ∙ entries-without (is_node c.args.node) c.args.self.now x h

pub returns-in_default-clause-first_free : goal.returns-in_default-clause-first_free
returns-in_default-clause-first_free c = λ s h. fewer-free s c.args.self.now c.args.self.now (returns-in_default-clause-fewer c) h
