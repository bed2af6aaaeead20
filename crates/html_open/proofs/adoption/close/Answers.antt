use Rattle.std.proofs.Common.{ℕ, ◌-◌, sym, ◌∙◌, ap, subst, length, drop, arith, eqb}
use Rattle.html_arena.specs.declared.marks.Mark.TheVariants.{OnStack}
use Rattle.html_arena.specs.Tree.{Tree, more}
use Rattle.html_open.specs.Marking.{bare}
use Rattle.html_open.specs.Opened.{IsOpen, open_at}
use Rattle.html_open.proofs.Closing.{all_unmarked-labels, bare-all}
use Rattle.html_open.specs.Entries.{is_node, removal_steps}
use Rattle.html_open.proofs.Counting.{all_unmarked-steps, close-counted, removal-few}
use Rattle.html_open.proofs.Finding.{last_named-in}
use Rattle.html_open.proofs.Keeps.{open-charged}
use Rattle.html_open.proofs.Leaving.{paid-closed}
use Rattle.html_open.proofs.Lists.{below-at}
use Rattle.html_open.proofs.adoption.close.Goals as goal

pub remove-requires-clause-nodes_in : goal.remove-requires-clause-nodes_in
remove-requires-clause-nodes_in c = λ x h.
    let k = c.requires.«open».list_in x h in
    let e = ap (λ (t : Tree). length t.labels) c.charge.ensures in
    let f = ap (λ (t : Tree). length t.labels) c.pop_to.ensures.tree in
    let g = ap length (all_unmarked-labels c.charge.new.self OnStack (drop c.args.at c.args.stack.now)) in
    omega (arith, k, e, f, g)

pub remove-requires-clause-node_in : goal.remove-requires-clause-node_in
remove-requires-clause-node_in c =
    let k = c.requires.«open».list_in c.args.node (last_named-in c.args.arena.now c.requires.plain.0 c.args.list.now c.args.node c.requires.plain.1.formatting.entry) in
    let e = ap (λ (t : Tree). length t.labels) c.charge.ensures in
    let f = ap (λ (t : Tree). length t.labels) c.pop_to.ensures.tree in
    let g = ap length (all_unmarked-labels c.charge.new.self OnStack (drop c.args.at c.args.stack.now)) in
    omega (arith, k, e, f, g)

pub returns-clause-closed : goal.returns-clause-closed
returns-clause-closed c = λ s p. record {
  formatting_element = c.args.node;
  formatting = p.formatting.entry;
  on_stack = p.formatting.on_stack;
  in_scope = p.formatting.in_scope;
  no_special = p.no_special;
  stack_is = c.pop_to.ensures.stack ∙ sym (below-at (eqb c.args.node) c.args.stack.now c.args.at p.formatting.index_is);
  list_is = c.remove.ensures.list;
  tree_is = ap bare c.remove.ensures.tree ∙ ap bare c.pop_to.ensures.tree ∙ bare-all c.charge.new.self OnStack (drop c.args.at c.args.stack.now) ∙ ap bare c.charge.ensures;
}

pub returns-clause-kept : goal.returns-clause-kept
returns-clause-kept c =
    c.remove.ensures.keeps c.pop_to.new.self (c.pop_to.ensures.keeps c.args.list.now
    (subst (λ (t : Tree). IsOpen (open_at c.args.stack.now c.args.list.now t)) (sym c.charge.ensures) (open-charged c.args.stack.now c.args.list.now c.args.arena.now (c.len.result - c.args.at) c.requires.«open»)))

pub returns-clause-steps : goal.returns-clause-steps
returns-clause-steps c =
    let e = c.len.ensures in
    close-counted c.args.arena.now.steps c.charge.new.self.steps c.pop_to.new.arena.steps c.remove.new.arena.steps (c.len.result - c.args.at) (removal_steps (is_node c.args.node) c.args.list.now) (length c.args.stack.now) (length c.args.list.now)
    (ap (λ (t : Tree). t.steps) c.charge.ensures) (omega (arith, e)) (ap (λ (t : Tree). t.steps) c.pop_to.ensures.tree ∙ all_unmarked-steps c.charge.new.self OnStack (drop c.args.at c.args.stack.now)) (ap (λ (t : Tree). t.steps) c.remove.ensures.tree) (removal-few (is_node c.args.node) c.args.list.now)

pub returns-clause-paid : goal.returns-clause-paid
returns-clause-paid c =
    let e = c.len.ensures in
    let l = ap (λ (t : Tree). length t.labels) c.remove.ensures.tree ∙ ap (λ (t : Tree). length t.labels) c.pop_to.ensures.tree ∙ ap length (all_unmarked-labels c.charge.new.self OnStack (drop c.args.at c.args.stack.now)) ∙ ap (λ (t : Tree). length t.labels) c.charge.ensures in
    paid-closed c.args.stack.now c.pop_to.new.self c.args.list.now c.remove.new.self c.args.arena.now c.remove.new.arena c.args.at c.args.node c.charge.new.self.steps c.pop_to.new.arena.steps c.requires.«open» c.pop_to.ensures.stack c.remove.ensures.list l
    (ap (λ (t : Tree). t.steps) c.charge.ensures ∙ ap (λ (n : ℕ). more c.args.arena.now.steps (n - c.args.at)) e) (ap (λ (t : Tree). t.steps) c.pop_to.ensures.tree ∙ all_unmarked-steps c.charge.new.self OnStack (drop c.args.at c.args.stack.now)) (ap (λ (t : Tree). t.steps) c.remove.ensures.tree)
