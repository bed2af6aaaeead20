use Rattle.std.proofs.Common.{◌∙◌, ap, length, arith}
use Rattle.html_arena.specs.Make.{label_for, made, nodes_made}
use Rattle.html_arena.specs.Tree.{Tree}
use Rattle.html_open.specs.Placing.{put}
use Rattle.html_open.proofs.Edits.{grown-apart, open-grown}
use Rattle.html_open.proofs.Firsts.{bare-new, new-held, new-steps, place-still}
use Rattle.html_open.proofs.Newly.{can-place-new, has-new, made-some, new-listable}
use Rattle.html_open.proofs.Standing.{element-in}
use Rattle.html_open.proofs.inserting.insert.Goals as goal

pub returns-in-Ok-clause-laws : goal.returns-in-Ok-clause-laws
returns-in-Ok-clause-laws c =
    has-new c.args.arena.now c.make.new.self c.put.new.arena c.args.place c.in-Ok.node (nodes_made c.args.new) (label_for c.args.arena.now c.args.new) c.in-Ok.ensures.grown (made-some c.args.new)
    c.in-Ok.ensures.id c.in-Ok.ensures.label c.put.ensures.put c.put.ensures.others c.put.ensures.children c.put.ensures.parents

pub returns-in-Ok-clause-keeps : goal.returns-in-Ok-clause-keeps
returns-in-Ok-clause-keeps c = λ s l h.
    let i = c.in-Ok.ensures.id in
    c.put.ensures.keeps s l (grown-apart s l c.args.arena.now c.make.new.self (nodes_made c.args.new) c.in-Ok.node c.in-Ok.ensures.grown (omega (arith, i)) h)
    (open-grown s l c.args.arena.now c.make.new.self (nodes_made c.args.new) c.in-Ok.ensures.grown h)

pub returns-in-Ok-clause-can_list : goal.returns-in-Ok-clause-can_list
returns-in-Ok-clause-can_list c = λ s l u e h f k.
    new-listable c.args.arena.now c.put.new.arena u c.args.place (label_for c.args.arena.now c.args.new) s l (returns-in-Ok-clause-laws c) e h f k

pub returns-in-Ok-clause-can_place : goal.returns-in-Ok-clause-can_place
returns-in-Ok-clause-can_place c = λ s b h. can-place-new c.args.arena.now c.put.new.arena c.args.place (label_for c.args.arena.now c.args.new) s (returns-in-Ok-clause-laws c) b h

tree_is : goal.returns-in-Ok-clause-tree
tree_is c =
    c.put.ensures.tree ∙ ap (λ (m : Tree). put m c.args.place c.in-Ok.node) c.in-Ok.ensures.made ∙ ap (put (made c.args.arena.now c.args.new) c.args.place) c.in-Ok.ensures.id

pub returns-in-Ok-clause-tree : goal.returns-in-Ok-clause-tree
returns-in-Ok-clause-tree c = tree_is c

pub returns-in-Ok-clause-bare_tree : goal.returns-in-Ok-clause-bare_tree
returns-in-Ok-clause-bare_tree c = bare-new c.args.arena.now c.put.new.arena c.args.place c.args.new (tree_is c)

pub returns-in-Ok-clause-nodes : goal.returns-in-Ok-clause-nodes
returns-in-Ok-clause-nodes c = ap length c.put.ensures.put.nodes.labels_are ∙ c.in-Ok.ensures.grown.longer

pub returns-in-Ok-clause-held : goal.returns-in-Ok-clause-held
returns-in-Ok-clause-held c = new-held c.args.arena.now c.put.new.arena c.args.place (length c.args.arena.now.labels) c.args.new (tree_is c)

pub returns-in-Ok-clause-steps : goal.returns-in-Ok-clause-steps
returns-in-Ok-clause-steps c = new-steps c.args.arena.now c.make.new.self c.put.new.arena c.args.place c.in-Ok.node c.args.new c.in-Ok.ensures.made (place-still c.args.arena.now c.make.new.self (nodes_made c.args.new) c.args.place c.in-Ok.ensures.grown c.requires.place_in) c.put.ensures.tree

pub returns-in-Ok-clause-closed : goal.returns-in-Ok-clause-closed
returns-in-Ok-clause-closed c = λ s l h x i o n. (returns-in-Ok-clause-laws c).same_children x (element-in c.args.arena.now x i) (h x i o n)
