use Rattle.std.proofs.Common.{rules, ◌≡◌, List, [], ◌∷◌, ◌++◌, length, ◌∙◌, ap, subst, arith}
use Rattle.html_open.specs.declared.entry.Entry.{Entry}
use Rattle.html_open.specs.declared.entry.Entry.TheVariants.{Node}
use Rattle.html_open.specs.Entries.{IsDisplaced, has_node}
use Rattle.html_open.specs.Marking.{bare}
use Rattle.html_open.proofs.PushKeeps.{pushed-is, pushed-keeps, pushed-nodes}
use Rattle.html_open.proofs.Lasting.{entries-pushed, pushed-free, pushed-length, same-out}
use Rattle.html_open.proofs.list.FormattingList.push.Goals as goal

pub take_out-requires-clause-nodes_in : goal.take_out-requires-clause-nodes_in
take_out-requires-clause-nodes_in c =
    pushed-nodes c.args.arena.now c.args.node c.args.self.now c.push.new.self.items c.requires.nodes_in c.requires.node_in (search rules)

pub returns-clause-list : goal.returns-clause-list
returns-clause-list c =
    let d = subst (λ (v : List Entry). IsDisplaced c.args.arena.now c.args.node v c.displaced-displaced.result) (c.as_slice.ensures.value ∙ c.self.view_is) c.displaced-displaced.ensures in
    let e : c.push.new.self.items ≡ c.args.self.now ++ Node c.args.node ∷ [] = search rules in
    pushed-is c.args.arena.now c.args.node c.args.self.now c.push.new.self.items c.take_out.new.self c.displaced-displaced.result d e c.take_out.ensures.list

pub returns-clause-keeps : goal.returns-clause-keeps
returns-clause-keeps c = λ s k p.
    let d = subst (λ (v : List Entry). IsDisplaced c.args.arena.now c.args.node v c.displaced-displaced.result) (c.as_slice.ensures.value ∙ c.self.view_is) c.displaced-displaced.ensures in
    let e : c.push.new.self.items ≡ c.args.self.now ++ Node c.args.node ∷ [] = search rules in
    pushed-keeps s c.args.node c.args.self.now c.push.new.self.items c.take_out.new.self c.args.arena.now c.take_out.new.arena c.set_mark.new.self c.charge.new.self c.charge-2.new.self
    c.displaced-displaced.result c.base_steps-steps.result c.compared-compared.result c.forest.ensures.well_formed.as_many_marks d e c.take_out.ensures.list c.take_out.ensures.tree c.set_mark.ensures c.charge.ensures c.charge-2.ensures k p

pub returns-clause-tree_kept : goal.returns-clause-tree_kept
returns-clause-tree_kept c =
    ap bare c.charge-2.ensures ∙ ap bare c.charge.ensures ∙ ap bare c.set_mark.ensures ∙ same-out c.args.arena.now c.take_out.new.arena _ c.take_out.ensures.tree

pub returns-clause-fewer : goal.returns-clause-fewer
returns-clause-fewer c = λ x n h. ap (has_node x) (returns-clause-list c) ∙ entries-pushed c.args.arena.now c.args.node c.args.self.now x n h

pub returns-clause-longer : goal.returns-clause-longer
returns-clause-longer c = (let e = ap length (returns-clause-list c) in let l = pushed-length c.args.arena.now c.args.node c.args.self.now in omega (arith, e, l))

pub returns-clause-first_free : goal.returns-clause-first_free
returns-clause-first_free c = λ s n h. pushed-free s c.args.self.now c.take_out.new.self c.args.node (returns-clause-fewer c) n h
