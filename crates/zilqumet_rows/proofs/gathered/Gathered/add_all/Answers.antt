use Rattle.std.proofs.Common.{◌∙◌, ◌<◌, ◌≤◌, ap, sym, subst, ◌++◌, take, append-nil, append_assoc, length}
use Rattle.std.proofs.lemmas.List.{take_all}
use Rattle.html_arena.specs.Tree.{label_of}
use Rattle.zilqumet_rows.specs.Texts.{AreTexts, all_texts, node_texts}
use Rattle.zilqumet_rows.proofs.Gathering.{all_more}
use Rattle.zilqumet_rows.proofs.gathered.Gathered.add_all.Goals as goal

pub nodes-init : goal.nodes-init
nodes-init c = λ texts a. rw (append-nil texts) a

pub nodes-preserved : goal.nodes-preserved
nodes-preserved c = λ texts a.
    let labels = c.args.arena.now.labels in
    let some = all_texts (take c.nodes.i labels) in
    let inside : c.nodes.i < length labels = subst (λ n. c.nodes.i < n) c.len-i-end.ensures c.nodes-test.true in
    let b = c.in_ok-add_node.ensures _ (c.nodes.invariant texts a) in
    let of_this = subst (λ k. AreTexts c.add_node.new.self.bytes.items c.add_node.new.self.ends.items ((texts ++ some) ++ node_texts (label_of c.args.arena.now k))) c.at.ensures b in
    subst (λ l. AreTexts c.add_node.new.self.bytes.items c.add_node.new.self.ends.items l)
    (append_assoc texts some (node_texts (label_of c.args.arena.now c.nodes.i)) ∙ ap (λ l. texts ++ l) (sym (all_more labels c.nodes.i inside))) of_this

pub returns : goal.returns
returns c = λ texts a.
    subst (λ l. AreTexts c.nodes.self.bytes.items c.nodes.self.ends.items (texts ++ all_texts l))
    (take_all c.nodes.i c.args.arena.now.labels (subst (λ n. n ≤ c.nodes.i) c.len-i-end.ensures c.nodes-test.false)) (c.nodes.invariant texts a)
