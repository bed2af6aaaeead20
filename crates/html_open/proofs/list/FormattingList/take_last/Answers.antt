use Rattle.std.proofs.Common.{arith, ◌≡◌, ◌-◌, length, List, true, sym, ◌∙◌, ap, subst}
use Rattle.html_arena.specs.Siblings.{has}
use Rattle.html_open.specs.declared.entry.Entry.{Entry}
use Rattle.html_open.specs.declared.entry.Entry.TheVariants.{Node}
use Rattle.html_open.specs.Entries.{nodes_of}
use Rattle.html_open.proofs.Lists.{node-at, node-of}
use Rattle.html_open.proofs.list.FormattingList.take_last.Goals as goal

pub set_mark-requires : goal.set_mark-requires
set_mark-requires c =
    let items = c.self.inside.entries.items in
    let e : c.index.result.now ≡ Node c.in-Some.node = node-of c.index.result.now c.in-Some.node (sym c.node-node.ensures ∙ c.in-Some.is) in
    let v = ap length c.self.view_is in
    let s = c.requires.some in
    let n = c.len.ensures in
    c.requires.nodes_in c.in-Some.node
    (subst (λ (es : List Entry). has c.in-Some.node (nodes_of es) ≡ true) c.self.view_is
    (node-at items (c.len.result - 1) c.in-Some.node c.index.result.now (sym c.index.ensures ∙ e) (omega arith)))
