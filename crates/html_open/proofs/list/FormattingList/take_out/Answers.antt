use Rattle.std.proofs.Common.{rules, ◌<◌, List, length, Some, sym, subst}
use Rattle.html_arena.specs.Tree.{Tree}
use Rattle.html_open.specs.declared.entry.Entry.{Entry}
use Rattle.html_open.specs.declared.entry.Entry.TheVariants.{Marker, Node}
use Rattle.html_open.specs.Entries.{node_in, nodes_of}
use Rattle.html_open.specs.Opened.{AreNodes}
use Rattle.html_open.specs.Placing.{IsTarget}
use Rattle.html_open.proofs.Lists.{entry-at}
use Rattle.html_open.specs.Searches.{IsEntry}
use Rattle.html_open.proofs.list.FormattingList.take_out.Goals as goal

target : (t : Tree) (e : Entry) → IsEntry t e → IsTarget t (node_in (Some e))
target t Marker h = tt
target t (Node x) h = h

pub unmark-requires : goal.unmark-requires
unmark-requires c =
    let items = c.self.inside.entries.items in
    let n : AreNodes c.args.arena.now (nodes_of items) = subst (λ (es : List Entry). AreNodes c.args.arena.now (nodes_of es)) (sym c.self.view_is) c.requires.nodes_in in
    let b : c.in-Some.index < length items = search rules in
    subst (IsTarget c.args.arena.now) (sym c.node-node.ensures)
    (target c.args.arena.now c.index.result.now (entry-at c.args.arena.now items c.in-Some.index c.index.result.now c.index.result.now n b (sym c.index.ensures)))
