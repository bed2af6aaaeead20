use Rattle.std.proofs.Common.{rules, ◌≡◌, ◌<◌, length, ◌+◌, get_or, sym, ap, subst, ◌∙◌, arith}
use Rattle.std.proofs.lemmas.Result.{err_from_is_err_and}
use Rattle.html_open.specs.declared.entry.Entry.{Entry}
use Rattle.html_open.specs.declared.entry.Entry.TheVariants.{Marker, Node}
use Rattle.html_open.specs.Opened.{open_at}
use Rattle.html_open.specs.Reopening.{IsCause, IsTold}
use Rattle.html_open.proofs.Bounding.{refused-few, under-way-few}
use Rattle.html_open.proofs.Costing.{reopened-entries, reopened-held, reopened-nodes, reopened-opened}
use Rattle.html_open.proofs.Enduring.{reopened-survives}
use Rattle.html_open.proofs.Reopened.{cause-is, closed-then, entry-is, first-is, free-is, in-order, in-order-tried, labels-are, made-so-far, made-tried, next-absent, no-marker, parents-then, reopened-is, reopening-starts, reopening-step, same-length, so-far, so-far-as, steps-are, told-is, way-as}
use Rattle.html_open.proofs.list.FormattingList.reopen.Goals.{in-Node+in_ok-reopened, in_default}
use Rattle.html_open.proofs.list.FormattingList.reopen.Goals as goal

pub reopening-init : goal.reopening-init
reopening-init c = record {
  way = reopening-starts c.args.foster c.args.stack.now c.args.self.now c.args.arena.now c.first_closed-start.new.arena c.first_closed-start.result
      c.requires.is_open c.requires.can_place c.first_closed-start.ensures.start c.first_closed-start.ensures.steps;
  len_is = let v = ap length c.self.view_is in let n = c.len-len.ensures in search rules;
}

pub index-requires : goal.index-requires
index-requires c = let t = c.reopening-test.true in let n = c.reopening.invariant.len_is in let v = ap length c.self-in-reopening.view_is in omega arith

pub reopen_entry-reopened-requires-clause-absent : goal.reopen_entry-reopened-requires-clause-absent
reopen_entry-reopened-requires-clause-absent c =
    let b : c.reopening.index < length c.reopening.self = (let t = c.reopening-test.true in let n = c.reopening.invariant.len_is in omega arith) in
    next-absent c.args.foster (open_at c.args.stack.now c.args.self.now c.args.arena.now) c.reopening.index c.reopening.stack c.reopening.self c.reopening.arena c.reopening.invariant.way
    Marker c.in-Node.node b (entry-is c.self-in-reopening.inside.entries.items c.reopening.self c.reopening.index c.index.result.now (Node c.in-Node.node) c.self-in-reopening.view_is b c.index.ensures c.in-Node.is)

pub returns-in_err-reopened-clause-cause : goal.returns-in_err-reopened-clause-cause
returns-in_err-reopened-clause-cause c =
    let p = err_from_is_err_and c.from_residual.result c.from_residual.ensures.1 in
    let b : c.reopening.index < length c.reopening.self = (let t = c.reopening-test.true in let n = c.reopening.invariant.len_is in omega arith) in
    let o = open_at c.args.stack.now c.args.self.now c.args.arena.now in
    let h = entry-is c.self-in-reopening.inside.entries.items c.reopening.self c.reopening.index c.index.result.now (Node c.in-Node.node) c.self-in-reopening.view_is b c.index.ensures c.in-Node.is in
    rw p.1
    (subst (IsCause o c.args.foster) (sym p.2)
    (cause-is c.args.foster o c.reopening.index c.reopening.stack c.reopening.self c.reopening.arena c.reopening.invariant.way Marker c.in-Node.node c.in_err-reopened.field-0.0 b h
    c.in_err-reopened.ensures.cause))

pub returns-in_err-reopened-clause-told : goal.returns-in_err-reopened-clause-told
returns-in_err-reopened-clause-told c =
    let p = err_from_is_err_and c.from_residual.result c.from_residual.ensures.1 in
    let b : c.reopening.index < length c.reopening.self = (let t = c.reopening-test.true in let n = c.reopening.invariant.len_is in omega arith) in
    let o = open_at c.args.stack.now c.args.self.now c.args.arena.now in
    let h = entry-is c.self-in-reopening.inside.entries.items c.reopening.self c.reopening.index c.index.result.now (Node c.in-Node.node) c.self-in-reopening.view_is b c.index.ensures c.in-Node.is in
    rw p.1
    (subst (IsTold c.args.arena.now.limits (open_at c.reopen_entry-reopened.new.stack c.reopen_entry-reopened.new.self c.reopen_entry-reopened.new.arena)) (sym p.2)
    (told-is c.args.foster o c.reopening.index c.reopening.stack c.reopen_entry-reopened.new.stack c.reopening.self c.reopen_entry-reopened.new.self c.reopening.arena c.reopen_entry-reopened.new.arena c.reopening.invariant.way Marker c.in-Node.node b h
    c.in_err-reopened.ensures.same_list c.in_err-reopened.field-0.0 c.in_err-reopened.ensures.told))

pub reopening-preserved : goal.reopening-preserved
reopening-preserved c =
    let b : c.reopening.index < length c.reopening.self = (let t = c.reopening-test.true in let n = c.reopening.invariant.len_is in omega arith) in
    let o = open_at c.args.stack.now c.args.self.now c.args.arena.now in
    let look : (e : Entry) → c.index.result.now ≡ e → get_or c.reopening.self c.reopening.index Marker ≡ e = λ e. entry-is c.self-in-reopening.inside.entries.items c.reopening.self c.reopening.index c.index.result.now e c.self-in-reopening.view_is b c.index.ensures in
    elim c.match-index.branch [
      | in-Node+in_ok-reopened w ↦
          let s = w.reopen_entry-reopened.new.stack in
          let l = w.reopen_entry-reopened.new.self in
          let t = w.reopen_entry-reopened.new.arena in
          record {
            way = way-as c.args.foster o (c.reopening.index + 1) s c.match-index.stack l c.match-index.self t c.match-index.arena w.stack-is w.self-is w.arena-is
                (reopening-step c.args.foster o c.reopening.index c.reopening.stack s c.reopening.self l c.reopening.arena t Marker w.in-Node.node c.forest.ensures.well_formed
                c.reopening.invariant.way b (look (Node w.in-Node.node) w.in-Node.is) (record {
                  list = w.in_ok-reopened.ensures.list;
                  stack = w.in_ok-reopened.ensures.stack;
                  tree = w.in_ok-reopened.ensures.tree;
                  keeps = w.reopen_entry-reopened.ensures.keeps;
                  can_place = w.reopen_entry-reopened.ensures.can_place;
                  closed_kept = w.reopen_entry-reopened.ensures.closed;
                  parents_kept = w.reopen_entry-reopened.ensures.parents;
                }));
            len_is = ap length w.self-is ∙ same-length c.reopening.self l c.reopening.index c.len-len.result (Node (length c.reopening.arena.labels)) c.reopening.invariant.len_is w.in_ok-reopened.ensures.list;
          }
      | in_default w ↦ absurd (no-marker c.args.foster o c.reopening.index c.reopening.stack c.reopening.self c.reopening.arena c.reopening.invariant.way Marker b (look Marker w.in_default.is))
    ]

pub returns-clause-reopened : goal.returns-clause-reopened
returns-clause-reopened c =
    reopened-is c.args.foster (open_at c.args.stack.now c.args.self.now c.args.arena.now) c.reopening.index c.reopening.stack c.reopening.self c.reopening.arena c.reopening.invariant.way
    (let t = c.reopening-test.false in let n = c.reopening.invariant.len_is in omega arith)

pub returns-clause-steps : goal.returns-clause-steps
returns-clause-steps c =
    steps-are c.args.foster (open_at c.args.stack.now c.args.self.now c.args.arena.now) c.reopening.index c.reopening.stack c.reopening.self c.reopening.arena c.reopening.invariant.way
    (let t = c.reopening-test.false in let n = c.reopening.invariant.len_is in omega arith)

pub returns-clause-clones : goal.returns-clause-clones
returns-clause-clones c =
    labels-are c.args.foster (open_at c.args.stack.now c.args.self.now c.args.arena.now) c.reopening.index c.reopening.stack c.reopening.self c.reopening.arena c.reopening.invariant.way
    (let t = c.reopening-test.false in let n = c.reopening.invariant.len_is in omega arith)

-- what the entries that were done leave where the next is refused
pub returns-in_err-reopened-clause-made : goal.returns-in_err-reopened-clause-made
returns-in_err-reopened-clause-made c =
    let b : c.reopening.index < length c.reopening.self = (let t = c.reopening-test.true in let n = c.reopening.invariant.len_is in omega arith) in
    made-tried c.args.foster (open_at c.args.stack.now c.args.self.now c.args.arena.now) c.reopening.index c.reopening.stack c.reopening.self c.reopening.arena c.reopening.invariant.way
    Marker c.in-Node.node c.reopen_entry-reopened.new.arena b (entry-is c.self-in-reopening.inside.entries.items c.reopening.self c.reopening.index c.index.result.now (Node c.in-Node.node) c.self-in-reopening.view_is b c.index.ensures c.in-Node.is)
    c.in_err-reopened.ensures.tried

pub returns-in_err-reopened-clause-so_far : goal.returns-in_err-reopened-clause-so_far
returns-in_err-reopened-clause-so_far c =
    so-far-as c.args.foster (open_at c.args.stack.now c.args.self.now c.args.arena.now) c.reopening.index c.reopening.stack c.reopen_entry-reopened.new.stack c.reopening.self c.reopen_entry-reopened.new.self c.reopening.arena c.reopen_entry-reopened.new.arena
    c.reopening.invariant.way c.in_err-reopened.ensures.same_stack c.in_err-reopened.ensures.same_list

pub returns-in_err-reopened-clause-first : goal.returns-in_err-reopened-clause-first
returns-in_err-reopened-clause-first c =
    first-is (open_at c.args.stack.now c.args.self.now c.args.arena.now) (open_at c.reopen_entry-reopened.new.stack c.reopen_entry-reopened.new.self c.reopen_entry-reopened.new.arena)
    c.requires.is_open c.requires.can_place (returns-in_err-reopened-clause-so_far c)

pub returns-in_err-reopened-clause-first_free : goal.returns-in_err-reopened-clause-first_free
returns-in_err-reopened-clause-first_free c =
    free-is (open_at c.args.stack.now c.args.self.now c.args.arena.now) (open_at c.reopen_entry-reopened.new.stack c.reopen_entry-reopened.new.self c.reopen_entry-reopened.new.arena)
    c.requires.is_open c.requires.can_place (returns-in_err-reopened-clause-so_far c)

pub returns-in_err-reopened-clause-closed : goal.returns-in_err-reopened-clause-closed
returns-in_err-reopened-clause-closed c =
    closed-then c.args.foster (open_at c.args.stack.now c.args.self.now c.args.arena.now) c.reopening.index c.reopening.stack c.reopening.self c.reopening.arena c.reopen_entry-reopened.new.arena
    c.forest.ensures.well_formed c.reopening.invariant.way c.reopen_entry-reopened.ensures.closed

pub returns-in_err-reopened-clause-parents : goal.returns-in_err-reopened-clause-parents
returns-in_err-reopened-clause-parents c =
    parents-then c.args.arena.now c.reopening.arena c.reopen_entry-reopened.new.arena c.reopening.invariant.way.longer c.reopening.invariant.way.parents c.reopen_entry-reopened.ensures.parents

pub returns-clause-made : goal.returns-clause-made
returns-clause-made c =
    made-so-far c.args.foster (open_at c.args.stack.now c.args.self.now c.args.arena.now) c.reopening.index c.reopening.stack c.reopening.self c.reopening.arena c.reopening.invariant.way

pub returns-clause-so_far : goal.returns-clause-so_far
returns-clause-so_far c =
    so-far c.args.foster (open_at c.args.stack.now c.args.self.now c.args.arena.now) c.reopening.index c.reopening.stack c.reopening.self c.reopening.arena c.reopening.invariant.way

pub returns-clause-first : goal.returns-clause-first
returns-clause-first c =
    first-is (open_at c.args.stack.now c.args.self.now c.args.arena.now) (open_at c.reopening.stack c.reopening.self c.reopening.arena) c.requires.is_open c.requires.can_place (returns-clause-so_far c)

pub returns-clause-first_free : goal.returns-clause-first_free
returns-clause-first_free c =
    free-is (open_at c.args.stack.now c.args.self.now c.args.arena.now) (open_at c.reopening.stack c.reopening.self c.reopening.arena) c.requires.is_open c.requires.can_place (returns-clause-so_far c)

pub returns-in_err-reopened-clause-in_order : goal.returns-in_err-reopened-clause-in_order
returns-in_err-reopened-clause-in_order c =
    let b : c.reopening.index < length c.reopening.self = (let t = c.reopening-test.true in let n = c.reopening.invariant.len_is in omega arith) in
    in-order-tried c.args.foster (open_at c.args.stack.now c.args.self.now c.args.arena.now) c.reopening.index c.reopening.stack c.reopening.self c.reopening.arena c.reopening.invariant.way
    Marker c.in-Node.node c.reopen_entry-reopened.new.arena b (entry-is c.self-in-reopening.inside.entries.items c.reopening.self c.reopening.index c.index.result.now (Node c.in-Node.node) c.self-in-reopening.view_is b c.index.ensures c.in-Node.is)
    c.in_err-reopened.ensures.tried

pub returns-in_err-reopened-clause-survives : goal.returns-in_err-reopened-clause-survives
returns-in_err-reopened-clause-survives c =
    reopened-survives (open_at c.args.stack.now c.args.self.now c.args.arena.now) (open_at c.reopen_entry-reopened.new.stack c.reopen_entry-reopened.new.self c.reopen_entry-reopened.new.arena)
    c.requires.is_open c.requires.can_place (returns-in_err-reopened-clause-so_far c) c.reopen_entry-reopened.ensures.keeps (returns-in_err-reopened-clause-made c)

pub returns-in_err-reopened-clause-nodes : goal.returns-in_err-reopened-clause-nodes
returns-in_err-reopened-clause-nodes c = reopened-nodes (open_at c.args.stack.now c.args.self.now c.args.arena.now) (open_at c.reopen_entry-reopened.new.stack c.reopen_entry-reopened.new.self c.reopen_entry-reopened.new.arena) (returns-in_err-reopened-clause-in_order c)

pub returns-in_err-reopened-clause-held : goal.returns-in_err-reopened-clause-held
returns-in_err-reopened-clause-held c = reopened-held (open_at c.args.stack.now c.args.self.now c.args.arena.now) (open_at c.reopen_entry-reopened.new.stack c.reopen_entry-reopened.new.self c.reopen_entry-reopened.new.arena) c.forest.ensures.held c.forest-in-Node.ensures.held (returns-in_err-reopened-clause-in_order c)

pub returns-in_err-reopened-clause-opened : goal.returns-in_err-reopened-clause-opened
returns-in_err-reopened-clause-opened c = reopened-opened (open_at c.args.stack.now c.args.self.now c.args.arena.now) (open_at c.reopen_entry-reopened.new.stack c.reopen_entry-reopened.new.self c.reopen_entry-reopened.new.arena) (returns-in_err-reopened-clause-so_far c)

pub returns-in_err-reopened-clause-entries : goal.returns-in_err-reopened-clause-entries
returns-in_err-reopened-clause-entries c = reopened-entries (open_at c.args.stack.now c.args.self.now c.args.arena.now) (open_at c.reopen_entry-reopened.new.stack c.reopen_entry-reopened.new.self c.reopen_entry-reopened.new.arena) (returns-in_err-reopened-clause-so_far c)

pub returns-clause-in_order : goal.returns-clause-in_order
returns-clause-in_order c = in-order c.args.foster (open_at c.args.stack.now c.args.self.now c.args.arena.now) c.reopening.index c.reopening.stack c.reopening.self c.reopening.arena c.reopening.invariant.way

pub returns-clause-survives : goal.returns-clause-survives
returns-clause-survives c =
    reopened-survives (open_at c.args.stack.now c.args.self.now c.args.arena.now) (open_at c.reopening.stack c.reopening.self c.reopening.arena)
    c.requires.is_open c.requires.can_place (returns-clause-so_far c) c.reopening.invariant.way.is_open (returns-clause-made c)

pub returns-clause-nodes : goal.returns-clause-nodes
returns-clause-nodes c = reopened-nodes (open_at c.args.stack.now c.args.self.now c.args.arena.now) (open_at c.reopening.stack c.reopening.self c.reopening.arena) (returns-clause-in_order c)

pub returns-clause-held : goal.returns-clause-held
returns-clause-held c = reopened-held (open_at c.args.stack.now c.args.self.now c.args.arena.now) (open_at c.reopening.stack c.reopening.self c.reopening.arena) c.forest.ensures.held c.forest-2.ensures.held (returns-clause-in_order c)

pub returns-clause-opened : goal.returns-clause-opened
returns-clause-opened c = reopened-opened (open_at c.args.stack.now c.args.self.now c.args.arena.now) (open_at c.reopening.stack c.reopening.self c.reopening.arena) (returns-clause-so_far c)

pub returns-clause-entries : goal.returns-clause-entries
returns-clause-entries c = reopened-entries (open_at c.args.stack.now c.args.self.now c.args.arena.now) (open_at c.reopening.stack c.reopening.self c.reopening.arena) (returns-clause-so_far c)

pub returns-clause-steps_most : goal.returns-clause-steps_most
returns-clause-steps_most c = under-way-few c.args.foster (open_at c.args.stack.now c.args.self.now c.args.arena.now) c.reopening.index c.reopening.stack c.reopening.self c.reopening.arena c.reopening.invariant.way

pub returns-in_err-reopened-clause-steps_most : goal.returns-in_err-reopened-clause-steps_most
returns-in_err-reopened-clause-steps_most c =
    let b : c.reopening.index < length c.reopening.self = (let t = c.reopening-test.true in let n = c.reopening.invariant.len_is in omega arith) in
    refused-few c.args.foster (open_at c.args.stack.now c.args.self.now c.args.arena.now) c.reopening.index c.reopening.stack c.reopening.self c.reopening.arena c.reopening.invariant.way
    Marker c.in-Node.node c.reopen_entry-reopened.new.arena b (entry-is c.self-in-reopening.inside.entries.items c.reopening.self c.reopening.index c.index.result.now (Node c.in-Node.node) c.self-in-reopening.view_is b c.index.ensures c.in-Node.is)
    c.in_err-reopened.ensures.steps
