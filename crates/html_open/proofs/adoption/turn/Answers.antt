use Rattle.std.proofs.Common.{◌+◌, refl, sym, ◌∙◌, ap, subst, length, arith}
use Rattle.html_arena.specs.Tree.{Tree}
use Rattle.html_open.specs.AdoptFinding.{IsBlock, IsPlain}
use Rattle.html_open.specs.Adopting.{Closed, Round, closes, forgets, no_entry, out_of_scope}
use Rattle.html_open.specs.Marking.{bare}
use Rattle.html_open.specs.Opened.{IsOpen, open_at}
use Rattle.html_open.specs.Placing.{CanPlace}
use Rattle.std.proofs.lemmas.Result.{err_from_is_err_and}
use Rattle.html_open.specs.declared.adoption.AdoptEnd.TheVariants.{Done, OtherEndTag}
use Rattle.html_arena.specs.declared.arena.ArenaError.{ArenaError}
use Rattle.html_open.specs.Adopting.{IsStopped, round_originals}
use Rattle.html_open.specs.Cloning.{IsCut}
use Rattle.html_open.proofs.Cutting.{cut-rebase}
use Rattle.std.proofs.Common.{◌*◌}
use Rattle.html_open.specs.Entries.{is_node, removal_steps}
use Rattle.html_open.proofs.Counting.{counted-charge, counted-within, removal-few, turn-counted, turn-round}
use Rattle.html_open.proofs.Finding.{last_named-in}
use Rattle.html_open.proofs.Leaving.{paid-later, paid-removed, paid-same}
use Rattle.html_open.proofs.Rooted.{ends-roots, roots-rebase}
use Rattle.html_open.proofs.Looping.{can-place-stepped, closed-rebase, not-first, plain-stepped, round-rebase}
use Rattle.html_open.proofs.Rounds.{block-stepped, open-stepped}
use Rattle.html_open.proofs.adoption.turn.Goals as goal

pub remove-requires-clause-nodes_in : goal.remove-requires-clause-nodes_in
remove-requires-clause-nodes_in c = λ x h.
    let k = c.requires.«open».list_in x h in
    let e = ap (λ (t : Tree). length t.labels) c.find.ensures.tree in
    omega (arith, k, e)

pub remove-requires-clause-node_in : goal.remove-requires-clause-node_in
remove-requires-clause-node_in c =
    let k = c.requires.«open».list_in c.in-OffStack.node (last_named-in c.args.arena.now c.args.name c.args.list.now c.in-OffStack.node c.in-OffStack.ensures.found.entry) in
    let e = ap (λ (t : Tree). length t.labels) c.find.ensures.tree in
    omega (arith, k, e)

pub close-requires-clause-open : goal.close-requires-clause-open
close-requires-clause-open c = (subst (λ (t : Tree). IsOpen (open_at c.args.stack.now c.args.list.now t)) (sym c.find.ensures.tree) (open-stepped c.args.stack.now c.args.list.now c.args.arena.now c.find.new.arena.steps c.requires.«open»))

pub close-requires-clause-plain : goal.close-requires-clause-plain
close-requires-clause-plain c = (c.args.name, (subst (λ (t : Tree). IsPlain c.args.name (open_at c.args.stack.now c.args.list.now t) c.in-NoFurthestBlock.node c.in-NoFurthestBlock.at) (sym c.find.ensures.tree) (plain-stepped c.args.name c.args.stack.now c.args.list.now c.args.arena.now c.find.new.arena.steps c.in-NoFurthestBlock.node c.in-NoFurthestBlock.at c.in-NoFurthestBlock.ensures.found)))

pub round-requires-clause-open : goal.round-requires-clause-open
round-requires-clause-open c = (subst (λ (t : Tree). IsOpen (open_at c.args.stack.now c.args.list.now t)) (sym c.find.ensures.tree) (open-stepped c.args.stack.now c.args.list.now c.args.arena.now c.find.new.arena.steps c.requires.«open»))

pub round-requires-clause-can_place : goal.round-requires-clause-can_place
round-requires-clause-can_place c = subst (λ (t : Tree). CanPlace t c.args.stack.now) (sym c.find.ensures.tree) (can-place-stepped c.args.arena.now c.find.new.arena.steps c.args.stack.now c.requires.can_place)

pub round-requires-clause-inside : goal.round-requires-clause-inside
round-requires-clause-inside c = not-first c.args.name c.args.stack.now c.args.list.now c.args.arena.now c.in-FurthestBlock.at c.in-FurthestBlock.block_at c.in-FurthestBlock.ensures.found c.requires.first_free

pub round-requires-clause-block : goal.round-requires-clause-block
round-requires-clause-block c = (c.args.name, (subst (λ (t : Tree). IsBlock c.args.name (open_at c.args.stack.now c.args.list.now t) c.in-FurthestBlock.at c.in-FurthestBlock.block_at) (sym c.find.ensures.tree) (block-stepped c.args.name c.args.stack.now c.args.list.now c.args.arena.now c.find.new.arena.steps c.in-FurthestBlock.at c.in-FurthestBlock.block_at c.in-FurthestBlock.ensures.found)))

pub returns-in-NoEntry-clause-turned : goal.returns-in-NoEntry-clause-turned
returns-in-NoEntry-clause-turned c = no_entry _ _ (record { none = c.in-NoEntry.ensures.found; unchanged = record { stack_is = refl; list_is = refl; tree_is = ap bare c.find.ensures.tree } })

pub returns-in-NoEntry-clause-kept : goal.returns-in-NoEntry-clause-kept
returns-in-NoEntry-clause-kept c = (subst (λ (t : Tree). IsOpen (open_at c.args.stack.now c.args.list.now t)) (sym c.find.ensures.tree) (open-stepped c.args.stack.now c.args.list.now c.args.arena.now c.find.new.arena.steps c.requires.«open»))

pub returns-in-OffStack-clause-turned : goal.returns-in-OffStack-clause-turned
returns-in-OffStack-clause-turned c = forgets _ _ (record {
  formatting_element = c.in-OffStack.node;
  formatting = c.in-OffStack.ensures.found.entry;
  off_stack = c.in-OffStack.ensures.found.off_stack;
  stack_is = refl;
  list_is = c.remove.ensures.list;
  tree_is = ap bare c.remove.ensures.tree ∙ ap bare c.find.ensures.tree;
})

pub returns-in-OffStack-clause-kept : goal.returns-in-OffStack-clause-kept
returns-in-OffStack-clause-kept c = c.remove.ensures.keeps c.args.stack.now (subst (λ (t : Tree). IsOpen (open_at c.args.stack.now c.args.list.now t)) (sym c.find.ensures.tree) (open-stepped c.args.stack.now c.args.list.now c.args.arena.now c.find.new.arena.steps c.requires.«open»))

pub returns-in-OutOfScope-clause-turned : goal.returns-in-OutOfScope-clause-turned
returns-in-OutOfScope-clause-turned c =
    let k = c.in-OutOfScope.ensures.found in
    out_of_scope _ _ (record {
      formatting_element = k.0;
      formatting = k.1.entry;
      on_stack = k.1.on_stack;
      not_in_scope = k.1.not_in_scope;
      unchanged = record { stack_is = refl; list_is = refl; tree_is = ap bare c.find.ensures.tree };
    })

pub returns-in-OutOfScope-clause-kept : goal.returns-in-OutOfScope-clause-kept
returns-in-OutOfScope-clause-kept c = (subst (λ (t : Tree). IsOpen (open_at c.args.stack.now c.args.list.now t)) (sym c.find.ensures.tree) (open-stepped c.args.stack.now c.args.list.now c.args.arena.now c.find.new.arena.steps c.requires.«open»))

pub returns-in-NoFurthestBlock-clause-turned : goal.returns-in-NoFurthestBlock-clause-turned
returns-in-NoFurthestBlock-clause-turned c =
    let q = open_at c.close.new.stack c.close.new.list c.close.new.arena in
    closes _ _ (closed-rebase c.args.name c.args.foster c.args.stack.now c.args.list.now c.args.arena.now c.find.new.arena.steps (open_at c.close.new.stack c.close.new.list c.close.new.arena)
    (subst (λ (t : Tree). Closed c.args.name (open_at c.args.stack.now c.args.list.now t) (open_at c.close.new.stack c.close.new.list c.close.new.arena)) c.find.ensures.tree
    (c.close.ensures.closed c.args.name (subst (λ (t : Tree). IsPlain c.args.name (open_at c.args.stack.now c.args.list.now t) c.in-NoFurthestBlock.node c.in-NoFurthestBlock.at) (sym c.find.ensures.tree) (plain-stepped c.args.name c.args.stack.now c.args.list.now c.args.arena.now c.find.new.arena.steps c.in-NoFurthestBlock.node c.in-NoFurthestBlock.at c.in-NoFurthestBlock.ensures.found)))))

pub returns-in_ok-round-in-FurthestBlock-clause-turned : goal.returns-in_ok-round-in-FurthestBlock-clause-turned
returns-in_ok-round-in-FurthestBlock-clause-turned c =
    round-rebase c.args.name c.args.foster c.args.stack.now c.args.list.now c.args.arena.now c.find.new.arena.steps (open_at c.round.new.stack c.round.new.list c.round.new.arena)
    (subst (λ (t : Tree). Round c.args.name c.args.foster (open_at c.args.stack.now c.args.list.now t) (open_at c.round.new.stack c.round.new.list c.round.new.arena)) c.find.ensures.tree
    (c.in_ok-round-in-FurthestBlock.ensures.round c.args.name (subst (λ (t : Tree). IsBlock c.args.name (open_at c.args.stack.now c.args.list.now t) c.in-FurthestBlock.at c.in-FurthestBlock.block_at) (sym c.find.ensures.tree) (block-stepped c.args.name c.args.stack.now c.args.list.now c.args.arena.now c.find.new.arena.steps c.in-FurthestBlock.at c.in-FurthestBlock.block_at c.in-FurthestBlock.ensures.found))))

pub returns-in_err-round-in-FurthestBlock-clause-stopped : goal.returns-in_err-round-in-FurthestBlock-clause-stopped
returns-in_err-round-in-FurthestBlock-clause-stopped c =
    let p = err_from_is_err_and c.from_residual.result c.from_residual.ensures.1 in
    let d = subst (λ (t : Tree). IsCut t c.round.new.arena (round_originals (open_at c.args.stack.now c.args.list.now t) c.in-FurthestBlock.at c.in-FurthestBlock.block_at) c.in_err-round-in-FurthestBlock.field-0.0) c.find.ensures.tree c.in_err-round-in-FurthestBlock.ensures.cut in
    rw p.1 (subst (λ (e : ArenaError). IsStopped c.args.name (open_at c.args.stack.now c.args.list.now c.args.arena.now) (open_at c.round.new.stack c.round.new.list c.round.new.arena) e) (sym p.2) (record {
      at = c.in-FurthestBlock.at;
      b = c.in-FurthestBlock.block_at;
      block = c.in-FurthestBlock.ensures.found;
      stack_is = c.in_err-round-in-FurthestBlock.ensures.same_stack;
      list_is = c.in_err-round-in-FurthestBlock.ensures.same_list;
      cut = cut-rebase c.args.arena.now c.find.new.arena.steps c.round.new.arena (round_originals (open_at c.args.stack.now c.args.list.now c.args.arena.now) c.in-FurthestBlock.at c.in-FurthestBlock.block_at) c.in_err-round-in-FurthestBlock.field-0.0 d;
    }))

pub returns-in-OffStack-clause-steps : goal.returns-in-OffStack-clause-steps
returns-in-OffStack-clause-steps c =
    let r = removal-few (is_node c.in-OffStack.node) c.args.list.now in
    turn-counted c.args.arena.now.steps c.find.new.arena.steps c.remove.new.arena.steps (length c.args.arena.now.labels) (length c.remove.new.arena.labels) (length c.args.stack.now) (length c.args.list.now) (removal_steps (is_node c.in-OffStack.node) c.args.list.now) c.find.ensures.steps
    (counted-within c.find.new.arena.steps c.remove.new.arena.steps (removal_steps (is_node c.in-OffStack.node) c.args.list.now) (removal_steps (is_node c.in-OffStack.node) c.args.list.now) 0 (removal_steps (is_node c.in-OffStack.node) c.args.list.now) (omega arith) (omega arith)
    (counted-charge c.find.new.arena.steps c.remove.new.arena.steps (removal_steps (is_node c.in-OffStack.node) c.args.list.now) (ap (λ (t : Tree). t.steps) c.remove.ensures.tree)))
    (omega (arith, r)) (ap (λ (t : Tree). length t.labels) c.remove.ensures.tree ∙ ap (λ (t : Tree). length t.labels) c.find.ensures.tree)

pub returns-in-NoFurthestBlock-clause-steps : goal.returns-in-NoFurthestBlock-clause-steps
returns-in-NoFurthestBlock-clause-steps c =
    turn-counted c.args.arena.now.steps c.find.new.arena.steps c.close.new.arena.steps (length c.args.arena.now.labels) (length c.close.new.arena.labels) (length c.args.stack.now) (length c.args.list.now) (length c.args.stack.now + 2 * length c.args.list.now) c.find.ensures.steps c.close.ensures.steps
    (omega arith) (ap (λ (t : Tree). length t.labels) (c.close.ensures.closed c.args.name (subst (λ (t : Tree). IsPlain c.args.name (open_at c.args.stack.now c.args.list.now t) c.in-NoFurthestBlock.node c.in-NoFurthestBlock.at) (sym c.find.ensures.tree) (plain-stepped c.args.name c.args.stack.now c.args.list.now c.args.arena.now c.find.new.arena.steps c.in-NoFurthestBlock.node c.in-NoFurthestBlock.at c.in-NoFurthestBlock.ensures.found))).tree_is ∙ ap (λ (t : Tree). length t.labels) c.find.ensures.tree)

pub returns-in_ok-round-in-FurthestBlock-clause-steps : goal.returns-in_ok-round-in-FurthestBlock-clause-steps
returns-in_ok-round-in-FurthestBlock-clause-steps c =
    turn-round c.args.arena.now.steps c.find.new.arena.steps c.round.new.arena.steps (length c.find.new.arena.labels) (length c.args.arena.now.labels) (length c.round.new.arena.labels) (length c.args.stack.now) (length c.args.list.now) c.find.ensures.steps (ap (λ (t : Tree). length t.labels) c.find.ensures.tree) c.round.ensures.steps

pub returns-in_err-round-in-FurthestBlock-clause-steps : goal.returns-in_err-round-in-FurthestBlock-clause-steps
returns-in_err-round-in-FurthestBlock-clause-steps c =
    turn-round c.args.arena.now.steps c.find.new.arena.steps c.round.new.arena.steps (length c.find.new.arena.labels) (length c.args.arena.now.labels) (length c.round.new.arena.labels) (length c.args.stack.now) (length c.args.list.now) c.find.ensures.steps (ap (λ (t : Tree). length t.labels) c.find.ensures.tree) c.round.ensures.steps

pub returns-in-NoEntry-clause-paid : goal.returns-in-NoEntry-clause-paid
returns-in-NoEntry-clause-paid c = paid-same c.args.stack.now c.args.list.now c.args.arena.now c.find.new.arena c.requires.«open» c.find.ensures.tree c.find.ensures.steps.least

pub returns-in-OutOfScope-clause-paid : goal.returns-in-OutOfScope-clause-paid
returns-in-OutOfScope-clause-paid c = paid-same c.args.stack.now c.args.list.now c.args.arena.now c.find.new.arena c.requires.«open» c.find.ensures.tree c.find.ensures.steps.least

pub returns-in-OffStack-clause-paid : goal.returns-in-OffStack-clause-paid
returns-in-OffStack-clause-paid c =
    paid-later c.args.stack.now c.args.list.now c.args.arena.now c.find.new.arena (open_at c.args.stack.now c.remove.new.self c.remove.new.arena) c.find.ensures.tree c.find.ensures.steps.least
    (paid-removed c.args.stack.now c.args.list.now c.remove.new.self c.find.new.arena c.remove.new.arena c.in-OffStack.node (subst (λ (t : Tree). IsOpen (open_at c.args.stack.now c.args.list.now t)) (sym c.find.ensures.tree) (open-stepped c.args.stack.now c.args.list.now c.args.arena.now c.find.new.arena.steps c.requires.«open»)) c.remove.ensures.list (ap (λ (t : Tree). length t.labels) c.remove.ensures.tree) (ap (λ (t : Tree). t.steps) c.remove.ensures.tree))

pub returns-in-NoFurthestBlock-clause-paid : goal.returns-in-NoFurthestBlock-clause-paid
returns-in-NoFurthestBlock-clause-paid c =
    paid-later c.args.stack.now c.args.list.now c.args.arena.now c.find.new.arena (open_at c.close.new.stack c.close.new.list c.close.new.arena) c.find.ensures.tree c.find.ensures.steps.least c.close.ensures.paid

pub returns-in_ok-round-in-FurthestBlock-clause-paid : goal.returns-in_ok-round-in-FurthestBlock-clause-paid
returns-in_ok-round-in-FurthestBlock-clause-paid c =
    paid-later c.args.stack.now c.args.list.now c.args.arena.now c.find.new.arena (open_at c.round.new.stack c.round.new.list c.round.new.arena) c.find.ensures.tree c.find.ensures.steps.least c.in_ok-round-in-FurthestBlock.ensures.paid

pub returns-in-NoEntry-clause-roots : goal.returns-in-NoEntry-clause-roots
returns-in-NoEntry-clause-roots c = ends-roots c.args.name OtherEndTag (open_at c.args.stack.now c.args.list.now c.args.arena.now) (open_at c.args.stack.now c.args.list.now c.find.new.arena) (returns-in-NoEntry-clause-turned c)

pub returns-in-OutOfScope-clause-roots : goal.returns-in-OutOfScope-clause-roots
returns-in-OutOfScope-clause-roots c = ends-roots c.args.name Done (open_at c.args.stack.now c.args.list.now c.args.arena.now) (open_at c.args.stack.now c.args.list.now c.find.new.arena) (returns-in-OutOfScope-clause-turned c)

pub returns-in-OffStack-clause-roots : goal.returns-in-OffStack-clause-roots
returns-in-OffStack-clause-roots c = ends-roots c.args.name Done (open_at c.args.stack.now c.args.list.now c.args.arena.now) (open_at c.args.stack.now c.remove.new.self c.remove.new.arena) (returns-in-OffStack-clause-turned c)

pub returns-in-NoFurthestBlock-clause-roots : goal.returns-in-NoFurthestBlock-clause-roots
returns-in-NoFurthestBlock-clause-roots c = ends-roots c.args.name Done (open_at c.args.stack.now c.args.list.now c.args.arena.now) (open_at c.close.new.stack c.close.new.list c.close.new.arena) (returns-in-NoFurthestBlock-clause-turned c)

pub returns-in_ok-round-in-FurthestBlock-clause-roots : goal.returns-in_ok-round-in-FurthestBlock-clause-roots
returns-in_ok-round-in-FurthestBlock-clause-roots c =
    roots-rebase c.args.stack.now c.args.stack.now c.args.list.now c.args.arena.now c.find.new.arena c.round.new.arena refl c.find.ensures.tree c.in_ok-round-in-FurthestBlock.ensures.roots
