use Rattle.std.proofs.Common.{ℕ, sym, ◌∙◌, ap, subst, length}
use Rattle.html_arena.specs.Siblings.{has}
use Rattle.html_arena.specs.Tree.{parent_of}
use Rattle.html_open.specs.Hanging.{chain_top, Chained, IsPut, StandAlone}
use Rattle.html_open.specs.Placing.{way_up}
use Rattle.html_open.proofs.Hangs.{block-alone, fresh-left, hang-place, hang-alone, hang-not_above, hung}
use Rattle.html_open.proofs.Counting.{counted-hung}
use Rattle.html_open.proofs.adoption.chain.hang.Goals as goal

pub chain-top-requires-clause-alone : goal.chain-top-requires-clause-alone
chain-top-requires-clause-alone c =
    block-alone c.args.arena.now c.wrap_children.new.arena c.args.arena.now c.args.block c.args.first c.args.clone c.args.place c.forest.ensures.well_formed c.requires.block_below c.requires.ordered c.requires.clone_in c.requires.fresh c.requires.place_in c.requires.older c.wrap_children.ensures.nodes c.wrap_children.ensures.children c.wrap_children.ensures.parents

pub chain-top-requires-clause-fresh : goal.chain-top-requires-clause-fresh
chain-top-requires-clause-fresh c =
    subst (StandAlone c.wrap_children.new.arena c.args.first) (sym c.index.ensures) (fresh-left c.args.arena.now c.wrap_children.new.arena c.args.arena.now c.args.block c.args.first c.args.clone c.args.place c.forest.ensures.well_formed c.requires.block_below c.requires.ordered c.requires.clone_in c.requires.fresh c.requires.place_in c.requires.older c.wrap_children.ensures.nodes c.wrap_children.ensures.children c.wrap_children.ensures.parents)

pub put-requires-clause-place_in : goal.put-requires-clause-place_in
put-requires-clause-place_in c =
    hang-place c.args.arena.now c.wrap_children.new.arena c.chain-top.new.arena c.args.block c.args.first c.args.clone c.args.place c.forest.ensures.well_formed c.requires.block_below c.requires.ordered c.requires.clone_in c.requires.fresh c.requires.place_in c.requires.older c.wrap_children.ensures.nodes c.wrap_children.ensures.children c.wrap_children.ensures.parents
    (subst (Chained c.wrap_children.new.arena c.chain-top.new.arena c.args.block c.args.first) c.index.ensures c.chain-top.ensures.chained)

pub put-requires-clause-alone : goal.put-requires-clause-alone
put-requires-clause-alone c =
    ap (parent_of c.chain-top.new.arena) (c.chain-top.ensures.top ∙ ap (chain_top c.args.block c.args.first) c.index.ensures)
    ∙ hang-alone c.args.arena.now c.wrap_children.new.arena c.chain-top.new.arena c.args.block c.args.first c.args.clone c.args.place c.forest.ensures.well_formed c.requires.block_below c.requires.ordered c.requires.clone_in c.requires.fresh c.requires.place_in c.requires.older c.wrap_children.ensures.nodes c.wrap_children.ensures.children c.wrap_children.ensures.parents
    (subst (Chained c.wrap_children.new.arena c.chain-top.new.arena c.args.block c.args.first) c.index.ensures c.chain-top.ensures.chained)

pub put-requires-clause-not_above : goal.put-requires-clause-not_above
put-requires-clause-not_above c =
    ap (λ (x : ℕ). has x (way_up c.chain-top.new.arena c.args.place)) (c.chain-top.ensures.top ∙ ap (chain_top c.args.block c.args.first) c.index.ensures)
    ∙ hang-not_above c.args.arena.now c.wrap_children.new.arena c.chain-top.new.arena c.args.block c.args.first c.args.clone c.args.place c.forest.ensures.well_formed c.requires.block_below c.requires.ordered c.requires.clone_in c.requires.fresh c.requires.place_in c.requires.older c.wrap_children.ensures.nodes c.wrap_children.ensures.children c.wrap_children.ensures.parents
    (subst (Chained c.wrap_children.new.arena c.chain-top.new.arena c.args.block c.args.first) c.index.ensures c.chain-top.ensures.chained)

pub returns-clause-hung : goal.returns-clause-hung
returns-clause-hung c =
    hung c.args.arena.now c.wrap_children.new.arena c.chain-top.new.arena c.args.block c.args.first c.args.clone c.args.place c.forest.ensures.well_formed c.requires.block_below c.requires.ordered c.requires.clone_in c.requires.fresh c.requires.place_in c.requires.older c.wrap_children.ensures.nodes c.wrap_children.ensures.children c.wrap_children.ensures.parents
    (subst (Chained c.wrap_children.new.arena c.chain-top.new.arena c.args.block c.args.first) c.index.ensures c.chain-top.ensures.chained)
    c.put.new.arena (subst (λ (x : ℕ). IsPut c.chain-top.new.arena c.put.new.arena c.args.place x) (c.chain-top.ensures.top ∙ ap (chain_top c.args.block c.args.first) c.index.ensures) c.put.ensures.put)

pub returns-clause-steps : goal.returns-clause-steps
returns-clause-steps c =
    counted-hung c.args.arena.now.steps c.wrap_children.new.arena.steps c.chain-top.new.arena.steps c.put.new.arena.steps (length c.args.arena.now.labels) c.args.first c.index.result c.args.clone c.index.ensures c.wrap_children.ensures.steps c.chain-top.ensures.steps c.put.ensures.steps
