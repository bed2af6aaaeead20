use Rattle.std.proofs.Common.{◌-◌, arith, sym, ◌∙◌, ap}
use Rattle.html_open.specs.declared.places.Place.TheVariants.{Last}
use Rattle.html_open.proofs.Fostering.{can-some, in-at, index-positive, outside-before, outside-last}
use Rattle.html_open.proofs.Lists.{last_index-le, looked-some}
use Rattle.html_open.specs.Placing.{table}
use Rattle.html_open.proofs.appropriate_place.outside_table.Goals as goal

pub returns-in_default-clause-there : goal.returns-in_default-clause-there
returns-in_default-clause-there c =
    in-at c.args.arena.now c.args.nodes.now 0 c.index-nodes-0.result c.index-nodes-0.result c.requires.nodes_in (can-some c.args.arena.now c.args.nodes.now c.requires.can_place) c.index-nodes-0.is

pub parent-requires : goal.parent-requires
parent-requires c =
    let k = looked-some (table c.args.arena.now) c.args.nodes.now c.in-Some.index (sym c.requires.table ∙ c.in-Some.is) in
    in-at c.args.arena.now c.args.nodes.now c.in-Some.index c.index-nodes-index.result c.index-nodes-index.result c.requires.nodes_in k.1 c.index-nodes-index.is

pub inside-requires : goal.inside-requires
inside-requires c =
    let k = looked-some (table c.args.arena.now) c.args.nodes.now c.in-Some.index (sym c.requires.table ∙ c.in-Some.is) in
    let b = k.1 in
    in-at c.args.arena.now c.args.nodes.now (c.in-Some.index - 1) c.index-nodes-index-in-None.result c.index-nodes-index-in-None.result c.requires.nodes_in (omega arith) c.index-nodes-index-in-None.is

pub returns-in-Some-parent-clause-place : goal.returns-in-Some-parent-clause-place
returns-in-Some-parent-clause-place c =
    outside-before c.args.arena.now c.args.nodes.now c.in-Some.index c.index-nodes-index.result c.index-nodes-index.result c.in-Some-parent.field-0 (sym c.requires.table ∙ c.in-Some.is) c.index-nodes-index.is (sym c.parent.ensures.value ∙ c.in-Some-parent.is)

pub returns-in-Some-parent-clause-there : goal.returns-in-Some-parent-clause-there
returns-in-Some-parent-clause-there c =
    let k = looked-some (table c.args.arena.now) c.args.nodes.now c.in-Some.index (sym c.requires.table ∙ c.in-Some.is) in
    let e = sym c.parent.ensures.value ∙ c.in-Some-parent.is in (
      in-at c.args.arena.now c.args.nodes.now c.in-Some.index c.index-nodes-index.result c.index-nodes-index.result c.requires.nodes_in k.1 c.index-nodes-index.is,
      λ n. absurd (let q = sym n ∙ e in cc),
    )

pub returns-in-None-clause-place : goal.returns-in-None-clause-place
returns-in-None-clause-place c =
    let h = sym c.requires.table ∙ c.in-Some.is in
    let q = sym c.parent.ensures.value ∙ c.in-None.is in
    ap Last c.inside.ensures.value
    ∙ outside-last c.args.arena.now c.args.nodes.now c.in-Some.index c.index-nodes-index.result c.index-nodes-index.result c.index-nodes-index-in-None.result c.index-nodes-index-in-None.result
    (index-positive c.args.arena.now c.args.nodes.now c.in-Some.index c.index-nodes-index.result c.index-nodes-index.result c.requires.can_place h c.index-nodes-index.is q)
    (last_index-le (table c.args.arena.now) c.args.nodes.now c.in-Some.index h) h c.index-nodes-index.is q c.index-nodes-index-in-None.is
