use Rattle.std.proofs.Common.{◌-◌, length, take, drop, sym, ◌∙◌, ap}
use Rattle.html_open.proofs.Fostering.{fostered-outside, fostered-template, in-at, later-is, later-nodes}
use Rattle.html_open.proofs.Lists.{looked-some}
use Rattle.html_open.specs.Placing.{template}
use Rattle.html_open.specs.declared.places.Place.TheVariants.{Last}
use Rattle.html_open.proofs.appropriate_place.fostered.Goals as goal

pub last_index-requires : goal.last_index-requires
last_index-requires c =
    later-nodes c.args.arena.now c.args.nodes.now _ (later-is c.args.arena.now c.args.nodes.now c.args.found c.after.result c.after.ensures.value c.requires.table) c.requires.nodes_in

pub inside-requires : goal.inside-requires
inside-requires c =
    let later = take (length c.args.nodes.now - c.after.result) (drop c.after.result c.args.nodes.now) in
    let e = later-is c.args.arena.now c.args.nodes.now c.args.found c.after.result c.after.ensures.value c.requires.table in
    let k = looked-some (template c.args.arena.now) later c.in-Some.index (sym c.last_index.ensures.index ∙ c.in-Some.is) in
    in-at c.args.arena.now later c.in-Some.index c.index-later-index.result c.index-later-index.result (later-nodes c.args.arena.now c.args.nodes.now later e c.requires.nodes_in) k.1 c.index-later-index.is

pub returns-in-Some-clause-place : goal.returns-in-Some-clause-place
returns-in-Some-clause-place c =
    let later = take (length c.args.nodes.now - c.after.result) (drop c.after.result c.args.nodes.now) in
    let e = later-is c.args.arena.now c.args.nodes.now c.args.found c.after.result c.after.ensures.value c.requires.table in
    ap Last c.inside.ensures.value
    ∙ fostered-template c.args.arena.now c.args.nodes.now later c.in-Some.index c.index-later-index.result c.index-later-index.result e (sym c.last_index.ensures.index ∙ c.in-Some.is) c.index-later-index.is

pub returns-in-None-clause-place : goal.returns-in-None-clause-place
returns-in-None-clause-place c =
    let later = take (length c.args.nodes.now - c.after.result) (drop c.after.result c.args.nodes.now) in
    let e = later-is c.args.arena.now c.args.nodes.now c.args.found c.after.result c.after.ensures.value c.requires.table in
    c.outside_table.ensures.place ∙ fostered-outside c.args.arena.now c.args.nodes.now later e (sym c.last_index.ensures.index ∙ c.in-None.is)
