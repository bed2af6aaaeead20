use Rattle.std.proofs.Common.{None, cond, ◌∙◌, ap, subst}
use Rattle.html_arena.specs.Tree.{Tree, parent_of}
use Rattle.html_open.specs.declared.places.Place.{Place}
use Rattle.html_open.specs.Placing.{parent_at, place_steps}
use Rattle.html_open.specs.ReopenedEntry.{IsInserted}
use Rattle.html_open.proofs.Inserted.{grown-inserted, inserted-charged, place-as}
use Rattle.html_open.proofs.Keeps.{eqb-self}
use Rattle.html_open.proofs.reopening.insert_clone.Goals as goal

pub returns-clause-laws : goal.returns-clause-laws
returns-clause-laws c =
    let k = place_steps c.args.arena.now c.args.stack.now None c.args.foster in
    let own = c.put.ensures.put.parents_are c.in_ok-clone.clone ∙ ap (λ b. cond b (parent_at c.make.new.self c.place-place.result) (parent_of c.make.new.self c.in_ok-clone.clone)) (eqb-self c.in_ok-clone.clone) in
    let r = grown-inserted c.place-place.new.arena c.make.new.self c.put.new.arena c.place-place.result c.in_ok-clone.clone c.args.node
    c.in_ok-clone.ensures.made c.in_ok-clone.ensures.grown c.in_ok-clone.ensures.id c.put.ensures.tree c.put.ensures.others c.put.ensures.children c.put.ensures.parents
    own (place-as c.args.arena.now c.place-place.new.arena c.place-place.result (ap (λ (v : Tree). v.labels) c.place-place.ensures.steps) (ap (λ (v : Tree). v.parents) c.place-place.ensures.steps) c.place-place.ensures.there) in
    subst (λ (p : Place). IsInserted c.args.arena.now c.put.new.arena p c.args.node) c.place-place.ensures.place
    (inserted-charged c.args.arena.now c.put.new.arena k c.place-place.result c.args.node
    (subst (λ (v : Tree). IsInserted v c.put.new.arena c.place-place.result c.args.node) c.place-place.ensures.steps r))
