use Rattle.std.proofs.Common.{Ok, subst, sym}
use Rattle.html_arena.specs.Laws.{IsGrown}
use Rattle.html_arena.specs.Make.{nodes_made}
use Rattle.html_arena.specs.Tree.{Tree, WellFormed}
use Rattle.html_arena.specs.declared.arena.ArenaError.{ArenaError}
use Rattle.html_arena.proofs.Chains.{made_child_at, made_label_at, made_laws}
use Rattle.html_arena.proofs.arena.Arena.make.Goals as goal

pub returns-clause-grown : goal.returns-clause-grown
returns-clause-grown c =
    let e = c.in_ok-made.ensures.made in
    subst (λ (u : Tree). IsGrown c.args.self.now u (nodes_made c.args.new)) (sym e)
    (made_laws c.args.self.now c.args.new c.forest.ensures.well_formed (subst WellFormed e c.forest-2.ensures.well_formed))

pub returns-clause-label : goal.returns-clause-label
returns-clause-label c = made_label_at {E = ArenaError} (Ok c.in_ok-made.made) c.args.self.now _ c.args.new c.in_ok-made.ensures.id c.in_ok-made.ensures.made

pub returns-clause-child : goal.returns-clause-child
returns-clause-child c = made_child_at {E = ArenaError} (Ok c.in_ok-made.made) c.args.self.now _ c.args.new c.requires c.in_ok-made.ensures.id c.in_ok-made.ensures.made
