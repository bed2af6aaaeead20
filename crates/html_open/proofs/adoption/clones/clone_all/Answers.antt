use Rattle.std.proofs.Common.{◌∷◌, [], ◌++◌, refl, sym, ◌∙◌, ap, subst, length, arith}
use Rattle.html_arena.specs.Tree.{Tree}
use Rattle.std.proofs.lemmas.Result.{err_from_is_err_and}
use Rattle.html_arena.specs.declared.arena.ArenaError.{ArenaError}
use Rattle.html_open.specs.Cloning.{IsCut}
use Rattle.html_open.proofs.Cutting.{cut-at, cut-before}
use Rattle.html_open.proofs.Clones.{cloned-formatting, cloned-length, cloned-longer, cloned-more}
use Rattle.html_open.proofs.Counting.{grown-then}
use Rattle.html_open.proofs.Upwards.{has-first}
use Rattle.html_open.proofs.adoption.clones.clone_all.Goals as goal

pub make_clone-requires-clause-node_in : goal.make_clone-requires-clause-node_in
make_clone-requires-clause-node_in c = (cloned-formatting c.args.arena.now c.make_clones.new.arena c.args.originals.now (c.args.formatting ∷ []) c.in_ok-make_clones.ensures.cloned c.requires.formatting c.args.formatting (has-first c.args.formatting [])).0

pub make_clone-requires-clause-formatting : goal.make_clone-requires-clause-formatting
make_clone-requires-clause-formatting c = (cloned-formatting c.args.arena.now c.make_clones.new.arena c.args.originals.now (c.args.formatting ∷ []) c.in_ok-make_clones.ensures.cloned c.requires.formatting c.args.formatting (has-first c.args.formatting [])).1

pub returns-clause-number : goal.returns-clause-number
returns-clause-number c = c.in_ok-clone.ensures.number ∙ cloned-length c.args.arena.now c.make_clones.new.arena c.args.originals.now c.in_ok-make_clones.ensures.cloned

pub returns-clause-cloned : goal.returns-clause-cloned
returns-clause-cloned c = cloned-more c.args.arena.now c.make_clones.new.arena c.make_clone.new.arena c.args.originals.now c.args.formatting (c.requires.formatting c.args.formatting (has-first c.args.formatting [])).0 c.in_ok-make_clones.ensures.cloned c.in_ok-clone.ensures.cloned

pub returns-in_err-make_clones-clause-cut : goal.returns-in_err-make_clones-clause-cut
returns-in_err-make_clones-clause-cut c =
    let p = err_from_is_err_and c.from_residual.result c.from_residual.ensures.1 in
    rw p.1 (subst (λ (e : ArenaError). IsCut c.args.arena.now c.make_clones.new.arena (c.args.originals.now ++ c.args.formatting ∷ []) e) (sym p.2)
    (cut-before c.args.arena.now c.make_clones.new.arena c.args.originals.now (c.args.formatting ∷ []) c.in_err-make_clones.field-0.0 c.in_err-make_clones.ensures.cut))

pub returns-in_err-clone-clause-cut : goal.returns-in_err-clone-clause-cut
returns-in_err-clone-clause-cut c =
    let p = err_from_is_err_and c.from_residual-in_err-clone.result c.from_residual-in_err-clone.ensures.1 in
    let b = (c.requires.formatting c.args.formatting (has-first c.args.formatting [])).0 in
    rw p.1 (subst (λ (e : ArenaError). IsCut c.args.arena.now c.make_clone.new.arena (c.args.originals.now ++ c.args.formatting ∷ []) e) (sym p.2)
    (cut-at c.args.arena.now c.make_clones.new.arena c.make_clone.new.arena (c.args.originals.now ++ c.args.formatting ∷ []) c.args.originals.now [] c.args.formatting c.in_err-clone.field-0.0 refl b c.in_ok-make_clones.ensures.cloned c.forest.ensures.held
    c.in_err-clone.ensures.cause c.in_err-clone.ensures.same))

pub returns-clause-steps : goal.returns-clause-steps
returns-clause-steps c =
    grown-then c.args.arena.now c.make_clones.new.arena c.make_clone.new.arena (cloned-longer c.args.arena.now c.make_clones.new.arena c.args.originals.now c.in_ok-make_clones.ensures.cloned) (cloned-longer c.make_clones.new.arena c.make_clone.new.arena (c.args.formatting ∷ []) c.in_ok-clone.ensures.cloned) c.make_clones.ensures.steps c.make_clone.ensures.steps

pub returns-in_err-clone-clause-steps : goal.returns-in_err-clone-clause-steps
returns-in_err-clone-clause-steps c =
    let e = ap (λ (t : Tree). length t.labels) c.in_err-clone.ensures.same in
    grown-then c.args.arena.now c.make_clones.new.arena c.make_clone.new.arena (cloned-longer c.args.arena.now c.make_clones.new.arena c.args.originals.now c.in_ok-make_clones.ensures.cloned) (omega (arith, e)) c.make_clones.ensures.steps c.make_clone.ensures.steps
