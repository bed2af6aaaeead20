use Rattle.std.proofs.Common.{◌≡◌, ◌+◌, ◌*◌, List, ℕ, Option, suc, refl, sym, ◌∙◌, ap, subst, length, length-append, map, ◌-◌, ◌++◌, ◌∷◌, [], arith}
use Rattle.html_arena.specs.Data.{cloned}
use Rattle.html_open.specs.Marking.{IsCounted}
use Rattle.html_open.proofs.Shrinking.{times}
use Rattle.html_arena.specs.Siblings.{first_of}
use Rattle.html_arena.specs.Tree.{Tree, label_of}
use Rattle.html_open.specs.declared.adoption.AdoptEnd.{AdoptEnd}
use Rattle.html_open.specs.Adopting.{IsFirstFree, IsTurn, Rounds, no_round, popped}
use Rattle.html_open.specs.Opened.{open_at}
use Rattle.html_open.specs.Placing.{CanPlace}
use Rattle.html_open.specs.Reopening.{IsTold}
use Rattle.html_open.proofs.Limits.{rounds-limits}
use Rattle.html_open.proofs.Costing.{adopted-held}
use Rattle.html_open.proofs.Narrowing.{adopted-narrow, refused-narrow}
use Rattle.html_open.proofs.Descending.{closed-more, closed-none, closed-rebased, descends-round, descends-start, ends-closed, ends-made, made-more, made-none, made-rebase}
use Rattle.std.proofs.lemmas.Result.{err_from_is_err_and}
use Rattle.html_arena.specs.declared.arena.ArenaError.{ArenaError}
use Rattle.html_open.specs.Adopting.{IsRefusal}
use Rattle.html_open.proofs.Staying.{survives-ends, survives-popped, survives-rebase, survives-round, survives-start, survives-stopped, survives-then}
use Rattle.html_open.proofs.Stopping.{refusal-is, stopped-can-place, stopped-closed, stopped-free, stopped-length, stopped-made, stopped-open, stopped-told}
use Rattle.html_open.proofs.Leaving.{paid-again, paid-popped, paid-same, paid-then}
use Rattle.html_open.proofs.Rooted.{ends-can-place, ends-first, ends-free, popped-can-place, popped-first, popped-free, popped-roots, roots-rebase, roots-same, roots-then, round-first}
use Rattle.html_open.proofs.Shrinking.{counted-end, counted-popped, counted-round, round-listed, round-shorter}
use Rattle.html_open.proofs.Descending.{labels-longer}
use Rattle.html_open.proofs.Looping.{can-place-stepped, ends-grown, finish-eight, finish-fewer, round-grown, rounds-more}
use Rattle.html_open.proofs.adoption.adopt.Goals as goal

pub rounding-init : goal.rounding-init
rounding-init c = record {
  rounds = no_round (open_at c.pop_unlisted.new.stack c.args.list.now c.pop_unlisted.new.arena);
  descends = descends-start (open_at c.pop_unlisted.new.stack c.args.list.now c.pop_unlisted.new.arena);
  survives = survives-start (open_at c.pop_unlisted.new.stack c.args.list.now c.pop_unlisted.new.arena);
  opened = c.pop_unlisted.ensures.kept;
  can_place = subst (λ (v : List ℕ). CanPlace c.pop_unlisted.new.arena v) (sym (c.pop_unlisted.ensures.same_stack c.if-pop_unlisted.false)) (subst (λ (t : Tree). CanPlace t c.args.stack.now) (sym (c.pop_unlisted.ensures.same_tree c.if-pop_unlisted.false)) (can-place-stepped c.args.arena.now c.pop_unlisted.new.arena.steps c.args.stack.now c.requires.can_place));
  first_free = subst (λ (v : List ℕ). IsFirstFree v c.args.list.now) (sym (c.pop_unlisted.ensures.same_stack c.if-pop_unlisted.false)) c.requires.first_free;
  grown = omega arith;
  shorter = omega arith;
  listed = omega arith;
  counted = record { least = omega arith; most = omega arith };
  first = refl;
  roots = roots-same c.pop_unlisted.new.stack c.args.list.now c.pop_unlisted.new.arena c.pop_unlisted.new.arena refl refl;
  paid = paid-same c.pop_unlisted.new.stack c.args.list.now c.pop_unlisted.new.arena c.pop_unlisted.new.arena c.pop_unlisted.ensures.kept refl (omega arith);
}

pub rounding-preserved : goal.rounding-preserved
rounding-preserved c =
    let r = (subst (λ (e : Option AdoptEnd). IsTurn c.args.name c.args.foster e (open_at c.rounding.stack c.rounding.list c.rounding.arena) (open_at c.turn-turned.new.stack c.turn-turned.new.list c.turn-turned.new.arena)) c.in_default.is c.in_ok-end.ensures.turned) in
    let g = round-grown c.args.name c.args.foster (open_at c.rounding.stack c.rounding.list c.rounding.arena) (open_at c.turn-turned.new.stack c.turn-turned.new.list c.turn-turned.new.arena) r in
    let h = c.rounding.invariant.grown in
    record {
      rounds = rounds-more c.args.name c.args.foster c.rounding._index (c.rounding._index + 1) (open_at c.pop_unlisted.new.stack c.args.list.now c.pop_unlisted.new.arena) (open_at c.rounding.stack c.rounding.list c.rounding.arena) (open_at c.turn-turned.new.stack c.turn-turned.new.list c.turn-turned.new.arena) (omega arith) c.rounding.invariant.rounds r;
      descends = descends-round c.args.name c.args.foster (open_at c.pop_unlisted.new.stack c.args.list.now c.pop_unlisted.new.arena) (open_at c.rounding.stack c.rounding.list c.rounding.arena) (open_at c.turn-turned.new.stack c.turn-turned.new.list c.turn-turned.new.arena) c.forest-2.ensures.well_formed c.forest-in-rounding.ensures.well_formed c.rounding.invariant.opened c.rounding.invariant.can_place c.rounding.invariant.descends r;
      survives = survives-then (open_at c.pop_unlisted.new.stack c.args.list.now c.pop_unlisted.new.arena) (open_at c.rounding.stack c.rounding.list c.rounding.arena) (open_at c.turn-turned.new.stack c.turn-turned.new.list c.turn-turned.new.arena) c.rounding.invariant.survives (survives-round c.args.name c.args.foster (open_at c.rounding.stack c.rounding.list c.rounding.arena) (open_at c.turn-turned.new.stack c.turn-turned.new.list c.turn-turned.new.arena) r c.rounding.invariant.opened);
      opened = c.in_ok-end.ensures.kept;
      can_place = c.in_ok-end.ensures.can_place c.in_default.is;
      first_free = c.in_ok-end.ensures.first_free c.in_default.is;
      grown = omega (arith, g, h);
      shorter = (let a = round-shorter c.args.name c.args.foster (open_at c.rounding.stack c.rounding.list c.rounding.arena) (open_at c.turn-turned.new.stack c.turn-turned.new.list c.turn-turned.new.arena) r in let b = c.rounding.invariant.shorter in omega (arith, a, b));
      listed = (let a = round-listed c.args.name c.args.foster (open_at c.rounding.stack c.rounding.list c.rounding.arena) (open_at c.turn-turned.new.stack c.turn-turned.new.list c.turn-turned.new.arena) c.rounding.invariant.opened r in let b = c.rounding.invariant.listed in omega (arith, a, b));
      counted = (let up = ap length r.labels_are in let ap2 = length-append c.rounding.arena.labels (map (λ x. cloned (label_of c.rounding.arena x)) (r.cloned_elements ++ r.formatting_element ∷ [])) in counted-round c.rounding._index (c.rounding._index + 1) c.pop_unlisted.new.arena.steps c.rounding.arena.steps c.turn-turned.new.arena.steps (length c.pop_unlisted.new.arena.labels) (length c.rounding.arena.labels) (length c.turn-turned.new.arena.labels) (length c.rounding.stack) (length c.rounding.list) (length c.pop_unlisted.new.stack) (length c.args.list.now) (omega arith) c.rounding-test.true (labels-longer (open_at c.pop_unlisted.new.stack c.args.list.now c.pop_unlisted.new.arena) c.rounding.arena c.rounding.invariant.descends.made) (omega (arith, up, ap2)) c.rounding.invariant.shorter c.rounding.invariant.listed c.rounding.invariant.counted c.turn-turned.ensures.steps);
      first = round-first c.args.name c.args.foster (open_at c.rounding.stack c.rounding.list c.rounding.arena) (open_at c.turn-turned.new.stack c.turn-turned.new.list c.turn-turned.new.arena) r ∙ c.rounding.invariant.first;
      roots = roots-then (open_at c.pop_unlisted.new.stack c.args.list.now c.pop_unlisted.new.arena) (open_at c.rounding.stack c.rounding.list c.rounding.arena) c.turn-turned.new.arena c.rounding.invariant.descends c.rounding.invariant.first c.rounding.invariant.opened.stack_once (labels-longer (open_at c.pop_unlisted.new.stack c.args.list.now c.pop_unlisted.new.arena) c.rounding.arena c.rounding.invariant.descends.made) c.rounding.invariant.roots c.in_ok-end.ensures.roots;
      paid = (let up = ap length r.labels_are in let ap2 = length-append c.rounding.arena.labels (map (λ x. cloned (label_of c.rounding.arena x)) (r.cloned_elements ++ r.formatting_element ∷ [])) in paid-then (open_at c.pop_unlisted.new.stack c.args.list.now c.pop_unlisted.new.arena) (open_at c.rounding.stack c.rounding.list c.rounding.arena) (open_at c.turn-turned.new.stack c.turn-turned.new.list c.turn-turned.new.arena) c.pop_unlisted.ensures.kept (labels-longer (open_at c.pop_unlisted.new.stack c.args.list.now c.pop_unlisted.new.arena) c.rounding.arena c.rounding.invariant.descends.made) (omega (arith, up, ap2)) c.rounding.invariant.paid c.in_ok-end.ensures.paid);
    }

pub returns-clause-adopted : goal.returns-clause-adopted
returns-clause-adopted c =
    let f = c.rounding-test.false in
    let h = c.rounding.auto._index-end in
    let e : c.rounding._index ≡ 8 = omega arith in
    finish-eight c.args.name c.args.foster c.args.stack.now c.args.list.now c.args.arena.now c.pop_unlisted.new.arena.steps (open_at c.pop_unlisted.new.stack c.args.list.now c.pop_unlisted.new.arena) (open_at c.rounding.stack c.rounding.list c.rounding.arena) (ap (λ (v : List ℕ). open_at v c.args.list.now c.pop_unlisted.new.arena) (c.pop_unlisted.ensures.same_stack c.if-pop_unlisted.false) ∙ ap (λ (t : Tree). open_at c.args.stack.now c.args.list.now t) (c.pop_unlisted.ensures.same_tree c.if-pop_unlisted.false)) (c.pop_unlisted.ensures.no c.if-pop_unlisted.false)
    (subst (λ (i : ℕ). Rounds c.args.name c.args.foster i (open_at c.pop_unlisted.new.stack c.args.list.now c.pop_unlisted.new.arena) (open_at c.rounding.stack c.rounding.list c.rounding.arena)) e c.rounding.invariant.rounds)

pub returns-clause-clones : goal.returns-clause-clones
returns-clause-clones c =
    let g = c.rounding.invariant.grown in
    let h = c.rounding.auto._index-end in
    let e = ap (λ (t : Tree). length t.labels) (c.pop_unlisted.ensures.same_tree c.if-pop_unlisted.false) in
    omega (arith, g, h, e)

pub returns-then-pop_unlisted-clause-adopted : goal.returns-then-pop_unlisted-clause-adopted
returns-then-pop_unlisted-clause-adopted c = popped _ _ (c.pop_unlisted.ensures.yes c.if-pop_unlisted.true)

pub returns-then-pop_unlisted-clause-clones : goal.returns-then-pop_unlisted-clause-clones
returns-then-pop_unlisted-clause-clones c =
    let e = ap (λ (t : Tree). length t.labels) (c.pop_unlisted.ensures.yes c.if-pop_unlisted.true).tree_is in
    omega (arith, e)

pub returns-in-Some-clause-adopted : goal.returns-in-Some-clause-adopted
returns-in-Some-clause-adopted c =
    finish-fewer c.args.name c.args.foster c.args.stack.now c.args.list.now c.args.arena.now c.pop_unlisted.new.arena.steps c.in-Some.end c.rounding._index (open_at c.pop_unlisted.new.stack c.args.list.now c.pop_unlisted.new.arena) (open_at c.rounding.stack c.rounding.list c.rounding.arena) (open_at c.turn-turned.new.stack c.turn-turned.new.list c.turn-turned.new.arena) (ap (λ (v : List ℕ). open_at v c.args.list.now c.pop_unlisted.new.arena) (c.pop_unlisted.ensures.same_stack c.if-pop_unlisted.false) ∙ ap (λ (t : Tree). open_at c.args.stack.now c.args.list.now t) (c.pop_unlisted.ensures.same_tree c.if-pop_unlisted.false)) (c.pop_unlisted.ensures.no c.if-pop_unlisted.false) c.rounding-test.true c.rounding.invariant.rounds
    (subst (λ (e : Option AdoptEnd). IsTurn c.args.name c.args.foster e (open_at c.rounding.stack c.rounding.list c.rounding.arena) (open_at c.turn-turned.new.stack c.turn-turned.new.list c.turn-turned.new.arena)) c.in-Some.is c.in_ok-end.ensures.turned)

pub returns-in-Some-clause-clones : goal.returns-in-Some-clause-clones
returns-in-Some-clause-clones c =
    let g = c.rounding.invariant.grown in
    let h = c.rounding-test.true in
    let k = ends-grown c.args.name c.in-Some.end (open_at c.rounding.stack c.rounding.list c.rounding.arena) (open_at c.turn-turned.new.stack c.turn-turned.new.list c.turn-turned.new.arena) (subst (λ (e : Option AdoptEnd). IsTurn c.args.name c.args.foster e (open_at c.rounding.stack c.rounding.list c.rounding.arena) (open_at c.turn-turned.new.stack c.turn-turned.new.list c.turn-turned.new.arena)) c.in-Some.is c.in_ok-end.ensures.turned) in
    let e = ap (λ (t : Tree). length t.labels) (c.pop_unlisted.ensures.same_tree c.if-pop_unlisted.false) in
    omega (arith, g, h, k, e)

pub returns-clause-made : goal.returns-clause-made
returns-clause-made c = made-rebase c.args.stack.now c.args.list.now c.args.arena.now c.pop_unlisted.new.arena.steps (open_at c.pop_unlisted.new.stack c.args.list.now c.pop_unlisted.new.arena) c.rounding.arena (ap (λ (v : List ℕ). open_at v c.args.list.now c.pop_unlisted.new.arena) (c.pop_unlisted.ensures.same_stack c.if-pop_unlisted.false) ∙ ap (λ (t : Tree). open_at c.args.stack.now c.args.list.now t) (c.pop_unlisted.ensures.same_tree c.if-pop_unlisted.false)) c.rounding.invariant.descends.made

pub returns-clause-closed : goal.returns-clause-closed
returns-clause-closed c = closed-rebased c.args.stack.now c.args.list.now c.args.arena.now c.pop_unlisted.new.arena.steps (open_at c.pop_unlisted.new.stack c.args.list.now c.pop_unlisted.new.arena) c.rounding.arena (ap (λ (v : List ℕ). open_at v c.args.list.now c.pop_unlisted.new.arena) (c.pop_unlisted.ensures.same_stack c.if-pop_unlisted.false) ∙ ap (λ (t : Tree). open_at c.args.stack.now c.args.list.now t) (c.pop_unlisted.ensures.same_tree c.if-pop_unlisted.false)) c.rounding.invariant.descends.closed

pub returns-then-pop_unlisted-clause-made : goal.returns-then-pop_unlisted-clause-made
returns-then-pop_unlisted-clause-made c =
    made-none (open_at c.args.stack.now c.args.list.now c.args.arena.now) c.pop_unlisted.new.arena (ap (λ (t : Tree). t.labels) (c.pop_unlisted.ensures.yes c.if-pop_unlisted.true).tree_is)

pub returns-then-pop_unlisted-clause-closed : goal.returns-then-pop_unlisted-clause-closed
returns-then-pop_unlisted-clause-closed c =
    closed-none (open_at c.args.stack.now c.args.list.now c.args.arena.now) c.pop_unlisted.new.arena (ap (λ (t : Tree). t.children) (c.pop_unlisted.ensures.yes c.if-pop_unlisted.true).tree_is)

pub returns-in-Some-clause-made : goal.returns-in-Some-clause-made
returns-in-Some-clause-made c = made-rebase c.args.stack.now c.args.list.now c.args.arena.now c.pop_unlisted.new.arena.steps (open_at c.pop_unlisted.new.stack c.args.list.now c.pop_unlisted.new.arena) c.turn-turned.new.arena (ap (λ (v : List ℕ). open_at v c.args.list.now c.pop_unlisted.new.arena) (c.pop_unlisted.ensures.same_stack c.if-pop_unlisted.false) ∙ ap (λ (t : Tree). open_at c.args.stack.now c.args.list.now t) (c.pop_unlisted.ensures.same_tree c.if-pop_unlisted.false)) (ends-made c.args.name c.in-Some.end (open_at c.pop_unlisted.new.stack c.args.list.now c.pop_unlisted.new.arena) (open_at c.rounding.stack c.rounding.list c.rounding.arena) (open_at c.turn-turned.new.stack c.turn-turned.new.list c.turn-turned.new.arena) c.rounding.invariant.descends (subst (λ (e : Option AdoptEnd). IsTurn c.args.name c.args.foster e (open_at c.rounding.stack c.rounding.list c.rounding.arena) (open_at c.turn-turned.new.stack c.turn-turned.new.list c.turn-turned.new.arena)) c.in-Some.is c.in_ok-end.ensures.turned))

pub returns-in-Some-clause-closed : goal.returns-in-Some-clause-closed
returns-in-Some-clause-closed c = closed-rebased c.args.stack.now c.args.list.now c.args.arena.now c.pop_unlisted.new.arena.steps (open_at c.pop_unlisted.new.stack c.args.list.now c.pop_unlisted.new.arena) c.turn-turned.new.arena (ap (λ (v : List ℕ). open_at v c.args.list.now c.pop_unlisted.new.arena) (c.pop_unlisted.ensures.same_stack c.if-pop_unlisted.false) ∙ ap (λ (t : Tree). open_at c.args.stack.now c.args.list.now t) (c.pop_unlisted.ensures.same_tree c.if-pop_unlisted.false)) (ends-closed c.args.name c.in-Some.end (open_at c.pop_unlisted.new.stack c.args.list.now c.pop_unlisted.new.arena) (open_at c.rounding.stack c.rounding.list c.rounding.arena) (open_at c.turn-turned.new.stack c.turn-turned.new.list c.turn-turned.new.arena) c.rounding.invariant.descends (subst (λ (e : Option AdoptEnd). IsTurn c.args.name c.args.foster e (open_at c.rounding.stack c.rounding.list c.rounding.arena) (open_at c.turn-turned.new.stack c.turn-turned.new.list c.turn-turned.new.arena)) c.in-Some.is c.in_ok-end.ensures.turned))

pub returns-in_err-end-clause-made : goal.returns-in_err-end-clause-made
returns-in_err-end-clause-made c = made-rebase c.args.stack.now c.args.list.now c.args.arena.now c.pop_unlisted.new.arena.steps (open_at c.pop_unlisted.new.stack c.args.list.now c.pop_unlisted.new.arena) c.turn-turned.new.arena (ap (λ (v : List ℕ). open_at v c.args.list.now c.pop_unlisted.new.arena) (c.pop_unlisted.ensures.same_stack c.if-pop_unlisted.false) ∙ ap (λ (t : Tree). open_at c.args.stack.now c.args.list.now t) (c.pop_unlisted.ensures.same_tree c.if-pop_unlisted.false)) (made-more (open_at c.pop_unlisted.new.stack c.args.list.now c.pop_unlisted.new.arena) (open_at c.rounding.stack c.rounding.list c.rounding.arena) c.turn-turned.new.arena c.rounding.invariant.descends (stopped-made c.args.name (open_at c.rounding.stack c.rounding.list c.rounding.arena) (open_at c.turn-turned.new.stack c.turn-turned.new.list c.turn-turned.new.arena) c.in_err-end.field-0.0 c.in_err-end.ensures.stopped))

pub returns-in_err-end-clause-closed : goal.returns-in_err-end-clause-closed
returns-in_err-end-clause-closed c = closed-rebased c.args.stack.now c.args.list.now c.args.arena.now c.pop_unlisted.new.arena.steps (open_at c.pop_unlisted.new.stack c.args.list.now c.pop_unlisted.new.arena) c.turn-turned.new.arena (ap (λ (v : List ℕ). open_at v c.args.list.now c.pop_unlisted.new.arena) (c.pop_unlisted.ensures.same_stack c.if-pop_unlisted.false) ∙ ap (λ (t : Tree). open_at c.args.stack.now c.args.list.now t) (c.pop_unlisted.ensures.same_tree c.if-pop_unlisted.false)) (closed-more (open_at c.pop_unlisted.new.stack c.args.list.now c.pop_unlisted.new.arena) (open_at c.rounding.stack c.rounding.list c.rounding.arena) c.turn-turned.new.arena c.forest-2.ensures.well_formed c.rounding.invariant.descends (stopped-closed c.args.name (open_at c.rounding.stack c.rounding.list c.rounding.arena) (open_at c.turn-turned.new.stack c.turn-turned.new.list c.turn-turned.new.arena) c.in_err-end.field-0.0 c.in_err-end.ensures.stopped))

pub returns-in_err-end-clause-clones : goal.returns-in_err-end-clause-clones
returns-in_err-end-clause-clones c =
    let g = c.rounding.invariant.grown in
    let h = c.rounding-test.true in
    let k = stopped-length c.args.name (open_at c.rounding.stack c.rounding.list c.rounding.arena) (open_at c.turn-turned.new.stack c.turn-turned.new.list c.turn-turned.new.arena) c.in_err-end.field-0.0 c.in_err-end.ensures.stopped in
    let e = ap (λ (t : Tree). length t.labels) (c.pop_unlisted.ensures.same_tree c.if-pop_unlisted.false) in
    omega (arith, g, h, k, e)

pub returns-in_err-end-clause-cause : goal.returns-in_err-end-clause-cause
returns-in_err-end-clause-cause c =
    let p = err_from_is_err_and c.from_residual.result c.from_residual.ensures.1 in
    rw p.1 (subst (λ (e : ArenaError). IsRefusal c.args.name c.args.foster (open_at c.args.stack.now c.args.list.now c.args.arena.now) (open_at c.turn-turned.new.stack c.turn-turned.new.list c.turn-turned.new.arena) e) (sym p.2)
    (refusal-is c.args.name c.args.foster c.args.stack.now c.args.list.now c.args.arena.now c.pop_unlisted.new.arena.steps c.rounding._index (open_at c.pop_unlisted.new.stack c.args.list.now c.pop_unlisted.new.arena) (open_at c.rounding.stack c.rounding.list c.rounding.arena) (open_at c.turn-turned.new.stack c.turn-turned.new.list c.turn-turned.new.arena) c.in_err-end.field-0.0 (ap (λ (v : List ℕ). open_at v c.args.list.now c.pop_unlisted.new.arena) (c.pop_unlisted.ensures.same_stack c.if-pop_unlisted.false) ∙ ap (λ (t : Tree). open_at c.args.stack.now c.args.list.now t) (c.pop_unlisted.ensures.same_tree c.if-pop_unlisted.false)) (c.pop_unlisted.ensures.no c.if-pop_unlisted.false) c.rounding-test.true c.rounding.invariant.rounds c.in_err-end.ensures.stopped))

pub returns-in_err-end-clause-told : goal.returns-in_err-end-clause-told
returns-in_err-end-clause-told c =
    let p = err_from_is_err_and c.from_residual.result c.from_residual.ensures.1 in
    let q = open_at c.turn-turned.new.stack c.turn-turned.new.list c.turn-turned.new.arena in
    let o = open_at c.rounding.stack c.rounding.list c.rounding.arena in
    let m = open_at c.pop_unlisted.new.stack c.args.list.now c.pop_unlisted.new.arena in
    let l = rounds-limits c.args.name c.args.foster c.rounding._index m o c.rounding.invariant.rounds ∙ ap (λ (t : Tree). t.limits) (c.pop_unlisted.ensures.same_tree c.if-pop_unlisted.false) in
    rw p.1 (subst (IsTold c.args.arena.now.limits q) (sym p.2)
    (subst (λ v. IsTold v q c.in_err-end.field-0.0) l (stopped-told c.args.name o q c.in_err-end.field-0.0 c.in_err-end.ensures.stopped c.rounding.invariant.opened c.forest-in-rounding-2.ensures.held)))

pub returns-clause-steps : goal.returns-clause-steps
returns-clause-steps c =
    let h = c.rounding.auto._index-end in
    subst (λ (n : ℕ). IsCounted c.args.arena.now.steps c.rounding.arena.steps (length c.rounding.arena.labels - n) (8 * length c.rounding.arena.labels + 32 * length c.args.stack.now + 24 * length c.args.list.now + 291)) (ap (λ (t : Tree). length t.labels) (c.pop_unlisted.ensures.same_tree c.if-pop_unlisted.false))
    (counted-end c.rounding._index c.args.arena.now.steps c.pop_unlisted.new.arena.steps c.rounding.arena.steps (length c.pop_unlisted.new.arena.labels) (length c.rounding.arena.labels) (length c.args.stack.now) (length c.args.list.now) (omega (arith, h)) c.pop_unlisted.ensures.steps
    (subst (λ (v : List ℕ). IsCounted c.pop_unlisted.new.arena.steps c.rounding.arena.steps (length c.rounding.arena.labels - length c.pop_unlisted.new.arena.labels) (times c.rounding._index (length c.rounding.arena.labels + 4 * length v + 3 * length c.args.list.now + 36))) (c.pop_unlisted.ensures.same_stack c.if-pop_unlisted.false)
    (c.rounding.invariant.counted)))

pub returns-then-pop_unlisted-clause-steps : goal.returns-then-pop_unlisted-clause-steps
returns-then-pop_unlisted-clause-steps c =
    counted-popped c.args.arena.now.steps c.pop_unlisted.new.arena.steps (length c.args.arena.now.labels) (length c.pop_unlisted.new.arena.labels) (length c.args.stack.now) (length c.args.list.now) (ap (λ (t : Tree). length t.labels) (c.pop_unlisted.ensures.yes c.if-pop_unlisted.true).tree_is) c.pop_unlisted.ensures.steps

pub returns-in-Some-clause-steps : goal.returns-in-Some-clause-steps
returns-in-Some-clause-steps c =
    let h = c.rounding-test.true in
    let k = ends-grown c.args.name c.in-Some.end (open_at c.rounding.stack c.rounding.list c.rounding.arena) (open_at c.turn-turned.new.stack c.turn-turned.new.list c.turn-turned.new.arena) (subst (λ (e : Option AdoptEnd). IsTurn c.args.name c.args.foster e (open_at c.rounding.stack c.rounding.list c.rounding.arena) (open_at c.turn-turned.new.stack c.turn-turned.new.list c.turn-turned.new.arena)) c.in-Some.is c.in_ok-end.ensures.turned) in
    subst (λ (n : ℕ). IsCounted c.args.arena.now.steps c.turn-turned.new.arena.steps (length c.turn-turned.new.arena.labels - n) (8 * length c.turn-turned.new.arena.labels + 32 * length c.args.stack.now + 24 * length c.args.list.now + 291)) (ap (λ (t : Tree). length t.labels) (c.pop_unlisted.ensures.same_tree c.if-pop_unlisted.false))
    (counted-end (suc c.rounding._index) c.args.arena.now.steps c.pop_unlisted.new.arena.steps c.turn-turned.new.arena.steps (length c.pop_unlisted.new.arena.labels) (length c.turn-turned.new.arena.labels) (length c.args.stack.now) (length c.args.list.now) (omega (arith, h)) c.pop_unlisted.ensures.steps
    (subst (λ (v : List ℕ). IsCounted c.pop_unlisted.new.arena.steps c.turn-turned.new.arena.steps (length c.turn-turned.new.arena.labels - length c.pop_unlisted.new.arena.labels) (times (suc c.rounding._index) (length c.turn-turned.new.arena.labels + 4 * length v + 3 * length c.args.list.now + 36))) (c.pop_unlisted.ensures.same_stack c.if-pop_unlisted.false)
    (counted-round c.rounding._index (suc c.rounding._index) c.pop_unlisted.new.arena.steps c.rounding.arena.steps c.turn-turned.new.arena.steps (length c.pop_unlisted.new.arena.labels) (length c.rounding.arena.labels) (length c.turn-turned.new.arena.labels) (length c.rounding.stack) (length c.rounding.list) (length c.pop_unlisted.new.stack) (length c.args.list.now) refl c.rounding-test.true (labels-longer (open_at c.pop_unlisted.new.stack c.args.list.now c.pop_unlisted.new.arena) c.rounding.arena c.rounding.invariant.descends.made) (omega (arith, k)) c.rounding.invariant.shorter c.rounding.invariant.listed c.rounding.invariant.counted c.turn-turned.ensures.steps)))

pub returns-in_err-end-clause-steps : goal.returns-in_err-end-clause-steps
returns-in_err-end-clause-steps c =
    let h = c.rounding-test.true in
    let k = labels-longer (open_at c.rounding.stack c.rounding.list c.rounding.arena) c.turn-turned.new.arena (stopped-made c.args.name (open_at c.rounding.stack c.rounding.list c.rounding.arena) (open_at c.turn-turned.new.stack c.turn-turned.new.list c.turn-turned.new.arena) c.in_err-end.field-0.0 c.in_err-end.ensures.stopped) in
    subst (λ (n : ℕ). IsCounted c.args.arena.now.steps c.turn-turned.new.arena.steps (length c.turn-turned.new.arena.labels - n) (8 * length c.turn-turned.new.arena.labels + 32 * length c.args.stack.now + 24 * length c.args.list.now + 291)) (ap (λ (t : Tree). length t.labels) (c.pop_unlisted.ensures.same_tree c.if-pop_unlisted.false))
    (counted-end (suc c.rounding._index) c.args.arena.now.steps c.pop_unlisted.new.arena.steps c.turn-turned.new.arena.steps (length c.pop_unlisted.new.arena.labels) (length c.turn-turned.new.arena.labels) (length c.args.stack.now) (length c.args.list.now) (omega (arith, h)) c.pop_unlisted.ensures.steps
    (subst (λ (v : List ℕ). IsCounted c.pop_unlisted.new.arena.steps c.turn-turned.new.arena.steps (length c.turn-turned.new.arena.labels - length c.pop_unlisted.new.arena.labels) (times (suc c.rounding._index) (length c.turn-turned.new.arena.labels + 4 * length v + 3 * length c.args.list.now + 36))) (c.pop_unlisted.ensures.same_stack c.if-pop_unlisted.false)
    (counted-round c.rounding._index (suc c.rounding._index) c.pop_unlisted.new.arena.steps c.rounding.arena.steps c.turn-turned.new.arena.steps (length c.pop_unlisted.new.arena.labels) (length c.rounding.arena.labels) (length c.turn-turned.new.arena.labels) (length c.rounding.stack) (length c.rounding.list) (length c.pop_unlisted.new.stack) (length c.args.list.now) refl c.rounding-test.true (labels-longer (open_at c.pop_unlisted.new.stack c.args.list.now c.pop_unlisted.new.arena) c.rounding.arena c.rounding.invariant.descends.made) (omega (arith, k)) c.rounding.invariant.shorter c.rounding.invariant.listed c.rounding.invariant.counted c.turn-turned.ensures.steps)))

pub returns-then-pop_unlisted-clause-paid : goal.returns-then-pop_unlisted-clause-paid
returns-then-pop_unlisted-clause-paid c =
    let p = c.pop_unlisted.ensures.yes c.if-pop_unlisted.true in
    paid-popped c.args.stack.now c.pop_unlisted.new.stack c.args.list.now c.args.arena.now c.pop_unlisted.new.arena p.current c.requires.«open» p.stack_was (ap (λ (t : Tree). length t.labels) p.tree_is) c.pop_unlisted.ensures.steps.least

pub returns-clause-paid : goal.returns-clause-paid
returns-clause-paid c =
    paid-again c.args.stack.now c.pop_unlisted.new.stack c.args.list.now c.args.arena.now c.pop_unlisted.new.arena (open_at c.rounding.stack c.rounding.list c.rounding.arena) (c.pop_unlisted.ensures.same_stack c.if-pop_unlisted.false) (c.pop_unlisted.ensures.same_tree c.if-pop_unlisted.false) c.pop_unlisted.ensures.steps.least c.rounding.invariant.paid

pub returns-in-Some-clause-paid : goal.returns-in-Some-clause-paid
returns-in-Some-clause-paid c =
    let k = ends-grown c.args.name c.in-Some.end (open_at c.rounding.stack c.rounding.list c.rounding.arena) (open_at c.turn-turned.new.stack c.turn-turned.new.list c.turn-turned.new.arena) (subst (λ (e : Option AdoptEnd). IsTurn c.args.name c.args.foster e (open_at c.rounding.stack c.rounding.list c.rounding.arena) (open_at c.turn-turned.new.stack c.turn-turned.new.list c.turn-turned.new.arena)) c.in-Some.is c.in_ok-end.ensures.turned) in
    paid-again c.args.stack.now c.pop_unlisted.new.stack c.args.list.now c.args.arena.now c.pop_unlisted.new.arena (open_at c.turn-turned.new.stack c.turn-turned.new.list c.turn-turned.new.arena) (c.pop_unlisted.ensures.same_stack c.if-pop_unlisted.false) (c.pop_unlisted.ensures.same_tree c.if-pop_unlisted.false) c.pop_unlisted.ensures.steps.least
    (paid-then (open_at c.pop_unlisted.new.stack c.args.list.now c.pop_unlisted.new.arena) (open_at c.rounding.stack c.rounding.list c.rounding.arena) (open_at c.turn-turned.new.stack c.turn-turned.new.list c.turn-turned.new.arena) c.pop_unlisted.ensures.kept (labels-longer (open_at c.pop_unlisted.new.stack c.args.list.now c.pop_unlisted.new.arena) c.rounding.arena c.rounding.invariant.descends.made) (omega (arith, k)) c.rounding.invariant.paid c.in_ok-end.ensures.paid)

pub returns-then-pop_unlisted-clause-first : goal.returns-then-pop_unlisted-clause-first
returns-then-pop_unlisted-clause-first c = popped-first c.args.name (open_at c.args.stack.now c.args.list.now c.args.arena.now) (open_at c.pop_unlisted.new.stack c.args.list.now c.pop_unlisted.new.arena) (c.pop_unlisted.ensures.yes c.if-pop_unlisted.true)

pub returns-then-pop_unlisted-clause-can_place : goal.returns-then-pop_unlisted-clause-can_place
returns-then-pop_unlisted-clause-can_place c = popped-can-place c.args.name (open_at c.args.stack.now c.args.list.now c.args.arena.now) (open_at c.pop_unlisted.new.stack c.args.list.now c.pop_unlisted.new.arena) (c.pop_unlisted.ensures.yes c.if-pop_unlisted.true) c.requires.can_place

pub returns-then-pop_unlisted-clause-first_free : goal.returns-then-pop_unlisted-clause-first_free
returns-then-pop_unlisted-clause-first_free c = popped-free c.args.name (open_at c.args.stack.now c.args.list.now c.args.arena.now) (open_at c.pop_unlisted.new.stack c.args.list.now c.pop_unlisted.new.arena) (c.pop_unlisted.ensures.yes c.if-pop_unlisted.true) c.requires.first_free

pub returns-then-pop_unlisted-clause-roots : goal.returns-then-pop_unlisted-clause-roots
returns-then-pop_unlisted-clause-roots c = popped-roots c.args.name (open_at c.args.stack.now c.args.list.now c.args.arena.now) (open_at c.pop_unlisted.new.stack c.args.list.now c.pop_unlisted.new.arena) (c.pop_unlisted.ensures.yes c.if-pop_unlisted.true)

pub returns-clause-first : goal.returns-clause-first
returns-clause-first c = λ x e n. c.rounding.invariant.first ∙ ap first_of (c.pop_unlisted.ensures.same_stack c.if-pop_unlisted.false) ∙ e

pub returns-clause-can_place : goal.returns-clause-can_place
returns-clause-can_place c = λ l. c.rounding.invariant.can_place

pub returns-clause-roots : goal.returns-clause-roots
returns-clause-roots c = roots-rebase c.args.stack.now c.pop_unlisted.new.stack c.args.list.now c.args.arena.now c.pop_unlisted.new.arena c.rounding.arena (c.pop_unlisted.ensures.same_stack c.if-pop_unlisted.false) (c.pop_unlisted.ensures.same_tree c.if-pop_unlisted.false) c.rounding.invariant.roots

pub returns-in-Some-clause-first : goal.returns-in-Some-clause-first
returns-in-Some-clause-first c = λ x e n.
    ends-first c.args.name c.in-Some.end (open_at c.rounding.stack c.rounding.list c.rounding.arena) (open_at c.turn-turned.new.stack c.turn-turned.new.list c.turn-turned.new.arena) (subst (λ (e : Option AdoptEnd). IsTurn c.args.name c.args.foster e (open_at c.rounding.stack c.rounding.list c.rounding.arena) (open_at c.turn-turned.new.stack c.turn-turned.new.list c.turn-turned.new.arena)) c.in-Some.is c.in_ok-end.ensures.turned) c.rounding.invariant.first_free ∙ c.rounding.invariant.first ∙ ap first_of (c.pop_unlisted.ensures.same_stack c.if-pop_unlisted.false) ∙ e

pub returns-in-Some-clause-can_place : goal.returns-in-Some-clause-can_place
returns-in-Some-clause-can_place c = λ l.
    ends-can-place c.args.name c.in-Some.end (open_at c.rounding.stack c.rounding.list c.rounding.arena) (open_at c.turn-turned.new.stack c.turn-turned.new.list c.turn-turned.new.arena) (subst (λ (e : Option AdoptEnd). IsTurn c.args.name c.args.foster e (open_at c.rounding.stack c.rounding.list c.rounding.arena) (open_at c.turn-turned.new.stack c.turn-turned.new.list c.turn-turned.new.arena)) c.in-Some.is c.in_ok-end.ensures.turned) c.rounding.invariant.first_free c.rounding.invariant.can_place

pub returns-in-Some-clause-first_free : goal.returns-in-Some-clause-first_free
returns-in-Some-clause-first_free c =
    ends-free c.args.name c.in-Some.end (open_at c.rounding.stack c.rounding.list c.rounding.arena) (open_at c.turn-turned.new.stack c.turn-turned.new.list c.turn-turned.new.arena) (subst (λ (e : Option AdoptEnd). IsTurn c.args.name c.args.foster e (open_at c.rounding.stack c.rounding.list c.rounding.arena) (open_at c.turn-turned.new.stack c.turn-turned.new.list c.turn-turned.new.arena)) c.in-Some.is c.in_ok-end.ensures.turned) c.rounding.invariant.first_free

pub returns-in-Some-clause-roots : goal.returns-in-Some-clause-roots
returns-in-Some-clause-roots c =
    roots-rebase c.args.stack.now c.pop_unlisted.new.stack c.args.list.now c.args.arena.now c.pop_unlisted.new.arena c.turn-turned.new.arena (c.pop_unlisted.ensures.same_stack c.if-pop_unlisted.false) (c.pop_unlisted.ensures.same_tree c.if-pop_unlisted.false)
    (roots-then (open_at c.pop_unlisted.new.stack c.args.list.now c.pop_unlisted.new.arena) (open_at c.rounding.stack c.rounding.list c.rounding.arena) c.turn-turned.new.arena c.rounding.invariant.descends c.rounding.invariant.first c.rounding.invariant.opened.stack_once (labels-longer (open_at c.pop_unlisted.new.stack c.args.list.now c.pop_unlisted.new.arena) c.rounding.arena c.rounding.invariant.descends.made) c.rounding.invariant.roots c.in_ok-end.ensures.roots)

-- a round that was stopped leaves what the rounds before it left, and clones that stand alone
pub returns-in_err-end-clause-kept : goal.returns-in_err-end-clause-kept
returns-in_err-end-clause-kept c =
    stopped-open c.args.name (open_at c.rounding.stack c.rounding.list c.rounding.arena) (open_at c.turn-turned.new.stack c.turn-turned.new.list c.turn-turned.new.arena) c.in_err-end.field-0.0 c.in_err-end.ensures.stopped
    c.forest-in-rounding.ensures.well_formed c.rounding.invariant.opened

pub returns-in_err-end-clause-first : goal.returns-in_err-end-clause-first
returns-in_err-end-clause-first c = λ x e n.
    ap first_of c.in_err-end.ensures.stopped.stack_is ∙ c.rounding.invariant.first ∙ ap first_of (c.pop_unlisted.ensures.same_stack c.if-pop_unlisted.false) ∙ e

pub returns-in_err-end-clause-can_place : goal.returns-in_err-end-clause-can_place
returns-in_err-end-clause-can_place c = λ l.
    stopped-can-place c.args.name (open_at c.rounding.stack c.rounding.list c.rounding.arena) (open_at c.turn-turned.new.stack c.turn-turned.new.list c.turn-turned.new.arena) c.in_err-end.field-0.0 c.in_err-end.ensures.stopped
    c.rounding.invariant.opened c.rounding.invariant.can_place

pub returns-in_err-end-clause-first_free : goal.returns-in_err-end-clause-first_free
returns-in_err-end-clause-first_free c =
    stopped-free c.args.name (open_at c.rounding.stack c.rounding.list c.rounding.arena) (open_at c.turn-turned.new.stack c.turn-turned.new.list c.turn-turned.new.arena) c.in_err-end.field-0.0 c.in_err-end.ensures.stopped
    c.rounding.invariant.first_free

pub returns-then-pop_unlisted-clause-survives : goal.returns-then-pop_unlisted-clause-survives
returns-then-pop_unlisted-clause-survives c = λ plain.
    survives-popped c.args.name (open_at c.args.stack.now c.args.list.now c.args.arena.now) (open_at c.pop_unlisted.new.stack c.args.list.now c.pop_unlisted.new.arena) plain (c.pop_unlisted.ensures.yes c.if-pop_unlisted.true)

pub returns-clause-survives : goal.returns-clause-survives
returns-clause-survives c = λ plain.
    survives-rebase c.args.stack.now c.args.list.now c.args.arena.now c.pop_unlisted.new.arena.steps (open_at c.pop_unlisted.new.stack c.args.list.now c.pop_unlisted.new.arena) (open_at c.rounding.stack c.rounding.list c.rounding.arena)
    (ap (λ (v : List ℕ). open_at v c.args.list.now c.pop_unlisted.new.arena) (c.pop_unlisted.ensures.same_stack c.if-pop_unlisted.false) ∙ ap (λ (t : Tree). open_at c.args.stack.now c.args.list.now t) (c.pop_unlisted.ensures.same_tree c.if-pop_unlisted.false))
    c.rounding.invariant.survives

pub returns-in-Some-clause-survives : goal.returns-in-Some-clause-survives
returns-in-Some-clause-survives c = λ plain.
    survives-rebase c.args.stack.now c.args.list.now c.args.arena.now c.pop_unlisted.new.arena.steps (open_at c.pop_unlisted.new.stack c.args.list.now c.pop_unlisted.new.arena) (open_at c.turn-turned.new.stack c.turn-turned.new.list c.turn-turned.new.arena)
    (ap (λ (v : List ℕ). open_at v c.args.list.now c.pop_unlisted.new.arena) (c.pop_unlisted.ensures.same_stack c.if-pop_unlisted.false) ∙ ap (λ (t : Tree). open_at c.args.stack.now c.args.list.now t) (c.pop_unlisted.ensures.same_tree c.if-pop_unlisted.false))
    (survives-then (open_at c.pop_unlisted.new.stack c.args.list.now c.pop_unlisted.new.arena) (open_at c.rounding.stack c.rounding.list c.rounding.arena) (open_at c.turn-turned.new.stack c.turn-turned.new.list c.turn-turned.new.arena) c.rounding.invariant.survives
    (survives-ends c.args.name c.in-Some.end (open_at c.rounding.stack c.rounding.list c.rounding.arena) (open_at c.turn-turned.new.stack c.turn-turned.new.list c.turn-turned.new.arena) c.rounding.invariant.opened
    (subst (λ (e : Option AdoptEnd). IsTurn c.args.name c.args.foster e (open_at c.rounding.stack c.rounding.list c.rounding.arena) (open_at c.turn-turned.new.stack c.turn-turned.new.list c.turn-turned.new.arena)) c.in-Some.is c.in_ok-end.ensures.turned)))

pub returns-in_err-end-clause-survives : goal.returns-in_err-end-clause-survives
returns-in_err-end-clause-survives c = λ plain.
    survives-rebase c.args.stack.now c.args.list.now c.args.arena.now c.pop_unlisted.new.arena.steps (open_at c.pop_unlisted.new.stack c.args.list.now c.pop_unlisted.new.arena) (open_at c.turn-turned.new.stack c.turn-turned.new.list c.turn-turned.new.arena)
    (ap (λ (v : List ℕ). open_at v c.args.list.now c.pop_unlisted.new.arena) (c.pop_unlisted.ensures.same_stack c.if-pop_unlisted.false) ∙ ap (λ (t : Tree). open_at c.args.stack.now c.args.list.now t) (c.pop_unlisted.ensures.same_tree c.if-pop_unlisted.false))
    (survives-then (open_at c.pop_unlisted.new.stack c.args.list.now c.pop_unlisted.new.arena) (open_at c.rounding.stack c.rounding.list c.rounding.arena) (open_at c.turn-turned.new.stack c.turn-turned.new.list c.turn-turned.new.arena) c.rounding.invariant.survives
    (survives-stopped c.args.name (open_at c.rounding.stack c.rounding.list c.rounding.arena) (open_at c.turn-turned.new.stack c.turn-turned.new.list c.turn-turned.new.arena) c.in_err-end.field-0.0 c.rounding.invariant.opened c.in_err-end.ensures.stopped))

pub returns-then-pop_unlisted-clause-no_more_open : goal.returns-then-pop_unlisted-clause-no_more_open
returns-then-pop_unlisted-clause-no_more_open c = (adopted-narrow c.args.name c.args.foster _ (open_at c.args.stack.now c.args.list.now c.args.arena.now) (open_at c.pop_unlisted.new.stack c.args.list.now c.pop_unlisted.new.arena) c.requires.«open» (returns-then-pop_unlisted-clause-adopted c)).0

pub returns-then-pop_unlisted-clause-no_more_listed : goal.returns-then-pop_unlisted-clause-no_more_listed
returns-then-pop_unlisted-clause-no_more_listed c = (adopted-narrow c.args.name c.args.foster _ (open_at c.args.stack.now c.args.list.now c.args.arena.now) (open_at c.pop_unlisted.new.stack c.args.list.now c.pop_unlisted.new.arena) c.requires.«open» (returns-then-pop_unlisted-clause-adopted c)).1

pub returns-then-pop_unlisted-clause-held : goal.returns-then-pop_unlisted-clause-held
returns-then-pop_unlisted-clause-held c = adopted-held (open_at c.args.stack.now c.args.list.now c.args.arena.now) c.pop_unlisted.new.arena c.forest.ensures.held c.forest-then-pop_unlisted.ensures.held (returns-then-pop_unlisted-clause-made c) (returns-then-pop_unlisted-clause-clones c)

pub returns-clause-no_more_open : goal.returns-clause-no_more_open
returns-clause-no_more_open c = (adopted-narrow c.args.name c.args.foster _ (open_at c.args.stack.now c.args.list.now c.args.arena.now) (open_at c.rounding.stack c.rounding.list c.rounding.arena) c.requires.«open» (returns-clause-adopted c)).0

pub returns-clause-no_more_listed : goal.returns-clause-no_more_listed
returns-clause-no_more_listed c = (adopted-narrow c.args.name c.args.foster _ (open_at c.args.stack.now c.args.list.now c.args.arena.now) (open_at c.rounding.stack c.rounding.list c.rounding.arena) c.requires.«open» (returns-clause-adopted c)).1

pub returns-clause-held : goal.returns-clause-held
returns-clause-held c = adopted-held (open_at c.args.stack.now c.args.list.now c.args.arena.now) c.rounding.arena c.forest.ensures.held c.forest-3.ensures.held (returns-clause-made c) (returns-clause-clones c)

pub returns-in-Some-clause-no_more_open : goal.returns-in-Some-clause-no_more_open
returns-in-Some-clause-no_more_open c = (adopted-narrow c.args.name c.args.foster _ (open_at c.args.stack.now c.args.list.now c.args.arena.now) (open_at c.turn-turned.new.stack c.turn-turned.new.list c.turn-turned.new.arena) c.requires.«open» (returns-in-Some-clause-adopted c)).0

pub returns-in-Some-clause-no_more_listed : goal.returns-in-Some-clause-no_more_listed
returns-in-Some-clause-no_more_listed c = (adopted-narrow c.args.name c.args.foster _ (open_at c.args.stack.now c.args.list.now c.args.arena.now) (open_at c.turn-turned.new.stack c.turn-turned.new.list c.turn-turned.new.arena) c.requires.«open» (returns-in-Some-clause-adopted c)).1

pub returns-in-Some-clause-held : goal.returns-in-Some-clause-held
returns-in-Some-clause-held c = adopted-held (open_at c.args.stack.now c.args.list.now c.args.arena.now) c.turn-turned.new.arena c.forest.ensures.held c.forest-in-rounding-2.ensures.held (returns-in-Some-clause-made c) (returns-in-Some-clause-clones c)

pub returns-in_err-end-clause-no_more_open : goal.returns-in_err-end-clause-no_more_open
returns-in_err-end-clause-no_more_open c = (refused-narrow c.args.name c.args.foster (open_at c.args.stack.now c.args.list.now c.args.arena.now) (open_at c.turn-turned.new.stack c.turn-turned.new.list c.turn-turned.new.arena) c.in_err-end.field-0.0 c.requires.«open»
    (refusal-is c.args.name c.args.foster c.args.stack.now c.args.list.now c.args.arena.now c.pop_unlisted.new.arena.steps c.rounding._index (open_at c.pop_unlisted.new.stack c.args.list.now c.pop_unlisted.new.arena) (open_at c.rounding.stack c.rounding.list c.rounding.arena) (open_at c.turn-turned.new.stack c.turn-turned.new.list c.turn-turned.new.arena) c.in_err-end.field-0.0 (ap (λ (v : List ℕ). open_at v c.args.list.now c.pop_unlisted.new.arena) (c.pop_unlisted.ensures.same_stack c.if-pop_unlisted.false) ∙ ap (λ (t : Tree). open_at c.args.stack.now c.args.list.now t) (c.pop_unlisted.ensures.same_tree c.if-pop_unlisted.false)) (c.pop_unlisted.ensures.no c.if-pop_unlisted.false) c.rounding-test.true c.rounding.invariant.rounds c.in_err-end.ensures.stopped)).0

pub returns-in_err-end-clause-no_more_listed : goal.returns-in_err-end-clause-no_more_listed
returns-in_err-end-clause-no_more_listed c = (refused-narrow c.args.name c.args.foster (open_at c.args.stack.now c.args.list.now c.args.arena.now) (open_at c.turn-turned.new.stack c.turn-turned.new.list c.turn-turned.new.arena) c.in_err-end.field-0.0 c.requires.«open»
    (refusal-is c.args.name c.args.foster c.args.stack.now c.args.list.now c.args.arena.now c.pop_unlisted.new.arena.steps c.rounding._index (open_at c.pop_unlisted.new.stack c.args.list.now c.pop_unlisted.new.arena) (open_at c.rounding.stack c.rounding.list c.rounding.arena) (open_at c.turn-turned.new.stack c.turn-turned.new.list c.turn-turned.new.arena) c.in_err-end.field-0.0 (ap (λ (v : List ℕ). open_at v c.args.list.now c.pop_unlisted.new.arena) (c.pop_unlisted.ensures.same_stack c.if-pop_unlisted.false) ∙ ap (λ (t : Tree). open_at c.args.stack.now c.args.list.now t) (c.pop_unlisted.ensures.same_tree c.if-pop_unlisted.false)) (c.pop_unlisted.ensures.no c.if-pop_unlisted.false) c.rounding-test.true c.rounding.invariant.rounds c.in_err-end.ensures.stopped)).1

pub returns-in_err-end-clause-held : goal.returns-in_err-end-clause-held
returns-in_err-end-clause-held c = adopted-held (open_at c.args.stack.now c.args.list.now c.args.arena.now) c.turn-turned.new.arena c.forest.ensures.held c.forest-in-rounding-2.ensures.held (returns-in_err-end-clause-made c) (returns-in_err-end-clause-clones c)
