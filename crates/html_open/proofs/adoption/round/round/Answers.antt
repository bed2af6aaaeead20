use Rattle.std.proofs.Common.{◌≡◌, ◌+◌, ◌-◌, ◌++◌, ◌∷◌, take, List, ℕ, Some, sym, ◌∙◌, ap, subst, length, drop, get_or, arith, true, false}
use Rattle.html_arena.specs.Siblings.{has}
use Rattle.html_arena.specs.Tree.{Tree}
use Rattle.html_open.specs.declared.entry.Entry.{Entry}
use Rattle.html_open.specs.declared.places.Place.{Place}
use Rattle.html_open.specs.AdoptFinding.{IsBlock}
use Rattle.html_open.specs.Adopting.{IsKept, IsRegrouped, Round, clones_down}
use Rattle.html_open.specs.Opened.{IsOpen, open_at}
use Rattle.html_open.specs.Placing.{IsPlace, place_at, place_of, way_up}
use Rattle.std.proofs.lemmas.Result.{err_from_is_err_and}
use Rattle.html_arena.specs.declared.arena.ArenaError.{ArenaError}
use Rattle.html_open.specs.Adopting.{round_originals}
use Rattle.html_open.specs.Cloning.{IsCut}
use Rattle.html_open.proofs.Cutting.{cut-rebase}
use Rattle.html_open.specs.Placing.{place_steps}
use Rattle.html_open.proofs.Counting.{place-few, round-counted}
use Rattle.html_open.proofs.Inserted.{parent-there, place-as}
use Rattle.html_open.proofs.Leaving.{paid-round}
use Rattle.html_open.proofs.Rooted.{regrouped-roots, roots-stepped}
use Rattle.html_open.proofs.Rounds.{at-below, can-place-kept, first-free-kept, apart, at-less, before-is, block-stepped, open-stepped, place-stepped, round-is, stepped, steps-then, way-in, way-stepped, a-within}
use Rattle.html_open.proofs.adoption.round.round.Goals as goal

pub place-target-requires-clause-target_in : goal.place-target-requires-clause-target_in
place-target-requires-clause-target_in c =
    let x = (c.index-nodes-at.is ∙ before-is c.as_slice-nodes.result.now c.args.stack.now c.as_slice-nodes.ensures (c.args.at - 1) c.index-nodes-at.result (at-less c.args.stack.now c.args.list.now c.args.arena.now c.args.at c.args.block_at c.forest.ensures.well_formed c.requires.«open» c.requires.block.0 c.requires.block.1 c.requires.inside c.args.foster)) in
    let y = a-within c.args.stack.now c.args.list.now c.args.arena.now c.args.at c.args.block_at c.forest.ensures.well_formed c.requires.«open» c.requires.block.0 c.requires.block.1 c.requires.inside c.args.foster in
    let e = ap (λ (t : Tree). length t.labels) c.charge.ensures in
    omega (arith, x, y, e)

pub regroup-requires-clause-open : goal.regroup-requires-clause-open
regroup-requires-clause-open c =
    subst (λ (v : List ℕ). IsOpen (open_at v c.as_slice-entries.result.now c.place-target.new.arena)) (sym c.as_slice-nodes.ensures)
    (subst (λ (v : List Entry). IsOpen (open_at c.args.stack.now v c.place-target.new.arena)) (sym (c.as_slice-entries.ensures.value ∙ c.list.view_is))
    (subst (λ (t : Tree). IsOpen (open_at c.args.stack.now c.args.list.now t)) (sym (steps-then c.args.arena.now c.charge.new.self c.place-target.new.arena (c.charge.ensures ∙ sym (ap (λ (v : Tree). stepped c.args.arena.now v.steps) c.charge.ensures)) (c.place-target.ensures.steps ∙ sym (ap (λ (v : Tree). stepped c.charge.new.self v.steps) c.place-target.ensures.steps)))) (open-stepped c.args.stack.now c.args.list.now c.args.arena.now c.place-target.new.arena.steps c.requires.«open»)))

pub regroup-requires-clause-block : goal.regroup-requires-clause-block
regroup-requires-clause-block c = (
  c.requires.block.0,
  subst (λ (v : List ℕ). IsBlock c.requires.block.0 (open_at v c.as_slice-entries.result.now c.place-target.new.arena) c.args.at c.args.block_at) (sym c.as_slice-nodes.ensures)
      (subst (λ (v : List Entry). IsBlock c.requires.block.0 (open_at c.args.stack.now v c.place-target.new.arena) c.args.at c.args.block_at) (sym (c.as_slice-entries.ensures.value ∙ c.list.view_is))
      (subst (λ (t : Tree). IsBlock c.requires.block.0 (open_at c.args.stack.now c.args.list.now t) c.args.at c.args.block_at) (sym (steps-then c.args.arena.now c.charge.new.self c.place-target.new.arena (c.charge.ensures ∙ sym (ap (λ (v : Tree). stepped c.args.arena.now v.steps) c.charge.ensures)) (c.place-target.ensures.steps ∙ sym (ap (λ (v : Tree). stepped c.charge.new.self v.steps) c.place-target.ensures.steps))))
      (block-stepped c.requires.block.0 c.args.stack.now c.args.list.now c.args.arena.now c.place-target.new.arena.steps c.args.at c.args.block_at c.requires.block.1))),
)

pub regroup-requires-clause-place_in : goal.regroup-requires-clause-place_in
regroup-requires-clause-place_in c = subst (λ (t : Tree). IsPlace t c.place-target.result) (sym (c.place-target.ensures.steps ∙ sym (ap (λ (v : Tree). stepped c.charge.new.self v.steps) c.place-target.ensures.steps))) (place-stepped c.charge.new.self c.place-target.new.arena.steps c.place-target.result c.place-target.ensures.there)

pub regroup-requires-clause-way_in : goal.regroup-requires-clause-way_in
regroup-requires-clause-way_in c = λ y h.
    let e : has y (way_up c.args.arena.now (place_at c.args.arena.now c.args.stack.now (get_or c.args.stack.now (c.args.at - 1) 0) c.args.foster)) ≡ true =
    subst (λ (p : Place). has y (way_up c.args.arena.now p) ≡ true) (c.place-target.ensures.place ∙ ap (λ (v : Tree). place_of v c.args.stack.now (Some c.index-nodes-at.result) c.args.foster) c.charge.ensures ∙ ap (λ (x : ℕ). place_at c.args.arena.now c.args.stack.now x c.args.foster) (c.index-nodes-at.is ∙ before-is c.as_slice-nodes.result.now c.args.stack.now c.as_slice-nodes.ensures (c.args.at - 1) c.index-nodes-at.result (at-less c.args.stack.now c.args.list.now c.args.arena.now c.args.at c.args.block_at c.forest.ensures.well_formed c.requires.«open» c.requires.block.0 c.requires.block.1 c.requires.inside c.args.foster))) (ap (has y) (sym (way-stepped c.args.arena.now c.place-target.new.arena.steps c.place-target.result)) ∙ subst (λ (t : Tree). has y (way_up t c.place-target.result) ≡ true) (steps-then c.args.arena.now c.charge.new.self c.place-target.new.arena (c.charge.ensures ∙ sym (ap (λ (v : Tree). stepped c.args.arena.now v.steps) c.charge.ensures)) (c.place-target.ensures.steps ∙ sym (ap (λ (v : Tree). stepped c.charge.new.self v.steps) c.place-target.ensures.steps))) h) in
    let k = way-in c.args.stack.now c.args.list.now c.args.arena.now c.args.at c.args.block_at c.forest.ensures.well_formed c.requires.«open» c.requires.block.0 c.requires.block.1 c.requires.inside c.args.foster y e in
    let l = ap (λ (t : Tree). length t.labels) (steps-then c.args.arena.now c.charge.new.self c.place-target.new.arena (c.charge.ensures ∙ sym (ap (λ (v : Tree). stepped c.args.arena.now v.steps) c.charge.ensures)) (c.place-target.ensures.steps ∙ sym (ap (λ (v : Tree). stepped c.charge.new.self v.steps) c.place-target.ensures.steps))) in
    omega (arith, k, l)

pub regroup-requires-clause-apart : goal.regroup-requires-clause-apart
regroup-requires-clause-apart c = λ y h.
    subst (λ (t : Tree). has y (way_up t c.place-target.result) ≡ false) (sym (steps-then c.args.arena.now c.charge.new.self c.place-target.new.arena (c.charge.ensures ∙ sym (ap (λ (v : Tree). stepped c.args.arena.now v.steps) c.charge.ensures)) (c.place-target.ensures.steps ∙ sym (ap (λ (v : Tree). stepped c.charge.new.self v.steps) c.place-target.ensures.steps))))
    (ap (has y) (way-stepped c.args.arena.now c.place-target.new.arena.steps c.place-target.result)
    ∙ subst (λ (p : Place). has y (way_up c.args.arena.now p) ≡ false) (sym (c.place-target.ensures.place ∙ ap (λ (v : Tree). place_of v c.args.stack.now (Some c.index-nodes-at.result) c.args.foster) c.charge.ensures ∙ ap (λ (x : ℕ). place_at c.args.arena.now c.args.stack.now x c.args.foster) (c.index-nodes-at.is ∙ before-is c.as_slice-nodes.result.now c.args.stack.now c.as_slice-nodes.ensures (c.args.at - 1) c.index-nodes-at.result (at-less c.args.stack.now c.args.list.now c.args.arena.now c.args.at c.args.block_at c.forest.ensures.well_formed c.requires.«open» c.requires.block.0 c.requires.block.1 c.requires.inside c.args.foster)))) (apart c.args.stack.now c.args.list.now c.args.arena.now c.args.at c.args.block_at c.forest.ensures.well_formed c.requires.«open» c.requires.block.0 c.requires.block.1 c.requires.inside c.args.foster y (subst (λ (v : List ℕ). has y (drop c.args.at v) ≡ true) c.as_slice-nodes.ensures h)))

pub returns-clause-round : goal.returns-clause-round
returns-clause-round c = λ s k.
    subst (λ (v : List ℕ). Round s c.args.foster (open_at c.args.stack.now c.args.list.now c.args.arena.now) (open_at v c.in_ok-regrouped.regrouped.entries.items c.regroup.new.arena)) (sym c.replace.ensures)
    (round-is c.args.stack.now c.args.list.now c.args.arena.now c.args.at c.args.block_at c.forest.ensures.well_formed c.requires.«open» s k c.requires.inside c.args.foster (open_at c.in_ok-regrouped.regrouped.nodes.items c.in_ok-regrouped.regrouped.entries.items c.regroup.new.arena) c.place-target.new.arena.steps c.place-target.result (c.place-target.ensures.place ∙ ap (λ (v : Tree). place_of v c.args.stack.now (Some c.index-nodes-at.result) c.args.foster) c.charge.ensures ∙ ap (λ (x : ℕ). place_at c.args.arena.now c.args.stack.now x c.args.foster) (c.index-nodes-at.is ∙ before-is c.as_slice-nodes.result.now c.args.stack.now c.as_slice-nodes.ensures (c.args.at - 1) c.index-nodes-at.result (at-less c.args.stack.now c.args.list.now c.args.arena.now c.args.at c.args.block_at c.forest.ensures.well_formed c.requires.«open» c.requires.block.0 c.requires.block.1 c.requires.inside c.args.foster)))
    (subst (λ (t : Tree). IsRegrouped c.args.at c.args.block_at c.place-target.result (open_at c.args.stack.now c.args.list.now t) (open_at c.in_ok-regrouped.regrouped.nodes.items c.in_ok-regrouped.regrouped.entries.items c.regroup.new.arena)) (steps-then c.args.arena.now c.charge.new.self c.place-target.new.arena (c.charge.ensures ∙ sym (ap (λ (v : Tree). stepped c.args.arena.now v.steps) c.charge.ensures)) (c.place-target.ensures.steps ∙ sym (ap (λ (v : Tree). stepped c.charge.new.self v.steps) c.place-target.ensures.steps)))
    (subst (λ (v : List Entry). IsRegrouped c.args.at c.args.block_at c.place-target.result (open_at c.args.stack.now v c.place-target.new.arena) (open_at c.in_ok-regrouped.regrouped.nodes.items c.in_ok-regrouped.regrouped.entries.items c.regroup.new.arena)) (c.as_slice-entries.ensures.value ∙ c.list.view_is)
    (subst (λ (v : List ℕ). IsRegrouped c.args.at c.args.block_at c.place-target.result (open_at v c.as_slice-entries.result.now c.place-target.new.arena) (open_at c.in_ok-regrouped.regrouped.nodes.items c.in_ok-regrouped.regrouped.entries.items c.regroup.new.arena)) c.as_slice-nodes.ensures c.in_ok-regrouped.ensures.regrouped)))
    c.forest-2.ensures.well_formed c.in_ok-regrouped.ensures.kept)

pub returns-clause-kept : goal.returns-clause-kept
returns-clause-kept c = subst (λ (v : List ℕ). IsOpen (open_at v c.in_ok-regrouped.regrouped.entries.items c.regroup.new.arena)) (sym c.replace.ensures) c.in_ok-regrouped.ensures.kept

pub returns-clause-can_place : goal.returns-clause-can_place
returns-clause-can_place c = can-place-kept c.args.arena.now c.regroup.new.arena c.place-target.new.arena.steps c.args.list.now c.in_ok-regrouped.regrouped.entries.items c.args.stack.now c.replace.new.self (clones_down (length c.place-target.new.arena.labels) (length c.in_ok-regrouped.ensures.regrouped.cloned_elements) ++ (get_or c.as_slice-nodes.result.now c.args.block_at 0 ∷ (length c.place-target.new.arena.labels + length c.in_ok-regrouped.ensures.regrouped.cloned_elements) ∷ drop (c.args.block_at + 1) c.as_slice-nodes.result.now)) c.args.at c.requires.inside (at-below c.args.stack.now c.args.list.now c.args.arena.now c.args.at c.args.block_at c.forest.ensures.well_formed c.requires.«open» c.requires.block.0 c.requires.block.1 c.requires.inside c.args.foster)
    (c.replace.ensures ∙ c.in_ok-regrouped.ensures.regrouped.stack_is ∙ ap (λ (v : List ℕ). take c.args.at v ++ (clones_down (length c.place-target.new.arena.labels) (length c.in_ok-regrouped.ensures.regrouped.cloned_elements) ++ (get_or c.as_slice-nodes.result.now c.args.block_at 0 ∷ (length c.place-target.new.arena.labels + length c.in_ok-regrouped.ensures.regrouped.cloned_elements) ∷ drop (c.args.block_at + 1) c.as_slice-nodes.result.now))) c.as_slice-nodes.ensures)
    (λ x h. subst (λ (t : Tree). IsKept t c.regroup.new.arena c.args.list.now c.in_ok-regrouped.regrouped.entries.items x) (steps-then c.args.arena.now c.charge.new.self c.place-target.new.arena (c.charge.ensures ∙ sym (ap (λ (v : Tree). stepped c.args.arena.now v.steps) c.charge.ensures)) (c.place-target.ensures.steps ∙ sym (ap (λ (v : Tree). stepped c.charge.new.self v.steps) c.place-target.ensures.steps))) (subst (λ (v : List Entry). IsKept c.place-target.new.arena c.regroup.new.arena v c.in_ok-regrouped.regrouped.entries.items x) (c.as_slice-entries.ensures.value ∙ c.list.view_is) (c.in_ok-regrouped.ensures.front x (subst (λ (v : List ℕ). has x (take c.args.at v) ≡ true) (sym c.as_slice-nodes.ensures) h)))) c.requires.can_place

pub returns-clause-first_free : goal.returns-clause-first_free
returns-clause-first_free c = first-free-kept (stepped c.args.arena.now c.place-target.new.arena.steps) c.regroup.new.arena c.args.list.now c.in_ok-regrouped.regrouped.entries.items c.args.stack.now c.replace.new.self (clones_down (length c.place-target.new.arena.labels) (length c.in_ok-regrouped.ensures.regrouped.cloned_elements) ++ (get_or c.as_slice-nodes.result.now c.args.block_at 0 ∷ (length c.place-target.new.arena.labels + length c.in_ok-regrouped.ensures.regrouped.cloned_elements) ∷ drop (c.args.block_at + 1) c.as_slice-nodes.result.now)) c.args.at c.requires.inside (at-below c.args.stack.now c.args.list.now c.args.arena.now c.args.at c.args.block_at c.forest.ensures.well_formed c.requires.«open» c.requires.block.0 c.requires.block.1 c.requires.inside c.args.foster)
    (c.replace.ensures ∙ c.in_ok-regrouped.ensures.regrouped.stack_is ∙ ap (λ (v : List ℕ). take c.args.at v ++ (clones_down (length c.place-target.new.arena.labels) (length c.in_ok-regrouped.ensures.regrouped.cloned_elements) ++ (get_or c.as_slice-nodes.result.now c.args.block_at 0 ∷ (length c.place-target.new.arena.labels + length c.in_ok-regrouped.ensures.regrouped.cloned_elements) ∷ drop (c.args.block_at + 1) c.as_slice-nodes.result.now))) c.as_slice-nodes.ensures)
    (λ x h. subst (λ (t : Tree). IsKept t c.regroup.new.arena c.args.list.now c.in_ok-regrouped.regrouped.entries.items x) (steps-then c.args.arena.now c.charge.new.self c.place-target.new.arena (c.charge.ensures ∙ sym (ap (λ (v : Tree). stepped c.args.arena.now v.steps) c.charge.ensures)) (c.place-target.ensures.steps ∙ sym (ap (λ (v : Tree). stepped c.charge.new.self v.steps) c.place-target.ensures.steps))) (subst (λ (v : List Entry). IsKept c.place-target.new.arena c.regroup.new.arena v c.in_ok-regrouped.regrouped.entries.items x) (c.as_slice-entries.ensures.value ∙ c.list.view_is) (c.in_ok-regrouped.ensures.front x (subst (λ (v : List ℕ). has x (take c.args.at v) ≡ true) (sym c.as_slice-nodes.ensures) h))))

pub returns-in_err-regrouped-clause-cut : goal.returns-in_err-regrouped-clause-cut
returns-in_err-regrouped-clause-cut c =
    let p = err_from_is_err_and c.from_residual.result c.from_residual.ensures.1 in
    let k = c.in_err-regrouped.ensures.cut in
    let a = subst (λ (v : List ℕ). IsCut c.place-target.new.arena c.regroup.new.arena (round_originals (open_at v c.as_slice-entries.result.now c.place-target.new.arena) c.args.at c.args.block_at) c.in_err-regrouped.field-0.0) c.as_slice-nodes.ensures k in
    let b = subst (λ (v : List Entry). IsCut c.place-target.new.arena c.regroup.new.arena (round_originals (open_at c.args.stack.now v c.place-target.new.arena) c.args.at c.args.block_at) c.in_err-regrouped.field-0.0) (c.as_slice-entries.ensures.value ∙ c.list.view_is) a in
    let d = subst (λ (t : Tree). IsCut t c.regroup.new.arena (round_originals (open_at c.args.stack.now c.args.list.now t) c.args.at c.args.block_at) c.in_err-regrouped.field-0.0) (steps-then c.args.arena.now c.charge.new.self c.place-target.new.arena (c.charge.ensures ∙ sym (ap (λ (v : Tree). stepped c.args.arena.now v.steps) c.charge.ensures)) (c.place-target.ensures.steps ∙ sym (ap (λ (v : Tree). stepped c.charge.new.self v.steps) c.place-target.ensures.steps))) b in
    rw p.1 (subst (λ (e : ArenaError). IsCut c.args.arena.now c.regroup.new.arena (round_originals (open_at c.args.stack.now c.args.list.now c.args.arena.now) c.args.at c.args.block_at) e) (sym p.2)
    (cut-rebase c.args.arena.now c.place-target.new.arena.steps c.regroup.new.arena (round_originals (open_at c.args.stack.now c.args.list.now c.args.arena.now) c.args.at c.args.block_at) c.in_err-regrouped.field-0.0 d))

pub returns-clause-steps : goal.returns-clause-steps
returns-clause-steps c =
    let e1 = ap length c.as_slice-nodes.ensures in
    let e2 = ap length (c.as_slice-entries.ensures.value ∙ c.list.view_is) in
    let n1 = ap (λ (t : Tree). length t.labels) c.charge.ensures in
    let n2 = ap (λ (t : Tree). length t.labels) c.place-target.ensures.steps in
    round-counted c.args.arena.now c.charge.new.self c.place-target.new.arena c.regroup.new.arena ((length c.as_slice-nodes.result.now - c.args.at) + length c.as_slice-entries.result.now) (place_steps c.charge.new.self c.args.stack.now (Some c.index-nodes-at.result) c.args.foster) (length c.args.stack.now) (length c.args.list.now)
    (ap (λ (t : Tree). t.steps) c.charge.ensures) (omega (arith, e1, e2)) (ap (λ (t : Tree). t.steps) c.place-target.ensures.steps) (place-few c.charge.new.self c.args.stack.now c.index-nodes-at.result c.args.foster) (omega (arith, n1, n2)) c.regroup.ensures.steps

pub returns-in_err-regrouped-clause-steps : goal.returns-in_err-regrouped-clause-steps
returns-in_err-regrouped-clause-steps c =
    let e1 = ap length c.as_slice-nodes.ensures in
    let e2 = ap length (c.as_slice-entries.ensures.value ∙ c.list.view_is) in
    let n1 = ap (λ (t : Tree). length t.labels) c.charge.ensures in
    let n2 = ap (λ (t : Tree). length t.labels) c.place-target.ensures.steps in
    round-counted c.args.arena.now c.charge.new.self c.place-target.new.arena c.regroup.new.arena ((length c.as_slice-nodes.result.now - c.args.at) + length c.as_slice-entries.result.now) (place_steps c.charge.new.self c.args.stack.now (Some c.index-nodes-at.result) c.args.foster) (length c.args.stack.now) (length c.args.list.now)
    (ap (λ (t : Tree). t.steps) c.charge.ensures) (omega (arith, e1, e2)) (ap (λ (t : Tree). t.steps) c.place-target.ensures.steps) (place-few c.charge.new.self c.args.stack.now c.index-nodes-at.result c.args.foster) (omega (arith, n1, n2)) c.regroup.ensures.steps

pub returns-clause-paid : goal.returns-clause-paid
returns-clause-paid c =
    let e1 = ap length c.as_slice-nodes.ensures in
    let e2 = ap length (c.as_slice-entries.ensures.value ∙ c.list.view_is) in
    let n1 = ap (λ (t : Tree). length t.labels) c.charge.ensures in
    let n2 = ap (λ (t : Tree). length t.labels) c.place-target.ensures.steps in
    let k1 = ap (λ (t : Tree). t.steps) c.charge.ensures in
    paid-round c.args.stack.now c.replace.new.self (clones_down (length c.place-target.new.arena.labels) (length c.in_ok-regrouped.ensures.regrouped.cloned_elements) ++ (get_or c.as_slice-nodes.result.now c.args.block_at 0 ∷ (length c.place-target.new.arena.labels + length c.in_ok-regrouped.ensures.regrouped.cloned_elements) ∷ drop (c.args.block_at + 1) c.as_slice-nodes.result.now)) c.args.list.now c.in_ok-regrouped.regrouped.entries.items c.args.arena.now c.regroup.new.arena c.args.at (length c.place-target.new.arena.labels) c.charge.new.self.steps c.place-target.new.arena.steps (place_steps c.charge.new.self c.args.stack.now (Some c.index-nodes-at.result) c.args.foster) c.requires.«open»
    (c.replace.ensures ∙ c.in_ok-regrouped.ensures.regrouped.stack_is ∙ ap (λ (v : List ℕ). take c.args.at v ++ (clones_down (length c.place-target.new.arena.labels) (length c.in_ok-regrouped.ensures.regrouped.cloned_elements) ++ (get_or c.as_slice-nodes.result.now c.args.block_at 0 ∷ (length c.place-target.new.arena.labels + length c.in_ok-regrouped.ensures.regrouped.cloned_elements) ∷ drop (c.args.block_at + 1) c.as_slice-nodes.result.now))) c.as_slice-nodes.ensures)
    (omega (arith, e1, e2, k1)) (ap (λ (t : Tree). t.steps) c.place-target.ensures.steps) (omega (arith, n1, n2)) c.regroup.ensures.steps.least

pub returns-clause-roots : goal.returns-clause-roots
returns-clause-roots c =
    let k = c.requires.block.1.block.after in
    roots-stepped c.args.stack.now c.args.list.now c.args.arena.now c.regroup.new.arena c.place-target.new.arena.steps
    (regrouped-roots c.args.at c.args.block_at c.place-target.result (open_at c.args.stack.now c.args.list.now (stepped c.args.arena.now c.place-target.new.arena.steps)) (open_at c.in_ok-regrouped.regrouped.nodes.items c.in_ok-regrouped.regrouped.entries.items c.regroup.new.arena)
    (subst (λ (t : Tree). IsRegrouped c.args.at c.args.block_at c.place-target.result (open_at c.args.stack.now c.args.list.now t) (open_at c.in_ok-regrouped.regrouped.nodes.items c.in_ok-regrouped.regrouped.entries.items c.regroup.new.arena)) (steps-then c.args.arena.now c.charge.new.self c.place-target.new.arena (c.charge.ensures ∙ sym (ap (λ (v : Tree). stepped c.args.arena.now v.steps) c.charge.ensures)) (c.place-target.ensures.steps ∙ sym (ap (λ (v : Tree). stepped c.charge.new.self v.steps) c.place-target.ensures.steps)))
    (subst (λ (v : List Entry). IsRegrouped c.args.at c.args.block_at c.place-target.result (open_at c.args.stack.now v c.place-target.new.arena) (open_at c.in_ok-regrouped.regrouped.nodes.items c.in_ok-regrouped.regrouped.entries.items c.regroup.new.arena)) (c.as_slice-entries.ensures.value ∙ c.list.view_is)
    (subst (λ (v : List ℕ). IsRegrouped c.args.at c.args.block_at c.place-target.result (open_at v c.as_slice-entries.result.now c.place-target.new.arena) (open_at c.in_ok-regrouped.regrouped.nodes.items c.in_ok-regrouped.regrouped.entries.items c.regroup.new.arena)) c.as_slice-nodes.ensures c.in_ok-regrouped.ensures.regrouped)))
    (omega (arith, k)) c.requires.block.1.block.within c.forest.ensures.well_formed.child_has_parent
    (parent-there (stepped c.args.arena.now c.place-target.new.arena.steps) c.place-target.result
    (place-as c.charge.new.self (stepped c.args.arena.now c.place-target.new.arena.steps) c.place-target.result (sym (ap (λ (t : Tree). t.labels) c.charge.ensures)) (sym (ap (λ (t : Tree). t.parents) c.charge.ensures)) c.place-target.ensures.there)))
