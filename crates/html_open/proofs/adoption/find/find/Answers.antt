use Rattle.std.proofs.Common.{ℕ, ◌+◌, ◌-◌, List, length, drop, sym, ◌∙◌, ap, subst, arith, eqb}
use Rattle.std.specs.List.{list_any}
use Rattle.html_names.specs.declared.sets.Scope.TheVariants.{Default}
use Rattle.html_arena.specs.Tree.{Tree}
use Rattle.html_open.specs.AdoptFinding.{IsFirstIndex, IsFirstFrom, special}
use Rattle.html_open.specs.Opened.{open_at}
use Rattle.html_open.specs.Scopes.{ends}
use Rattle.html_open.specs.Entries.{named_or_marker}
use Rattle.html_open.specs.Lists.{looked}
use Rattle.html_open.proofs.Counting.{found-first, found-fourth, found-second, found-third, looked-few}
use Rattle.html_open.proofs.Finding.{last_named-in, same-ends, same-first, off-stack, within, out, plain, block}
use Rattle.html_open.proofs.adoption.find.find.Goals as goal

pub marked-requires : goal.marked-requires
marked-requires c =
    let e = ap (λ (t : Tree). length t.labels) c.charge.ensures ∙ ap (λ (t : Tree). length t.labels) c.last_named.ensures.steps in
    let k = c.requires.«open».list_in c.in-Some.node (last_named-in c.args.arena.now c.args.name c.args.list.now c.in-Some.node (sym c.last_named.ensures.node ∙ c.in-Some.is)) in
    omega (arith, e, k)

pub returns-in_default-index_of-clause-found : goal.returns-in_default-index_of-clause-found
returns-in_default-index_of-clause-found c =
    off-stack c.args.name (open_at c.args.stack.now c.args.list.now c.args.arena.now) c.in-Some.node (sym c.last_named.ensures.node ∙ c.in-Some.is) (sym c.index_of.ensures.index ∙ c.in_default-index_of.is)

pub overflow_sub-nodes : goal.overflow_sub-nodes
overflow_sub-nodes c =
    let l = within c.args.name (open_at c.args.stack.now c.args.list.now c.args.arena.now) c.in-Some.node (sym c.last_named.ensures.node ∙ c.in-Some.is) c.in-Some-index_of.at (sym c.index_of.ensures.index ∙ c.in-Some-index_of.is) in
    let e = ap length c.as_slice-nodes.ensures in
    omega (arith, l, e)

pub ends_after-requires-clause-at_in : goal.ends_after-requires-clause-at_in
ends_after-requires-clause-at_in c =
    let l = within c.args.name (open_at c.args.stack.now c.args.list.now c.args.arena.now) c.in-Some.node (sym c.last_named.ensures.node ∙ c.in-Some.is) c.in-Some-index_of.at (sym c.index_of.ensures.index ∙ c.in-Some-index_of.is) in
    let e = ap length c.as_slice-nodes.ensures in
    omega (arith, l, e)

pub returns-then-ends_after-clause-found : goal.returns-then-ends_after-clause-found
returns-then-ends_after-clause-found c =
    let e = ap (λ (t : Tree). t.labels) c.charge-2.ensures ∙ ap (λ (t : Tree). t.labels) c.index_of.ensures.steps ∙ ap (λ (t : Tree). t.labels) c.charge.ensures ∙ ap (λ (t : Tree). t.labels) c.last_named.ensures.steps in (
      c.in-Some.node,
      out c.args.name (open_at c.args.stack.now c.args.list.now c.args.arena.now) c.in-Some.node (sym c.last_named.ensures.node ∙ c.in-Some.is) c.in-Some-index_of.at (sym c.index_of.ensures.index ∙ c.in-Some-index_of.is)
          (ap (λ (v : List ℕ). list_any (ends c.args.arena.now Default) (drop (c.in-Some-index_of.at + 1) v)) (sym c.as_slice-nodes.ensures) ∙ sym (same-ends c.args.arena.now c.charge-2.new.self (drop (c.in-Some-index_of.at + 1) c.as_slice-nodes.result.now) e) ∙ sym c.ends_after.ensures ∙ c.if-ends_after.true),
    )

pub overflow_add-at : goal.overflow_add-at
overflow_add-at c =
    let l = within c.args.name (open_at c.args.stack.now c.args.list.now c.args.arena.now) c.in-Some.node (sym c.last_named.ensures.node ∙ c.in-Some.is) c.in-Some-index_of.at (sym c.index_of.ensures.index ∙ c.in-Some-index_of.is) in
    let e = ap length c.as_slice-nodes.ensures in
    omega (arith, l, e)

pub first_special-requires-clause-from_in : goal.first_special-requires-clause-from_in
first_special-requires-clause-from_in c =
    let l = within c.args.name (open_at c.args.stack.now c.args.list.now c.args.arena.now) c.in-Some.node (sym c.last_named.ensures.node ∙ c.in-Some.is) c.in-Some-index_of.at (sym c.index_of.ensures.index ∙ c.in-Some-index_of.is) in
    let e = ap length c.as_slice-nodes.ensures in
    omega (arith, l, e)

pub returns-in-Some-first_special-clause-found : goal.returns-in-Some-first_special-clause-found
returns-in-Some-first_special-clause-found c =
    let e = ap (λ (t : Tree). t.labels) c.charge-2.ensures ∙ ap (λ (t : Tree). t.labels) c.index_of.ensures.steps ∙ ap (λ (t : Tree). t.labels) c.charge.ensures ∙ ap (λ (t : Tree). t.labels) c.last_named.ensures.steps in
    let n = same-first c.args.arena.now c.charge-2.new.self c.as_slice-nodes.result.now (c.in-Some-index_of.at + 1) c.first_special.result e c.first_special.ensures in
    block c.args.name (open_at c.args.stack.now c.args.list.now c.args.arena.now) c.in-Some.node (sym c.last_named.ensures.node ∙ c.in-Some.is) c.in-Some-index_of.at (sym c.index_of.ensures.index ∙ c.in-Some-index_of.is)
    (ap (λ (v : List ℕ). list_any (ends c.args.arena.now Default) (drop (c.in-Some-index_of.at + 1) v)) (sym c.as_slice-nodes.ensures) ∙ sym (same-ends c.args.arena.now c.charge-2.new.self (drop (c.in-Some-index_of.at + 1) c.as_slice-nodes.result.now) e) ∙ sym c.ends_after.ensures ∙ c.if-ends_after.false)
    c.in-Some-first_special.block_at
    (subst (λ (v : List ℕ). IsFirstFrom (special c.args.arena.now) v (c.in-Some-index_of.at + 1) c.in-Some-first_special.block_at) c.as_slice-nodes.ensures
    (subst (IsFirstIndex (special c.args.arena.now) c.as_slice-nodes.result.now (c.in-Some-index_of.at + 1)) c.in-Some-first_special.is n))

pub returns-in-None-clause-found : goal.returns-in-None-clause-found
returns-in-None-clause-found c =
    let e = ap (λ (t : Tree). t.labels) c.charge-2.ensures ∙ ap (λ (t : Tree). t.labels) c.index_of.ensures.steps ∙ ap (λ (t : Tree). t.labels) c.charge.ensures ∙ ap (λ (t : Tree). t.labels) c.last_named.ensures.steps in
    let n = same-first c.args.arena.now c.charge-2.new.self c.as_slice-nodes.result.now (c.in-Some-index_of.at + 1) c.first_special.result e c.first_special.ensures in
    plain c.args.name (open_at c.args.stack.now c.args.list.now c.args.arena.now) c.in-Some.node (sym c.last_named.ensures.node ∙ c.in-Some.is) c.in-Some-index_of.at (sym c.index_of.ensures.index ∙ c.in-Some-index_of.is)
    (ap (λ (v : List ℕ). list_any (ends c.args.arena.now Default) (drop (c.in-Some-index_of.at + 1) v)) (sym c.as_slice-nodes.ensures) ∙ sym (same-ends c.args.arena.now c.charge-2.new.self (drop (c.in-Some-index_of.at + 1) c.as_slice-nodes.result.now) e) ∙ sym c.ends_after.ensures ∙ c.if-ends_after.false)
    (ap (λ (v : List ℕ). list_any (special c.args.arena.now) (drop (c.in-Some-index_of.at + 1) v)) (sym c.as_slice-nodes.ensures)
    ∙ subst (IsFirstIndex (special c.args.arena.now) c.as_slice-nodes.result.now (c.in-Some-index_of.at + 1)) c.in-None.is n)

pub returns-in_default-clause-steps : goal.returns-in_default-clause-steps
returns-in_default-clause-steps c = found-first c.args.arena.now.steps c.last_named.new.arena.steps (looked (named_or_marker c.args.arena.now c.args.name) c.args.list.now) (length c.args.list.now) (length c.args.stack.now) (ap (λ (t : Tree). t.steps) c.last_named.ensures.steps) (looked-few (named_or_marker c.args.arena.now c.args.name) c.args.list.now)

pub returns-then-not-marked-clause-steps : goal.returns-then-not-marked-clause-steps
returns-then-not-marked-clause-steps c = found-second c.args.arena.now.steps c.last_named.new.arena.steps (looked (named_or_marker c.args.arena.now c.args.name) c.args.list.now) (length c.args.list.now) (length c.args.stack.now) (ap (λ (t : Tree). t.steps) c.last_named.ensures.steps) (looked-few (named_or_marker c.args.arena.now c.args.name) c.args.list.now) c.charge.new.self.steps (ap (λ (t : Tree). t.steps) c.charge.ensures)

pub returns-in_default-index_of-clause-steps : goal.returns-in_default-index_of-clause-steps
returns-in_default-index_of-clause-steps c = found-third c.args.arena.now.steps c.last_named.new.arena.steps (looked (named_or_marker c.args.arena.now c.args.name) c.args.list.now) (length c.args.list.now) (length c.args.stack.now) (ap (λ (t : Tree). t.steps) c.last_named.ensures.steps) (looked-few (named_or_marker c.args.arena.now c.args.name) c.args.list.now) c.charge.new.self.steps (ap (λ (t : Tree). t.steps) c.charge.ensures) c.index_of.new.arena.steps (looked (eqb c.in-Some.node) c.args.stack.now) (ap (λ (t : Tree). t.steps) c.index_of.ensures.steps) (looked-few (eqb c.in-Some.node) c.args.stack.now)

pub returns-then-ends_after-clause-steps : goal.returns-then-ends_after-clause-steps
returns-then-ends_after-clause-steps c = (let e = ap length c.as_slice-nodes.ensures in found-fourth c.args.arena.now.steps c.last_named.new.arena.steps (looked (named_or_marker c.args.arena.now c.args.name) c.args.list.now) (length c.args.list.now) (length c.args.stack.now) (ap (λ (t : Tree). t.steps) c.last_named.ensures.steps) (looked-few (named_or_marker c.args.arena.now c.args.name) c.args.list.now) c.charge.new.self.steps (ap (λ (t : Tree). t.steps) c.charge.ensures) c.index_of.new.arena.steps (looked (eqb c.in-Some.node) c.args.stack.now) (ap (λ (t : Tree). t.steps) c.index_of.ensures.steps) (looked-few (eqb c.in-Some.node) c.args.stack.now) c.charge-2.new.self.steps (length c.as_slice-nodes.result.now - c.in-Some-index_of.at) (ap (λ (t : Tree). t.steps) c.charge-2.ensures) (omega (arith, e)))

pub returns-in-Some-first_special-clause-steps : goal.returns-in-Some-first_special-clause-steps
returns-in-Some-first_special-clause-steps c = (let e = ap length c.as_slice-nodes.ensures in found-fourth c.args.arena.now.steps c.last_named.new.arena.steps (looked (named_or_marker c.args.arena.now c.args.name) c.args.list.now) (length c.args.list.now) (length c.args.stack.now) (ap (λ (t : Tree). t.steps) c.last_named.ensures.steps) (looked-few (named_or_marker c.args.arena.now c.args.name) c.args.list.now) c.charge.new.self.steps (ap (λ (t : Tree). t.steps) c.charge.ensures) c.index_of.new.arena.steps (looked (eqb c.in-Some.node) c.args.stack.now) (ap (λ (t : Tree). t.steps) c.index_of.ensures.steps) (looked-few (eqb c.in-Some.node) c.args.stack.now) c.charge-2.new.self.steps (length c.as_slice-nodes.result.now - c.in-Some-index_of.at) (ap (λ (t : Tree). t.steps) c.charge-2.ensures) (omega (arith, e)))

pub returns-in-None-clause-steps : goal.returns-in-None-clause-steps
returns-in-None-clause-steps c = (let e = ap length c.as_slice-nodes.ensures in found-fourth c.args.arena.now.steps c.last_named.new.arena.steps (looked (named_or_marker c.args.arena.now c.args.name) c.args.list.now) (length c.args.list.now) (length c.args.stack.now) (ap (λ (t : Tree). t.steps) c.last_named.ensures.steps) (looked-few (named_or_marker c.args.arena.now c.args.name) c.args.list.now) c.charge.new.self.steps (ap (λ (t : Tree). t.steps) c.charge.ensures) c.index_of.new.arena.steps (looked (eqb c.in-Some.node) c.args.stack.now) (ap (λ (t : Tree). t.steps) c.index_of.ensures.steps) (looked-few (eqb c.in-Some.node) c.args.stack.now) c.charge-2.new.self.steps (length c.as_slice-nodes.result.now - c.in-Some-index_of.at) (ap (λ (t : Tree). t.steps) c.charge-2.ensures) (omega (arith, e)))
