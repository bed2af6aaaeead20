use Rattle.std.proofs.Common.{eqb, sym, ◌∙◌, ap, length, refl, Some, None}
use Rattle.html_names.specs.declared.sets.Scope.TheVariants.{Default}
use Rattle.html_open.specs.AdoptFinding.{element_in_scope}
use Rattle.html_open.specs.Lists.{looked}
use Rattle.html_open.specs.Marking.{charged}
use Rattle.html_open.specs.Scopes.{element_or_end, ends}
use Rattle.html_open.proofs.Keeps.{charged_keeps}
use Rattle.html_open.proofs.Lists.{get_or-default, in_scope-at, looked-some, steps_index}
use Rattle.html_open.proofs.stack.OpenStack.is_in_scope.Goals as goal

pub returns-in-None-clause-answer : goal.returns-in-None-clause-answer
returns-in-None-clause-answer c =
    sym (in_scope-at (eqb c.args.node) (ends c.args.arena.now Default) c.as_slice-nodes.result.now None (sym c.in-None.is ∙ c.last_index-found.ensures.index))
    ∙ ap (element_in_scope c.args.arena.now c.args.node) (c.as_slice-nodes.ensures.value ∙ c.self.view_is)

pub returns-in-None-clause-steps : goal.returns-in-None-clause-steps
returns-in-None-clause-steps c =
    c.charge.ensures
    ∙ ap (charged c.args.arena.now)
    (c.steps_to.ensures
    ∙ steps_index (element_or_end c.args.arena.now c.args.node Default) c.as_slice-nodes.result.now c.last_index-found.result (length c.as_slice-nodes.result.now) refl c.last_index-found.ensures.index
    ∙ ap (looked (element_or_end c.args.arena.now c.args.node Default)) (c.as_slice-nodes.ensures.value ∙ c.self.view_is))

pub returns-in-None-clause-keeps : goal.returns-in-None-clause-keeps
returns-in-None-clause-keeps c = λ l. charged_keeps c.args.self.now l c.args.arena.now c.charge.new.self _ c.charge.ensures

pub returns-in-Some-clause-answer : goal.returns-in-Some-clause-answer
returns-in-Some-clause-answer c =
    let nodes = c.as_slice-nodes.result.now in
    let k = looked-some (element_or_end c.args.arena.now c.args.node Default) nodes c.in-Some.index (sym c.last_index-found.ensures.index ∙ c.in-Some.is) in
    c.eq.ensures ∙ ap (eqb c.args.node) (c.index-nodes-index.is ∙ get_or-default nodes c.in-Some.index c.index-nodes-index.result 0 k.1)
    ∙ sym (in_scope-at (eqb c.args.node) (ends c.args.arena.now Default) nodes (Some c.in-Some.index) (sym c.in-Some.is ∙ c.last_index-found.ensures.index))
    ∙ ap (element_in_scope c.args.arena.now c.args.node) (c.as_slice-nodes.ensures.value ∙ c.self.view_is)

pub returns-in-Some-clause-steps : goal.returns-in-Some-clause-steps
returns-in-Some-clause-steps c =
    c.charge.ensures
    ∙ ap (charged c.args.arena.now)
    (c.steps_to.ensures
    ∙ steps_index (element_or_end c.args.arena.now c.args.node Default) c.as_slice-nodes.result.now c.last_index-found.result (length c.as_slice-nodes.result.now) refl c.last_index-found.ensures.index
    ∙ ap (looked (element_or_end c.args.arena.now c.args.node Default)) (c.as_slice-nodes.ensures.value ∙ c.self.view_is))

pub returns-in-Some-clause-keeps : goal.returns-in-Some-clause-keeps
returns-in-Some-clause-keeps c = λ l. charged_keeps c.args.self.now l c.args.arena.now c.charge.new.self _ c.charge.ensures
