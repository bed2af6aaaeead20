use Rattle.std.proofs.Common.{◌≡◌, ◌<◌, ℕ, sym, ◌∙◌, ap, subst, List, true, length, refl, Some, None}
use Rattle.html_arena.specs.Siblings.{has}
use Rattle.html_arena.specs.Tree.{Tree, named}
use Rattle.html_open.specs.Lists.{looked}
use Rattle.html_open.specs.Scopes.{match_or_end, in_scope, ends}
use Rattle.html_open.specs.Marking.{charged}
use Rattle.html_open.proofs.Lists.{steps_index, in_scope-at, looked-some, has-at, get_or-default}
use Rattle.html_open.proofs.Keeps.{charged_keeps}
use Rattle.html_open.proofs.stack.OpenStack.has_in_scope.Goals as goal

pub is_named-requires : goal.is_named-requires
is_named-requires c =
    let nodes = c.as_slice-nodes.result.now in
    let k = looked-some (match_or_end c.args.arena.now c.args.name c.args.scope) nodes c.in-Some.index (sym c.last_index-found.ensures.index ∙ c.in-Some.is) in
    let there : has c.index-nodes-index.result nodes ≡ true =
    subst (λ (x : ℕ). has x nodes ≡ true) (sym c.index-nodes-index.is) (has-at nodes c.in-Some.index c.index-nodes-index.result k.1) in
    let b = c.requires c.index-nodes-index.result (subst (λ (v : List ℕ). has c.index-nodes-index.result v ≡ true) (c.as_slice-nodes.ensures.value ∙ c.self.view_is) there) in
    subst (λ (u : Tree). c.index-nodes-index.result < length u.labels) (sym c.charge.ensures) b

pub returns-in-None-clause-answer : goal.returns-in-None-clause-answer
returns-in-None-clause-answer c =
    sym (in_scope-at (named c.args.arena.now c.args.name) (ends c.args.arena.now c.args.scope) c.as_slice-nodes.result.now None (sym c.in-None.is ∙ c.last_index-found.ensures.index))
    ∙ ap (in_scope (named c.args.arena.now c.args.name) (ends c.args.arena.now c.args.scope)) (c.as_slice-nodes.ensures.value ∙ c.self.view_is)

pub returns-in-None-clause-steps : goal.returns-in-None-clause-steps
returns-in-None-clause-steps c =
    c.charge.ensures
    ∙ ap (charged c.args.arena.now)
    (c.steps_to.ensures
    ∙ steps_index (match_or_end c.args.arena.now c.args.name c.args.scope) c.as_slice-nodes.result.now c.last_index-found.result (length c.as_slice-nodes.result.now) refl c.last_index-found.ensures.index
    ∙ ap (looked (match_or_end c.args.arena.now c.args.name c.args.scope)) (c.as_slice-nodes.ensures.value ∙ c.self.view_is))

pub returns-in-Some-clause-answer : goal.returns-in-Some-clause-answer
returns-in-Some-clause-answer c =
    let nodes = c.as_slice-nodes.result.now in
    let k = looked-some (match_or_end c.args.arena.now c.args.name c.args.scope) nodes c.in-Some.index (sym c.last_index-found.ensures.index ∙ c.in-Some.is) in
    c.is_named.ensures
    ∙ ap (λ (u : Tree). named u c.args.name c.index-nodes-index.result) c.charge.ensures
    ∙ ap (named c.args.arena.now c.args.name) (c.index-nodes-index.is ∙ get_or-default nodes c.in-Some.index c.index-nodes-index.result 0 k.1)
    ∙ sym (in_scope-at (named c.args.arena.now c.args.name) (ends c.args.arena.now c.args.scope) nodes (Some c.in-Some.index) (sym c.in-Some.is ∙ c.last_index-found.ensures.index))
    ∙ ap (in_scope (named c.args.arena.now c.args.name) (ends c.args.arena.now c.args.scope)) (c.as_slice-nodes.ensures.value ∙ c.self.view_is)

pub returns-in-Some-clause-steps : goal.returns-in-Some-clause-steps
returns-in-Some-clause-steps c =
    c.charge.ensures
    ∙ ap (charged c.args.arena.now)
    (c.steps_to.ensures
    ∙ steps_index (match_or_end c.args.arena.now c.args.name c.args.scope) c.as_slice-nodes.result.now c.last_index-found.result (length c.as_slice-nodes.result.now) refl c.last_index-found.ensures.index
    ∙ ap (looked (match_or_end c.args.arena.now c.args.name c.args.scope)) (c.as_slice-nodes.ensures.value ∙ c.self.view_is))

pub returns-in-None-clause-keeps : goal.returns-in-None-clause-keeps
returns-in-None-clause-keeps c = λ l. charged_keeps c.args.self.now l c.args.arena.now c.charge.new.self _ c.charge.ensures

pub returns-in-Some-clause-keeps : goal.returns-in-Some-clause-keeps
returns-in-Some-clause-keeps c = λ l. charged_keeps c.args.self.now l c.args.arena.now c.charge.new.self _ c.charge.ensures
