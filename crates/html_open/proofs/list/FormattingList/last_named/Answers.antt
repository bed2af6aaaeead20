use Rattle.std.proofs.Common.{sym, ◌∙◌, ap, length, refl, Some}
use Rattle.html_open.specs.Entries.{last_named, named_or_marker, node_in}
use Rattle.html_open.specs.Lists.{looked}
use Rattle.html_open.specs.Marking.{charged}
use Rattle.html_open.proofs.Lists.{steps_index}
use Rattle.html_open.proofs.Naming.{named-none, named-some}
use Rattle.html_open.proofs.Keeps.{charged_keeps}
use Rattle.html_open.proofs.Members.{named-member}
use Rattle.html_open.proofs.list.FormattingList.last_named.Goals as goal

pub returns-in-None-clause-node : goal.returns-in-None-clause-node
returns-in-None-clause-node c =
    sym (named-none c.args.arena.now c.args.name c.as_slice-entries.result.now (sym c.last_entry-found.ensures.index ∙ c.in-None.is))
    ∙ ap (last_named c.args.arena.now c.args.name) (c.as_slice-entries.ensures.value ∙ c.self.view_is)

pub returns-in-None-clause-steps : goal.returns-in-None-clause-steps
returns-in-None-clause-steps c =
    c.charge.ensures
    ∙ ap (charged c.args.arena.now)
    (c.steps_to.ensures
    ∙ steps_index (named_or_marker c.args.arena.now c.args.name) c.as_slice-entries.result.now c.last_entry-found.result (length c.as_slice-entries.result.now) refl c.last_entry-found.ensures.index
    ∙ ap (looked (named_or_marker c.args.arena.now c.args.name)) (c.as_slice-entries.ensures.value ∙ c.self.view_is))

pub returns-in-Some-clause-node : goal.returns-in-Some-clause-node
returns-in-Some-clause-node c =
    c.node.ensures ∙ ap (λ e. node_in (Some e)) c.index-entries-index.is
    ∙ sym (named-some c.args.arena.now c.args.name c.as_slice-entries.result.now c.in-Some.index c.index-entries-index.result (sym c.last_entry-found.ensures.index ∙ c.in-Some.is))
    ∙ ap (last_named c.args.arena.now c.args.name) (c.as_slice-entries.ensures.value ∙ c.self.view_is)

pub returns-in-Some-clause-steps : goal.returns-in-Some-clause-steps
returns-in-Some-clause-steps c =
    c.charge.ensures
    ∙ ap (charged c.args.arena.now)
    (c.steps_to.ensures
    ∙ steps_index (named_or_marker c.args.arena.now c.args.name) c.as_slice-entries.result.now c.last_entry-found.result (length c.as_slice-entries.result.now) refl c.last_entry-found.ensures.index
    ∙ ap (looked (named_or_marker c.args.arena.now c.args.name)) (c.as_slice-entries.ensures.value ∙ c.self.view_is))

pub returns-in-None-clause-keeps : goal.returns-in-None-clause-keeps
returns-in-None-clause-keeps c = λ s. charged_keeps s c.args.self.now c.args.arena.now c.charge.new.self _ c.charge.ensures

pub returns-in-Some-clause-keeps : goal.returns-in-Some-clause-keeps
returns-in-Some-clause-keeps c = λ s. charged_keeps s c.args.self.now c.args.arena.now c.charge.new.self _ c.charge.ensures

pub returns-in-Some-clause-member : goal.returns-in-Some-clause-member
returns-in-Some-clause-member c = named-member c.args.arena.now c.args.name c.args.self.now c.node.result (returns-in-Some-clause-node c)
