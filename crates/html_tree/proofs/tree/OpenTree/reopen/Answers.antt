use Rattle.std.proofs.Common.{◌<◌, ◌≤◌, ◌+◌, ◌*◌, length, refl, subst, sym, ◌∙◌, arith}
use Rattle.html_tree.specs.Steps.{CountsReopening}
use Rattle.html_open.specs.Leaving.{listed_weight as open_weight}
use Rattle.html_tree.specs.Listing.{IsReopenRefused, IsReopened, listed_weight}
use Rattle.html_tree.specs.Since.{Grown, Keeps}
use Rattle.html_tree.specs.States.{State, state_of}
use Rattle.html_tree.proofs.Adopted.{always, off, parents-linked}
use Rattle.html_tree.proofs.Clones.{clones-grown, clones-since, clones-under_way, has-cloned}
use Rattle.html_open.proofs.Limits.{reopened-limits}
use Rattle.html_open.specs.Opened.{open_at}
use Rattle.html_tree.proofs.Inserted.{on-ok, under-way-place}
use Rattle.html_tree.proofs.Spelled.{if-err}
use Rattle.html_tree.proofs.Kept.{keeps-since}
use Rattle.html_tree.proofs.OpenTags.{reopened-tags}
use Rattle.html_tree.specs.OpenTags.{HasReopened, open_tags}
use Rattle.html_tree.proofs.SearchEnds.{ends-survived}
use Rattle.html_tree.proofs.Seating.{reopened-seated}
use Rattle.html_tree.proofs.Standing.{cloned-parts}
use Rattle.html_tree.specs.Seats.{AreSeated}
use Rattle.html_tree.proofs.tree.OpenTree.reopen.Goals as goal

pub reopen-reopened-requires-clause-can_place : goal.reopen-reopened-requires-clause-can_place
reopen-reopened-requires-clause-can_place c = under-way-place c.self.inside.stack c.self.inside.list c.self.inside.arena c.self.inside.tokens c.self.inside.head c.self.inside.form c.self.inside.detached c.self.invariant.0 (subst (λ (a : State). 0 < length a.stack) (sym c.self.view_is) c.requires)

pub invariant_of-self : goal.invariant_of-self
invariant_of-self c = (
  clones-under_way c.self.inside.stack c.reopen-reopened.new.stack c.self.inside.list c.reopen-reopened.new.self c.self.inside.arena c.reopen-reopened.new.arena c.self.inside.tokens c.self.inside.head c.self.inside.form c.self.inside.detached c.reopen-reopened.ensures.made c.reopen-reopened.ensures.keeps c.reopen-reopened.ensures.first c.self.invariant.0,
  ends-survived c.self.inside.stack c.reopen-reopened.new.stack c.self.inside.list c.reopen-reopened.new.self c.self.inside.arena c.reopen-reopened.new.arena c.reopen-reopened.ensures.made c.reopen-reopened.ensures.survives c.self.invariant.0.is_open.stack_in c.self.inside.p_ends.items (subst (λ (a : State). 0 < length a.stack) (sym c.self.view_is) c.requires) c.reopen-reopened.ensures.first c.self.invariant.1,
  record {
    open_elements = reopened-seated c.args.self.now (state_of c.reopen-reopened.new.stack c.reopen-reopened.new.self c.reopen-reopened.new.arena c.self.inside.tokens c.self.inside.head c.self.inside.form c.self.inside.detached)
        (subst (λ (a : State). HasReopened a (state_of c.reopen-reopened.new.stack c.reopen-reopened.new.self c.reopen-reopened.new.arena c.self.inside.tokens c.self.inside.head c.self.inside.form c.self.inside.detached)) c.self.view_is
        (reopened-tags c.self.inside.stack c.reopen-reopened.new.stack c.self.inside.list c.reopen-reopened.new.self c.self.inside.arena c.reopen-reopened.new.arena c.self.inside.tokens c.self.inside.head c.self.inside.form c.self.inside.detached c.reopen-reopened.ensures.made c.self.invariant.0.is_open c.reopen-reopened.ensures.keeps.stack_in (length c.reopen-reopened.ensures.so_far.done) c.reopen-reopened.ensures.so_far.stack_is))
        (subst (λ (a : State). AreSeated (open_tags a)) c.self.view_is c.self.invariant.2.open_elements);
    parts = cloned-parts c.self.inside.stack c.reopen-reopened.new.stack c.self.inside.list c.reopen-reopened.new.self c.self.inside.arena c.reopen-reopened.new.arena c.forest.ensures.well_formed c.forest-2.ensures.well_formed c.self.invariant.0.is_open c.reopen-reopened.ensures.keeps c.reopen-reopened.ensures.made c.reopen-reopened.ensures.parents c.self.invariant.2.parts;
    templates = c.reopen-reopened.ensures.parents.templates c.self.invariant.2.templates;
  },
)

pub returns-clause-exact : goal.returns-clause-exact
returns-clause-exact c =
    on-ok c.reopen-reopened.result c.reopen-reopened.ensures.reopened
    (λ r. subst (λ (a : State). IsReopened c.args.foster a (state_of c.reopen-reopened.new.stack c.reopen-reopened.new.self c.reopen-reopened.new.arena c.self.inside.tokens c.self.inside.head c.self.inside.form c.self.inside.detached)) c.self.view_is
    (record { old = c.self.inside.arena; new = c.reopen-reopened.new.arena; old_is = refl; new_is = refl; reopened = r }))

pub returns-clause-steps : goal.returns-clause-steps
returns-clause-steps c =
    subst (λ (a : State). c.reopen-reopened.new.arena.steps ≤ a.steps + length a.list * (length a.stack + length a.list + 7)) c.self.view_is c.reopen-reopened.ensures.steps_most

pub returns-clause-keeps : goal.returns-clause-keeps
returns-clause-keeps c =
    on-ok c.reopen-reopened.result c.reopen-reopened.ensures.steps
    (λ steps. subst (λ (b : State). Keeps b (state_of c.reopen-reopened.new.stack c.reopen-reopened.new.self c.reopen-reopened.new.arena c.self.inside.tokens c.self.inside.head c.self.inside.form c.self.inside.detached)) c.self.view_is
    (keeps-since (state_of c.self.inside.stack c.self.inside.list c.self.inside.arena c.self.inside.tokens c.self.inside.head c.self.inside.form c.self.inside.detached) (state_of c.reopen-reopened.new.stack c.reopen-reopened.new.self c.reopen-reopened.new.arena c.self.inside.tokens c.self.inside.head c.self.inside.form c.self.inside.detached)
    (clones-since c.self.inside.stack c.reopen-reopened.new.stack c.self.inside.list c.reopen-reopened.new.self c.self.inside.arena c.reopen-reopened.new.arena c.self.inside.tokens c.self.inside.head c.self.inside.form c.self.inside.detached c.reopen-reopened.ensures.made c.forest.ensures.well_formed c.reopen-reopened.ensures.closed
    (λ x e. c.reopen-reopened.ensures.first ∙ e) (λ x b o. off c.self.inside.stack c.reopen-reopened.new.stack c.self.inside.list c.reopen-reopened.new.self c.self.inside.arena c.reopen-reopened.new.arena c.reopen-reopened.ensures.survives x b o)
    (parents-linked c.self.inside.arena c.reopen-reopened.new.arena c.reopen-reopened.ensures.parents) (λ e. c.reopen-reopened.ensures.parents.same 0 c.self.invariant.0.some_node ∙ e) (omega (arith, steps)) c.self.invariant.0.is_open)))

pub returns-clause-grown : goal.returns-clause-grown
returns-clause-grown c =
    always c.reopen-reopened.result
    (subst (λ (a : State). Grown (length a.list) (length a.list) 0 (listed_weight a) c.args.self.now (state_of c.reopen-reopened.new.stack c.reopen-reopened.new.self c.reopen-reopened.new.arena c.self.inside.tokens c.self.inside.head c.self.inside.form c.self.inside.detached)) c.self.view_is
    (clones-grown c.self.inside.stack c.reopen-reopened.new.stack c.self.inside.list c.reopen-reopened.new.self c.self.inside.arena c.reopen-reopened.new.arena c.self.inside.tokens c.self.inside.head c.self.inside.form c.self.inside.detached c.reopen-reopened.ensures.made c.args.self.now (length c.self.inside.list) (length c.self.inside.list) 0 (open_weight c.self.inside.arena c.self.inside.list) c.self.view_is c.reopen-reopened.ensures.first c.reopen-reopened.ensures.nodes c.reopen-reopened.ensures.opened
    (let e = c.reopen-reopened.ensures.entries in omega (arith, e)) c.reopen-reopened.ensures.held))

pub returns-clause-cause : goal.returns-clause-cause
returns-clause-cause c =
    if-err c.reopen-reopened.result c.reopen-reopened.ensures.cause
    (λ e r. subst (λ (a : State). IsReopenRefused c.args.foster a e) c.self.view_is (record { old = c.self.inside.arena; old_is = refl; cause = r }))

pub returns-clause-opened : goal.returns-clause-opened
returns-clause-opened c =
    subst (λ (a : State). HasReopened a (state_of c.reopen-reopened.new.stack c.reopen-reopened.new.self c.reopen-reopened.new.arena c.self.inside.tokens c.self.inside.head c.self.inside.form c.self.inside.detached)) c.self.view_is
    (reopened-tags c.self.inside.stack c.reopen-reopened.new.stack c.self.inside.list c.reopen-reopened.new.self c.self.inside.arena c.reopen-reopened.new.arena c.self.inside.tokens c.self.inside.head c.self.inside.form c.self.inside.detached c.reopen-reopened.ensures.made c.self.invariant.0.is_open c.reopen-reopened.ensures.keeps.stack_in (length c.reopen-reopened.ensures.so_far.done) c.reopen-reopened.ensures.so_far.stack_is)

pub returns-clause-clones : goal.returns-clause-clones
returns-clause-clones c =
    on-ok c.reopen-reopened.result c.reopen-reopened.ensures.reopened
    (λ r. has-cloned c.self.inside.stack c.reopen-reopened.new.stack c.self.inside.list c.reopen-reopened.new.self c.self.inside.arena c.reopen-reopened.new.arena c.self.inside.tokens c.self.inside.head c.self.inside.form c.self.inside.detached c.reopen-reopened.ensures.made c.args.self.now c.self.view_is c.self.invariant.0.is_open
    (reopened-limits c.args.foster (open_at c.self.inside.stack c.self.inside.list c.self.inside.arena) (open_at c.reopen-reopened.new.stack c.reopen-reopened.new.self c.reopen-reopened.new.arena) r))

pub returns-clause-counted : goal.returns-clause-counted
returns-clause-counted c =
    on-ok c.reopen-reopened.result c.reopen-reopened.ensures.steps
    (λ r. subst (λ (a : State). CountsReopening c.args.foster a (state_of c.reopen-reopened.new.stack c.reopen-reopened.new.self c.reopen-reopened.new.arena c.self.inside.tokens c.self.inside.head c.self.inside.form c.self.inside.detached)) c.self.view_is
    (record { old = c.self.inside.arena; old_is = refl; steps_are = r }))
