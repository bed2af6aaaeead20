use Rattle.std.proofs.Common.{◌<◌, ◌≤◌, ◌+◌, ◌*◌, length, refl, subst, sym, arith}
use Rattle.html_open.specs.Leaving.{listed_weight as open_weight}
use Rattle.html_tree.specs.Listing.{IsAdoptRefused, IsAdopted, listed_weight}
use Rattle.html_tree.specs.Since.{Grown}
use Rattle.html_tree.specs.States.{State, state_of}
use Rattle.html_tree.proofs.Adopted.{adopted-keeps, adopted-under_way, always, first-equal, first-free, if-ok, formatting-plain, on-if-ok}
use Rattle.html_tree.proofs.Clones.{clones-grown, has-cloned}
use Rattle.html_open.proofs.Limits.{adopted-limits}
use Rattle.html_tree.proofs.Inserted.{on-ok, under-way-place}
use Rattle.html_tree.proofs.Spelled.{if-err}
use Rattle.html_tree.proofs.OpenTags.{adopted-lighter}
use Rattle.html_tree.specs.OpenTags.{IsLighterBesides}
use Rattle.html_tree.proofs.SearchEnds.{ends-survived}
use Rattle.html_tree.proofs.Seating.{adopted-seated}
use Rattle.html_open.specs.Opened.{open_at}
use Rattle.html_tree.proofs.Standing.{adopted-seats}
use Rattle.html_tree.proofs.tree.OpenTree.adopt.Goals as goal

pub adopt-end-requires-clause-can_place : goal.adopt-end-requires-clause-can_place
adopt-end-requires-clause-can_place c = under-way-place c.self.inside.stack c.self.inside.list c.self.inside.arena c.self.inside.tokens c.self.inside.head c.self.inside.form c.self.inside.detached c.self.invariant.0 (subst (λ (a : State). 0 < length a.stack) (sym c.self.view_is) c.requires.opened)

pub adopt-end-requires-clause-first_free : goal.adopt-end-requires-clause-first_free
adopt-end-requires-clause-first_free c = first-free c.self.inside.stack c.self.inside.list c.self.inside.arena c.self.inside.tokens c.self.inside.head c.self.inside.form c.self.inside.detached c.self.invariant.0

pub invariant_of-self : goal.invariant_of-self
invariant_of-self c = (
  adopted-under_way c.self.inside.stack c.self.inside.list c.self.inside.arena c.self.inside.tokens c.self.inside.head c.self.inside.form c.self.inside.detached c.self.invariant.0 c.args.name c.requires.formatting c.adopt-end.new.stack c.adopt-end.new.list c.adopt-end.new.arena c.adopt-end.ensures.first (subst (λ (a : State). 0 < length a.stack) (sym c.self.view_is) c.requires.opened) c.adopt-end.ensures.kept c.adopt-end.ensures.made,
  ends-survived c.self.inside.stack c.adopt-end.new.stack c.self.inside.list c.adopt-end.new.list c.self.inside.arena c.adopt-end.new.arena c.adopt-end.ensures.made (c.adopt-end.ensures.survives (formatting-plain c.args.name c.requires.formatting)) c.self.invariant.0.is_open.stack_in c.self.inside.p_ends.items (subst (λ (a : State). 0 < length a.stack) (sym c.self.view_is) c.requires.opened) (first-equal c.self.inside.stack c.self.inside.list c.self.inside.arena c.self.inside.tokens c.self.inside.head c.self.inside.form c.self.inside.detached c.self.invariant.0 c.args.name c.requires.formatting c.adopt-end.new.stack c.adopt-end.new.list c.adopt-end.new.arena c.adopt-end.ensures.first (subst (λ (a : State). 0 < length a.stack) (sym c.self.view_is) c.requires.opened)) c.self.invariant.1,
  adopted-seats c.args.name c.args.foster c.adopt-end.result (open_at c.self.inside.stack c.self.inside.list c.self.inside.arena) (open_at c.adopt-end.new.stack c.adopt-end.new.list c.adopt-end.new.arena)
      (record { is_open = c.self.invariant.0.is_open; well_formed = c.forest.ensures.well_formed; first = λ x e. (c.self.invariant.0.first x e).1; seats = c.self.invariant.2 }) c.adopt-end.ensures.adopted c.adopt-end.ensures.cause
      (adopted-seated c.args.name c.args.foster c.adopt-end.result (open_at c.self.inside.stack c.self.inside.list c.self.inside.arena) (open_at c.adopt-end.new.stack c.adopt-end.new.list c.adopt-end.new.arena) c.self.invariant.0.is_open c.adopt-end.ensures.adopted c.adopt-end.ensures.cause c.self.invariant.2.open_elements),
)

pub returns-clause-exact : goal.returns-clause-exact
returns-clause-exact c =
    if-ok c.adopt-end.result c.adopt-end.ensures.adopted
    (λ end r. subst (λ (a : State). IsAdopted c.args.name c.args.foster end a (state_of c.adopt-end.new.stack c.adopt-end.new.list c.adopt-end.new.arena c.self.inside.tokens c.self.inside.head c.self.inside.form c.self.inside.detached)) c.self.view_is
    (record { old = c.self.inside.arena; new = c.adopt-end.new.arena; old_is = refl; new_is = refl; adopted = r }))

pub returns-clause-keeps : goal.returns-clause-keeps
returns-clause-keeps c =
    on-ok c.adopt-end.result c.adopt-end.ensures.roots
    (λ r. adopted-keeps c.self.inside.stack c.self.inside.list c.self.inside.arena c.self.inside.tokens c.self.inside.head c.self.inside.form c.self.inside.detached c.self.invariant.0 c.args.name c.requires.formatting c.adopt-end.new.stack c.adopt-end.new.list c.adopt-end.new.arena c.adopt-end.ensures.first c.args.self.now c.self.view_is c.forest.ensures.well_formed c.adopt-end.ensures.made c.adopt-end.ensures.closed r c.adopt-end.ensures.survives (let least = c.adopt-end.ensures.steps.least in omega (arith, least)))

pub returns-clause-steps : goal.returns-clause-steps
returns-clause-steps c =
    subst (λ (a : State). c.adopt-end.new.arena.steps ≤ a.steps + (8 * length c.adopt-end.new.arena.labels + 32 * length a.stack + 24 * length a.list + 291)) c.self.view_is c.adopt-end.ensures.steps.most

pub returns-clause-grown : goal.returns-clause-grown
returns-clause-grown c =
    always c.adopt-end.result
    (subst (λ (a : State). Grown 32 0 0 (32 * listed_weight a) c.args.self.now (state_of c.adopt-end.new.stack c.adopt-end.new.list c.adopt-end.new.arena c.self.inside.tokens c.self.inside.head c.self.inside.form c.self.inside.detached)) c.self.view_is
    (clones-grown c.self.inside.stack c.adopt-end.new.stack c.self.inside.list c.adopt-end.new.list c.self.inside.arena c.adopt-end.new.arena c.self.inside.tokens c.self.inside.head c.self.inside.form c.self.inside.detached c.adopt-end.ensures.made c.args.self.now 32 0 0 (32 * open_weight c.self.inside.arena c.self.inside.list) c.self.view_is (first-equal c.self.inside.stack c.self.inside.list c.self.inside.arena c.self.inside.tokens c.self.inside.head c.self.inside.form c.self.inside.detached c.self.invariant.0 c.args.name c.requires.formatting c.adopt-end.new.stack c.adopt-end.new.list c.adopt-end.new.arena c.adopt-end.ensures.first (subst (λ (a : State). 0 < length a.stack) (sym c.self.view_is) c.requires.opened)) c.adopt-end.ensures.clones
    (let e = c.adopt-end.ensures.no_more_open in omega (arith, e)) (let e = c.adopt-end.ensures.no_more_listed in omega (arith, e)) c.adopt-end.ensures.held))

pub returns-clause-cause : goal.returns-clause-cause
returns-clause-cause c =
    if-err c.adopt-end.result c.adopt-end.ensures.cause
    (λ e r. subst (λ (a : State). IsAdoptRefused c.args.name c.args.foster a (state_of c.adopt-end.new.stack c.adopt-end.new.list c.adopt-end.new.arena c.self.inside.tokens c.self.inside.head c.self.inside.form c.self.inside.detached) e) c.self.view_is
    (record { old = c.self.inside.arena; new = c.adopt-end.new.arena; old_is = refl; new_is = refl; refusal = r }))

pub returns-clause-lighter : goal.returns-clause-lighter
returns-clause-lighter c =
    subst (λ (a : State). IsLighterBesides a (state_of c.adopt-end.new.stack c.adopt-end.new.list c.adopt-end.new.arena c.self.inside.tokens c.self.inside.head c.self.inside.form c.self.inside.detached)) c.self.view_is
    (adopted-lighter c.self.inside.stack c.adopt-end.new.stack c.self.inside.list c.adopt-end.new.list c.self.inside.arena c.adopt-end.new.arena c.self.inside.tokens c.self.inside.head c.self.inside.form c.self.inside.detached c.adopt-end.ensures.made c.self.invariant.0.is_open c.adopt-end.ensures.kept.stack_in c.adopt-end.ensures.kept.stack_once (c.adopt-end.ensures.survives (formatting-plain c.args.name c.requires.formatting)))

pub returns-clause-clones : goal.returns-clause-clones
returns-clause-clones c =
    on-if-ok c.adopt-end.result c.adopt-end.ensures.adopted
    (λ end r. has-cloned c.self.inside.stack c.adopt-end.new.stack c.self.inside.list c.adopt-end.new.list c.self.inside.arena c.adopt-end.new.arena c.self.inside.tokens c.self.inside.head c.self.inside.form c.self.inside.detached c.adopt-end.ensures.made c.args.self.now c.self.view_is c.self.invariant.0.is_open
    (adopted-limits c.args.name c.args.foster end (open_at c.self.inside.stack c.self.inside.list c.self.inside.arena) (open_at c.adopt-end.new.stack c.adopt-end.new.list c.adopt-end.new.arena) r))
