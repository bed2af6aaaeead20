use Rattle.std.proofs.Common.{◌≡◌, ◌≤◌, ◌+◌, ◌<◌, length, subst, ap, sym, ◌∙◌, None, arith, refl}
use Rattle.html_arena.specs.Tree.{Tree, parent_of, more}
use Rattle.html_open.specs.Marking.{bare}
use Rattle.html_open.specs.Placing.{IsPlace, parent_at, place_steps}
use Rattle.html_open.specs.declared.places.Place.{Place}
use Rattle.html_tree.specs.States.{State, state_of}
use Rattle.html_tree.specs.Steps.{here_steps}
use Rattle.html_tree.specs.Texts.{IsFree, TextGoesOn, place_here, text_before}
use Rattle.html_tree.proofs.Inserted.{parent-charged, place-most}
use Rattle.html_tree.proofs.Kept.{charged-steps, charged-under_way, read-grown, read-keeps, read-rest}
use Rattle.html_tree.proofs.Texted.{free-here, if-some, text-same}
use Rattle.html_tree.proofs.TextTwice.{text-goes-on}
use Rattle.html_tree.proofs.OpenTags.{kept-tags}
use Rattle.html_tree.proofs.SearchEnds.{ends-labels}
use Rattle.html_tree.proofs.Standing.{seats-as}
use Rattle.html_tree.proofs.tree.OpenTree.text_here.Goals as goal

pub invariant_of-self : goal.invariant_of-self
invariant_of-self c = (
  charged-under_way c.self.inside.stack c.self.inside.list c.self.inside.arena c.place-place.new.arena c.self.inside.tokens _ c.self.inside.head c.self.inside.form c.self.inside.detached c.place-place.ensures.steps (c.place-place.ensures.keeps c.self.inside.list c.self.invariant.0.is_open) c.self.invariant.0,
  ends-labels c.self.inside.stack c.self.inside.p_ends.items c.self.inside.arena c.place-place.new.arena c.self.invariant.1 (ap (λ (v : Tree). v.labels) c.place-place.ensures.steps),
  seats-as c.self.inside.arena c.place-place.new.arena c.self.inside.stack (ap (λ (v : Tree). v.labels) c.place-place.ensures.steps) (ap (λ (v : Tree). v.parents) c.place-place.ensures.steps) c.self.invariant.2,
)

pub returns-clause-text : goal.returns-clause-text
returns-clause-text c =
    c.text_before.ensures.text ∙ text-same c.self.inside.arena c.place-place.new.arena c.place-place.result (ap bare c.place-place.ensures.steps) ∙ ap (λ p. text_before (bare c.self.inside.arena) p) c.place-place.ensures.place
    ∙ ap (λ (a : State). text_before a.tree (place_here a c.args.foster)) c.self.view_is

pub returns-clause-free : goal.returns-clause-free
returns-clause-free c =
    if-some c.text_before.result c.text_before.ensures.parent
    (λ x e. subst (λ (a : State). IsFree a x) c.self.view_is
    (free-here c.self.inside.stack c.self.inside.list c.self.inside.arena c.self.inside.tokens c.self.inside.head c.self.inside.form c.self.inside.detached c.args.foster x c.self.invariant.0 c.forest.ensures.well_formed (subst (λ (a : State). 0 < length a.stack) (sym c.self.view_is) c.requires.opened)
    (sym (ap (λ (v : Tree). parent_of v x) c.place-place.ensures.steps) ∙ e ∙ ap (λ (v : Tree). parent_at v c.place-place.result) c.place-place.ensures.steps ∙ parent-charged c.self.inside.arena (place_steps c.self.inside.arena c.self.inside.stack None c.args.foster) c.place-place.result ∙ ap (parent_at c.self.inside.arena) c.place-place.ensures.place)))

pub returns-clause-rest : goal.returns-clause-rest
returns-clause-rest c = read-rest c.args.self.now c.self.inside.stack c.self.inside.list c.self.inside.arena c.place-place.new.arena c.self.inside.tokens _ c.self.inside.head c.self.inside.form c.self.inside.detached c.self.view_is c.place-place.ensures.steps

pub returns-clause-steps : goal.returns-clause-steps
returns-clause-steps c =
    subst (λ (a : State). c.place-place.new.arena.steps ≤ a.steps + length a.stack + 1) c.self.view_is
    (let m = place-most c.self.inside.arena c.self.inside.stack c.args.foster in let k = charged-steps c.self.inside.arena c.place-place.new.arena (place_steps c.self.inside.arena c.self.inside.stack None c.args.foster) (length c.self.inside.stack + 1) c.place-place.ensures.steps m in omega (arith, k))

pub returns-clause-keeps : goal.returns-clause-keeps
returns-clause-keeps c = read-keeps c.args.self.now c.self.inside.stack c.self.inside.list c.self.inside.arena c.place-place.new.arena c.self.inside.tokens _ c.self.inside.head c.self.inside.form c.self.inside.detached c.self.view_is c.place-place.ensures.steps

pub returns-clause-grown : goal.returns-clause-grown
returns-clause-grown c = read-grown c.args.self.now c.self.inside.stack c.self.inside.list c.self.inside.arena c.place-place.new.arena c.self.inside.tokens _ c.self.inside.head c.self.inside.form c.self.inside.detached c.self.view_is c.place-place.ensures.steps

pub returns-clause-tags : goal.returns-clause-tags
returns-clause-tags c = kept-tags c.args.self.now _ c.self.inside.stack c.self.inside.list c.self.inside.arena c.self.inside.tokens c.self.inside.head c.self.inside.form c.self.inside.detached c.self.view_is c.self.invariant.0 (returns-clause-keeps c) refl

pub returns-clause-counted : goal.returns-clause-counted
returns-clause-counted c =
    subst (λ (a : State). c.place-place.new.arena.steps ≡ more a.steps (here_steps a c.args.foster)) c.self.view_is (ap (λ (v : Tree). v.steps) c.place-place.ensures.steps)

pub returns-clause-goes_on : goal.returns-clause-goes_on
returns-clause-goes_on c =
    subst (λ (a : State). TextGoesOn a c.args.foster) c.self.view_is
    (text-goes-on (state_of c.self.inside.stack c.self.inside.list c.self.inside.arena c.self.inside.tokens c.self.inside.head c.self.inside.form c.self.inside.detached) c.args.foster c.self.inside.arena refl c.forest.ensures.well_formed
    (subst (λ (p : Place). IsPlace c.self.inside.arena p) c.place-place.ensures.place c.place-place.ensures.there))
