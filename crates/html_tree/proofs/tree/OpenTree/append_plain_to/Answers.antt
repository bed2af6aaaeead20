use Rattle.std.proofs.Common.{take, subst, sym, refl, ◌≡◌, ◌∙◌, ap, arith, length}
use Rattle.std.proofs.lemmas.List.{length-take-le}
use Rattle.html_arena.specs.Data.{with_run}
use Rattle.html_arena.specs.Tree.{label_of, Tree, more}
use Rattle.html_tree.specs.Since.{Keeps}
use Rattle.html_tree.specs.States.{State, state_of}
use Rattle.html_tree.specs.Texts.{IsFree}
use Rattle.html_tree.proofs.Kept.{keeps-since, same-element, same-origin_in, same-tag_in}
use Rattle.html_tree.proofs.Merged.{relabelled-since, relabelled-under_way, run-essence}
use Rattle.html_tree.proofs.OpenTags.{kept-tags}
use Rattle.html_tree.proofs.SearchEnds.{ends-relabelled}
use Rattle.html_tree.proofs.Standing.{seats-relabelled}
use Rattle.html_tree.proofs.tree.OpenTree.append_plain_to.Goals as goal

pub invariant_of-self-2 : goal.invariant_of-self-2
invariant_of-self-2 c = (
  relabelled-under_way c.self.inside.stack c.self.inside.list c.self.inside.arena c.append_plain.new.self c.self.inside.tokens c.args.node c.self.inside.head c.self.inside.form c.self.inside.detached (with_run (label_of c.self.inside.arena c.args.node) (take c.in_ok-added.added c.args.text.now)) c.in_ok-added.ensures.relabelled (run-essence (label_of c.self.inside.arena c.args.node) (take c.in_ok-added.added c.args.text.now))
      (c.kept_by_edits.ensures.relabelled c.self.inside.stack c.self.inside.list c.self.inside.arena c.append_plain.new.self c.args.node (with_run (label_of c.self.inside.arena c.args.node) (take c.in_ok-added.added c.args.text.now)) c.in_ok-added.ensures.relabelled
      (same-element (label_of c.self.inside.arena c.args.node) (with_run (label_of c.self.inside.arena c.args.node) (take c.in_ok-added.added c.args.text.now)) (run-essence (label_of c.self.inside.arena c.args.node) (take c.in_ok-added.added c.args.text.now))) (same-tag_in (label_of c.self.inside.arena c.args.node) (with_run (label_of c.self.inside.arena c.args.node) (take c.in_ok-added.added c.args.text.now)) (run-essence (label_of c.self.inside.arena c.args.node) (take c.in_ok-added.added c.args.text.now))) (same-origin_in (label_of c.self.inside.arena c.args.node) (with_run (label_of c.self.inside.arena c.args.node) (take c.in_ok-added.added c.args.text.now)) (run-essence (label_of c.self.inside.arena c.args.node) (take c.in_ok-added.added c.args.text.now))) c.self.invariant.0.is_open)
      c.self.invariant.0,
  ends-relabelled c.self.inside.stack c.self.inside.p_ends.items c.self.inside.arena c.append_plain.new.self c.args.node (with_run (label_of c.self.inside.arena c.args.node) (take c.in_ok-added.added c.args.text.now)) c.self.invariant.1 c.in_ok-added.ensures.relabelled (run-essence (label_of c.self.inside.arena c.args.node) (take c.in_ok-added.added c.args.text.now)),
  seats-relabelled c.self.inside.arena c.append_plain.new.self c.self.inside.stack c.args.node (with_run (label_of c.self.inside.arena c.args.node) (take c.in_ok-added.added c.args.text.now)) c.in_ok-added.ensures.relabelled (run-essence (label_of c.self.inside.arena c.args.node) (take c.in_ok-added.added c.args.text.now)) c.self.invariant.2,
)

pub returns-clause-keeps : goal.returns-clause-keeps
returns-clause-keeps c =
    subst (λ (a : State). Keeps a (state_of c.self.inside.stack c.self.inside.list c.append_plain.new.self c.self.inside.tokens c.self.inside.head c.self.inside.form c.self.inside.detached)) c.self.view_is
    (keeps-since (state_of c.self.inside.stack c.self.inside.list c.self.inside.arena c.self.inside.tokens c.self.inside.head c.self.inside.form c.self.inside.detached) (state_of c.self.inside.stack c.self.inside.list c.append_plain.new.self c.self.inside.tokens c.self.inside.head c.self.inside.form c.self.inside.detached)
    (relabelled-since c.self.inside.stack c.self.inside.list c.self.inside.arena c.append_plain.new.self c.self.inside.tokens c.args.node c.self.inside.head c.self.inside.form c.self.inside.detached (with_run (label_of c.self.inside.arena c.args.node) (take c.in_ok-added.added c.args.text.now)) c.in_ok-added.ensures.relabelled (run-essence (label_of c.self.inside.arena c.args.node) (take c.in_ok-added.added c.args.text.now))
    (subst (λ (a : State). IsFree a c.args.node) (sym c.self.view_is) c.requires.free)
    (let x : c.append_plain.new.self.steps ≡ more c.self.inside.arena.steps (length (take c.in_ok-added.added c.args.text.now)) = ap (λ (v : Tree). v.steps) c.in_ok-added.ensures.added in omega (arith, x))))

pub returns-clause-tags : goal.returns-clause-tags
returns-clause-tags c = kept-tags c.args.self.now _ c.self.inside.stack c.self.inside.list c.self.inside.arena c.self.inside.tokens c.self.inside.head c.self.inside.form c.self.inside.detached c.self.view_is c.self.invariant.0 (returns-clause-keeps c) refl

pub returns-clause-counted : goal.returns-clause-counted
returns-clause-counted c =
    subst (λ (a : State). c.append_plain.new.self.steps ≡ more a.steps c.in_ok-added.added) c.self.view_is
    (ap (λ (v : Tree). v.steps) c.in_ok-added.ensures.added ∙ ap (more c.self.inside.arena.steps) (length-take-le c.in_ok-added.added c.args.text.now c.in_ok-added.ensures.front))
