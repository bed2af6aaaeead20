use Rattle.std.proofs.Common.{◌≡◌, ◌∙◌, ap, sym, subst, refl, arith, length, ℕ, ◌+◌, ◌*◌}
use Rattle.std.specs.Prelude.{slice_index}
use Rattle.html_arena.specs.Data.{attrs_in, with_attrs}
use Rattle.html_arena.specs.Merge.{lacking, merged}
use Rattle.html_arena.specs.Tree.{Tree, label_of, more}
use Rattle.html_arena.specs.Weight.{attrs_weight, capped}
use Rattle.html_open.specs.Opened.{IsOpen, open_at}
use Rattle.html_tree.specs.Since.{Grown}
use Rattle.html_tree.specs.States.{State, state_of}
use Rattle.html_tree.proofs.Kept.{charged-under_way, same-under_way, more-most, same-element, same-origin_in, same-tag_in}
use Rattle.html_tree.proofs.Merged.{element-free, keeps-charged, merged-essence, relabelled-since, relabelled-under_way}
use Rattle.html_tree.proofs.Counted.{two-more}
use Rattle.html_tree.proofs.OpenTags.{kept-tags}
use Rattle.html_tree.proofs.SearchEnds.{ends-labels, ends-relabelled}
use Rattle.html_tree.proofs.Standing.{seats-as, seats-relabelled}
use Rattle.html_tree.proofs.tree.OpenTree.merge.Goals as goal

pub invariant_of-self : goal.invariant_of-self
invariant_of-self c = (
  same-under_way c.self.inside.stack c.self.inside.stack c.self.inside.list c.self.inside.list c.self.inside.arena c.merge_attrs.new.self c.self.inside.tokens c.self.inside.head c.self.inside.form c.self.inside.detached
      (ap (λ (v : Tree). v.labels) (c.in_err-merge_attrs.ensures.refused ∙ c.at-node.ensures.steps)) refl
      (subst (λ t. IsOpen (open_at c.self.inside.stack c.self.inside.list t)) (sym c.in_err-merge_attrs.ensures.refused) (c.at-node.ensures.keeps c.self.inside.list c.self.invariant.0.is_open)) c.self.invariant.0,
  ends-labels c.self.inside.stack c.self.inside.p_ends.items c.self.inside.arena c.merge_attrs.new.self c.self.invariant.1 (ap (λ (v : Tree). v.labels) (c.in_err-merge_attrs.ensures.refused ∙ c.at-node.ensures.steps)),
  seats-as c.self.inside.arena c.merge_attrs.new.self c.self.inside.stack (ap (λ (v : Tree). v.labels) (c.in_err-merge_attrs.ensures.refused ∙ c.at-node.ensures.steps)) (ap (λ (v : Tree). v.parents) (c.in_err-merge_attrs.ensures.refused ∙ c.at-node.ensures.steps)) c.self.invariant.2,
)

pub invariant_of-self-2 : goal.invariant_of-self-2
invariant_of-self-2 c = (
  relabelled-under_way c.self.inside.stack c.self.inside.list c.at-node.new.arena c.merge_attrs.new.self c.self.inside.tokens c.at-node.result c.self.inside.head c.self.inside.form c.self.inside.detached (with_attrs (label_of c.at-node.new.arena c.at-node.result) (merged (attrs_in (label_of c.at-node.new.arena c.at-node.result)) c.args.attrs)) c.in_ok-merge_attrs.ensures.relabelled (merged-essence (label_of c.at-node.new.arena c.at-node.result) (merged (attrs_in (label_of c.at-node.new.arena c.at-node.result)) c.args.attrs))
      (c.kept_by_edits.ensures.relabelled c.self.inside.stack c.self.inside.list c.at-node.new.arena c.merge_attrs.new.self c.at-node.result (with_attrs (label_of c.at-node.new.arena c.at-node.result) (merged (attrs_in (label_of c.at-node.new.arena c.at-node.result)) c.args.attrs)) c.in_ok-merge_attrs.ensures.relabelled
      (same-element (label_of c.at-node.new.arena c.at-node.result) (with_attrs (label_of c.at-node.new.arena c.at-node.result) (merged (attrs_in (label_of c.at-node.new.arena c.at-node.result)) c.args.attrs)) (merged-essence (label_of c.at-node.new.arena c.at-node.result) (merged (attrs_in (label_of c.at-node.new.arena c.at-node.result)) c.args.attrs))) (same-tag_in (label_of c.at-node.new.arena c.at-node.result) (with_attrs (label_of c.at-node.new.arena c.at-node.result) (merged (attrs_in (label_of c.at-node.new.arena c.at-node.result)) c.args.attrs)) (merged-essence (label_of c.at-node.new.arena c.at-node.result) (merged (attrs_in (label_of c.at-node.new.arena c.at-node.result)) c.args.attrs))) (same-origin_in (label_of c.at-node.new.arena c.at-node.result) (with_attrs (label_of c.at-node.new.arena c.at-node.result) (merged (attrs_in (label_of c.at-node.new.arena c.at-node.result)) c.args.attrs)) (merged-essence (label_of c.at-node.new.arena c.at-node.result) (merged (attrs_in (label_of c.at-node.new.arena c.at-node.result)) c.args.attrs))) (c.at-node.ensures.keeps c.self.inside.list c.self.invariant.0.is_open))
      (charged-under_way c.self.inside.stack c.self.inside.list c.self.inside.arena c.at-node.new.arena c.self.inside.tokens _ c.self.inside.head c.self.inside.form c.self.inside.detached c.at-node.ensures.steps (c.at-node.ensures.keeps c.self.inside.list c.self.invariant.0.is_open) c.self.invariant.0),
  ends-relabelled c.self.inside.stack c.self.inside.p_ends.items c.at-node.new.arena c.merge_attrs.new.self c.at-node.result (with_attrs (label_of c.at-node.new.arena c.at-node.result) (merged (attrs_in (label_of c.at-node.new.arena c.at-node.result)) c.args.attrs)) (ends-labels c.self.inside.stack c.self.inside.p_ends.items c.self.inside.arena c.at-node.new.arena c.self.invariant.1 (ap (λ (v : Tree). v.labels) c.at-node.ensures.steps)) c.in_ok-merge_attrs.ensures.relabelled (merged-essence (label_of c.at-node.new.arena c.at-node.result) (merged (attrs_in (label_of c.at-node.new.arena c.at-node.result)) c.args.attrs)),
  seats-relabelled c.at-node.new.arena c.merge_attrs.new.self c.self.inside.stack c.at-node.result (with_attrs (label_of c.at-node.new.arena c.at-node.result) (merged (attrs_in (label_of c.at-node.new.arena c.at-node.result)) c.args.attrs)) c.in_ok-merge_attrs.ensures.relabelled (merged-essence (label_of c.at-node.new.arena c.at-node.result) (merged (attrs_in (label_of c.at-node.new.arena c.at-node.result)) c.args.attrs))
      (seats-as c.self.inside.arena c.at-node.new.arena c.self.inside.stack (ap (λ (v : Tree). v.labels) c.at-node.ensures.steps) (ap (λ (v : Tree). v.parents) c.at-node.ensures.steps) c.self.invariant.2),
)

pub returns-clause-keeps : goal.returns-clause-keeps
returns-clause-keeps c =
    keeps-charged c.args.self.now (state_of c.self.inside.stack c.self.inside.list c.merge_attrs.new.self c.self.inside.tokens c.self.inside.head c.self.inside.form c.self.inside.detached) c.self.inside.stack c.self.inside.list c.self.inside.arena c.at-node.new.arena c.self.inside.tokens _ c.self.inside.head c.self.inside.form c.self.inside.detached c.self.view_is c.at-node.ensures.steps
    (relabelled-since c.self.inside.stack c.self.inside.list c.at-node.new.arena c.merge_attrs.new.self c.self.inside.tokens c.at-node.result c.self.inside.head c.self.inside.form c.self.inside.detached (with_attrs (label_of c.at-node.new.arena c.at-node.result) (merged (attrs_in (label_of c.at-node.new.arena c.at-node.result)) c.args.attrs)) c.in_ok-merge_attrs.ensures.relabelled (merged-essence (label_of c.at-node.new.arena c.at-node.result) (merged (attrs_in (label_of c.at-node.new.arena c.at-node.result)) c.args.attrs))
    (λ p i none. element-free c.at-node.new.arena c.at-node.result ((c.at-node.ensures.keeps c.self.inside.list c.self.invariant.0.is_open).elements c.at-node.result c.at-node.ensures.member) p none)
    (let x : c.merge_attrs.new.self.steps ≡ more c.at-node.new.arena.steps (length (attrs_in (label_of c.at-node.new.arena c.at-node.result)) * length c.args.attrs) = ap (λ (v : Tree). v.steps) c.in_ok-merge_attrs.ensures.merged in omega (arith, x)))

pub returns-clause-grown : goal.returns-clause-grown
returns-clause-grown c =
    let q : length c.merge_attrs.new.self.labels ≡ length c.at-node.new.arena.labels = c.in_ok-merge_attrs.ensures.relabelled.same_length in
    let r : length c.at-node.new.arena.labels ≡ length c.self.inside.arena.labels = ap (λ (v : Tree). length v.labels) c.at-node.ensures.steps in
    let k : c.merge_attrs.new.self.held ≡ more c.at-node.new.arena.held (capped (attrs_weight (lacking (attrs_in (label_of c.at-node.new.arena c.at-node.result)) c.args.attrs))) = ap (λ (v : Tree). v.held) c.in_ok-merge_attrs.ensures.merged in
    let z : c.at-node.new.arena.held ≡ c.self.inside.arena.held = ap (λ (v : Tree). v.held) c.at-node.ensures.steps in
    let m = more-most c.at-node.new.arena.held (capped (attrs_weight (lacking (attrs_in (label_of c.at-node.new.arena c.at-node.result)) c.args.attrs))) in
    let y : attrs_in (label_of c.at-node.new.arena c.at-node.result) ≡ attrs_in (label_of c.self.inside.arena (slice_index c.self.inside.stack c.args.index)) = ap (λ (v : Tree). attrs_in (label_of v c.at-node.result)) c.at-node.ensures.steps ∙ ap (λ (x : ℕ). attrs_in (label_of c.self.inside.arena x)) c.at-node.ensures.node in
    let v : attrs_weight (lacking (attrs_in (label_of c.at-node.new.arena c.at-node.result)) c.args.attrs) ≡ attrs_weight (lacking (attrs_in (label_of c.self.inside.arena (slice_index c.self.inside.stack c.args.index))) c.args.attrs) = ap (λ b. attrs_weight (lacking b c.args.attrs)) y in
    subst (λ (a : State). Grown 0 0 0 (attrs_weight (lacking (attrs_in (label_of a.tree (slice_index a.stack c.args.index))) c.args.attrs)) a (state_of c.self.inside.stack c.self.inside.list c.merge_attrs.new.self c.self.inside.tokens c.self.inside.head c.self.inside.form c.self.inside.detached)) c.self.view_is
    (record { nodes_least = omega (arith, q, r); nodes_most = omega (arith, q, r); open_most = omega arith; entries_most = omega arith; held_most = omega (arith, k, z, m, v); open_least = omega arith })

pub returns-clause-tags : goal.returns-clause-tags
returns-clause-tags c = kept-tags c.args.self.now _ c.self.inside.stack c.self.inside.list c.self.inside.arena c.self.inside.tokens c.self.inside.head c.self.inside.form c.self.inside.detached c.self.view_is c.self.invariant.0 (returns-clause-keeps c) refl

pub returns-clause-counted : goal.returns-clause-counted
returns-clause-counted c =
    let x : c.merge_attrs.new.self.steps ≡ more c.at-node.new.arena.steps (length (attrs_in (label_of c.at-node.new.arena c.at-node.result)) * length c.args.attrs) = ap (λ (v : Tree). v.steps) c.in_ok-merge_attrs.ensures.merged in
    let z : c.at-node.new.arena.steps ≡ more c.self.inside.arena.steps 1 = ap (λ (v : Tree). v.steps) c.at-node.ensures.steps in
    let y : attrs_in (label_of c.at-node.new.arena c.at-node.result) ≡ attrs_in (label_of c.self.inside.arena (slice_index c.self.inside.stack c.args.index)) = ap (λ (v : Tree). attrs_in (label_of v c.at-node.result)) c.at-node.ensures.steps ∙ ap (λ (x : ℕ). attrs_in (label_of c.self.inside.arena x)) c.at-node.ensures.node in
    subst (λ (a : State). c.merge_attrs.new.self.steps ≡ more a.steps (1 + length (attrs_in (label_of a.tree (slice_index a.stack c.args.index))) * length c.args.attrs)) c.self.view_is
    (two-more c.self.inside.arena.steps c.at-node.new.arena.steps c.merge_attrs.new.self.steps 1 (length (attrs_in (label_of c.self.inside.arena (slice_index c.self.inside.stack c.args.index))) * length c.args.attrs) z
    (x ∙ ap (λ ds. more c.at-node.new.arena.steps (length ds * length c.args.attrs)) y))
