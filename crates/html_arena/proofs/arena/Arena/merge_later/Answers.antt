use Rattle.std.proofs.Common.{◌≡◌, ◌<◌, ◌∙◌, ap, arith, length, set, subst, sym, Err}
use Rattle.std.proofs.lemmas.Result.{err_from_is_err_and}
use Rattle.html_arena.specs.Budget.{budget}
use Rattle.html_arena.specs.Data.{IsElement, attrs_in, label_in, with_attrs}
use Rattle.html_arena.specs.Merge.{lacking, merged}
use Rattle.html_arena.specs.Tree.{Tree, label_of, more}
use Rattle.html_arena.specs.Weight.{attrs_weight, capped}
use Rattle.html_arena.proofs.Limited.{within_at}
use Rattle.html_arena.proofs.Refusals.{refused_by_budget, refused_by_memory}
use Rattle.html_arena.proofs.Relabel.{merged_arena}
use Rattle.html_arena.proofs.arena.Arena.merge_later.Goals as goal

pub invariant_of-self : goal.invariant_of-self
invariant_of-self c =
    let back = sym c.self.view_is in
    let first : c.attrs.result.now ≡ attrs_in (label_in c.self.inside.nodes.items c.args.element) = c.attrs.ensures ∙ ap attrs_in c.label_at.ensures in
    let own : c.attrs-own.result.now ≡ attrs_in (label_in c.self.inside.nodes.items c.args.element) = c.attrs-own.ensures ∙ ap attrs_in c.label_at-2.ensures in
    let held : c.lacking_held-held.result ≡ capped (attrs_weight (lacking (attrs_in (label_in c.self.inside.nodes.items c.args.element)) c.args.attrs)) =
    c.lacking_held-held.ensures ∙ ap (λ l. capped (attrs_weight (lacking c.attrs.result.now l))) c.as_slice.ensures
    ∙ ap (λ l. capped (attrs_weight (lacking l c.args.attrs))) first in
    merged_arena _ _ _ _ _ c.self.invariant c.args.element _ c.args.attrs _
    (subst (λ (t : Tree). c.args.element < length t.labels) back c.requires.node_in)
    (subst (λ (t : Tree). IsElement (label_of t c.args.element)) back c.requires.is_element)
    (c.set_attrs.ensures
    ∙ ap (λ l. set c.self.inside.nodes.items c.args.element (with_attrs (label_in c.self.inside.nodes.items c.args.element) l)) (c.in_ok-all.ensures ∙ ap (merged c.attrs-own.result.now) c.as_slice-2.ensures ∙ ap (λ l. merged l c.args.attrs) own))
    (c.saturating_add-self-inside.ensures ∙ ap (more c.self.inside.held) held)
    (within_at _ _ _ _ _ c.self.inside.limits _ c.self.view_is 0 _ (sym c.room_for.ensures ∙ c.in_ok-room_for.was) _ _ (omega arith) c.saturating_add-self-inside.ensures)

pub returns-in_err-room_for-clause-cause : goal.returns-in_err-room_for-clause-cause
returns-in_err-room_for-clause-cause c =
    let own : c.attrs.result.now ≡ attrs_in (label_in c.self.inside.nodes.items c.args.element) = c.attrs.ensures ∙ ap attrs_in c.label_at.ensures in
    let held : c.lacking_held-held.result ≡ capped (attrs_weight (lacking (attrs_in (label_of c.args.self.now c.args.element)) c.args.attrs)) =
    c.lacking_held-held.ensures ∙ ap (λ l. capped (attrs_weight (lacking c.attrs.result.now l))) c.as_slice.ensures
    ∙ ap (λ l. capped (attrs_weight (lacking l c.args.attrs))) own
    ∙ ap (λ (t : Tree). capped (attrs_weight (lacking (attrs_in (label_of t c.args.element)) c.args.attrs))) c.self.view_is in
    let room = c.room_for.ensures ∙ ap (λ n. budget c.args.self.now 0 n) held in
    let p = err_from_is_err_and c.from_residual.result c.from_residual.ensures.1 in
    rw p.1 (refused_by_budget _ _ (sym room ∙ c.in_err-room_for.was ∙ ap Err (sym p.2)))

pub returns-in_err-all-clause-cause : goal.returns-in_err-all-clause-cause
returns-in_err-all-clause-cause c =
    let own : c.attrs.result.now ≡ attrs_in (label_in c.self.inside.nodes.items c.args.element) = c.attrs.ensures ∙ ap attrs_in c.label_at.ensures in
    let held : c.lacking_held-held.result ≡ capped (attrs_weight (lacking (attrs_in (label_of c.args.self.now c.args.element)) c.args.attrs)) =
    c.lacking_held-held.ensures ∙ ap (λ l. capped (attrs_weight (lacking c.attrs.result.now l))) c.as_slice.ensures
    ∙ ap (λ l. capped (attrs_weight (lacking l c.args.attrs))) own
    ∙ ap (λ (t : Tree). capped (attrs_weight (lacking (attrs_in (label_of t c.args.element)) c.args.attrs))) c.self.view_is in
    let room = c.room_for.ensures ∙ ap (λ n. budget c.args.self.now 0 n) held in
    let p = err_from_is_err_and c.from_residual-in_err-all.result c.from_residual-in_err-all.ensures.1 in
    rw p.1 (refused_by_memory _ _ (sym room ∙ c.in_ok-room_for.was) p.2)
