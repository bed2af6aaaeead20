use Rattle.std.proofs.Common.{◌≡◌, ◌<◌, ℕ, ◌∙◌, sym, ap, subst, true, false, get_or, Some}
use Rattle.html_arena.specs.Siblings.{has}
use Rattle.html_open.proofs.Lists.{get_or-default, has-at}
use Rattle.std.specs.Str.{chars}
use Rattle.html_tree.specs.Foreign.{is_foreign_named, is_html_at}
use Rattle.html_tree.proofs.Searches.{before-none, before-other, before-some}
use Rattle.html_tree.proofs.foreign.foreign_at.Goals as goal

pub is_foreign_named-requires : goal.is_foreign_named-requires
is_foreign_named-requires c = c.requires.nodes_in c.index-nodes-index.result
    (subst (λ (x : ℕ). has x c.args.nodes.now ≡ true) (sym c.index-nodes-index.is) (has-at c.args.nodes.now c.in-Some.index c.index-nodes-index.result (subst (λ o. Rattle.html_open.specs.Lists.IsBelow (Rattle.std.proofs.Common.length c.args.nodes.now) o) c.in-Some.is c.requires.at_in)))

pub returns-in-None-clause-index : goal.returns-in-None-clause-index
returns-in-None-clause-index c = before-none (is_foreign_named c.args.arena.now (chars c.args.name.now)) (is_html_at c.args.arena.now) c.args.nodes.now (sym c.in-None.is ∙ c.requires.stopped)

pub returns-then-is_foreign_named-clause-index : goal.returns-then-is_foreign_named-clause-index
returns-then-is_foreign_named-clause-index c =
    before-some (is_foreign_named c.args.arena.now (chars c.args.name.now)) (is_html_at c.args.arena.now) c.args.nodes.now c.in-Some.index (sym c.in-Some.is ∙ c.requires.stopped)
    (ap (is_foreign_named c.args.arena.now (chars c.args.name.now)) (get_or-default c.args.nodes.now c.in-Some.index 0 c.index-nodes-index.result (subst (λ o. Rattle.html_open.specs.Lists.IsBelow (Rattle.std.proofs.Common.length c.args.nodes.now) o) c.in-Some.is c.requires.at_in) ∙ sym c.index-nodes-index.is) ∙ sym c.is_foreign_named.ensures ∙ c.if-is_foreign_named.true)

pub returns-else-is_foreign_named-clause-index : goal.returns-else-is_foreign_named-clause-index
returns-else-is_foreign_named-clause-index c =
    before-other (is_foreign_named c.args.arena.now (chars c.args.name.now)) (is_html_at c.args.arena.now) c.args.nodes.now c.in-Some.index (sym c.in-Some.is ∙ c.requires.stopped)
    (ap (is_foreign_named c.args.arena.now (chars c.args.name.now)) (get_or-default c.args.nodes.now c.in-Some.index 0 c.index-nodes-index.result (subst (λ o. Rattle.html_open.specs.Lists.IsBelow (Rattle.std.proofs.Common.length c.args.nodes.now) o) c.in-Some.is c.requires.at_in) ∙ sym c.index-nodes-index.is) ∙ sym c.is_foreign_named.ensures ∙ c.if-is_foreign_named.false)
