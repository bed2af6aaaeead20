use Rattle.std.proofs.Common.{◌≡◌, ◌<◌, ℕ, ◌∙◌, sym, ap, subst, true, false, get_or, Some}
use Rattle.html_arena.specs.Siblings.{has}
use Rattle.html_open.proofs.Lists.{get_or-default, has-at}
use Rattle.std.specs.Str.{chars}
use Rattle.html_tree.specs.Searching.{has_name, is_special_at}
use Rattle.html_tree.proofs.Searches.{before-none, before-other, before-some}
use Rattle.html_tree.proofs.search.named_at.Goals as goal

pub is_name-requires : goal.is_name-requires
is_name-requires c = c.requires.nodes_in c.index-nodes-index.result
    (subst (λ (x : ℕ). has x c.args.nodes.now ≡ true) (sym c.index-nodes-index.is) (has-at c.args.nodes.now c.in-Some.index c.index-nodes-index.result (subst (λ o. Rattle.html_open.specs.Lists.IsBelow (Rattle.std.proofs.Common.length c.args.nodes.now) o) c.in-Some.is c.requires.at_in)))

pub returns-in-None-clause-index : goal.returns-in-None-clause-index
returns-in-None-clause-index c = before-none (has_name c.args.arena.now (chars c.args.name.now)) (is_special_at c.args.arena.now) c.args.nodes.now (sym c.in-None.is ∙ c.requires.stopped)

pub returns-then-is_name-clause-index : goal.returns-then-is_name-clause-index
returns-then-is_name-clause-index c =
    before-some (has_name c.args.arena.now (chars c.args.name.now)) (is_special_at c.args.arena.now) c.args.nodes.now c.in-Some.index (sym c.in-Some.is ∙ c.requires.stopped)
    (ap (has_name c.args.arena.now (chars c.args.name.now)) (get_or-default c.args.nodes.now c.in-Some.index 0 c.index-nodes-index.result (subst (λ o. Rattle.html_open.specs.Lists.IsBelow (Rattle.std.proofs.Common.length c.args.nodes.now) o) c.in-Some.is c.requires.at_in) ∙ sym c.index-nodes-index.is) ∙ sym c.is_name.ensures ∙ c.if-is_name.true)

pub returns-else-is_name-clause-index : goal.returns-else-is_name-clause-index
returns-else-is_name-clause-index c =
    before-other (has_name c.args.arena.now (chars c.args.name.now)) (is_special_at c.args.arena.now) c.args.nodes.now c.in-Some.index (sym c.in-Some.is ∙ c.requires.stopped)
    (ap (has_name c.args.arena.now (chars c.args.name.now)) (get_or-default c.args.nodes.now c.in-Some.index 0 c.index-nodes-index.result (subst (λ o. Rattle.html_open.specs.Lists.IsBelow (Rattle.std.proofs.Common.length c.args.nodes.now) o) c.in-Some.is c.requires.at_in) ∙ sym c.index-nodes-index.is) ∙ sym c.is_name.ensures ∙ c.if-is_name.false)
