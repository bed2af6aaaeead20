use Rattle.std.proofs.Common.{◌≡◌, ◌∙◌, Some, eqb, sym, ap, true}
use Rattle.html_open.specs.Lists.{last_index}
use Rattle.html_open.proofs.Lists.{without_last-some}
use Rattle.html_tree.specs.Paragraphs.{ends_p_search, is_p_end}
use Rattle.html_tree.proofs.paragraphs.forget_end.Goals as goal

pub returns-in-Some : goal.returns-in-Some
returns-in-Some c =
    let yes : is_p_end c.args.arena.now c.args.node ≡ true = ap ends_p_search (sym c.tag.ensures.value) ∙ sym c.ends_p_search.ensures ∙ c.if-ends_p_search.true in
    let at : last_index (eqb c.args.node) c.args.ends.now.items ≡ Some c.in-Some.index = ap (last_index (eqb c.args.node)) (sym c.as_slice.ensures.value) ∙ sym c.in-Some.ensures.index in
    record { items = rw yes (c.remove.ensures.items ∙ without_last-some (eqb c.args.node) c.args.ends.now.items c.in-Some.index at) }
