use Rattle.std.proofs.Common.{◌≡◌, ◌+◌, ◌-◌, ◌^◌, ◌<◌, min, length, take, drop, sym, ◌∙◌, ap, subst, arith, List}
use Rattle.std.proofs.lemmas.List.{take_rest}
use Rattle.std.specs.List.{sum_by}
use Rattle.html_arena.specs.Tree.{Tree, label_of}
use Rattle.html_arena.specs.Weight.{capped, held_beside, weight}
use Rattle.html_arena.proofs.Replacing.{beside-parts, two_capped}
use Rattle.html_arena.proofs.arena.Arena.others_held.Goals as goal

pub returns : goal.returns
returns c =
    let ds = c.self.inside.nodes.items in
    let x = c.args.node in
    let n : x < length ds = subst (λ (t : Tree). x < length t.labels) (sym c.self.view_is) c.requires in
    let before : c.all_held-before.result ≡ capped (sum_by weight (take x ds)) =
    c.all_held-before.ensures ∙ ap (λ i. capped (sum_by weight (take i c.deref.result.now))) c.index.ensures ∙ ap (λ l. capped (sum_by weight (take x l))) c.deref.ensures.value in
    let after : c.all_held-after.result ≡ capped (sum_by weight (drop (x + 1) ds)) =
    c.all_held-after.ensures ∙ ap (λ i. capped (sum_by weight (take (length c.deref-2.result.now - (i + 1)) (drop (i + 1) c.deref-2.result.now)))) c.index-2.ensures
    ∙ ap (λ l. capped (sum_by weight l)) (take_rest c.deref-2.result.now (x + 1)) ∙ ap (λ l. capped (sum_by weight (drop (x + 1) l))) c.deref-2.ensures.value in
    c.saturating_add.ensures
    ∙ ap (λ n. capped (n + c.all_held-after.result)) before
    ∙ ap (λ n. capped (capped (sum_by weight (take x ds)) + n)) after
    ∙ two_capped (sum_by weight (take x ds)) (sum_by weight (drop (x + 1) ds)) (2 ^ 128 - 1)
    ∙ ap capped (beside-parts ds x n)
    ∙ ap (λ (t : Tree). capped (held_beside t.labels x)) c.self.view_is
