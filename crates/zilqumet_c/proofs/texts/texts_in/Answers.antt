use Rattle.std.proofs.Common.{◌≡◌, ◌∙◌, Some, [], ap, sym, subst, length}
use Rattle.zilqumet_c.specs.Reads.{HasPage, HasTexts}
use Rattle.zilqumet_rows.specs.Texts.{AreTexts, all_texts}
use Rattle.zilqumet_c.proofs.texts.texts_in.Goals as goal

pub returns-in-Ok-new-clause-texts : goal.returns-in-Ok-new-clause-texts
returns-in-Ok-new-clause-texts c = λ _.
    let filled = c.put.ensures ∙ ap (λ h. Some h) c.in-Ok-new.ensures.ok in
    subst (λ h. HasPage (Some h) (λ t. HasTexts c.put.new.self.value (λ g. AreTexts g.bytes.items g.ends.items (all_texts t.arena.labels) × (c.places-told.result.count ≡ length g.ends.items)))) (sym c.in-Page.is)
    (subst (λ v. HasTexts v (λ g. AreTexts g.bytes.items g.ends.items (all_texts c.in-Page.page.tree.arena.labels) × (c.places-told.result.count ≡ length g.ends.items))) (sym filled)
    (c.in-Ok.ensures [] c.new-gathered.ensures, c.places-told.ensures))
