use Rattle.std.proofs.Common.{◌≡◌, ◌+◌, ◌-◌, ◌∙◌, arith, drop, false, refl, sym, take}
use Rattle.std.proofs.lemmas.List.{drop-drop}
use Rattle.html_tokens.specs.Tag.{has_name}
use Rattle.html_tokens.specs.Whole.{quote_len}
use Rattle.html_tokens.proofs.WholeLemmas.{copies_whole}
use Rattle.html_tokens.proofs.tag.TagDraft.add_whole.Goals as goal

pub returns-clause-copies : goal.returns-clause-copies
returns-clause-copies c =
    let text = c.args.text.now in
    let whole = c.args.whole in
    let q = quote_len whole.end in
    let e : 1 + q + whole.value - (1 + q) ≡ whole.value = omega arith in
    let named : c.push_all.new.text ≡ take whole.name text = rw (c.new-name.ensures, c.split_at.ensures.front) at c.in_ok-push_all.ensures.ok in
    let valued : c.push_all-2.new.text ≡ take whole.value (drop q (drop 1 (drop whole.name text))) = rw (c.new-value.ensures, c.split_at.ensures.back, c.quote_len-from.ensures, e, ← drop-drop q 1 (drop whole.name text)) at c.in_ok-push_all-2.ensures.ok in
    let has : has_name (take whole.name text) c.args.self.now.attrs ≡ false = rw (← named) (sym c.search-found.ensures.found ∙ c.if-found.false) in
    copies_whole c.args.self.now _ text whole c.requires.part c.requires.whole has (rw (c.in_ok-push.ensures.ok, named, valued) refl)
