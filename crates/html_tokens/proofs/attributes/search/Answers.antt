use Rattle.std.proofs.Common.{◌∙◌, ap, sym}
use Rattle.std.specs.Str.{bytes_eq}
use Rattle.html_tokens.specs.declared.attributes.Attr.{Attr}
use Rattle.html_tokens.proofs.ComparisonLemmas.{comparisons_at, comparisons_end}
use Rattle.html_tokens.proofs.attributes.search.Goals as goal

pub returns-then-eq-clause-count : goal.returns-then-eq-clause-count
returns-then-eq-clause-count c =
    let same = ap (λ (a : Attr). bytes_eq a.name c.args.name.now) (sym c.attr-item.is) ∙ sym c.eq.ensures.value ∙ c.if-eq.true in
    rw c.loop-attr.invariant.compared (sym (comparisons_at c.args.name.now c.args.attrs.now c.loop-attr.attr-index _ c.loop-attr.invariant.none c.loop-attr-test.true same))

pub returns-clause-count : goal.returns-clause-count
returns-clause-count c =
    rw c.loop-attr.invariant.compared (comparisons_end c.args.name.now c.args.attrs.now c.loop-attr.attr-index c.loop-attr.invariant.none c.loop-attr.auto.attr-index-end c.loop-attr-test.false)
