use Rattle.std.proofs.Common.{◌≡◌, ◌∙◌, ◌+◌, ap, sym, subst, ◌++◌, ◌∷◌, [], take, append-nil}
use Rattle.std.specs.Str.{chars}
use Rattle.std.proofs.lemmas.List.{take_all}
use Rattle.zilqumet_rows.specs.Texts.{AreTexts, attr_texts}
use Rattle.zilqumet_rows.proofs.Gathering.{attr_more, two_more}
use Rattle.zilqumet_rows.proofs.gathered.Gathered.add_attrs.Goals as goal

pub attrs-init : goal.attrs-init
attrs-init c = λ texts a. rw (append-nil texts) a

pub attrs-preserved : goal.attrs-preserved
attrs-preserved c = λ texts a.
    let attr = c.index-attrs-i.result in
    let some = attr_texts (take c.attrs.i c.args.attrs.now) in
    let b = c.in_ok-add-2.ensures _ (c.in_ok-add.ensures _ (c.attrs.invariant texts a)) in
    let same : ((texts ++ some) ++ chars c.as_str.result.now ∷ []) ++ chars c.as_str-in-attrs.result.now ∷ [] ≡ texts ++ attr_texts (take (c.attrs.i + 1) c.args.attrs.now) =
    two_more texts some (chars c.as_str.result.now) (chars c.as_str-in-attrs.result.now)
    ∙ ap (λ x. texts ++ (some ++ x ∷ chars c.as_str-in-attrs.result.now ∷ [])) c.as_str.ensures.code_points
    ∙ ap (λ x. texts ++ (some ++ attr.name ∷ x ∷ [])) c.as_str-in-attrs.ensures.code_points
    ∙ ap (λ l. texts ++ l) (sym (attr_more c.args.attrs.now c.attrs.i attr c.attrs-test.true c.index-attrs-i.is)) in
    subst (λ l. AreTexts c.add-in-attrs.new.self.bytes.items c.add-in-attrs.new.self.ends.items l) same b

pub returns : goal.returns
returns c = λ texts a.
    subst (λ l. AreTexts c.attrs.self.bytes.items c.attrs.self.ends.items (texts ++ attr_texts l)) (take_all c.attrs.i c.args.attrs.now c.attrs-test.false) (c.attrs.invariant texts a)
