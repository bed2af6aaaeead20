use Rattle.std.proofs.Common.{◌∙◌, Bool, sym, ap, if◌then◌else◌}
use Rattle.html_names.specs.declared.tag.Tag.TheVariants as tag
use Rattle.html_names.specs.Names.{name_of, tag_of}
use Rattle.html_tree.proofs.Spelled.{chars-name}
use Rattle.html_construction.specs.Tokens.{tag_name}
use Rattle.html_construction.proofs.Results.{if-ok}
use Rattle.html_construction.proofs.token.copy_element_name.Goals as goal

pub returns-then-is : goal.returns-then-is
returns-then-is c = record {
  name = if-ok c.of.result c.of.ensures (λ n e.
      chars-name tag.Img c.name.result.now n c.name.utf8 c.name.ensures.value c.name.ensures.back e
      ∙ sym (ap (λ (b : Bool). if b then name_of tag.Img else tag_name c.args.token.now) (sym c.is.ensures.value ∙ c.if-is.true)));
  tag = if-ok c.of.result c.of.ensures (λ n e. λ k.
      ap tag_of (chars-name tag.Img c.name.result.now n c.name.utf8 c.name.ensures.value c.name.ensures.back e ∙ sym c.name.ensures.value) ∙ c.name.ensures.back
      ∙ sym (ap (λ (b : Bool). if b then tag.Img else c.args.tag) (sym c.is.ensures.value ∙ c.if-is.true)));
}

pub returns-else-is-clause-tag : goal.returns-else-is-clause-tag
returns-else-is-clause-tag c = if-ok c.copy_name.result c.copy_name.ensures.tag (λ n e. λ k.
    e c.args.tag k ∙ sym (ap (λ (b : Bool). if b then tag.Img else c.args.tag) (sym c.is.ensures.value ∙ c.if-is.false)))
