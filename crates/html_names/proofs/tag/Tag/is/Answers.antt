use Rattle.std.proofs.Common.{◌∙◌, ap, sym, eq-eqb}
use Rattle.std.proofs.lemmas.Bool.Decides.{Decides-eqb}
use Rattle.html_names.specs.Tags.{number}
use Rattle.html_names.proofs.Numbers.{number_injective}
use Rattle.html_names.proofs.tag.Tag.is.Goals as goal

pub returns-clause-equal : goal.returns-clause-equal
returns-clause-equal c = (
  λ h. number_injective _ _ (sym c.number.ensures ∙ (Decides-eqb _ _).0 h ∙ c.number-2.ensures),
  λ e. eq-eqb _ _ (c.number.ensures ∙ ap number e ∙ sym c.number-2.ensures),
)
