use Rattle.std.proofs.Common.{ap, ◌∙◌}
use Rattle.std.specs.Str.{bytes_eq, chars}
use Rattle.html_text.proofs.Texts.{same_text}
use Rattle.html_tree.proofs.search.is_name.Goals as goal

pub returns : goal.returns
returns c = c.eq.ensures ∙ same_text c.name.result.now c.args.name.now c.name.utf8 c.utf8.name ∙ ap (λ v. bytes_eq v (chars c.args.name.now)) c.name.ensures
