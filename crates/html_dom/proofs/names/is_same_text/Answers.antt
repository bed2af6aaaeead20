use Rattle.std.proofs.Common.{◌∙◌}
use Rattle.html_text.proofs.Texts.{same_text}
use Rattle.html_dom.proofs.names.is_same_text.Goals as goal

pub returns : goal.returns
returns c = c.eq.ensures ∙ same_text c.args.one.now c.args.other.now c.utf8.one c.utf8.other
