use Rattle.html_tokens.proofs.BareLemmas.{name_chars}
use Rattle.html_tokens.proofs.bare_tag.BareTag.name.Goals as goal

pub returns-clause-code_points : goal.returns-clause-code_points
returns-clause-code_points c = rw (← c.self.view_is) (name_chars _ c.self.invariant.1)
