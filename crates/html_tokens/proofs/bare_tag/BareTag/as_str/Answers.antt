use Rattle.html_tokens.proofs.BareLemmas.{spelled_chars, spelled_plain}
use Rattle.html_tokens.proofs.bare_tag.BareTag.as_str.Goals as goal

pub returns-clause-code_points : goal.returns-clause-code_points
returns-clause-code_points c = rw (← c.self.view_is) (spelled_chars _ _ c.self.invariant.0 c.self.invariant.1)

pub returns-clause-plain : goal.returns-clause-plain
returns-clause-plain c = rw (← c.self.view_is) (spelled_plain _ c.self.invariant.1)
