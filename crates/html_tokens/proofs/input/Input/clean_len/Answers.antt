use Rattle.html_tokens.proofs.CopyLemmas.{clean_plain}
use Rattle.html_tokens.proofs.input.Input.clean_len.Goals as goal

pub returns-clause-plain : goal.returns-clause-plain
returns-clause-plain c = λ mode. rw (← c.unread.ensures) (clean_plain mode _ c.front_without.ensures.passes)
