use Rattle.html_tokens.specs.Given.{Fed, told}
use Rattle.html_tokens.proofs.ToldLemmas.{whole_told}
use Rattle.html_tokens.proofs.tokenizer.Tokenizer.errors.Goals as goal

pub returns-clause-whole : goal.returns-clause-whole
unfolding Fed told
returns-clause-whole c = λ run h finished all. rw c.as_slice.ensures.list (whole_told c.args.self.now.machine c.args.self.now.faults run h.0 h.1 h.2 finished all)
