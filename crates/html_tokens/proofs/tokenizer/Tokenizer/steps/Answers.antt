use Rattle.std.proofs.Common.{arith}
use Rattle.html_tokens.specs.Given.{Fed}
use Rattle.html_tokens.proofs.StreamLemmas.{all_passed}
use Rattle.html_tokens.proofs.tokenizer.Tokenizer.steps.Goals as goal

pub returns-clause-all : goal.returns-clause-all
unfolding Fed
returns-clause-all c = λ run fed f all.
    let passed = all_passed c.args.self.now.machine run fed.0 f all in
    let room = c.args.self.now.in_range in
    omega (arith, passed, room, c.saturating_add.ensures)
