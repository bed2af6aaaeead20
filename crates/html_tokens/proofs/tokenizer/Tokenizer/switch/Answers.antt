use Rattle.html_tokens.specs.Given.{Fed, Awaits}
use Rattle.html_tokens.proofs.ScriptLemmas.{ends_somewhere, ends_there}
use Rattle.html_tokens.proofs.StreamLemmas.{said}
use Rattle.html_tokens.proofs.ToldLemmas.{told_said}
use Rattle.html_tokens.proofs.tokenizer.Tokenizer.switch.Goals as goal

pub returns-clause-script : goal.returns-clause-script
returns-clause-script c = λ name text end e. ends_there e.0 _ name text end e.1

pub returns-clause-ends : goal.returns-clause-ends
returns-clause-ends c = λ name text. ends_somewhere _ name text

pub returns-clause-awaited : goal.returns-clause-awaited
unfolding Fed Awaits
returns-clause-awaited c = λ run token h a. rw c.switch.ensures (said token c.args.mode c.args.self.now.machine run h a.0, a.1, told_said token c.args.mode c.args.self.now.machine c.args.self.now.faults run h a.2)
