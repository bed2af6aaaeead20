use Rattle.std.proofs.Common.{None, ◌∙◌, sym}
use Rattle.std.proofs.lemmas.Bool.{false≢true}
use Rattle.html_tokens.proofs.PartLemmas.{quiet_char, quiet_looks}
use Rattle.html_tokens.proofs.machine.going_on.quiet_after.Goals as goal

pub returns-then-not-may_tell-clause-quiet : goal.returns-then-not-may_tell-clause-quiet
returns-then-not-may_tell-clause-quiet c = λ place. quiet_char c.args.part c.args.c None place (sym c.if-not-may_tell.ensures) c.requires.slash

pub returns-then-not-may_tell-clause-looks : goal.returns-then-not-may_tell-clause-looks
returns-then-not-may_tell-clause-looks c = λ e. absurd (false≢true (sym (quiet_looks c.args.part c.args.c (sym c.if-not-may_tell.ensures) c.requires.slash) ∙ e))
