use Rattle.std.proofs.Common.{take}
use Rattle.html_ledger.specs.Fated.{Fated}
use Rattle.html_ledger.specs.Known.{Knows}
use Rattle.html_ledger.proofs.judge.is_fated.Given as goal

-- the tokens so far have such fates, and the flags are theirs
abbrev pub invariant-judging : goal.invariant-judging
invariant-judging l = Fated l.fn.setting (take l.i l.tokens) (take l.i l.fates) × Knows l.fn.setting l.history (take l.i l.tokens) (take l.i l.fates)
