use Rattle.std.proofs.Common.{sym}
use Rattle.html_tokens.proofs.ToldLemmas.{opens_both, opens_none}
use Rattle.html_tokens.proofs.faults.Faults.value_start.Goals as goal

pub returns-then-is_quote-clause-opens : goal.returns-then-is_quote-clause-opens
returns-then-is_quote-clause-opens c = rw (sym c.if-is_quote.ensures) (opens_none c.args.self.now)

pub returns-clause-opens : goal.returns-clause-opens
returns-clause-opens c = rw (sym c.if-is_quote.ensures) (opens_both _ _ c.args.self.now c.tell_if.new.self c.unquoted_char.new.self c.tell_if.ensures.opens c.unquoted_char.ensures.opens)
