use Rattle.std.proofs.Common.{◌≡◌, ◌<◌, ◌≤◌, [], drop, length, take}
use Rattle.html_construction.specs.Built.{TakesRun}
use Rattle.html_construction.specs.Weights.{weight}
use Rattle.html_modes.specs.Steps.{Counts, Spends}
use Rattle.html_tokens.specs.declared.token.TokenKind.{TokenKind}
use Rattle.html_construction.specs.Plans.{Each, Ending, Plan, Runs}
use Rattle.html_construction.specs.States.{State}
use Rattle.html_modes.specs.Rules.{plan}
use Rattle.html_modes.proofs.RulesInTableText.{kept_plan}
use Rattle.html_modes.proofs.modes.table_text.flush.Given as goal

abbrev pub invariant-flushing : goal.invariant-flushing
invariant-flushing l = record {
  rest : l.page ≡ record l.initial.page { tree = l.page.tree; ledger = l.page.ledger; stack = l.page.stack; frameset_ok = l.page.frameset_ok; fostering = l.page.fostering };
  run : TakesRun (take l.c-index l.c-items) l.initial.page l.page;
  lighter : weight l.page.stack ≤ weight l.initial.page.stack;
  opened : 0 < length l.page.stack;
  quiet : l.page.ledger.kept ≡ [];
  listed : length l.page.tree.list ≤ length l.page.ledger.fates;
  spends : Spends 0 l.initial.page l.page;
  counts : Counts 24 0 0 l.initial.page l.page;
  follows : (t : TokenKind) (p : Plan) (e : Ending) (z : State) → Runs plan (Each (drop l.c-index l.c-items) (kept_plan l.stays) p) t l.page e z → Runs plan (Each l.c-items (kept_plan l.stays) p) t l.initial.page e z;
}
