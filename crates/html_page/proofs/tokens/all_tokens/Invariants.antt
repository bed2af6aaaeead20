use Rattle.std.proofs.Common.{◌≡◌, ◌+◌, ◌-◌, false, length}
use Rattle.html_tokens.specs.Cost.{AreCosted}
use Rattle.html_tokens.specs.Given.{Fed, is_stopped}
use Rattle.html_tokens.specs.Stream.{Start}
use Rattle.html_page.specs.TokenList.{nothing_fed}
use Rattle.html_page.proofs.TokenLists.{run_of}
use Rattle.html_page.proofs.tokens.all_tokens.Given as goal

abbrev pub invariant-tokens : goal.invariant-tokens
invariant-tokens l = record {
  fed : (start : Start) → Fed l.fn.tokenizer (nothing_fed start) → Fed l.tokenizer (run_of start l.text l.tokens.items);
  begun : (start : Start) × Fed l.fn.tokenizer (nothing_fed start);
  going : is_stopped l.tokenizer ≡ false;
  cost : AreCosted (length l.text) l.tokens.items;
}

abbrev pub decreases-tokens : goal.decreases-tokens
decreases-tokens l = (length l.text + 1) - length l.tokens.items
