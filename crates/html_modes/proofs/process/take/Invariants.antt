use Rattle.std.proofs.Common.{◌≡◌, ◌+◌, ◌*◌, ◌≤◌, false, length, true}
use Rattle.html_construction.specs.Begun.{IsFounded}
use Rattle.html_construction.specs.Built.{Keeps}
use Rattle.html_construction.specs.Copies.{implied_count}
use Rattle.html_construction.specs.States.{State}
use Rattle.html_construction.specs.Weights.{weight}
use Rattle.html_construction.specs.Works.{reach_of, toll_of}
use Rattle.html_modes.specs.Begun.{begins_foreign, ignores_foreign}
use Rattle.html_modes.specs.Dispatching.{Entries}
use Rattle.html_modes.specs.Fitting.{Fits}
use Rattle.html_modes.specs.Guards.{is_text}
use Rattle.html_modes.specs.Plain.{IsNext}
use Rattle.html_modes.specs.Ranks.{rank}
use Rattle.html_modes.specs.Steps.{ClonesFew, allowance, fee_of, is_code_point, turn_of}
use Rattle.html_modes.proofs.Plain.{IsAlike}
use Rattle.html_modes.proofs.RawText.{Leaving}
use Rattle.html_modes.proofs.process.take.Given as goal

abbrev pub invariant-steps : goal.invariant-steps
invariant-steps l = record {
  fits : Fits l.page;
  parses : l.page.parses_foreign ≡ l.initial.page.parses_foreign;
  keeps : Keeps l.initial.page l.page;
  first : ignores_foreign l.initial.page.mode ≡ true → IsFounded l.initial.page → begins_foreign l.symbol ≡ true → l.page ≡ l.initial.page;
  nodes : length l.page.tree.tree.labels + 2 * (weight l.page.stack + rank l.page.mode l.symbol) + allowance (length l.initial.page.ledger.fates)
      ≤ length l.initial.page.tree.tree.labels + 2 * (weight l.initial.page.stack + rank l.initial.page.mode l.symbol) + allowance (length l.page.ledger.fates);
  clones : ClonesFew l.initial.page l.page;
  implied : implied_count l.page.tree.tree.labels + (weight l.page.stack + rank l.page.mode l.symbol)
      ≤ implied_count l.initial.page.tree.tree.labels + (weight l.initial.page.stack + rank l.initial.page.mode l.symbol);
  reach : reach_of l.initial.page ≤ reach_of l.page;
  toll : toll_of l.initial.page ≤ toll_of l.page;
  counts : l.page.tree.steps + length l.initial.page.ledger.fates * fee_of l.page + (weight l.page.stack + rank l.page.mode l.symbol) * turn_of l.page
      ≤ l.initial.page.tree.steps + length l.page.ledger.fates * fee_of l.page + (weight l.initial.page.stack + rank l.initial.page.mode l.symbol) * turn_of l.page;
  fates : length l.initial.page.ledger.fates ≤ length l.page.ledger.fates;
  ends : is_text l.initial.page.mode ≡ true → is_code_point l.symbol ≡ false → Leaving l.token l.initial.page l.page;
  plain : IsNext l.symbol l.token l.initial.page → IsAlike l.initial.page l.page;
  entered : l.entries + (weight l.page.stack + rank l.page.mode l.symbol) ≤ l.initial.entries + (weight l.initial.page.stack + rank l.initial.page.mode l.symbol);
  run : (z : State) → Entries l.symbol l.token l.page z → Entries l.symbol l.token l.initial.page z;
  falls : weight l.page.stack + rank l.page.mode l.symbol ≤ weight l.initial.page.stack + rank l.initial.page.mode l.symbol;
}

abbrev pub decreases-steps : goal.decreases-steps
decreases-steps l = weight l.page.stack + rank l.page.mode l.symbol
