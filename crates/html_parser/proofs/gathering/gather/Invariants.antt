use Rattle.std.proofs.Common.{◌≡◌, ◌≤◌, ◌+◌, ◌-◌, false, length}
use Rattle.html_tokens.specs.Given.{Fed, fed_len, is_stopped}
use Rattle.html_parser.specs.Gathered.{Gathers}
use Rattle.html_parser.specs.Tokenizing.{IsTokenizing}
use Rattle.html_parser.proofs.gathering.gather.Given as goal

abbrev pub invariant-tokens : goal.invariant-tokens
invariant-tokens l =
    Gathers l.initial.tokenizer l.initial.kept l.kept l.initial.text.items l.text.items (Fed l.tokenizer)
    × IsTokenizing l.tokenizer l.kept.starts
    × (is_stopped l.tokenizer ≡ false)
    × (fed_len l.tokenizer ≤ fed_len l.initial.tokenizer)
    × (l.kept.keeps_tokens ≡ l.initial.kept.keeps_tokens)

abbrev pub decreases-tokens : goal.decreases-tokens
decreases-tokens l = (fed_len l.tokenizer + 1) - length l.kept.starts
