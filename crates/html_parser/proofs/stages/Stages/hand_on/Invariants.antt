use Rattle.std.proofs.Common.{◌≡◌, ◌+◌, ◌-◌, ℕ, Bool, List, length}
use Rattle.html_tokens.specs.Given.{fed_len}
use Rattle.html_tokens.specs.Stream.{Run}
use Rattle.html_parser.specs.Staged.{IsFurther, IsRun}
use Rattle.html_parser.specs.Start.{Start}
use Rattle.html_parser.proofs.stages.Stages.hand_on.Given as goal

abbrev pub invariant-tokens : goal.invariant-tokens
invariant-tokens l =
    ((start : Start) (finished : Bool) (bytes : List ℕ) (run : Run) → IsRun start finished l.initial.self bytes run → IsFurther start finished l.self bytes run.text)
    × (l.self.kept.keeps_tokens ≡ l.initial.self.kept.keeps_tokens)

abbrev pub decreases-tokens : goal.decreases-tokens
decreases-tokens l = (fed_len l.self.tokenizer + 1) - length l.self.kept.starts
