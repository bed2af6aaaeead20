-- Claimed.
-- A tokenizer, and all of it but its table.
use Rattle.std.specs.Prelude.{◌≡◌}
use Rattle.html_tokens.specs.declared.paused.PausedTokenizer.{PausedTokenizer}
use Rattle.html_tokens.specs.declared.tokenizer.Tokenizer.{Tokenizer}

pub record IsPaused (p : PausedTokenizer) (t : Tokenizer) : Type 0 where
  pub input : p.input ≡ t.machine.input
  pub place : p.place ≡ t.machine.place
  pub mode : p.mode ≡ t.machine.mode
  pub last_name : p.last_name ≡ t.machine.last_name
  pub state : p.state ≡ t.machine.state
  pub faults : p.faults ≡ t.faults
  pub failed : p.failed ≡ t.failed
