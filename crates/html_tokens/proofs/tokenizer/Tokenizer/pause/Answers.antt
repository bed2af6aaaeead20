use Rattle.std.specs.Prelude.{refl}
use Rattle.html_tokens.proofs.tokenizer.Tokenizer.pause.Goals as goal

pub returns : goal.returns
returns c = record { paused = record { input = refl; place = refl; mode = refl; last_name = refl; state = refl; faults = refl; failed = refl } }
