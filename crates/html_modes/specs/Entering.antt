-- Claimed.
-- How often tokens enter the rules of a mode (13.2.6).
use Rattle.std.specs.Prelude.{ℕ, ◌+◌, ◌*◌, ◌≤◌}
use Rattle.html_construction.specs.States.{State}
use Rattle.html_construction.specs.Weights.{weight}
use Rattle.html_modes.specs.Ranks.{top_rank}

-- From so many entries to so many: what the open elements and the mode count pays for them, and sixteen more for each token.
abbrev pub Enters : (tokens before after : ℕ) → State → State → Type 0
Enters tokens before after a b = after + (weight b.stack + top_rank b.mode) ≤ before + (weight a.stack + top_rank a.mode) + 16 * tokens
