-- Claimed.
-- What a device in memory still lets pass.
use Rattle.std.specs.Prelude.{ℕ}
use Rattle.html_device.specs.declared.fail_at.FailAt.{FailAt}

-- how many calls it lets pass
abbrev pub calls_left : FailAt → ℕ
calls_left d = d.calls_left

-- the most bytes that a call moves
abbrev pub piece_of : FailAt → ℕ
piece_of d = d.piece
