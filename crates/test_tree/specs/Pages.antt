-- For this crate's own functions.
-- What is known of a page under way.
use Rattle.std.specs.Prelude.{◌≡◌, ℕ, ◌≤◌, Bool, true, None}
use Rattle.html_tree.specs.States.{State}

-- where the last call says so: the next token is n, and no body gave way to a frameset if it is still there
abbrev pub IsPage : State → ℕ → Bool → Bool → Type 0
IsPage a n known attached = known ≡ true → (a.tokens ≤ n) × (attached ≡ true → a.detached ≡ None)
