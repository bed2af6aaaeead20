-- Claimed.
-- Where a node stands: what is above it, by way of a template's contents too (DOM 4.2.3, host-including inclusive ancestors).
use Rattle.std.specs.Prelude.{ℕ, zero, suc, Bool, true, false, cond, eqb, ◌&&◌, nat_lt, is_none, length}
use Rattle.html_arena.specs.Below.{above, or_self}
use Rattle.html_arena.specs.Data.{host_in}
use Rattle.html_arena.specs.Tree.{Tree, label_of}

-- the nodes above x come to an end after fewer than n steps
abbrev pub ends_within : ℕ → Tree → ℕ → Bool
ends_within zero t x = false
ends_within (suc n) t x = cond (is_none (above t x)) true (ends_within n t (or_self x (above t x)))

-- there is such a node, it is no Contents node, and it does not stand below itself
abbrev pub is_placed : Tree → ℕ → Bool
is_placed t x = nat_lt x (length t.labels) && (is_none (host_in (label_of t x)) && ends_within (length t.labels) t x)

-- c is x, or stands above it after fewer than n steps, or these do not lead to an end
abbrev pub meets_within : ℕ → Tree → ℕ → ℕ → Bool
meets_within zero t c x = true
meets_within (suc n) t c x = cond (eqb c x) true (cond (is_none (above t x)) false (meets_within n t c (or_self x (above t x))))

-- the template whose contents x are, or x itself
abbrev pub holder : Tree → ℕ → ℕ
holder t x = or_self x (host_in (label_of t x))

-- c linked below x would stand below itself
abbrev pub would_cycle : Tree → ℕ → ℕ → Bool
would_cycle t c x = meets_within (length t.labels) t c (holder t x)
