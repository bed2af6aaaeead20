-- Claimed.
-- How much calls add.
use Rattle.std.specs.Prelude.{◌≡◌, ℕ, ◌+◌, ◌≤◌, length}
use Rattle.html_construction.specs.Copies.{implied_count, most_clones}
use Rattle.html_construction.specs.States.{State}

-- So many more fates, at most so many more nodes, and at most so many more entries of the list of active formatting elements; no node goes. Of the
-- element of one token at most so many more clones, and at most so many more elements that no token asked for.
abbrev pub Grown : ℕ → ℕ → ℕ → ℕ → ℕ → State → State → Type 0
Grown fates nodes entries clones implied a b =
    (length b.ledger.fates ≡ length a.ledger.fates + fates)
    × ((length b.tree.tree.labels ≤ length a.tree.tree.labels + nodes)
    × ((length b.tree.list ≤ length a.tree.list + entries)
    × ((length a.tree.tree.labels ≤ length b.tree.tree.labels)
    × ((most_clones b.tree.tree.labels ≤ most_clones a.tree.tree.labels + clones)
    × (implied_count b.tree.tree.labels ≤ implied_count a.tree.tree.labels + implied)))))
