-- Claimed, but for this crate's own functions: IsRefused, Steps, Falls, Grows, Spends, Worked, Counts, Counted.
-- What one entry of a token into the rules of a mode does (13.2.6).
use Rattle.std.specs.Prelude.{ℕ, ◌+◌, ◌*◌, ◌≡◌, ◌<◌, ◌≤◌, Bool, true, false, length}
use Rattle.html_tokens.specs.declared.token.TokenKind.{TokenKind}
use Rattle.html_ledger.specs.declared.symbol.Symbol.{Symbol}
use Rattle.html_ledger.specs.declared.symbol.Symbol.TheVariants.{Char, Start}
use Rattle.html_ledger.specs.Symbols.{symbol_of}
use Rattle.html_names.specs.declared.foreign.Space.{Space}
use Rattle.html_names.specs.declared.foreign.Space.TheVariants as space
use Rattle.html_names.specs.declared.tag.Tag.TheVariants as tag
use Rattle.html_construction.specs.Built.{Keeps, Takes}
use Rattle.html_construction.specs.Copies.{implied_count, most_clones}
use Rattle.html_construction.specs.Grown.{Grown}
use Rattle.html_construction.specs.States.{State}
use Rattle.html_construction.specs.Tokens.{attrs_of}
use Rattle.html_construction.specs.Weights.{weight}
use Rattle.html_construction.specs.Works.{Works, reach_of, span_of, toll_of}
use Rattle.html_modes.specs.Ranks.{rank, top_rank}
use Rattle.html_modes.specs.declared.outcome.Outcome.{Outcome}
use Rattle.html_modes.specs.declared.outcome.Outcome.TheVariants.{Done, Reprocess, Foreign}
use Rattle.html_modes.specs.declared.outcome.Foreign.{Foreign as Root}
use Rattle.html_modes.specs.declared.outcome.Foreign.TheVariants as root

-- the start tag of the root of a kind of foreign content
abbrev pub root_of : Root → Symbol
root_of root.Svg = Start tag.Svg
root_of root.Math = Start tag.Math

-- the namespace of one
abbrev pub root_space : Root → Space
root_space root.Svg = space.Svg
root_space root.Math = space.Math

-- the token is the start tag of foreign content, which is refused
abbrev pub IsRefused : Root → TokenKind → State → Type 0
IsRefused name t a = (symbol_of t ≡ root_of name) × (a.parses_foreign ≡ false)

-- the token was handed in, is still in hand, or is the start tag of foreign content that is refused
abbrev pub Steps : Outcome → TokenKind → State → State → Type 0
Steps Done t a b = Takes t a b
Steps Reprocess t a b = Keeps a b
Steps (Foreign name) t a b = IsRefused name t a

-- what open elements and the mode count together falls, and rises by fifteen at most where the token is done with
abbrev pub Falls : Outcome → Symbol → State → State → Type 0
Falls Done t a b = weight b.stack + top_rank b.mode ≤ weight a.stack + 15
Falls Reprocess t a b = weight b.stack + rank b.mode t < weight a.stack + rank a.mode t
Falls (Foreign name) t a b = Unit {0}

-- A token makes at most the clones of two reopenings and of an adoption, which of one token's element are ten, and four nodes; any other entry makes
-- two. Either makes one element at most that no token asked for.
abbrev pub Grows : Outcome → State → State → Type 0
Grows Done a b = Grown 1 (length a.ledger.fates + length a.ledger.fates + 36) 1 10 1 a b
Grows Reprocess a b = Grown 0 2 0 0 1 a b
Grows (Foreign name) a b = Grown 0 2 0 0 1 a b

-- the nodes that so many tokens may have made, apart from those of entries that end with the token in hand
abbrev pub allowance : ℕ → ℕ
allowance t = t * t + 35 * t

-- Of one token's element ten more clones are made at most for each token that was done with.
abbrev pub ClonesFew : State → State → Type 0
ClonesFew a b =
    most_clones b.tree.tree.labels + 10 * length a.ledger.fates ≤ most_clones a.tree.tree.labels + 10 * length b.ledger.fates

-- What was made keeps to the allowance of the tokens that were done with, but for so many nodes; and so do the clones. For every two of those nodes there
-- is one more element at most that no token asked for.
abbrev pub Spends : ℕ → State → State → Type 0
Spends more a b =
    (length b.tree.tree.labels + allowance (length a.ledger.fates) ≤ length a.tree.tree.labels + allowance (length b.ledger.fates) + more)
    × (ClonesFew a b
    × (2 * implied_count b.tree.tree.labels ≤ 2 * implied_count a.tree.tree.labels + more))

-- a code point
abbrev pub is_code_point : Symbol → Bool
is_code_point (Char c) = true
is_code_point _ = false

-- One token makes what its allowance grants, and what the open elements and the mode then count is room for later entries: each makes one element at
-- most that no token asked for.
abbrev pub Pays : State → State → Type 0
Pays a b =
    (length b.tree.tree.labels + 2 * (weight b.stack + top_rank b.mode) + allowance (length a.ledger.fates)
    ≤ length a.tree.tree.labels + 2 * (weight a.stack + top_rank a.mode) + 32 + allowance (length b.ledger.fates))
    × (ClonesFew a b
    × ((implied_count b.tree.tree.labels ≤ implied_count a.tree.tree.labels + (weight a.stack + top_rank a.mode) + 1)
    × (implied_count b.tree.tree.labels + (weight b.stack + top_rank b.mode) ≤ implied_count a.tree.tree.labels + (weight a.stack + top_rank a.mode) + 16)))

-- HOW MANY STEPS

-- the attributes of a token, each compared with as many as may be
abbrev pub compared : TokenKind → State → ℕ
compared t b = length (attrs_of t) * span_of b

-- An entry calls the tree so often at most, and reconstructs and adopts only where the token is done with.
abbrev pub Worked : Outcome → TokenKind → State → State → Type 0
Worked Done t a b = Works 24 10 (compared t b + 24) a b
Worked Reprocess t a b = Works 24 0 24 a b
Worked (Foreign name) t a b = Unit {0}

-- the most steps of an entry after which the token is still in hand, and one that the entry counts itself
abbrev pub turn_of : State → ℕ
turn_of a = 26 * reach_of a + 25

-- the most steps for a token that gets its fate, apart from the attributes that are compared
abbrev pub fee_of : State → ℕ
fee_of a = 10 * toll_of a + 26 * reach_of a + 50

-- so many entries, each of which calls the tree so often at most, and a fee for each token that got its fate
abbrev pub Counts : ℕ → ℕ → ℕ → State → State → Type 0
Counts calls entries more a b =
    (reach_of a ≤ reach_of b)
    × ((toll_of a ≤ toll_of b)
    × ((length a.ledger.fates ≤ length b.ledger.fates)
    × (b.tree.steps + length a.ledger.fates * fee_of b ≤ a.tree.steps + length b.ledger.fates * fee_of b + entries * (calls * reach_of b + 24) + more)))

-- the same of one entry: the rules of a mode call the tree 24 times at most, and those for foreign content twice before
abbrev pub Counted : ℕ → Outcome → TokenKind → State → State → Type 0
Counted calls Done t a b = Counts calls 1 (compared t b) a b
Counted calls Reprocess t a b = Counts calls 1 0 a b
Counted calls (Foreign name) t a b = Unit {0}

-- The same after a token: its entries are paid for by what the open elements and the mode count, and sixteen more.
abbrev pub Toils : ℕ → State → State → Type 0
Toils more a b =
    (reach_of a ≤ reach_of b)
    × ((toll_of a ≤ toll_of b)
    × (b.tree.steps + length a.ledger.fates * fee_of b + (weight b.stack + top_rank b.mode) * turn_of b
    ≤ a.tree.steps + length b.ledger.fates * fee_of b + (weight a.stack + top_rank a.mode + 16) * turn_of b + more))
