-- Claimed.
-- The lines of the counts of a page.
use Rattle.std.specs.Prelude.{ℕ, List, [], ◌++◌, length, codes, decimal}
use Rattle.std.specs.List.{filter}
use Rattle.html_arena.specs.Data.{is_clone_in}
use Rattle.html_arena.specs.Tree.{Tree as Nodes}
use Rattle.html_parser.specs.declared.page.Tree.{Tree}

-- how many nodes are clones
abbrev pub clones_in : Nodes → ℕ
clones_in t = length (filter is_clone_in t.labels)

-- the line of a number, and what follows it
abbrev pub count_line : List ℕ → ℕ → List ℕ → List ℕ
count_line name n later = name ++ (codes " " ++ (decimal n ++ (codes "\n" ++ later)))

-- the code points of the input, the tokens, the nodes, the clones, the code points that the nodes hold, and the steps
abbrev pub count_lines : Tree → List ℕ
count_lines t =
    count_line (codes "n") t.n
    (count_line (codes "tokens") t.token_count
    (count_line (codes "nodes") (length t.arena.labels)
    (count_line (codes "clones") (clones_in t.arena)
    (count_line (codes "held") t.arena.held
    (count_line (codes "steps") t.steps [])))))
