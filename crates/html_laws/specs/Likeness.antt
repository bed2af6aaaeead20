-- Claimed.
-- Trees that differ in nothing but what is counted, and states of tree construction from which the rules lead alike (13.2.4 and 13.2.6).
use Rattle.std.specs.Prelude.{◌≡◌, []}
use Rattle.html_arena.specs.Tree.{Tree as Nodes}
use Rattle.html_tree.specs.States.{State as Tree}
use Rattle.html_construction.specs.States.{State}
use Rattle.html_modes.specs.Dispatching.{begun}

-- a tree of nodes without marks, the count of what they hold and the count of steps: what nodes there are, where each stands, and the limits
abbrev pub uncounted : Nodes → Nodes
uncounted t = record t { marks = []; held = 0; steps = 0 }

-- the trees differ in nothing else
abbrev pub AreSameNodes : Nodes → Nodes → Type 0
AreSameNodes t u = uncounted t ≡ uncounted u

-- a tree under construction without these counts
abbrev pub uncounted_tree : Tree → Tree
uncounted_tree u = record u { tree = uncounted u.tree; steps = 0 }

-- a state without these counts, without the list of tags beside the tree, and without what tells the errors of end tags
abbrev pub core : State → State
core a = record a { tree = uncounted_tree a.tree; stack = []; ledger = record a.ledger { errors = [] }; depth = 0 }

-- The states differ in nothing else.
abbrev pub AreAlike : State → State → Type 0
AreAlike a b = core a ≡ core b

-- So between calls, where what is noted of a call is of no account.
abbrev pub AreAlikeBetween : State → State → Type 0
AreAlikeBetween a b = AreAlike (begun a) (begun b)
