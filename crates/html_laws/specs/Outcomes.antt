-- Claimed.
-- That the rules of tree construction have one outcome (13.2.6): what two runs of them have in common.
use Rattle.std.specs.Prelude.{◌≡◌, ℕ, ◌<◌, ◌⊎◌, Bool, true, List, length, Option}
use Rattle.html_arena.specs.declared.arena.Limits.{Limits}
use Rattle.html_arena.specs.Siblings.{Distinct, has}
use Rattle.html_arena.specs.Tree.{Tree as Nodes}
use Rattle.html_tokens.specs.declared.token.TokenKind.{TokenKind}
use Rattle.html_ledger.specs.declared.fate.Fate.{Fate}
use Rattle.html_ledger.specs.declared.setting.Setting.{Setting}
use Rattle.html_ledger.specs.declared.setting.Setting.TheVariants.{Document}
use Rattle.html_tree.specs.States.{State as Tree}
use Rattle.html_construction.specs.Plans.{Ending, Plan, Rules, Runs}
use Rattle.html_construction.specs.States.{State}
use Rattle.html_modes.specs.Dispatching.{Constructs}
use Rattle.html_builder.specs.Built.{IsBuiltByRules}
use Rattle.html_laws.specs.Likeness.{AreAlike, AreAlikeBetween, AreSameNodes}

-- WHERE A RUN MAY BEGIN

-- each of these is below n
abbrev pub AreBelow : ℕ → List ℕ → Type 0
AreBelow n xs = (x : ℕ) → has x xs ≡ true → x < n

-- None of these stands there twice, and each is below n.
pub record AreOnce (n : ℕ) (xs : List ℕ) : Type 0 where
  pub once : Distinct xs
  pub in_tree : AreBelow n xs

-- no node stands twice on the stack of open elements
abbrev pub IsOnce : Tree → Type 0
IsOnce u = AreOnce (length u.tree.labels) u.stack

-- Both begin in quirks mode, or neither does: a document does not, and a fragment where the document of its context is in that mode.
abbrev pub BeginAlike : Setting → State → State → Type 0
BeginAlike s a b = (s ≡ Document) ⊎ (a.quirks ≡ b.quirks)

-- WHAT TWO RUNS HAVE IN COMMON

-- One ending, and states that are alike.
pub record IsOneEnd (e e' : Ending) (z z' : State) : Type 0 where
  pub ending : e ≡ e'
  pub state : AreAlike z z'

-- The same fates, and the same nodes.
pub record IsOneOutcome (fates fates' : List Fate) (t t' : Nodes) : Type 0 where
  pub same_fates : fates ≡ fates'
  pub same_nodes : AreSameNodes t t'

-- THE LAWS

-- Two runs of one plan for one token, from states that are alike: so whatever the rules.
abbrev pub PlansHaveOneEnd : Type 0
PlansHaveOneEnd = (r : Rules) (p : Plan) (t : TokenKind) (a z a' z' : State) (e e' : Ending) → IsOnce a.tree → AreAlike a a' → Runs r p t a e z → Runs r p t a' e' z' → IsOneEnd e e' z z'

-- Two runs of the rules over the same tokens, from states that are alike, whether foreign content is parsed or refused.
abbrev pub TokensHaveOneEnd : Type 0
TokensHaveOneEnd = (tokens : List TokenKind) (a z a' z' : State) → IsOnce a.tree → AreAlikeBetween a a' → Constructs tokens a z → Constructs tokens a' z' → AreAlikeBetween z z'

-- Two runs of the rules over the tokens of a page from the beginning, where foreign content is parsed in both or refused in both, whatever the context.
abbrev pub PagesHaveOneTree : Type 0
PagesHaveOneTree = (s : Setting) (limits : Option Limits) (foreign : Bool) (tokens : List TokenKind) (fates fates' : List Fate) (t t' : Nodes)
    → (b : IsBuiltByRules s limits foreign tokens fates t) → (b' : IsBuiltByRules s limits foreign tokens fates' t') → BeginAlike s b.first b'.first → IsOneOutcome fates fates' t t'
