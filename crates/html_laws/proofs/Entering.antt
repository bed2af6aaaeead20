-- Two runs of the rules over the same tokens, from states that are alike, lead to states that are alike.
use Rattle.std.proofs.Common.{◌≡◌, ◌==◌, ◌&&◌, ℕ, Bool, true, false, not, cond, List, [], ◌∷◌, length, is_some, Option, Some, None, refl, sym, ◌∙◌, ap, subst, le_refl}
use Rattle.std.proofs.lemmas.Bool.{false≢true}
use Rattle.html_names.specs.declared.tag.Tag.{Tag}
use Rattle.html_tokens.specs.declared.token.TokenKind.{TokenKind}
use Rattle.html_ledger.specs.declared.fate.Cause.{Cause}
use Rattle.html_ledger.specs.declared.symbol.Symbol.{Symbol}
use Rattle.html_ledger.specs.Flags.{must_drop}
use Rattle.html_ledger.specs.Symbols.{symbol_of}
use Rattle.html_tree.specs.Closing.{before_index}
use Rattle.html_tree.specs.Foreign.{found_foreign, home_end, left_foreign}
use Rattle.html_tree.specs.States.{State as Tree}
use Rattle.html_construction.specs.declared.mode.Mode.TheVariants as mode
use Rattle.html_construction.specs.Plans.{Again, Do, Ending, Over, Plan, Refused, Runs}
use Rattle.html_construction.specs.States.{State}
use Rattle.html_construction.specs.Tokens.{tag_name}
use Rattle.html_construction.specs.Words.{Becomes, Switch, with_stack}
use Rattle.html_modes.specs.Dispatching.{Constructs, Entries, IsDispatched, IsEntry, begun, is_astray, last, next, settled}
use Rattle.html_modes.specs.Foreign.{around_foreign, closed_foreign, ends_any, goes_on, leaves_foreign, stack_after}
use Rattle.html_modes.specs.Guards.{is_table_text}
use Rattle.html_modes.specs.RuleForms.{again, ending, ignored}
use Rattle.html_modes.specs.Rules.{Follows, plan}
use Rattle.html_modes.specs.RulesForeign.{in_foreign}
use Rattle.html_laws.specs.Likeness.{core}
use Rattle.html_laws.specs.Outcomes.{IsOnce, IsOneEnd, TokensHaveOneEnd}
use Rattle.html_laws.proofs.Runs.{becomes-once, becomes-one, runs-once, runs-one}
use Rattle.html_laws.proofs.Stacks.{IsPart, once-part, part-before, part-cond, part-few, part-self}

-- WHAT AN ENTRY FOLLOWS

abbrev pub unless : Option Cause → Plan → Plan
unless None p = p
unless (Some cause) p = ignored cause

-- the plan of an entry, where a token that is dispatched follows p
abbrev pub entry_by : State → Symbol → Plan → Plan
entry_by a y p = cond (is_table_text a.mode) (plan a.mode y) (unless (must_drop a.ledger.history y) (cond (is_astray a y) (Do (Switch mode.InBody) again) p))

abbrev is_dispatched : State → Symbol → Bool
is_dispatched a y = not (is_table_text a.mode) && (not (is_some (must_drop a.ledger.history y)) && not (is_astray a y))

-- This plan was followed, after all open elements but these were closed.
record HasFollowed (p : Plan) (s : List ℕ) (t : TokenKind) (a : State) (e : Ending) (z : State) : Type 0 where
  middle : State
  left : Becomes (with_stack s a) middle
  follows : Runs plan p t middle e z

abbrev is_over : Ending → Bool
is_over Over = true
is_over Again = false
is_over (Refused s) = false

module _ (y : Symbol) (t : TokenKind) where
  -- the plan of a token that is dispatched, and the open elements that are left before, by the tag of the adjusted current node where the token goes by the
  -- rules for foreign content
  abbrev around_plan : State → Option Tag → Plan
  around_plan a None = plan a.mode y
  around_plan a (Some g) = cond (goes_on a.tree y t) (plan a.mode y) (in_foreign g y)

  abbrev around_stack : State → Option Tag → List ℕ
  around_stack a None = a.tree.stack
  around_stack a (Some g) = stack_after a.tree y t

  -- those of an entry, and the state from which its plan is followed
  abbrev entry_plan : State → Plan
  entry_plan a = entry_by a y (around_plan a (around_foreign a y t))

  abbrev entry_stack : State → List ℕ
  entry_stack a = cond (is_dispatched a y) (around_stack a (around_foreign a y t)) a.tree.stack

  abbrev entry_state : State → State
  entry_state a = with_stack (entry_stack a) a

  entry-followed : (o : _) (a z : State) → IsEntry o y t a z → HasFollowed (entry_plan a) (entry_stack a) t a (ending o) z
  entry-followed o a z e = by (is_table_text a.mode) (must_drop a.ledger.history y) (is_astray a y) refl refl refl
    where
      as-it-was : (p : Plan) → Follows p t o a z → HasFollowed p a.tree.stack t a (ending o) z
      as-it-was p k = record { middle = a; left = record { state_is = refl }; follows = k }

      on : (g : Tag) (b : Bool) → around_foreign a y t ≡ Some g → goes_on a.tree y t ≡ b → IsDispatched o y t a z → HasFollowed (cond b (plan a.mode y) (in_foreign g y)) (stack_after a.tree y t) t a (ending o) z
      on g true i j d = (let k = d.handed_on g i j in record { middle = k.middle; left = k.left; follows = k.follows })
      on g false i j d = (let k = d.stays g i j in record { middle = k.middle; left = k.left; follows = k.follows })

      around : (n : Option Tag) → around_foreign a y t ≡ n → IsDispatched o y t a z → HasFollowed (around_plan a n) (around_stack a n) t a (ending o) z
      around None i d = as-it-was (plan a.mode y) (d.by_mode i)
      around (Some g) i d = on g (goes_on a.tree y t) i refl d

      by : (b : Bool) (d : Option Cause) (x : Bool) → is_table_text a.mode ≡ b → must_drop a.ledger.history y ≡ d → is_astray a y ≡ x
          → HasFollowed (cond b (plan a.mode y) (unless d (cond x (Do (Switch mode.InBody) again) (around_plan a (around_foreign a y t)))))
          (cond (not b && (not (is_some d) && not x)) (around_stack a (around_foreign a y t)) a.tree.stack) t a (ending o) z
      by true d x i j k = as-it-was (plan a.mode y) (e.kept i)
      by false (Some cause) x i j k = as-it-was (ignored cause) (e.ignored_by_all cause i j)
      by false None true i j k = as-it-was (Do (Switch mode.InBody) again) (e.astray i j k)
      by false None false i j k = around (around_foreign a y t) refl (e.dispatched i j k)

  -- NO NODE STANDS TWICE ON THE STACK

  part-closed : (u : Tree) → IsPart (stack_after u y t) u.stack
  part-closed u =
      part-cond (leaves_foreign y t) (left_foreign u) (cond (ends_any y) (closed_foreign u (tag_name t)) u.stack) u.stack (part-few (home_end u) u.stack)
      (part-cond (ends_any y) (closed_foreign u (tag_name t)) u.stack u.stack
      (part-cond (length u.stack == 1) u.stack (before_index (found_foreign u (tag_name t)) u.stack) u.stack (part-self u.stack) (part-before (found_foreign u (tag_name t)) u.stack)) (part-self u.stack))

  part-around : (a : State) (n : Option Tag) → IsPart (around_stack a n) a.tree.stack
  part-around a None = part-self a.tree.stack
  part-around a (Some g) = part-closed a.tree

  entry_state-once : (a : State) → IsOnce a.tree → IsOnce (entry_state a).tree
  entry_state-once a o =
      once-part (length a.tree.tree.labels) (length a.tree.tree.labels) (entry_stack a) a.tree.stack (le_refl _)
      (part-cond (is_dispatched a y) (around_stack a (around_foreign a y t)) a.tree.stack a.tree.stack (part-around a (around_foreign a y t)) (part-self a.tree.stack)) o

  entry-once : (o : _) (a z : State) → IsOnce a.tree → IsEntry o y t a z → IsOnce z.tree
  entry-once o a z k e =
      let f = entry-followed o a z e in
      runs-once plan (entry_plan a) t f.middle (ending o) z (becomes-once (entry_state a) f.middle f.left (entry_state-once a k)) f.follows

  pub entries-once : (a z : State) → Entries y t a z → IsOnce a.tree → IsOnce z.tree
  entries-once _ _ (next a b c z i j r) k = entries-once c z r (entry-once _ b c (becomes-once a b i k) j)
  entries-once _ _ (last a b c z i j e) k = subst (λ (v : State). IsOnce v.tree) (sym e) (entry-once _ b c (becomes-once a b i k) j)

  -- TWO ENTRIES

  entry-one : (o o' : _) (a z a' z' : State) → IsOnce a.tree → core a ≡ core a' → IsEntry o y t a z → IsEntry o' y t a' z' → IsOneEnd (ending o) (ending o') z z'
  entry-one o o' a z a' z' k l e e' =
      let f = entry-followed o a z e in
      let f' = entry-followed o' a' z' e' in
      runs-one plan (entry_plan a) t f.middle (ending o) z (becomes-once (entry_state a) f.middle f.left (entry_state-once a k)) f.follows f'.middle (ending o') z'
      (becomes-one (entry_state a) (entry_state a') f.middle f'.middle (ap (λ v. core (entry_state v)) l) f.left f'.left)
      (subst (λ p. Runs plan p t f'.middle (ending o') z') (sym (ap entry_plan l)) f'.follows)

  -- ALL ENTRIES OF A CALL

  pub entries-one : (a z : State) → Entries y t a z → IsOnce a.tree → (a' z' : State) → core a ≡ core a' → Entries y t a' z' → core z ≡ core z'
  entries-one _ _ (next a b c z i j r) k _ _ l (next a' b' c' z' i' j' r') =
      let g = becomes-once a b i k in
      let n = entry-one _ _ b c b' c' g (becomes-one a a' b b' l i i') j j' in
      entries-one c z r (entry-once _ b c g j) c' z' n.state r'
  entries-one _ _ (next a b c z i j r) k _ _ l (last a' b' c' z' i' j' e') =
      let n = entry-one _ _ b c b' c' (becomes-once a b i k) (becomes-one a a' b b' l i i') j j' in
      absurd (false≢true (ap is_over n.ending))
  entries-one _ _ (last a b c z i j e) k _ _ l (next a' b' c' z' i' j' r') =
      let n = entry-one _ _ b c b' c' (becomes-once a b i k) (becomes-one a a' b b' l i i') j j' in
      absurd (false≢true (sym (ap is_over n.ending)))
  entries-one _ _ (last a b c z i j e) k _ _ l (last a' b' c' z' i' j' e') =
      let n = entry-one _ _ b c b' c' (becomes-once a b i k) (becomes-one a a' b b' l i i') j j' in
      ap core e ∙ ap (λ v. core (settled v)) n.state ∙ sym (ap core e')

-- ALL TOKENS OF A PAGE

pub constructs-one : (ts : List TokenKind) (a z a' z' : State) → IsOnce a.tree → core (begun a) ≡ core (begun a') → Constructs ts a z → Constructs ts a' z' → core (begun z) ≡ core (begun z')
constructs-one [] a z a' z' k l c c' = sym (ap core c) ∙ l ∙ ap core c'
constructs-one (t ∷ ts) a z a' z' k l c c' =
    let e = entries-one (symbol_of t) t (begun a) c.0 c.1 k (begun a') c'.0 l c'.1 in
    constructs-one ts c.0 z c'.0 z' (entries-once (symbol_of t) t (begun a) c.0 c.1 k) (ap (λ v. core (begun v)) e) c.2 c'.2

pub tokens-one-end : TokensHaveOneEnd
tokens-one-end ts a z a' z' g l k k' = constructs-one ts a z a' z' g l k k'
