-- Claimed.
-- A rule of tree construction as data, and what it does (13.2.6).
use Rattle.std.specs.Prelude.{ℕ, ◌≡◌, Bool, if◌then◌else◌, true, false, List, [], ◌∷◌}
use Rattle.html_names.specs.declared.foreign.Space.{Space}
use Rattle.html_names.specs.declared.tag.Tag.{Tag}
use Rattle.html_tokens.specs.declared.token.TokenKind.{TokenKind}
use Rattle.html_tokens.specs.declared.token.TokenKind.TheVariants.{Char}
use Rattle.html_ledger.specs.declared.fate.Cause.TheVariants.{Misplaced}
use Rattle.html_ledger.specs.declared.symbol.Symbol.{Symbol}
use Rattle.html_ledger.specs.Symbols.{symbol_of}
use Rattle.html_tree.specs.declared.groups.Group.{Group}
use Rattle.html_tree.specs.declared.groups.Stop.{Stop as Ends}
use Rattle.html_tree.specs.Listing.{IsReopened}
use Rattle.html_construction.specs.declared.mode.Mode.{Mode}
use Rattle.html_construction.specs.Calls.{HasEnded, IsLinkClosed}
use Rattle.html_construction.specs.States.{State}
use Rattle.html_construction.specs.Words.{Becomes, Query, Word, after, answer, with_kept, CanPop, CloseThrough, Drop, Finds, HasSeat, ImplyPart, InsertPart, Pop}

-- How a rule ends: the token is done with, is reprocessed, or begins foreign content that is refused.
pub data Ending : Type 0 where
  Over : Ending
  Again : Ending
  Refused : Space → Ending

pub data Plan : Type 0 where
  Do : Word → Plan → Plan
  Ask : Query → Plan → Plan → Plan
  -- reconstruct the active formatting elements, if any
  Reconstruct : Plan → Plan
  -- run the adoption agency algorithm for a token of this name, and, where it says so, the rules for any other end tag
  Adopt : Tag → Plan → Plan
  -- where an a element is listed after the last marker: run the adoption agency algorithm for the token, then remove that element from the list and from
  -- the stack
  CloseLink : Plan → Plan
  -- enable foster parenting, follow this, and disable foster parenting
  Foster : Plan → Plan
  -- take out the pending table character tokens, follow the first for each of them, and then, for the token, the second
  Settle : Plan → Plan → Plan
  -- follow the first for each of these character tokens, and then, for the token, the second
  Each : List ℕ → Plan → Plan → Plan
  Stop : Ending → Plan
  -- process the token using the rules for this insertion mode
  By : Mode → Plan

-- the rules of each insertion mode, for each token
abbrev pub Rules : Type 0
Rules = Mode → Symbol → Plan

-- nothing changed but the nodes, the open elements and the list of active formatting elements
pub record IsMoved (a b : State) : Type 0 where
  pub rest : b ≡ record a { tree = b.tree; stack = b.stack }
  pub pointers : b.tree ≡ record a.tree { stack = b.tree.stack; list = b.tree.list; tree = b.tree.tree; steps = b.tree.steps }

-- By these rules this plan, followed for a token from the one state, ends so in the other. (States are told apart but for steps.)
pub data Runs (r : Rules) : Plan → TokenKind → State → Ending → State → Type 0 where
  does : (w : Word) (p : Plan) (t : TokenKind) (a b : State) (e : Ending) (z : State) → Becomes (after w t a) b → Runs r p t b e z → Runs r (Do w p) t a e z
  asks : (q : Query) (p n : Plan) (t : TokenKind) (a b : State) (e : Ending) (z : State) → Becomes a b → Runs r (if answer q t a then p else n) t b e z → Runs r (Ask q p n) t a e z
  reconstructs : (p : Plan) (t : TokenKind) (a b : State) (e : Ending) (z : State) → IsMoved a b → IsReopened a.fostering a.tree b.tree → Runs r p t b e z → Runs r (Reconstruct p) t a e z
  adopts : (g : Tag) (p : Plan) (t : TokenKind) (a b : State) (e : Ending) (z : State) → IsMoved a b → HasEnded g a.fostering a.tree b.tree → Runs r p t b e z → Runs r (Adopt g p) t a e z
  closes_link : (p : Plan) (t : TokenKind) (a b : State) (e : Ending) (z : State) → IsMoved a b → IsLinkClosed a.fostering a.tree b.tree → Runs r p t b e z → Runs r (CloseLink p) t a e z
  fosters : (p : Plan) (t : TokenKind) (a b c : State) (e : Ending) (z : State) → Becomes (record a { fostering = true }) b → Runs r p t b e c → Becomes (record c { fostering = false }) z → Runs r (Foster p) t a e z
  settles : (q p : Plan) (t : TokenKind) (a b : State) (e : Ending) (z : State) → Becomes (with_kept [] a) b → Runs r (Each a.ledger.kept q p) t b e z → Runs r (Settle q p) t a e z
  ends_each : (q p : Plan) (t : TokenKind) (a : State) (e : Ending) (z : State) → Runs r p t a e z → Runs r (Each [] q p) t a e z
  does_each : (c : ℕ) (cs : List ℕ) (q p : Plan) (t : TokenKind) (a b : State) (e : Ending) (z : State) → Runs r q (Char c) a Over b → Runs r (Each cs q p) t b e z → Runs r (Each (c ∷ cs) q p) t a e z
  stops : (t : TokenKind) (a : State) (e : Ending) (z : State) → Becomes a z → Runs r (Stop e) t a e z
  goes_by : (m : Mode) (t : TokenKind) (a : State) (e : Ending) (z : State) → Runs r (r m (symbol_of t)) t a e z → Runs r (By m) t a e z

-- WHAT ONE CALL IS OF A PLAN

-- From the one state to the other this was done, for the token: where a plan goes on so, it does so from the other, whatever the rules.
abbrev pub Does : Word → TokenKind → State → State → Type 0
Does w t a b = (r : Rules) (p : Plan) (e : Ending) (z : State) → Runs r p t b e z → Runs r (Do w p) t a e z

-- so, whatever the token
abbrev pub DoesAny : Word → State → State → Type 0
DoesAny w a b = (r : Rules) (t : TokenKind) (p : Plan) (e : Ending) (z : State) → Runs r p t b e z → Runs r (Do w p) t a e z

-- a plan of two that may follow
abbrev pub Fork : Type 0
Fork = Plan → Plan → Plan

-- A part of a plan was followed, and what follows it is the first, where the answer is true, and else the second.
abbrev pub Chooses : Fork → Bool → State → State → Type 0
Chooses f x a b = (r : Rules) (t : TokenKind) (p n : Plan) (e : Ending) (z : State) → Runs r (if x then p else n) t b e z → Runs r (f p n) t a e z

-- A question was asked, and this is the answer.
abbrev pub Asks : Query → Bool → State → State → Type 0
Asks q x a b = Chooses (λ p n. Ask q p n) x a b

-- A part of a plan was followed.
abbrev pub Passes : (Plan → Plan) → State → State → Type 0
Passes f a b = (r : Rules) (t : TokenKind) (p : Plan) (e : Ending) (z : State) → Runs r p t b e z → Runs r (f p) t a e z

-- so, for the token
abbrev pub PassesFor : (Plan → Plan) → TokenKind → State → State → Type 0
PassesFor f t a b = (r : Rules) (p : Plan) (e : Ending) (z : State) → Runs r p t b e z → Runs r (f p) t a e z

-- close through the last element of the group that is found, where one is
abbrev pub closing : Group → Ends → Fork
closing g e p n = Ask (Finds g e) (Do (CloseThrough g e) p) n

-- pop the current node where it is of the group, and not the first element
abbrev pub popping : Group → Fork
popping g p n = Ask (CanPop g) (Do Pop p) n

-- insert a part of a table for the token where the current node may hold it, as it may where a run of the standard leads; else ignore the token (own)
abbrev pub inserting_part : Tag → Plan → Plan
inserting_part n p = Ask (HasSeat n) (Do InsertPart p) (Do (Drop Misplaced) p)

-- the same of a part that no token asked for
abbrev pub implying_part : Tag → Plan → Plan
implying_part n p = Ask (HasSeat n) (Do (ImplyPart n) p) p
