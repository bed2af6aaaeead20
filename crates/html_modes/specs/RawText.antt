-- Claimed, but for this crate's own functions: is_body_text, Leaves, Ends.
-- Elements that hold text alone: RCDATA, raw text and scripts (13.2.6.2, 13.2.6.4.4 and 13.2.6.4.8).
use Rattle.std.specs.Prelude.{ℕ, ◌≡◌, ◌<◌, ◌||◌, ◌⊎◌, Bool, true, false, cond, List, [], ◌∷◌, ◌++◌, length, Some, None}
use Rattle.html_names.specs.declared.tag.Tag.{Tag}
use Rattle.html_names.specs.declared.tag.Tag.TheVariants as tag
use Rattle.html_names.specs.Sets.{is_rawtext, is_rcdata}
use Rattle.html_names.specs.Tags.{is_same}
use Rattle.html_arena.specs.declared.data.NodeData.TheVariants as node
use Rattle.html_arena.specs.Siblings.{has, last_of}
use Rattle.html_arena.specs.Tree.{Tree, children_of, contents_at, label_of, tag_at}
use Rattle.html_tokens.specs.declared.token.TokenKind.{TokenKind}
use Rattle.html_ledger.specs.declared.fate.Cause.TheVariants.{LeadingNewline, Null}
use Rattle.html_ledger.specs.declared.fate.Fate.{Fate}
use Rattle.html_ledger.specs.declared.fate.Fate.TheVariants.{Dropped, Made}
use Rattle.html_ledger.specs.declared.symbol.Symbol.{Symbol}
use Rattle.html_ledger.specs.declared.symbol.Symbol.TheVariants.{Char, Start}
use Rattle.html_ledger.specs.Symbols.{chars_of}
use Rattle.html_tree.specs.States.{State as Open}
use Rattle.html_construction.specs.declared.mode.Mode.TheVariants.{Text}
use Rattle.html_construction.specs.Built.{Handed, IsBuilt, in_call, since_tree, with_tokens}
use Rattle.html_construction.specs.States.{State}
use Rattle.html_modes.specs.Guards.{is_text}
use Rattle.html_modes.specs.Steps.{is_code_point}
use Rattle.html_modes.specs.declared.outcome.Outcome.{Outcome}
use Rattle.html_modes.specs.declared.outcome.Outcome.TheVariants.{Done, Reprocess, Foreign}

-- the names of these elements
abbrev pub holds_text_alone : Tag → Bool
holds_text_alone t = is_rcdata t || (is_rawtext t || is_same t tag.Script)

-- those that begin in the body alone
abbrev pub is_body_text : Tag → Bool
is_body_text tag.Textarea = true
is_body_text tag.Xmp = true
is_body_text tag.Iframe = true
is_body_text tag.Noembed = true
is_body_text _ = false

-- WHAT THEY HOLD

-- a code point with this fate is no part of the text of such an element: a line feed that leads it, and U+0000
abbrev pub is_aside : Fate → Bool
is_aside (Dropped LeadingNewline) = true
is_aside (Dropped Null) = true
is_aside _ = false

-- the code points up to the next other token, but for those
abbrev pub run_of : List Symbol → List Fate → List ℕ
run_of (Char c ∷ ys) (f ∷ fs) = cond (is_aside f) [] (c ∷ []) ++ run_of ys fs
run_of _ _ = []

-- x holds one node, a text of these code points; or nothing, where there are none
abbrev pub HoldsText : Tree → ℕ → List ℕ → Type 0
HoldsText t x s = ((children_of t x ≡ []) × (s ≡ [])) ⊎ ((y : ℕ) × (children_of t x ≡ y ∷ []) × (label_of t y ≡ node.Text s))

-- WHILE ONE IS OPEN

-- x is such an element and the current node, in the mode text, and holds this text so far.
pub record IsOpenText (x : ℕ) (s : List ℕ) (a : State) : Type 0 where
  pub mode_is : a.mode ≡ Text
  pub current : last_of a.tree.stack ≡ Some x
  pub alone : holds_text_alone (tag_at a.tree.tree x) ≡ true
  pub no_contents : contents_at a.tree.tree x ≡ None
  pub listed : x < length a.tree.tree.children
  pub holds : HoldsText a.tree.tree x s
  pub prolog : a.ledger.history.prolog ≡ false

-- Where a node was made of a start tag of such an element, as the last token, that is open so, and holds nothing yet.
pub record HasOpened (t : Tag) (b : State) : Type 0 where
  pub opened : holds_text_alone t ≡ true → (fs : List Fate) (x : ℕ) → b.ledger.fates ≡ fs ++ Made x ∷ [] → IsOpenText x [] b

abbrev pub OpensBy : Symbol → State → Type 0
OpensBy (Start t) b = HasOpened t b
OpensBy y b = Unit {0}

-- Code points in a row come while one is open so: it stays open so, and holds them too, but for those that are no part of its text.
pub record AddsText (run : List ℕ) (a b : State) : Type 0 where
  pub added : (x : ℕ) (s : List ℕ) → IsOpenText x s a
      → (fs : List Fate) × (b.ledger.fates ≡ a.ledger.fates ++ fs) × (length fs ≡ length run) × IsOpenText x (s ++ run_of (chars_of run) fs) b

abbrev pub AddsBy : Symbol → State → State → Type 0
AddsBy (Char c) a b = AddsText (c ∷ []) a b
AddsBy y a b = Unit {0}

-- The same nodes, where the current one was closed.
pub record IsLeft (a m : Open) : Type 0 where
  pub nodes_are : m.tree ≡ a.tree
  pub off : (x : ℕ) → has x a.stack ≡ false → has x m.stack ≡ false
  pub closed : (x : ℕ) → last_of a.stack ≡ Some x → has x m.stack ≡ false

-- Any other token comes in the mode text: the current node is closed before all else.
abbrev pub Leaves : Outcome → TokenKind → State → State → Type 0
Leaves Done t a b = (h : Handed) → IsBuilt h a → (m : Open) × IsLeft a.tree m × IsBuilt (with_tokens (since_tree h m) (t ∷ [])) b
Leaves Reprocess t a b = (h : Handed) → IsBuilt h a → (m : Open) × IsLeft a.tree m × IsBuilt (since_tree h m) b
Leaves (Foreign name) t a b = Unit {0}

pub record Ends (o : Outcome) (y : Symbol) (t : TokenKind) (a b : State) : Type 0 where
  pub ends : is_text a.mode ≡ true → is_code_point y ≡ false → Leaves o t a b

-- so in one call
abbrev pub LeavesIn : TokenKind → State → State → Type 0
LeavesIn t a b = (h : Handed) → IsBuilt h a → (m : Open) × IsLeft a.tree m × IsBuilt (with_tokens (since_tree (in_call h a) m) (t ∷ [])) b

pub record EndsBy (y : Symbol) (t : TokenKind) (a b : State) : Type 0 where
  pub ends : is_text a.mode ≡ true → is_code_point y ≡ false → LeavesIn t a b
