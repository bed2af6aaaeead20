-- Claimed.
-- The tree against the tokens and their fates.
use Rattle.std.specs.Prelude.{◌≡◌, ◌≢◌, ℕ, ◌<◌, false, List, [], length, slice_get, Option, Some, None}
use Rattle.html_arena.specs.declared.data.NodeData.{NodeData}
use Rattle.html_arena.specs.declared.data.NodeData.TheVariants as node
use Rattle.html_arena.specs.declared.data.Origin.TheVariants.{Token}
use Rattle.html_arena.specs.Data.{IsText, is_clone_in, label_in, origin_in}
use Rattle.html_ledger.specs.declared.symbol.Symbol.{Symbol}
use Rattle.html_ledger.specs.declared.fate.Fate.{Fate}
use Rattle.html_ledger.specs.declared.fate.Fate.TheVariants.{Text}
use Rattle.html_ledger.specs.Fates.{node_of}
use Rattle.html_ledger.specs.Texts.{text_of}

abbrev pub node_at : Option Fate → Option ℕ
node_at None = None
node_at (Some f) = node_of f

-- the node that was made of the token of this number, if one was: an element of HTML or of foreign content, a comment, a doctype
abbrev pub made_at : List Fate → ℕ → Option ℕ
made_at fates i = node_at (slice_get fates i)

-- A token of which a node was made is that node's, and of no other that is no clone; and a node that comes from a token is of one of which a
-- node was made (13.2.6.1, create an element for a token, insert a comment; 13.2.6.4.1).
pub record AreMade (fates : List Fate) (labels : List NodeData) : Type 0 where
  pub made_in : (i d : ℕ) → made_at fates i ≡ Some d → d < length labels
  pub made : (i d : ℕ) → made_at fates i ≡ Some d → origin_in (label_in labels d) ≡ Token i
  pub made_first : (i d : ℕ) → made_at fates i ≡ Some d → is_clone_in (label_in labels d) ≡ false
  pub made_once : (i d x : ℕ) → made_at fates i ≡ Some d → origin_in (label_in labels x) ≡ Token i → is_clone_in (label_in labels x) ≡ false → x ≡ d
  pub of_made : (i x : ℕ) → origin_in (label_in labels x) ≡ Token i → (d : ℕ) × (made_at fates i ≡ Some d)

-- The text of a node is of the code points that were added to it, in order, and there is one; what code points were added to is a text
-- (13.2.6.1, insert a character).
pub record AreTexts (tokens : List Symbol) (fates : List Fate) (labels : List NodeData) : Type 0 where
  pub texts : (x : ℕ) (text : List ℕ) → label_in labels x ≡ node.Text text → (text ≢ []) × (text ≡ text_of x tokens fates)
  pub text_nodes : (i d : ℕ) → slice_get fates i ≡ Some (Text d) → (d < length labels) × IsText (label_in labels d)
