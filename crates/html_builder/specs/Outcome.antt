-- Claimed.
-- What tree construction makes of the tokens of a page: its tree against the tokens and their fates (13.2.6).
use Rattle.std.specs.Prelude.{◌≡◌, ◌≢◌, ℕ, ◌+◌, ◌*◌, ◌<◌, ◌≤◌, ◌⊎◌, true, false, List, length, Some, None}
use Rattle.std.specs.List.{sum_by}
use Rattle.html_names.specs.declared.tag.Tag.TheVariants as tag
use Rattle.html_names.specs.Sets.{is_void}
use Rattle.html_arena.specs.Tree.{Tree, WellFormed, host_at, label_of, named, parent_of, tag_at}
use Rattle.html_arena.specs.Weight.{weight}
use Rattle.html_tokens.specs.declared.token.TokenKind.{TokenKind}
use Rattle.html_ledger.specs.declared.setting.Setting.{Setting}
use Rattle.html_ledger.specs.declared.fate.Fate.{Fate}
use Rattle.html_ledger.specs.Errors.{AreErrors}
use Rattle.html_ledger.specs.Fated.{Fated}
use Rattle.html_open.specs.Placing.{AreTemplatesEmpty}
use Rattle.html_tree.specs.Proper.{is_foreign_root}
use Rattle.html_tree.specs.Seats.{ArePartsSeated}
use Rattle.html_tree.specs.Since.{HasFrameset}
use Rattle.html_construction.specs.Accounts.{AreMade, AreTexts}
use Rattle.html_construction.specs.Built.{symbols}
use Rattle.html_construction.specs.Origins.{AreOrigins, IsRootLabel}
use Rattle.html_builder.specs.RawTexts.{AreRawTexts}

-- WHICH NODES HAVE NO PARENT

-- The first node is the root, and is no contents of a template. Besides, only the contents of templates have no parent, and at most one body, where a frameset was made: that which
-- the frameset took the place of (13.2.6.4.7, the start tag frameset).
pub record IsRooted (t : Tree) : Type 0 where
  pub some_node : 0 < length t.labels
  pub root : parent_of t 0 ≡ None
  pub no_host : host_at t 0 ≡ None
  pub alone : (x : ℕ) → x < length t.labels → parent_of t x ≡ None
      → (x ≡ 0) ⊎ (((h : ℕ) × (host_at t x ≡ Some h)) ⊎ ((named t tag.Body x ≡ true) × HasFrameset t))
  pub one : (x y : ℕ) → x < length t.labels → y < length t.labels → parent_of t x ≡ None → parent_of t y ≡ None
      → x ≢ 0 → y ≢ 0 → host_at t x ≡ None → host_at t y ≡ None → x ≡ y

-- WHICH NODES HAVE NO CHILDREN, AND WHICH THERE ARE NONE OF

-- No void element has children (13.1.2).
abbrev pub AreVoidsEmpty : Tree → Type 0
AreVoidsEmpty t = (x p : ℕ) → parent_of t x ≡ Some p → is_void (tag_at t p) ≡ false

-- No element has the name of a root of foreign content, svg or math: an HTML element of that name is never made.
abbrev pub HasNoForeignRoot : Tree → Type 0
HasNoForeignRoot t = (x : ℕ) → x < length t.labels → is_foreign_root (tag_at t x) ≡ false

-- HOW LARGE IT IS

-- the most nodes of tree construction for a page of n code points
abbrev pub most_nodes : ℕ → ℕ
most_nodes n = 2 * ((n + 32) * (n + 32))

-- the most code points that its nodes hold, a clone as if it shared nothing
abbrev pub most_held : ℕ → ℕ
most_held n = 34 * ((n + 2) * (n + 2))

-- the most counted steps in which it is built
abbrev pub most_tree_steps : ℕ → ℕ
most_tree_steps n = 512 * ((n + 32) * (n + 32) * (n + 32))

-- the most entries of tokens into the rules of a mode
abbrev pub most_entries : ℕ → ℕ
most_entries n = 16 * (n + 2)

-- Of tokens that a text of n code points can have, no more is made than this, in no more counted steps. What the nodes hold is so little that it was
-- counted to its end.
pub record IsBounded (n : ℕ) (t : Tree) : Type 0 where
  pub nodes : length t.labels ≤ most_nodes n
  pub held : t.held ≤ most_held n
  pub weighs : sum_by weight t.labels ≤ most_held n
  pub steps : t.steps ≤ most_tree_steps n

-- ALL OF IT

-- The tree, the fates and the numbers of tokens with an error that were built of these tokens, the end of the page last: each node has what its token
-- has, each token of which a node was made is that node's, each text is of the code points with its fate, an element that holds text alone holds the text up
-- to the next other token, parts of tables stand on what may hold them (13.2.6.4.9 to 13.2.6.4.15), no template has children of its own (4.12.3), no void element has any,
-- and none is named svg or math.
pub record IsOutcome (s : Setting) (tokens : List TokenKind) (fates : List Fate) (errors : List ℕ) (t : Tree) : Type 0 where
  pub well_formed : WellFormed t
  pub rooted : IsRooted t
  pub root : IsRootLabel s (label_of t 0)
  pub fated : Fated s (symbols tokens) fates
  pub origins : AreOrigins tokens fates t.labels
  pub made : AreMade fates t.labels
  pub texts : AreTexts (symbols tokens) fates t.labels
  pub told : AreErrors s (symbols tokens) fates errors
  pub parts : ArePartsSeated t
  pub templates : AreTemplatesEmpty t
  pub voids : AreVoidsEmpty t
  pub foreign : HasNoForeignRoot t
  pub raw_texts : AreRawTexts (symbols tokens) fates t
