-- Claimed.
-- The tokens of a plain page, and what tree construction has made of them so far (13.2.6).
use Rattle.std.specs.Prelude.{◌≡◌, ◌+◌, ◌⊎◌, ℕ, false, List, [], ◌∷◌, ◌++◌, length, reverse, codes, Some, None}
use Rattle.std.specs.List.{AllByRecursion}
use Rattle.html_names.specs.declared.tag.Tag.{Tag}
use Rattle.html_names.specs.Names.{tag_of}
use Rattle.html_arena.specs.Forest.{Forest}
use Rattle.html_arena.specs.Forest.Forest.{empty}
use Rattle.html_arena.specs.Tree.{Tree, children_of}
use Rattle.html_arena.specs.Walking.{IsRoot}
use Rattle.html_tokens.specs.declared.token.TokenKind.{TokenKind}
use Rattle.html_tokens.specs.declared.token.TokenKind.TheVariants.{Start, End, Char, Doctype, Eof}
use Rattle.html_page.specs.Begun.{IsContentOuter, ends_after, front_then}
use Rattle.html_page.specs.Forest.{single}
use Rattle.html_page.specs.Label.{Label}
use Rattle.html_page.specs.Label.Label.{doctype, document, element, text}
use Rattle.html_page.specs.Open.{Before, IsLabelled, IsOpenAt}
use Rattle.html_page.specs.PageTokens.{IsPlainFront, chars_then, epilog}
use Rattle.html_page.specs.Plain.{IsContent, IsPlainChar}
use Rattle.html_ledger.specs.declared.fate.Fate.{Fate}
use Rattle.html_ledger.specs.declared.fate.Fate.TheVariants.{Made, Text, Ended}
use Rattle.html_ledger.specs.declared.setting.Setting.{Setting}
use Rattle.html_ledger.specs.declared.setting.Setting.TheVariants as setting
use Rattle.html_construction.specs.States.{State}
use Rattle.html_construction.specs.declared.mode.Mode.{Mode}
use Rattle.html_construction.specs.declared.mode.Mode.TheVariants.{Initial, BeforeHtml, BeforeHead, InHead, AfterHead, InBody, AfterBody, AfterAfterBody}
use Rattle.html_modes.specs.Plain.{IsPlainState}

-- WHAT STANDS IN THE TREE

-- The nodes `ids` are open elements in the document, which is node 0, the innermost first: `d` stands in the innermost, or in the document where no element
-- is open, and then the children `tail`; and `outer` stands around it. Nodes of what stands there have numbers below `high`.
abbrev pub AreOpen : Tree → ℕ → List ℕ → List ℕ → Forest Label → List Before → Type 0
AreOpen t high tail [] d [] = IsOpenAt t high tail 0 document d × IsRoot t 0
AreOpen t high tail [] d ((n, attrs, before) ∷ outer) = ⊥
AreOpen t high tail (x ∷ ids) d [] = ⊥
AreOpen t high tail (x ∷ ids) d ((n, attrs, before) ∷ outer) = IsOpenAt t high tail x (element n attrs) d × AreOpen t x (x ∷ []) ids before outer

-- the same, and after `d` the text `s`, if it is not empty: the last node of all
abbrev pub AreOpenWith : List ℕ → Tree → List ℕ → Forest Label → List Before → Type 0
AreOpenWith [] t ids d outer = AreOpen t (length t.labels) [] ids d outer
AreOpenWith (c ∷ s) t ids d outer =
    (x : ℕ) × (length t.labels ≡ x + 1) × IsLabelled t x (text (c ∷ s)) × (children_of t x ≡ []) × AreOpen t x (x ∷ []) ids d outer

-- each node has an entry for its parent, and one for its children
pub record IsEven (t : Tree) : Type 0 where
  pub parents : length t.parents ≡ length t.labels
  pub lists : length t.children ≡ length t.labels

-- the tags of open elements
abbrev pub tags_in : List Before → List Tag
tags_in [] = []
tags_in ((n, attrs, before) ∷ outer) = tag_of n ∷ tags_in outer

-- WHAT BECOMES OF ITS TOKENS

-- the doctype and a start tag made a node, a code point is text, and an end tag and the end of the page ended
abbrev pub IsPlainFate : TokenKind → Fate → Type 0
IsPlainFate (Doctype name public system force_quirks) (Made x) = Unit {0}
IsPlainFate (Start name attrs self_closing) (Made x) = Unit {0}
IsPlainFate (Char c) (Text x) = Unit {0}
IsPlainFate (End name) Ended = Unit {0}
IsPlainFate Eof Ended = Unit {0}
IsPlainFate _ _ = ⊥

-- so each of these tokens
abbrev pub HavePlainFates : List TokenKind → List Fate → Type 0
HavePlainFates [] [] = Unit {0}
HavePlainFates (t ∷ ts) (f ∷ fs) = IsPlainFate t f × HavePlainFates ts fs
HavePlainFates _ _ = ⊥

-- HOW FAR THE PAGE IS

-- what stands in the document before the root, in the root before the body, and around what the head and the body hold
abbrev pub only_doctype : Forest Label
only_doctype = single (doctype (Some (codes "html")) None None) empty

abbrev pub only_head : Forest Label
only_head = single (element (codes "head") []) empty

abbrev pub in_html : List Before
in_html = (codes "html", [], only_doctype) ∷ []

abbrev pub in_head : List Before
in_head = (codes "head", [], empty) ∷ in_html

abbrev pub in_body : List Before
in_body = (codes "body", [], only_head) ∷ in_html

-- trees that the body, or an element below it, may hold, of which the last is no text, and then a text
pub record IsHeld (d : Forest Label) (s : List ℕ) : Type 0 where
  pub content : IsContent false d
  pub apart : ends_after false d ≡ false
  pub chars : AllByRecursion IsPlainChar s

-- In this mode a plain page leaves this open: `d` and then the text `s` in the innermost element, `outer` around it. Last came the tokens `past`: the end
-- tags that take nothing off the stack of open elements, and the end of the page.
abbrev pub IsStage : Mode → Forest Label → List ℕ → List Before → List TokenKind → Type 0
IsStage Initial d s outer past = (d ≡ empty) × (s ≡ []) × (outer ≡ []) × (past ≡ [])
IsStage BeforeHtml d s outer past = (d ≡ only_doctype) × (s ≡ []) × (outer ≡ []) × (past ≡ [])
IsStage BeforeHead d s outer past = (d ≡ empty) × (s ≡ []) × (outer ≡ in_html) × (past ≡ [])
IsStage InHead d s outer past = (d ≡ empty) × (s ≡ []) × (outer ≡ in_head) × (past ≡ [])
IsStage AfterHead d s outer past = (d ≡ only_head) × (s ≡ []) × (outer ≡ in_html) × (past ≡ [])
IsStage InBody d s outer past = (inner : List Before) × (outer ≡ inner ++ in_body) × IsContentOuter inner × IsHeld d s × (past ≡ [])
IsStage AfterBody d s outer past = (outer ≡ in_body) × IsHeld d s × (past ≡ End (codes "body") ∷ [])
IsStage AfterAfterBody d s outer past =
    (outer ≡ in_body) × IsHeld d s × ((past ≡ End (codes "body") ∷ End (codes "html") ∷ []) ⊎ (past ≡ epilog))
IsStage _ d s outer past = ⊥

-- The tree was made of these tokens, which leave this open.
pub record HasMade (tokens : List TokenKind) (a : State) (d : Forest Label) (s : List ℕ) (outer : List Before) (past : List TokenKind) : Type 0 where
  pub tokens_are : tokens ≡ front_then d outer (chars_then s past)
  pub tags_are : a.stack ≡ tags_in outer
  pub nodes_are : AreOpenWith s a.tree.tree (reverse a.tree.stack) d outer
  pub even : IsEven a.tree.tree

-- These tokens begin those of a plain page, and the tree was made of them.
pub record IsBegun (tokens : List TokenKind) (a : State) : Type 0 where
  pub d : Forest Label
  pub s : List ℕ
  pub outer : List Before
  pub past : List TokenKind
  pub made : HasMade tokens a d s outer past
  pub stage : IsStage a.mode d s outer past

-- Where the tokens of a document begin those of a plain page, the tree was made of them so, they have these fates, and the next token is met so.
abbrev pub IsPlainSoFar : Setting → List TokenKind → State → Type 0
IsPlainSoFar setting.Document tokens a = IsPlainFront tokens → IsBegun tokens a × IsPlainState a × HavePlainFates tokens a.ledger.fates
IsPlainSoFar (setting.Fragment t in_form) tokens a = Unit {0}
