-- Claimed, but for this crate's own functions: Turns, IsNextInBody, TurnsInBody, IsCurrent, IsClosed, IsRunTurn.
-- The tokens of a plain page: what comes next, and what tree construction makes of it (13.2.6). Of such a page each start tag opens one element in the
-- current node, each code point is text there, and each end tag closes the current node, but for those of the body and of the root.
use Rattle.std.specs.Prelude.{ℕ, ◌≡◌, ◌==◌, Bool, true, false, not, cond, List, [], ◌∷◌, ◌++◌, ◌⊎◌, drop, length, map, None}
use Rattle.std.specs.List.{list_all}
use Rattle.html_names.specs.declared.tag.Tag.{Tag}
use Rattle.html_names.specs.declared.tag.Tag.TheVariants as tag
use Rattle.html_names.specs.Sets.{is_formatting}
use Rattle.html_names.specs.Tags.{is_same}
use Rattle.html_arena.specs.Siblings.{last_of}
use Rattle.html_arena.specs.Data.{name_in}
use Rattle.html_arena.specs.Tree.{Tree, label_of}
use Rattle.html_tokens.specs.declared.token.TokenKind.{TokenKind}
use Rattle.html_ledger.specs.Entries.{given_run, noted}
use Rattle.html_ledger.specs.declared.fate.Fate.{Fate}
use Rattle.html_ledger.specs.declared.fate.Fate.TheVariants.{Made, Text, Ended}
use Rattle.html_ledger.specs.declared.history.History.{History}
use Rattle.html_ledger.specs.declared.symbol.Symbol.{Symbol}
use Rattle.html_ledger.specs.declared.symbol.Symbol.TheVariants.{Start, End, Char, Doctype, Eof}
use Rattle.html_open.specs.declared.entry.Entry.{Entry}
use Rattle.html_open.specs.declared.entry.Entry.TheVariants.{Node}
use Rattle.html_open.specs.Entries.{pushed, without_node}
use Rattle.html_open.specs.Placing.{get}
use Rattle.html_tree.specs.declared.groups.Target.TheVariants.{Current, Document}
use Rattle.html_tree.specs.Closing.{popped}
use Rattle.html_tree.specs.Inserting.{with_new, with_open}
use Rattle.html_tree.specs.OpenTags.{open_tags}
use Rattle.html_tree.specs.States.{IsSound}
use Rattle.html_tree.specs.Targets.{place_for}
use Rattle.html_tree.specs.Texts.{text_node, with_text}
use Rattle.html_construction.specs.declared.mode.Mode.{Mode}
use Rattle.html_construction.specs.declared.mode.Mode.TheVariants.{Initial, BeforeHtml, BeforeHead, InHead, AfterHead, InBody, AfterBody, AfterAfterBody}
use Rattle.html_construction.specs.Calls.{doctype_of, element_of, root_of}
use Rattle.html_construction.specs.States.{State}
use Rattle.html_construction.specs.Tokens.{tag_name}
use Rattle.html_modes.specs.declared.outcome.Outcome.{Outcome}
use Rattle.html_modes.specs.declared.outcome.Outcome.TheVariants.{Done, Reprocess, Foreign}

-- the elements that a plain page may hold below its body; a span is one of those whose names no rule knows
abbrev pub is_plain_tag : Tag → Bool
is_plain_tag tag.Div = true
is_plain_tag tag.Section = true
is_plain_tag tag.Article = true
is_plain_tag tag.B = true
is_plain_tag tag.I = true
is_plain_tag tag.Em = true
is_plain_tag tag.Strong = true
is_plain_tag tag.Other = true
is_plain_tag _ = false

-- WHERE SUCH A PAGE STANDS

-- these entries are elements of the stack, in its order
abbrev pub AreListed : List Entry → List ℕ → Type 0
AreListed [] s = Unit {0}
AreListed (e ∷ es) [] = ⊥
AreListed (e ∷ es) (x ∷ s) = ((e ≡ Node x) × AreListed es s) ⊎ AreListed (e ∷ es) s

-- the tags of the open elements, the current node first: html and head, or html, body, and then elements of the page
abbrev pub StandsIn : Mode → List Tag → Type 0
StandsIn Initial s = s ≡ []
StandsIn BeforeHtml s = s ≡ []
StandsIn BeforeHead s = s ≡ tag.Html ∷ []
StandsIn InHead s = s ≡ tag.Head ∷ tag.Html ∷ []
StandsIn AfterHead s = s ≡ tag.Html ∷ []
StandsIn InBody s = (path : List Tag) × (list_all is_plain_tag path ≡ true) × (s ≡ path ++ tag.Body ∷ tag.Html ∷ [])
StandsIn AfterBody s = s ≡ tag.Body ∷ tag.Html ∷ []
StandsIn AfterAfterBody s = s ≡ tag.Body ∷ tag.Html ∷ []
StandsIn _ s = ⊥

-- a doctype is awaited before the first token; in the body none is, and white space is no longer that of the prolog
abbrev pub HasSeen : Mode → History → Type 0
HasSeen Initial h = h.awaits_doctype ≡ true
HasSeen InBody h = (h.awaits_doctype ≡ false) × (h.prolog ≡ false)
HasSeen _ h = Unit {0}

-- Tree construction of a document of which the tokens so far begin a plain page: nothing is fostered or kept, no foreign content was made, and what is
-- listed is open.
pub record IsPlainState (a : State) : Type 0 where
  pub unfostered : a.fostering ≡ false
  pub no_context : a.context ≡ None
  pub quiet : a.ledger.kept ≡ []
  pub no_newline : a.ledger.history.ignore_line_feed ≡ false
  pub no_foreign : a.ledger.history.foreign ≡ false
  pub seen : HasSeen a.mode a.ledger.history
  pub tags : a.stack ≡ open_tags a.tree
  pub sound : IsSound a.tree
  pub listed : AreListed a.tree.list a.tree.stack
  pub stands : StandsIn a.mode a.stack

-- WHAT COMES NEXT

-- the tokens that may come next in a plain page, by the mode and the tags of the open elements
abbrev pub is_next : Mode → List Tag → Symbol → Bool
is_next Initial s Doctype = true
is_next BeforeHtml s (Start tag.Html) = true
is_next BeforeHead s (Start tag.Head) = true
is_next InHead s (End tag.Head) = true
is_next AfterHead s (Start tag.Body) = true
is_next InBody s (Start t) = is_plain_tag t
is_next InBody (u ∷ s) (End t) = is_same u t
is_next InBody s (Char c) = not (c == 0)
is_next AfterBody s (End tag.Html) = true
is_next AfterAfterBody s Eof = true
is_next _ s y = false

-- an end tag in the body has the name of the current node
abbrev pub EndsCurrent : Mode → Symbol → TokenKind → State → Type 0
EndsCurrent InBody (End t) k a = name_in (label_of a.tree.tree (get (last_of a.tree.stack) 0)) ≡ tag_name k
EndsCurrent m y k a = Unit {0}

-- the mode after it
abbrev pub next_mode : Mode → Symbol → Mode
next_mode Initial y = BeforeHtml
next_mode BeforeHtml y = BeforeHead
next_mode BeforeHead y = InHead
next_mode InHead y = AfterHead
next_mode AfterHead y = InBody
next_mode InBody (End tag.Body) = AfterBody
next_mode InBody y = InBody
next_mode AfterBody y = AfterAfterBody
next_mode m y = m

-- an end tag that closes the current node
abbrev pub closes : Mode → Symbol → Bool
closes InHead (End t) = true
closes InBody (End t) = not (is_same t tag.Body)
closes _ y = false

abbrev pub next_tags : Mode → Symbol → List Tag → List Tag
next_tags m (Start t) s = t ∷ s
next_tags m y s = cond (closes m y) (drop 1 s) s

-- the stack of open elements
abbrev pub next_stack : State → Symbol → List ℕ
next_stack a (Start t) = with_open a.tree
next_stack a y = cond (closes a.mode y) (popped a.tree.stack) a.tree.stack

-- the nodes: an element last in the current node, the root and the doctype last in the document, and text at the end of the current node
abbrev pub next_nodes : State → Symbol → TokenKind → Tree
next_nodes a (Start tag.Html) k = with_new a.tree.tree (place_for a.tree Document) (root_of a k)
next_nodes a (Start t) k = with_new a.tree.tree (place_for a.tree (Current false)) (element_of a k)
next_nodes a Doctype k = with_new a.tree.tree (place_for a.tree Document) (doctype_of a k)
next_nodes a (Char c) k = with_text a.tree false (c ∷ [])
next_nodes a y k = a.tree.tree

-- the list of active formatting elements
abbrev pub next_list : State → Symbol → TokenKind → List Entry
next_list a (Start t) k = cond (is_formatting t) (pushed (next_nodes a (Start t) k) (length a.tree.tree.labels) a.tree.list) a.tree.list
next_list a (End t) k = cond (is_formatting t) (without_node (get (last_of a.tree.stack) 0) a.tree.list) a.tree.list
next_list a y k = a.tree.list

-- the fate of the token
abbrev pub next_fate : State → Symbol → Fate
next_fate a (Start t) = Made (length a.tree.tree.labels)
next_fate a Doctype = Made (length a.tree.tree.labels)
next_fate a (Char c) = Text (text_node a.tree false)
next_fate a y = Ended

-- what one token of a plain page makes
pub record IsTurn (y : Symbol) (k : TokenKind) (a b : State) : Type 0 where
  pub mode_is : b.mode ≡ next_mode a.mode y
  pub tags_are : b.stack ≡ next_tags a.mode y a.stack
  pub stack_is : b.tree.stack ≡ next_stack a y
  pub nodes_are : b.tree.tree ≡ next_nodes a y k
  pub list_is : b.tree.list ≡ next_list a y k
  pub ledger_is : (told : Bool) × (b.ledger ≡ noted a.ledger y (next_fate a y) told)
  pub same_fostering : b.fostering ≡ a.fostering
  pub same_context : b.context ≡ a.context

-- The token is the next one of a plain page.
pub record IsNext (y : Symbol) (k : TokenKind) (a : State) : Type 0 where
  pub plain : IsPlainState a
  pub next : is_next a.mode a.stack y ≡ true
  pub ends : EndsCurrent a.mode y k a

-- The next token of a plain page is done with at once, so.
abbrev pub Turns : Outcome → Symbol → TokenKind → State → State → Type 0
Turns Done y k a b = IsNext y k a → IsTurn y k a b
Turns Reprocess y k a b = IsNext y k a → ⊥
Turns (Foreign name) y k a b = IsNext y k a → ⊥

-- the same in the mode in body, whose rules other modes share
pub record IsNextInBody (y : Symbol) (k : TokenKind) (a : State) : Type 0 where
  pub plain : IsPlainState a
  pub mode : a.mode ≡ InBody
  pub next : is_next InBody a.stack y ≡ true
  pub ends : EndsCurrent InBody y k a

abbrev pub TurnsInBody : Outcome → Symbol → TokenKind → State → State → Type 0
TurnsInBody Done y k a b = IsNextInBody y k a → IsTurn y k a b
TurnsInBody Reprocess y k a b = IsNextInBody y k a → ⊥
TurnsInBody (Foreign name) y k a b = IsNextInBody y k a → ⊥

-- the current node is an element of this tag, below the body of a plain page
pub record IsCurrent (t : Tag) (a : State) : Type 0 where
  pub plain : IsPlainState a
  pub mode : a.mode ≡ InBody
  pub known : is_plain_tag t ≡ true
  pub below : List Tag
  pub top : a.stack ≡ t ∷ below

-- it is closed, and taken off the list
pub record IsClosed (t : Tag) (a b : State) : Type 0 where
  pub tags_are : b.stack ≡ drop 1 a.stack
  pub stack_is : b.tree.stack ≡ popped a.tree.stack
  pub nodes_are : b.tree.tree ≡ a.tree.tree
  pub list_is : b.tree.list ≡ cond (is_formatting t) (without_node (get (last_of a.tree.stack) 0) a.tree.list) a.tree.list

-- What comes of the next token of a plain page: it is done with so, and the page goes on.
abbrev pub GoesOn : Symbol → TokenKind → State → State → Type 0
GoesOn y k a b = IsNext y k a → IsTurn y k a b × IsPlainState b

-- The same of code points in a row, in the body: they are text at the end of the current node.
pub record IsTextTurn (run : List ℕ) (a b : State) : Type 0 where
  pub mode_is : b.mode ≡ a.mode
  pub tags_are : b.stack ≡ a.stack
  pub stack_is : b.tree.stack ≡ a.tree.stack
  pub nodes_are : b.tree.tree ≡ with_text a.tree false run
  pub list_is : b.tree.list ≡ a.tree.list
  pub fates_are : b.ledger.fates ≡ a.ledger.fates ++ map (λ c. Text (text_node a.tree false)) run

-- the same, with what the ledger knows
pub record IsRunTurn (run : List ℕ) (a b : State) : Type 0 where
  pub turn : IsTextTurn run a b
  pub ledger_is : b.ledger ≡ given_run a.ledger run (Text (text_node a.tree false))
  pub same_fostering : b.fostering ≡ a.fostering
  pub same_context : b.context ≡ a.context

abbrev pub GoesOnText : List ℕ → State → State → Type 0
GoesOnText run a b = IsPlainState a → a.mode ≡ InBody → IsTextTurn run a b × IsPlainState b
