-- Claimed.
-- What a rule of tree construction does and asks, in the words of the standard (13.2.6), and what that makes of the state.
use Rattle.std.specs.Prelude.{ℕ, ◌≡◌, ◌+◌, ◌-◌, ◌==◌, ◌&&◌, ◌||◌, Bool, true, false, not, cond, codes, List, [], ◌∷◌, ◌++◌, length, nat_lt, take, is_some, slice_index, Option, Some, unwrap_or}
use Rattle.std.specs.List.{list_all}
use Rattle.std.specs.Str.{bytes_eq}
use Rattle.html_names.specs.declared.foreign.Space.{Space}
use Rattle.html_names.specs.declared.tag.Tag.{Tag}
use Rattle.html_names.specs.declared.tag.Tag.TheVariants as tag
use Rattle.html_names.specs.Foreign.{is_lowered}
use Rattle.html_names.specs.Sets.{is_fostering}
use Rattle.html_names.specs.Tags.{is_same}
use Rattle.html_arena.specs.Tree.{named, with_merged}
use Rattle.html_tokens.specs.declared.attributes.Attr.{Attr}
use Rattle.html_tokens.specs.declared.token.TokenKind.{TokenKind}
use Rattle.html_ledger.specs.declared.fate.Cause.{Cause}
use Rattle.html_ledger.specs.declared.fate.Fate.TheVariants.{Foreign, Made, Merged, Dropped, Text}
use Rattle.html_ledger.specs.Entries.{ended, given, number_of}
use Rattle.html_ledger.specs.Flags.{may_misplace_tag}
use Rattle.html_ledger.specs.MayDrop.{is_outside_column_group}
use Rattle.html_ledger.specs.Spaces.{is_space}
use Rattle.html_ledger.specs.Symbols.{is_char, is_space_char, symbol_of}
use Rattle.html_open.specs.declared.entry.Entry.TheVariants.{Marker}
use Rattle.html_open.specs.Entries.{is_marker}
use Rattle.html_open.specs.Lists.{below, up_to}
use Rattle.html_open.specs.Marking.{bare}
use Rattle.html_open.specs.Scopes.{stays}
use Rattle.html_tree.specs.declared.groups.Group.{Group}
use Rattle.html_tree.specs.declared.groups.Group.TheVariants as group
use Rattle.html_tree.specs.declared.groups.Stop.{Stop}
use Rattle.html_tree.specs.declared.groups.Stop.TheVariants as stop
use Rattle.html_tree.specs.declared.groups.TableContext.{TableContext}
use Rattle.html_tree.specs.declared.groups.Target.{Target}
use Rattle.html_tree.specs.declared.groups.Target.TheVariants as target
use Rattle.html_tree.specs.Closing.{before_index, bodiless, cleared_to, closed_through, popped}
use Rattle.html_tree.specs.Groups.{in_group}
use Rattle.html_tree.specs.OpenTags.{open_tags}
use Rattle.html_tree.specs.Searching.{current_tag, found, found_name}
use Rattle.html_tree.specs.Seats.{has_seat}
use Rattle.html_tree.specs.States.{State as Tree}
use Rattle.html_tree.specs.Texts.{text_node, with_text}
use Rattle.html_construction.specs.declared.mode.Mode.{Mode}
use Rattle.html_construction.specs.declared.mode.Mode.TheVariants.{InTable, InCaption, InTableBody, InRow, InCell}
use Rattle.html_construction.specs.Calls.{comment_of, counting, doctype_of, element_of, foreign_of, form_closed, implied_of, is_unmoved, listed_at, opened_at, placed_at, root_of, void_of}
use Rattle.html_construction.specs.Modes.{is_of_column_groups}
use Rattle.html_construction.specs.Quirks.{sets_quirks}
use Rattle.html_construction.specs.Resetting.{reset_mode}
use Rattle.html_construction.specs.States.{State}
use Rattle.html_construction.specs.Tokens.{attrs_of, char_of, closes_itself, tag_name}

-- ONE THING THAT A RULE DOES

pub data Word : Type 0 where
  -- clear the stack back to a table context, a table body context or a table row context
  ClearTo : TableContext → Word
  -- pop the current node off the stack of open elements
  Pop : Word
  -- generate implied end tags, and pop elements until one of the group was popped, where one is open before what ends the search
  CloseThrough : Group → Stop → Word
  -- any other end tag: generate implied end tags, and pop elements through the last one of the token's name, unless a special element stands after it
  CloseNamed : Word
  -- generate implied end tags, but for one name
  Implied : Option Tag → Word
  -- insert a marker at the end of the list of active formatting elements; clear it up to the last marker
  AddMarker : Word
  ClearToMarker : Word
  -- insert an HTML element for the token: at the appropriate place, at a target, in the current node itself
  Insert : Word
  InsertAt : Target → Word
  InsertPart : Word
  -- insert one for a start tag token of this name, and pop it at once
  InsertVoid : Tag → Word
  InsertVoidAt : Tag → Target → Word
  -- insert one, and push it onto the list of active formatting elements
  InsertListed : Word
  -- insert one, and set the head element pointer to it
  InsertHead : Word
  -- insert one, and set the form element pointer to it; the same, and pop it at once
  InsertForm : Word
  InsertClosedForm : Word
  -- set the form element pointer to null, and close the form at which it was, where it is in scope
  CloseForm : Word
  -- remove the second element from its parent, pop all elements but the root, and insert an HTML element for the token
  ReplaceBody : Word
  -- create an element for the token, append it to the Document object, and put it in the stack of open elements
  InsertRoot : Word
  -- insert an HTML element for a start tag token of this name with no attributes, likewise
  Imply : Tag → Word
  ImplyPart : Tag → Word
  ImplyVoid : Tag → Word
  ImplyHead : Word
  ImplyRoot : Word
  -- insert a comment: at the appropriate place, or at a target
  InsertComment : Word
  InsertCommentAt : Target → Word
  -- append a DocumentType node to the Document node
  InsertDoctype : Word
  -- insert the token's character; insert a U+FFFD REPLACEMENT CHARACTER
  InsertCharacter : Word
  InsertReplacement : Word
  -- add the attributes that are not there yet to the top element, or to the second
  MergeIntoRoot : Word
  MergeIntoBody : Word
  -- ignore the token, for this cause
  Drop : Cause → Word
  -- an end tag, or the end of the file, is done with: it is ignored where nothing was closed or made
  End : Word
  -- switch the insertion mode; set the original insertion mode to the current one before; switch to the original one
  Switch : Mode → Word
  Enter : Mode → Word
  Leave : Word
  -- set the frameset-ok flag to "not ok"
  FramesetOff : Word
  -- set the Document to quirks mode, or not
  Quirks : Bool → Word
  -- reset the insertion mode appropriately
  Reset : Word
  -- push onto the stack of template insertion modes; pop off it
  PushTemplate : Mode → Word
  PopTemplate : Word
  -- insert a foreign element for the token, in this namespace, with its name and attributes adjusted; the same, and pop it at once
  InsertForeign : Space → Word
  InsertForeignVoid : Space → Word
  -- append the character token to the pending table character tokens
  Keep : Word
  -- what is closed and made is that of the token itself from here on, and no longer that of the pending table character tokens (own)
  BeginOwnPart : Word

-- another tree
abbrev pub with_tree : Tree → State → State
with_tree u a = record a { tree = u }

-- other open elements
abbrev pub with_stack : List ℕ → State → State
with_stack s a = with_tree (record a.tree { stack = s }) a

-- a node is made of the token: its fate is Made, of that node
abbrev pub making : Tree → TokenKind → State → State
making u t a = record a { tree = u; ledger = given a.ledger (symbol_of t) (Made (length a.tree.tree.labels)) }

-- as many tokens have nodes at most as have fates then
abbrev pub next_tree : State → Tree
next_tree a = counting (number_of a.ledger + 1) a.tree

-- the attributes of the token are added to the open element at an index
abbrev pub merging : ℕ → TokenKind → State → State
merging i t a = record a {
  tree = record a.tree { tree = bare (with_merged a.tree.tree (slice_index a.tree.stack i) (attrs_of t)) };
  ledger = given a.ledger (symbol_of t) Merged;
}

-- an element of foreign content is made of it: its fate is Foreign, of that node
abbrev pub with_foreign : Tree → TokenKind → State → State
with_foreign u t a = record a { tree = u; ledger = given a.ledger (symbol_of t) (Foreign (length a.tree.tree.labels)) }

-- these are the pending table character tokens
abbrev pub with_kept : List ℕ → State → State
with_kept cs a = record a { ledger = record a.ledger { kept = cs } }

-- all but the last
abbrev pub but_last : List Mode → List Mode
but_last ms = take (length ms - 1) ms

-- what it makes of the state, but for steps
abbrev pub after : Word → TokenKind → State → State
after (ClearTo c) t a = with_stack (cleared_to a.tree c) a
after Pop t a = with_stack (popped a.tree.stack) a
after (CloseThrough g e) t a = with_stack (closed_through a.tree g e) a
after CloseNamed t a = with_stack (before_index (found_name a.tree (tag_name t)) a.tree.stack) a
after (Implied except) t a = with_stack (up_to (stays a.tree.tree except) a.tree.stack) a
after AddMarker t a = with_tree (record a.tree { list = a.tree.list ++ Marker ∷ [] }) a
after ClearToMarker t a = with_tree (record a.tree { list = below is_marker a.tree.list }) a
after Insert t a = making (opened_at (element_of a t) (target.Current a.fostering) (next_tree a)) t a
after (InsertAt g) t a = making (opened_at (element_of a t) g (next_tree a)) t a
after InsertPart t a = making (opened_at (element_of a t) (target.Current false) (next_tree a)) t a
after (InsertVoid n) t a = making (placed_at (void_of a n t) (target.Current a.fostering) (next_tree a)) t a
after (InsertVoidAt n g) t a = making (placed_at (void_of a n t) g (next_tree a)) t a
after InsertListed t a = making (listed_at a.fostering (tag_name t) (attrs_of t) (number_of a.ledger) a.tree) t a
after InsertHead t a = making (record (opened_at (element_of a t) (target.Current a.fostering) (next_tree a)) { head = Some (length a.tree.tree.labels) }) t a
after InsertForm t a = making (record (opened_at (element_of a t) (target.Current a.fostering) (next_tree a)) { form = Some (length a.tree.tree.labels) }) t a
after InsertClosedForm t a = making (record (placed_at (void_of a tag.Form t) (target.Current a.fostering) (next_tree a)) { form = Some (length a.tree.tree.labels) }) t a
after CloseForm t a = record a { tree = form_closed a.tree a.tree.form; outer_form = false }
after ReplaceBody t a = making (opened_at (element_of a t) target.First (counting (number_of a.ledger + 1) (bodiless a.tree))) t a
after InsertRoot t a = making (opened_at (root_of a t) target.Document (next_tree a)) t a
after (Imply n) t a = with_tree (opened_at (implied_of n) (target.Current a.fostering) a.tree) a
after (ImplyPart n) t a = with_tree (opened_at (implied_of n) (target.Current false) a.tree) a
after (ImplyVoid n) t a = with_tree (placed_at (implied_of n) (target.Current a.fostering) a.tree) a
after ImplyHead t a = with_tree (record (opened_at (implied_of tag.Head) (target.Current a.fostering) a.tree) { head = Some (length a.tree.tree.labels) }) a
after ImplyRoot t a = with_tree (opened_at (implied_of tag.Html) target.Document a.tree) a
after InsertComment t a = making (placed_at (comment_of a t) (target.Current a.fostering) (next_tree a)) t a
after (InsertCommentAt g) t a = making (placed_at (comment_of a t) g (next_tree a)) t a
after InsertDoctype t a = making (placed_at (doctype_of a t) target.Document (next_tree a)) t a
after InsertCharacter t a = record a { tree = record a.tree { tree = with_text a.tree a.fostering (char_of t) }; ledger = given a.ledger (symbol_of t) (Text (text_node a.tree a.fostering)) }
after InsertReplacement t a = record a { tree = record a.tree { tree = with_text a.tree a.fostering (65533 ∷ []) }; ledger = given a.ledger (symbol_of t) (Text (text_node a.tree a.fostering)) }
after MergeIntoRoot t a = merging 0 t a
after MergeIntoBody t a = merging 1 t a
after (Drop cause) t a = record a { ledger = given a.ledger (symbol_of t) (Dropped cause) }
after End t a = record a { ledger = ended a.ledger (symbol_of t) (is_unmoved a) }
after (Switch m) t a = record a { mode = m }
after (Enter m) t a = record a { mode = m; original = a.mode }
after Leave t a = record a { mode = a.original }
after FramesetOff t a = record a { frameset_ok = false }
after (Quirks q) t a = record a { quirks = q }
after Reset t a = record a { mode = reset_mode a.context a.tree.head a.templates (open_tags a.tree) }
after (PushTemplate m) t a = record a { templates = a.templates ++ m ∷ [] }
after PopTemplate t a = record a { templates = but_last a.templates }
after (InsertForeign s) t a = with_foreign (opened_at (foreign_of a s t) (target.Current a.fostering) (next_tree a)) t a
after (InsertForeignVoid s) t a = with_foreign (placed_at (foreign_of a s t) (target.Current a.fostering) (next_tree a)) t a
after Keep t a = with_kept (a.ledger.kept ++ char_of t) a
after BeginOwnPart t a = record a { depth = length a.tree.stack; nodes = length a.tree.tree.labels }

-- The state is this one, but for steps. (The tags of the open elements are those of the tree.)
pub record Becomes (m b : State) : Type 0 where
  pub state_is : b ≡ record m { tree = record m.tree { steps = b.tree.steps }; stack = b.stack }

-- ONE THING THAT A RULE ASKS

pub data Query : Type 0 where
  -- does the stack of open elements have an element of the group, before one that ends the search: in a scope, or anywhere
  Finds : Group → Stop → Query
  -- is the current node of the group
  IsCurrent : Group → Query
  -- is the current node of the group, and not the first element, which is never closed (own)
  CanPop : Group → Query
  -- is the current node an option element, and the node immediately before it in the stack of open elements an optgroup element
  IsOptionInGroup : Query
  -- may the current node hold a part of a table of this name (own)
  HasSeat : Tag → Query
  -- is there a template element on the stack of open elements (none is where none was made)
  HasTemplate : Query
  -- was a fragment parsed
  IsFragment : Query
  -- is only one element open
  IsRootAlone : Query
  -- is the frameset-ok flag "ok"
  IsFramesetOk : Query
  -- is the Document in quirks mode
  IsQuirks : Query
  -- is the stack of template insertion modes not empty
  HasTemplateMode : Query
  -- may a doctype still come (own)
  AwaitsDoctype : Query
  -- is the form element pointer not null (it is where no form was made, and none is around the fragment)
  HasForm : Query
  -- is the second element on the stack of open elements a body element; and was none replaced before (own)
  HasBody : Query
  CanReplaceBody : Query
  -- may a start tag of this name be out of its place, for what was made before and for the context (own)
  MayMisplace : Tag → Query
  -- may the token be ignored as outside a column group: it entered in the mode "in column group", where a col was made or a colgroup is the context (own)
  IsOutsideColumnGroup : Query
  -- does the token, a doctype, set the Document to quirks mode
  SetsQuirks : Query
  -- does the token have an attribute "type" whose value is an ASCII case-insensitive match for "hidden"
  IsHidden : Query
  -- does the token have its self-closing flag set
  ClosesItself : Query
  -- is the insertion mode one of "in table", "in caption", "in table body", "in row", "in cell"
  IsInTable : Query
  -- is the current node a table, tbody, template, tfoot, thead, or tr element
  CollectsText : Query
  -- are the pending table character tokens ASCII whitespace (but for those that are U+0000)
  AreSpacesKept : Query
  -- is the token U+0000
  IsNull : Query
  -- is the token ASCII whitespace before the head; is it a U+000A just after a pre, a listing or a textarea (as the dispatcher asks of each token)
  IsPrologSpace : Query
  IsLeadingNewline : Query
  -- is foreign content parsed, and not refused (own)
  ParsesForeign : Query

abbrev pub has_any : List Mode → Bool
has_any [] = false
has_any (m ∷ ms) = true

-- the tag of the current node; Other where nothing is open
abbrev pub current_or_other : Tree → Tag
current_or_other u = unwrap_or (current_tag u) tag.Other

-- the second open element is a body
abbrev pub has_body : Tree → Bool
has_body u = nat_lt 1 (length u.stack) && named u.tree tag.Body (slice_index u.stack 1)

-- the current node is an option, and the open element before it an optgroup
abbrev pub is_option_in_group : Tree → Bool
is_option_in_group u =
    nat_lt 1 (length u.stack) && (named u.tree tag.Option (slice_index u.stack (length u.stack - 1)) && named u.tree tag.Optgroup (slice_index u.stack (length u.stack - 2)))

-- the attribute "type", if there is one, is "hidden", ASCII case aside
abbrev pub is_hidden : List Attr → Bool
is_hidden [] = false
is_hidden (a ∷ rest) = cond (bytes_eq a.name (codes "type")) (is_lowered a.value (codes "hidden")) (is_hidden rest)

-- the modes in which a select stands in a table
abbrev pub is_in_table : Mode → Bool
is_in_table InTable = true
is_in_table InCaption = true
is_in_table InTableBody = true
is_in_table InRow = true
is_in_table InCell = true
is_in_table _ = false

-- text in an element of this tag is collected before it is put anywhere
abbrev pub collects_text : Tag → Bool
collects_text g = is_fostering g || is_same g tag.Template

abbrev pub is_null_or_space : ℕ → Bool
is_null_or_space c = (c == 0) || is_space c

abbrev pub answer : Query → TokenKind → State → Bool
answer (Finds g e) t a = is_some (found a.tree g e)
answer (IsCurrent g) t a = in_group g (current_or_other a.tree)
answer (CanPop g) t a = nat_lt 1 (length a.tree.stack) && in_group g (current_or_other a.tree)
answer IsOptionInGroup t a = is_option_in_group a.tree
answer (HasSeat n) t a = has_seat a.tree n
answer HasTemplate t a = a.ledger.history.template && is_some (found a.tree (group.Named tag.Template) stop.Never)
answer IsFragment t a = is_some a.context
answer IsRootAlone t a = length a.tree.stack == 1
answer IsFramesetOk t a = a.frameset_ok
answer IsQuirks t a = a.quirks
answer HasTemplateMode t a = has_any a.templates
answer AwaitsDoctype t a = a.ledger.history.awaits_doctype
answer HasForm t a = (a.outer_form || is_some a.tree.form) && a.ledger.history.form
answer HasBody t a = has_body a.tree
answer CanReplaceBody t a = not (is_some a.tree.detached) && has_body a.tree
answer (MayMisplace n) t a = may_misplace_tag a.ledger.history n
answer IsOutsideColumnGroup t a = is_of_column_groups a.began && (a.ledger.history.col && is_outside_column_group (symbol_of t))
answer SetsQuirks t a = sets_quirks t
answer IsHidden t a = is_hidden (attrs_of t)
answer ClosesItself t a = closes_itself t
answer IsInTable t a = is_in_table a.mode
answer CollectsText t a = collects_text (current_or_other a.tree)
answer AreSpacesKept t a = list_all is_null_or_space a.ledger.kept
answer IsNull t a = is_char 0 (symbol_of t)
answer IsPrologSpace t a = is_space_char (symbol_of t) && a.ledger.history.prolog
answer IsLeadingNewline t a = is_char 10 (symbol_of t) && a.ledger.history.ignore_line_feed
answer ParsesForeign t a = a.parses_foreign
