-- Claimed.
-- What is read of a handle.
use Rattle.std.specs.Prelude.{◌≡◌, ℕ, ◌+◌, ◌==◌, Bool, true, false, if◌then◌else◌, ◌<◌, List, Option, None, Some, length, IfSome, IsSomeAnd, MatchOption, slice_get}
use Rattle.std.specs.Arc.{arc_value}
use Rattle.std.specs.Str.{chars, encode_utf8_all}
use Rattle.html_arena.specs.Data.{attrs_in, contents_in, host_in, kind_in, name_in, text_in}
use Rattle.html_arena.specs.Siblings.{after, before, first_of, last_of}
use Rattle.html_arena.specs.Tree.{Tree as Nodes, children_of, label_of, parent_of, sibling}
use Rattle.html_arena.specs.declared.arena.Limits.{Limits}
use Rattle.html_arena.specs.declared.data.Kind.{Kind}
use Rattle.html_arena.specs.declared.data.Kind.TheVariants as kind
use Rattle.html_charref.specs.Entities.{core_rows}
use Rattle.html_charref.specs.declared.table.Row.{Row}
use Rattle.html_page.specs.Serialised.{html_below}
use Rattle.html_page.specs.declared.profile.Profile.{Profile}
use Rattle.html_page.specs.declared.profile.Profile.TheVariants.{One, Two}
use Rattle.html_builder.specs.declared.context.Context.{Context}
use Rattle.html_parser.specs.declared.options.Foreign.{Foreign}
use Rattle.html_parser.specs.declared.options.Foreign.TheVariants.{Refuse, Parse}
use Rattle.html_parser.specs.declared.options.Options.{Options}
use Rattle.html_dom.specs.Reads.{descendants_of, text_of_all}
use Rattle.html_parser.specs.declared.owned_tree_parser.OwnedTreeParser.{OwnedTreeParser}
use Rattle.html_parser.specs.declared.page.Tree.{Tree}
use Rattle.zilqumet_c.specs.declared.held.Held.{Held}
use Rattle.zilqumet_c.specs.declared.held.Held.TheVariants.{Page, Entities, Parser, Buffer, Texts, Ledger as Told}
use Rattle.zilqumet_c.specs.declared.numbers.ZqLimits.{ZqLimits}
use Rattle.zilqumet_c.specs.declared.rows.ZqRow.{ZqRow}
use Rattle.zilqumet_rows.specs.Entries.{number_of}
use Rattle.zilqumet_rows.specs.declared.gathered.Gathered.{Gathered}
use Rattle.zilqumet_rows.specs.declared.ledger.Ledger.{Ledger}

abbrev pub limits_in : ZqLimits → Limits
limits_in l = record { nodes = l.nodes; held = l.held; code_points = l.code_points; steps = l.steps }

-- what is done with foreign content
abbrev pub foreign_in : ℕ → Foreign
foreign_in n = if n == 0 then Refuse else Parse

-- a context by its name
abbrev pub context_in : List ℕ → Bool → Bool → Context
context_in name in_form quirks = record { name = chars name; in_form = in_form; quirks = quirks; encoding = None }

-- what is asked of parsing, of a document, or of a fragment in a context
abbrev pub options_in : ZqLimits → Option Context → Options
options_in l context = record { limits = Some (limits_in l); foreign = foreign_in l.foreign; context = context }

-- the tree of a page
abbrev pub tree_in : Option Held → Option Tree
tree_in (Some (Page r)) = Some r.tree
tree_in _ = None

abbrev pub IfPage : Option Held → (Tree → Type 0) → Type 0
IfPage held P = IfSome (tree_in held) P

-- there is a page, and this of it
abbrev pub HasPage : Option Held → (Tree → Type 0) → Type 0
HasPage held P = IsSomeAnd (tree_in held) P

-- the rows of a table
abbrev pub table_in : Option Held → Option (List Row)
table_in (Some (Entities t)) = Some (arc_value t)
table_in _ = None

-- the rows that a call goes by: those of the table that it was given, or the core five
abbrev pub rows_in : Option Held → List Row
rows_in (Some (Entities t)) = arc_value t
rows_in _ = core_rows

-- the parser in a handle
abbrev pub parser_in : Option Held → Option OwnedTreeParser
parser_in (Some (Parser p)) = Some p
parser_in _ = None

-- what holds of a node of a page, and what holds where there is no such node
abbrev pub IfNode : Option Held → ℕ → Type 0 → (Tree → Type 0) → Type 0
IfNode held node None' P = MatchOption (tree_in held) None' (λ t. (node < length t.arena.labels → P t) × ((node < length t.arena.labels → ⊥) → None'))

abbrev pub kind_number_of : Kind → ℕ
kind_number_of kind.Document = 1
kind_number_of kind.Contents = 2
kind_number_of kind.Element = 3
kind_number_of kind.Text = 4
kind_number_of kind.Comment = 5
kind_number_of kind.Doctype = 6

abbrev pub kind_number : Nodes → ℕ → ℕ
kind_number t x = kind_number_of (kind_in (label_of t x))

-- n is the number of the node that x is linked to in this way, one of seven
abbrev pub IsLinkedTo : Nodes → ℕ → ℕ → Option ℕ → Type 0
IsLinkedTo t link x to = (link ≡ 0 → to ≡ parent_of t x) × (link ≡ 1 → to ≡ first_of (children_of t x)) × (link ≡ 2 → to ≡ last_of (children_of t x))
    × (link ≡ 3 → to ≡ sibling after (parent_of t x) t x) × (link ≡ 4 → to ≡ sibling before (parent_of t x) t x)
    × (link ≡ 5 → to ≡ contents_in (label_of t x)) × (link ≡ 6 → to ≡ host_in (label_of t x))

-- bytes are this text of a node: its name, its text, or the name or the value of the attribute of this number
abbrev pub IsPart : Nodes → ℕ → ℕ → ℕ → List ℕ → Type 0
IsPart t part x i bytes = (part ≡ 0 → chars bytes ≡ name_in (label_of t x)) × (part ≡ 1 → chars bytes ≡ text_in (label_of t x))
    × (part ≡ 2 → IfSome (slice_get (attrs_in (label_of t x)) i) (λ a. chars bytes ≡ a.name))
    × (part ≡ 3 → IfSome (slice_get (attrs_in (label_of t x)) i) (λ a. chars bytes ≡ a.value))

abbrev pub profile_of : Bool → Profile
profile_of true = Two
profile_of false = One

-- the text of a tree
abbrev pub written : Profile → Tree → List ℕ
written p t = encode_utf8_all (html_below p t.arena t.root)

-- the bytes of a buffer
abbrev pub bytes_in : Option Held → Option (List ℕ)
bytes_in (Some (Buffer v)) = Some v.items
bytes_in _ = None

-- there is a buffer, and this of its bytes
abbrev pub HasBuffer : Option Held → (List ℕ → Type 0) → Type 0
HasBuffer held P = IsSomeAnd (bytes_in held) P

-- all texts below a node, in UTF-8
abbrev pub text_below : Nodes → ℕ → List ℕ
text_below t x = encode_utf8_all (text_of_all t (descendants_of t x))

-- the texts in a handle
abbrev pub gathered_in : Option Held → Option Gathered
gathered_in (Some (Texts g)) = Some g
gathered_in _ = None

-- there are texts, and this of them
abbrev pub HasTexts : Option Held → (Gathered → Type 0) → Type 0
HasTexts held P = IsSomeAnd (gathered_in held) P

-- the ledger in a handle
abbrev pub ledger_in : Option Held → Option Ledger
ledger_in (Some (Told l)) = Some l
ledger_in _ = None

abbrev pub IfLedger : Option Held → (Ledger → Type 0) → Type 0
IfLedger held P = IfSome (ledger_in held) P

-- what a row says of a node: its links, how many attributes it has, its kind, and how long its name and its text are
pub record IsRow (t : Nodes) (x : ℕ) (r : ZqRow) : Type 0 where
  pub parent_is : r.parent ≡ number_of (parent_of t x)
  pub first_child_is : r.first_child ≡ number_of (first_of (children_of t x))
  pub next_is : r.next ≡ number_of (sibling after (parent_of t x) t x)
  pub contents_is : r.contents ≡ number_of (contents_in (label_of t x))
  pub attrs_are : r.attrs ≡ length (attrs_in (label_of t x))
  pub kind_is : r.kind ≡ kind_number t x
  pub name_is : (bytes : List ℕ) × (chars bytes ≡ name_in (label_of t x)) × (r.name.len ≡ length bytes)
  pub text_is : (bytes : List ℕ) × (chars bytes ≡ text_in (label_of t x)) × (r.text.len ≡ length bytes)

-- the first rows are those of the nodes from this one on
abbrev pub AreRows : Nodes → ℕ → ℕ → List ZqRow → Type 0
AreRows t from count rows = (i : ℕ) (r : ZqRow) → i < count → slice_get rows i ≡ Some r → IsRow t (from + i) r
