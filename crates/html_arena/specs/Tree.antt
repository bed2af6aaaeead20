-- Claimed, but for this crate's own functions: reparented, InPart.
-- What callers see of an arena: a node tree of the DOM (4.2), as its nodes and, for each, its parent and the list of its children.
use Rattle.std.specs.Prelude.{◌≡◌, ℕ, zero, suc, ◌+◌, ◌*◌, ◌<◌, Bool, true, min, ◌^◌, ◌-◌, List, [], ◌∷◌, ◌++◌, length, Option, Some, None, slice_index_or, slice_set}
use Rattle.std.specs.List.{sum_by}
use Rattle.html_names.specs.declared.tag.Tag.{Tag}
use Rattle.html_names.specs.Tags.{is_same}
use Rattle.html_names.specs.Names.{tag_of}
use Rattle.html_tokens.specs.declared.attributes.Attr.{Attr}
use Rattle.html_arena.specs.declared.data.NodeData.{NodeData}
use Rattle.html_arena.specs.declared.data.NodeData.TheVariants.{Contents}
use Rattle.html_arena.specs.declared.marks.Mark.{Mark}
use Rattle.html_arena.specs.declared.marks.Marks.{Marks}
use Rattle.html_arena.specs.declared.arena.Limits.{Limits}
use Rattle.html_arena.specs.Data.{label_in, tag_in, name_in, contents_in, host_in, with_char, with_run, with_attrs, attrs_in}
use Rattle.html_arena.specs.Marks.{no_marks, has_mark, with_mark}
use Rattle.html_arena.specs.Merge.{lacking, merged}
use Rattle.html_arena.specs.Siblings.{has, Distinct, put_before, without}
use Rattle.html_arena.specs.Templates.{Templates}
use Rattle.html_arena.specs.Weight.{attrs_weight, capped, weight}

-- each column has one entry a node, at the node's number
pub record Tree : Type 0 where
  pub labels : List NodeData
  pub parents : List (Option ℕ)
  pub children : List (List ℕ)
  pub marks : List Marks
  pub held : ℕ
  pub steps : ℕ
  pub limits : Option Limits

abbrev pub empty_tree : Option Limits → Tree
empty_tree l = record { labels = []; parents = []; children = []; marks = []; held = 0; steps = 0; limits = l }

abbrev pub label_of : Tree → ℕ → NodeData
label_of t x = label_in t.labels x

abbrev pub parent_of : Tree → ℕ → Option ℕ
parent_of t x = slice_index_or t.parents x None

abbrev pub children_of : Tree → ℕ → List ℕ
children_of t x = slice_index_or t.children x []

abbrev pub marks_of : Tree → ℕ → Marks
marks_of t x = slice_index_or t.marks x no_marks

abbrev pub tag_at : Tree → ℕ → Tag
tag_at t x = tag_in (label_of t x)

abbrev pub contents_at : Tree → ℕ → Option ℕ
contents_at t x = contents_in (label_of t x)

abbrev pub host_at : Tree → ℕ → Option ℕ
host_at t x = host_in (label_of t x)

-- x is an element of this tag
abbrev pub named : Tree → Tag → ℕ → Bool
named t g x = is_same (tag_at t x) g

abbrev pub marked : Tree → Mark → ℕ → Bool
marked t m x = has_mark m (marks_of t x)

-- k more, up to the greatest number of 128 bits
abbrev pub more : ℕ → ℕ → ℕ
more n k = min (n + k) (2 ^ 128 - 1)

-- the proper ancestors of x, the nearest first, at most `fuel` of them
abbrev pub ancestors_within : ℕ → List (Option ℕ) → Option ℕ → List ℕ
ancestors_within zero ps o = []
ancestors_within (suc fuel) ps None = []
ancestors_within (suc fuel) ps (Some p) = p ∷ ancestors_within fuel ps (slice_index_or ps p None)

abbrev pub ancestors : Tree → ℕ → List ℕ
ancestors t x = ancestors_within (length t.labels) t.parents (parent_of t x)

-- each step to a parent, up to a node without one
abbrev pub Climbs : Tree → ℕ → List ℕ → Type 0
Climbs t x [] = parent_of t x ≡ None
Climbs t x (p ∷ above) = (parent_of t x ≡ Some p) × Climbs t p above

-- Each node has at most one parent, stands exactly once in that parent's list of children and in no other list,
-- and is fewer steps below a node without a parent than there are nodes. Each template has one Contents node,
-- each Contents node one template, and no parent. Each element has the tag of its name.
pub record WellFormed (t : Tree) : Type 0 where
  pub as_many_parents : length t.parents ≡ length t.labels
  pub as_many_lists : length t.children ≡ length t.labels
  pub as_many_marks : length t.marks ≡ length t.labels
  pub child_in : (p x : ℕ) → has x (children_of t p) ≡ true → x < length t.labels
  pub child_has_parent : (p x : ℕ) → has x (children_of t p) ≡ true → parent_of t x ≡ Some p
  pub parent_has_child : (p x : ℕ) → parent_of t x ≡ Some p → has x (children_of t p) ≡ true
  pub parent_in : (p x : ℕ) → parent_of t x ≡ Some p → p < length t.labels
  pub once : (p : ℕ) → Distinct (children_of t p)
  pub climbs : (x : ℕ) → x < length t.labels → (above : List ℕ) × Climbs t x above × (length above < length t.labels)
  pub templates : Templates t.labels
  pub contents_alone : (x h : ℕ) → host_at t x ≡ Some h → parent_of t x ≡ None
  pub tagged : (x : ℕ) → tag_at t x ≡ tag_of (name_in (label_of t x))

-- a new node stands alone, and holds h code points
abbrev pub added : Tree → NodeData → ℕ → Tree
added t d h =
    record t {
      labels = t.labels ++ d ∷ [];
      parents = t.parents ++ None ∷ [];
      children = t.children ++ [] ∷ [];
      marks = t.marks ++ no_marks ∷ [];
      held = more t.held h;
      steps = more t.steps 1;
    }

-- a new template stands alone, and so does its Contents node, the next one; both are made in one step
abbrev pub added_template : Tree → NodeData → ℕ → Tree
added_template t d h =
    record t {
      labels = t.labels ++ d ∷ Contents (length t.labels) ∷ [];
      parents = t.parents ++ None ∷ None ∷ [];
      children = t.children ++ [] ∷ [] ∷ [];
      marks = t.marks ++ no_marks ∷ no_marks ∷ [];
      held = more t.held h;
      steps = more t.steps 1;
    }

-- c is the child of p, whose list is xs
abbrev pub placed : Tree → ℕ → ℕ → List ℕ → Tree
placed t c p xs = record t { parents = slice_set t.parents c (Some p); children = slice_set t.children p xs; steps = more t.steps 1 }

-- c is added at the end of p's children
abbrev pub appended : Tree → ℕ → ℕ → Tree
appended t p c = placed t c p (children_of t p ++ c ∷ [])

-- c is put just before n, among the children of n's parent
abbrev pub inserted : Tree → ℕ → ℕ → Option ℕ → Tree
inserted t c n None = t
inserted t c n (Some p) = placed t c p (put_before c n (children_of t p))

-- c is taken out of its parent's children, if it has a parent
abbrev pub detached : Tree → ℕ → Option ℕ → Tree
detached t c None = record t { steps = more t.steps 1 }
detached t c (Some p) = record t { parents = slice_set t.parents c None; children = slice_set t.children p (without c (children_of t p)); steps = more t.steps 1 }

-- what stands beside x among the children of its parent
abbrev pub sibling : (ℕ → List ℕ → Option ℕ) → Option ℕ → Tree → ℕ → Option ℕ
sibling side None t x = None
sibling side (Some p) t x = side x (children_of t p)

-- a text has one more code point
abbrev pub texted : Tree → ℕ → ℕ → Tree
texted t x c = record t { labels = slice_set t.labels x (with_char (label_of t x) c); held = more t.held 1; steps = more t.steps 1 }

-- a text has a run of code points more, one step each
abbrev pub texted_run : Tree → ℕ → List ℕ → Tree
texted_run t x run = record t { labels = slice_set t.labels x (with_run (label_of t x) run); held = more t.held (length run); steps = more t.steps (length run) }

-- a text has more code points, added one after another
abbrev pub texted_each : Tree → ℕ → List ℕ → Tree
texted_each t x [] = t
texted_each t x (c ∷ run) = texted_each (texted t x c) x run

-- an element has, after its own attributes, those of a later tag whose names it lacked; each name was compared with each
abbrev pub with_merged : Tree → ℕ → List Attr → Tree
with_merged t x later =
    record t {
      labels = slice_set t.labels x (with_attrs (label_of t x) (merged (attrs_in (label_of t x)) later));
      held = more t.held (capped (attrs_weight (lacking (attrs_in (label_of t x)) later)));
      steps = more t.steps (length (attrs_in (label_of t x)) * length later);
    }

-- an element has these attributes in place of its own, and what all nodes hold is counted anew
abbrev pub with_replaced : Tree → ℕ → List Attr → Tree
with_replaced t x attrs =
    record t {
      labels = slice_set t.labels x (with_attrs (label_of t x) attrs);
      held = capped (sum_by weight (slice_set t.labels x (with_attrs (label_of t x) attrs)));
      steps = more t.steps 1;
    }

-- a mark is set or cleared, which is no step
abbrev pub with_marked : Tree → Mark → ℕ → Bool → Tree
with_marked t m x b = record t { marks = slice_set t.marks x (with_mark m b (marks_of t x)) }

-- n steps, one after another
abbrev pub each_more : ℕ → ℕ → ℕ
each_more s zero = s
each_more s (suc n) = more (each_more s n) 1

-- c, a child of `from`, becomes the last child of `to`
abbrev pub reparented : Tree → ℕ → ℕ → ℕ → Tree
reparented t c from to = record (appended (detached t c (Some from)) to c) { steps = more t.steps 1 }

-- each of the nodes has the parent p
abbrev pub all_under : ℕ → List ℕ → List (Option ℕ) → List (Option ℕ)
all_under p [] ps = ps
all_under p (c ∷ cs) ps = all_under p cs (slice_set ps c (Some p))

-- `from` keeps the children `rest`, and those before them are now the last children of `to`
abbrev pub moved_in_part : Tree → ℕ → ℕ → List ℕ → List ℕ → Tree
moved_in_part t from to done rest =
    record t {
      parents = all_under to done t.parents;
      children = slice_set (slice_set t.children from rest) to (children_of t to ++ done);
      steps = each_more t.steps (length done);
    }

-- the children of `from` are the last children of `to`
abbrev pub moved : Tree → ℕ → ℕ → Tree
moved t from to = moved_in_part t from to (children_of t from) []

-- of the children that t0 has under `from`, some are moved to `to` and the rest are still there
pub record InPart (t0 t : Tree) (from to : ℕ) : Type 0 where
  pub done : List ℕ
  pub rest : List ℕ
  pub split : children_of t0 from ≡ done ++ rest
  pub is : t ≡ moved_in_part t0 from to done rest
