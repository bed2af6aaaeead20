-- The links and the contents of templates in a tree under construction, and what the open elements stand below.
use Rattle.std.proofs.Common.{◌≡◌, ◌⊎◌, ◌≤◌, ◌<◌, ℕ, true, List, [], ◌∷◌, length, Some, None, is_some}
use Rattle.html_names.specs.declared.tag.Tag.TheVariants as tag
use Rattle.html_names.specs.Sets.{is_special, is_template}
use Rattle.html_arena.specs.Siblings.{Distinct, first_of, has}
use Rattle.html_arena.specs.Tree.{Tree as Nodes, children_of, contents_at, host_at, parent_of, tag_at}
use Rattle.html_open.specs.Placing.{get}
use Rattle.html_laws.specs.Contents.{IsOver}

-- What is so of the nodes. Links go both ways, and lead to nodes; a template has its contents, which stand alone and are younger; node 0 stands alone, and is an
-- html where it is special; and a node is no older than the contents in which it stands.
pub record IsLaid (t : Nodes) : Type 0 where
  pub some : 0 < length t.labels
  pub as_many_parents : length t.parents ≡ length t.labels
  pub as_many_lists : length t.children ≡ length t.labels
  pub parent_in : (x p : ℕ) → parent_of t x ≡ Some p → p < length t.labels
  pub child_has_parent : (p x : ℕ) → has x (children_of t p) ≡ true → parent_of t x ≡ Some p
  pub parent_has_child : (p x : ℕ) → parent_of t x ≡ Some p → has x (children_of t p) ≡ true
  pub once : (p : ℕ) → Distinct (children_of t p)
  pub hosts : (x : ℕ) → is_some (contents_at t x) ≡ is_template (tag_at t x)
  pub contents_is : (x c : ℕ) → contents_at t x ≡ Some c → (c < length t.labels) × (host_at t c ≡ Some x)
  pub younger : (c h : ℕ) → host_at t c ≡ Some h → h < c
  pub alone : (c h : ℕ) → host_at t c ≡ Some h → parent_of t c ≡ None
  pub root_alone : parent_of t 0 ≡ None
  pub root_host : host_at t 0 ≡ None
  pub root_tag : is_special (tag_at t 0) ≡ true → tag_at t 0 ≡ tag.Html
  pub no_older : (c h x : ℕ) → host_at t c ≡ Some h → IsOver t c x → c ≤ x

-- what stands on these elements stands below this: the contents of the last template among them, or the root before them
abbrev pub base : Nodes → ℕ → List ℕ → ℕ
base t r [] = r
base t r (x ∷ s) = base t (get (contents_at t x) r) s

-- each of them but a template stands below the root, which is the contents of the last template before it, or the root before them
abbrev pub AreBased : Nodes → ℕ → List ℕ → Type 0
AreBased t r [] = Unit {0}
AreBased t r (x ∷ s) = (contents_at t x ≡ None → IsOver t r x) × AreBased t (get (contents_at t x) r) s

-- What is so of the nodes and the open elements: these are nodes, each once; the first is an html, and is node 0 or its child; and all but templates stand
-- below the contents of the last template before them, or below node 0.
pub record IsTied (t : Nodes) (s : List ℕ) : Type 0 where
  pub laid : IsLaid t
  pub inside : (x : ℕ) → has x s ≡ true → x < length t.labels
  pub once : Distinct s
  pub first : (x : ℕ) → first_of s ≡ Some x → tag_at t x ≡ tag.Html
  pub rooted : (x : ℕ) → first_of s ≡ Some x → (x ≡ 0) ⊎ (parent_of t x ≡ Some 0)
  pub based : AreBased t 0 s
