-- What is always true of a tree under construction is kept, and so is what was so before.
use Rattle.std.proofs.Common.{◌≡◌, ℕ, zero, suc, ◌+◌, ◌<◌, ◌≤◌, Bool, true, false, List, [], ◌∷◌, length, take, min, Option, None, Some, cond, inl, inr, refl, sym, ◌∙◌, ap, subst, arith, length-append, length-take}
use Rattle.std.specs.List.{list_any}
use Rattle.std.proofs.lemmas.Bool.{false≢true}
use Rattle.html_names.specs.Sets.{is_formatting, is_void}
use Rattle.html_names.specs.Tags.{is_same}
use Rattle.html_names.specs.declared.tag.Tag.{Tag}
use Rattle.html_names.specs.declared.tag.Tag.TheVariants as tag
use Rattle.html_arena.specs.declared.data.NodeData.{NodeData}
use Rattle.html_arena.specs.declared.data.NodeData.TheVariants as node
use Rattle.html_arena.specs.declared.data.Origin.TheVariants.{Token}
use Rattle.html_arena.specs.declared.marks.Mark.{Mark}
use Rattle.html_arena.specs.Data.{IsElement, host_in, label_in, origin_in, tag_in}
use Rattle.html_arena.specs.Siblings.{first_of, has}
use Rattle.html_arena.specs.Tree.{Tree, children_of, label_of, more, parent_of, tag_at}
use Rattle.html_open.specs.declared.entry.Entry.{Entry}
use Rattle.html_open.specs.Lists.{above, below, looked}
use Rattle.html_open.specs.Marking.{all_unmarked, bare, charged}
use Rattle.html_open.specs.Opened.{IsOpen, open_at, origin_at}
use Rattle.html_open.specs.Reopening.{HoldsNoElement}
use Rattle.html_open.proofs.Keeps.{cases_bool, has-tail, split-last}
use Rattle.html_tree.specs.Closing.{first_few, kept_to}
use Rattle.html_tree.specs.Proper.{IsProper, is_foreign_root, opens}
use Rattle.html_tree.specs.Since.{Grown, HasFrameset, IsClosed, Keeps, Since, SinceBy, essence}
use Rattle.html_tree.specs.States.{IsNamed, IsUnderWay, State, state_of}

-- what stays of a node tells its kind, its tag, its token and its template
tag-essence : (d : NodeData) → tag_in (essence d) ≡ tag_in d
tag-essence node.Document = refl
tag-essence (node.Contents h) = refl
tag-essence (node.Element e) = refl
tag-essence (node.Text s) = refl
tag-essence (node.Comment s i) = refl
tag-essence (node.Doctype n p s i) = refl

origin-essence : (d : NodeData) → origin_in (essence d) ≡ origin_in d
origin-essence node.Document = refl
origin-essence (node.Contents h) = refl
origin-essence (node.Element e) = refl
origin-essence (node.Text s) = refl
origin-essence (node.Comment s i) = refl
origin-essence (node.Doctype n p s i) = refl

host-essence : (d : NodeData) → host_in (essence d) ≡ host_in d
host-essence node.Document = refl
host-essence (node.Contents h) = refl
host-essence (node.Element e) = refl
host-essence (node.Text s) = refl
host-essence (node.Comment s i) = refl
host-essence (node.Doctype n p s i) = refl

element-essence : (d : NodeData) → IsElement d → IsElement (essence d)
element-essence (node.Element e) i = tt
element-essence node.Document i = absurd i
element-essence (node.Contents h) i = absurd i
element-essence (node.Text s) i = absurd i
element-essence (node.Comment s j) i = absurd i
element-essence (node.Doctype n p s j) i = absurd i

essence-element : (d : NodeData) → IsElement (essence d) → IsElement d
essence-element (node.Element e) i = tt
essence-element node.Document i = absurd i
essence-element (node.Contents h) i = absurd i
essence-element (node.Text s) i = absurd i
essence-element (node.Comment s j) i = absurd i
essence-element (node.Doctype n p s j) i = absurd i

pub same-tag_in : (d e : NodeData) → essence e ≡ essence d → tag_in e ≡ tag_in d
same-tag_in d e h = sym (tag-essence e) ∙ ap tag_in h ∙ tag-essence d

pub same-origin_in : (d e : NodeData) → essence e ≡ essence d → origin_in e ≡ origin_in d
same-origin_in d e h = sym (origin-essence e) ∙ ap origin_in h ∙ origin-essence d

pub same-host_in : (d e : NodeData) → essence e ≡ essence d → host_in e ≡ host_in d
same-host_in d e h = sym (host-essence e) ∙ ap host_in h ∙ host-essence d

pub same-element : (d e : NodeData) → essence e ≡ essence d → IsElement d → IsElement e
same-element d e h i = essence-element e (subst IsElement (sym h) (element-essence d i))

-- a node that was proper is so, where its name stays, and what was closed stays closed and keeps its children
void-element : (d : NodeData) → is_void (tag_in d) ≡ true → IsElement d
void-element (node.Element e) v = tt
void-element node.Document v = absurd (false≢true v)
void-element (node.Contents h) v = absurd (false≢true v)
void-element (node.Text s) v = absurd (false≢true v)
void-element (node.Comment s i) v = absurd (false≢true v)
void-element (node.Doctype n p s i) v = absurd (false≢true v)

void-head : (g : Tag) → is_void g ≡ true → is_same g tag.Head ≡ false
void-head tag.Head v = absurd (false≢true v)
void-head _ v = refl

pub old-proper : (a b : State) → ((x : ℕ) → x < length a.tree.labels → essence (label_of b.tree x) ≡ essence (label_of a.tree x)) → ((x : ℕ) → IsClosed a x → has x b.stack ≡ false)
    → ((x : ℕ) → IsClosed a x → HoldsNoElement a.tree x → children_of b.tree x ≡ children_of a.tree x) → (x : ℕ) → x < length a.tree.labels → IsProper a x → IsProper b x
old-proper a b labels off children x q p =
    let t : tag_at b.tree x ≡ tag_at a.tree x = same-tag_in (label_of a.tree x) (label_of b.tree x) (labels x q) in
    let before : is_void (tag_at b.tree x) ≡ true → is_void (tag_at a.tree x) ≡ true = λ v. sym (ap is_void t) ∙ v in
    let closed : is_void (tag_at b.tree x) ≡ true → IsClosed a x = λ v. record {
      node_in = q;
      element = void-element (label_of a.tree x) (before v);
      not_head = void-head (tag_at a.tree x) (before v);
      off = p.shut (before v);
    } in
    let none : is_void (tag_at b.tree x) ≡ true → HoldsNoElement a.tree x =
    λ v c i e. (let k : has c [] ≡ true = subst (λ ks. has c ks ≡ true) (p.empty (before v)) i in false≢true k) in
    record {
      own = ap is_foreign_root t ∙ p.own;
      shut = λ v. off x (closed v);
      empty = λ v. children x (closed v) (none v) ∙ p.empty (before v);
    }

opens-void : (g : Tag) → opens g ≡ true → is_void g ≡ false
opens-void g = by (is_void g) (is_foreign_root g)
  where
    by : (v r : Bool) → cond v false (cond r false true) ≡ true → v ≡ false
    by true r e = absurd (false≢true e)
    by false r e = refl

opens-root : (g : Tag) → opens g ≡ true → is_foreign_root g ≡ false
opens-root g = by (is_void g) (is_foreign_root g)
  where
    by : (v r : Bool) → cond v false (cond r false true) ≡ true → r ≡ false
    by true r e = absurd (false≢true e)
    by false true e = absurd (false≢true e)
    by false false e = refl

-- an element that is opened is proper, and so is what is not opened and has no children
pub proper-opened : (a : State) (x : ℕ) → opens (tag_at a.tree x) ≡ true → IsProper a x
proper-opened a x o =
    let v = opens-void (tag_at a.tree x) o in
    record {
      own = opens-root (tag_at a.tree x) o;
      shut = λ w. absurd (false≢true (sym v ∙ w));
      empty = λ w. absurd (false≢true (sym v ∙ w));
    }

pub proper-shut : (a : State) (x : ℕ) → is_foreign_root (tag_at a.tree x) ≡ false → has x a.stack ≡ false → children_of a.tree x ≡ [] → IsProper a x
proper-shut a x o h c = record { own = o; shut = λ v. h; empty = λ v. c }

pub host-opens : (d : NodeData) (x : ℕ) → host_in d ≡ Some x → opens (tag_in d) ≡ true
host-opens (node.Contents h) x e = refl
host-opens node.Document x e = refl
host-opens (node.Element r) x e = absurd (let k : None ≡ Some x = e in cc)
host-opens (node.Text s) x e = refl
host-opens (node.Comment s i) x e = refl
host-opens (node.Doctype n p s i) x e = refl

-- the contents of a template are proper
pub proper-host : (a : State) (x h : ℕ) → host_in (label_of a.tree x) ≡ Some h → IsProper a x
proper-host a x h e = proper-opened a x (host-opens (label_of a.tree x) h e)

pub formatting-opens : (g : Tag) → is_formatting g ≡ true → opens g ≡ true
formatting-opens tag.A e = refl
formatting-opens tag.B e = refl
formatting-opens tag.Big e = refl
formatting-opens tag.Code e = refl
formatting-opens tag.Em e = refl
formatting-opens tag.Font e = refl
formatting-opens tag.I e = refl
formatting-opens tag.Nobr e = refl
formatting-opens tag.S e = refl
formatting-opens tag.Small e = refl
formatting-opens tag.Strike e = refl
formatting-opens tag.Strong e = refl
formatting-opens tag.Tt e = refl
formatting-opens tag.U e = refl
formatting-opens _ e = absurd (false≢true e)

pub since-self : (a : State) → Since a a
since-self a = record {
  first = λ x h. h;
  no_fewer = omega arith;
  tokens = omega arith;
  labels = λ x b. refl;
  off = λ x h. h.off;
  children = λ x h n. refl;
  texts = λ x y h n i. refl;
  linked = λ x i h. inr (inr (i, h));
  root = λ h. h;
  detached = λ x h. h;
  replaced = λ x h. inl h;
  proper = λ x p l. p l;
  steps = omega arith;
}

-- a frameset that was made stays one
pub frameset-later : (F : Type 0) (a b : State) → SinceBy F a b → HasFrameset a.tree → HasFrameset b.tree
frameset-later F a b g y = (
  y.0,
  (let l = y.1 in let fewer = g.no_fewer in omega (arith, l, fewer)),
  ap (λ v. is_same v tag.Frameset) (same-tag_in (label_of a.tree y.0) (label_of b.tree y.0) (g.labels y.0 y.1)) ∙ y.2,
)

pub since-by : (F G H : Type 0) (s a b : State) → (F → H) → (G → H) → SinceBy F s a → SinceBy G a b → SinceBy H s b
since-by F G H s a b left right f g =
    let fewer = f.no_fewer in
    let tokens = f.tokens in
    let more_nodes = g.no_fewer in
    let more_tokens = g.tokens in
    let steps = f.steps in
    let more_steps = g.steps in
    let within : (x : ℕ) → x < length s.tree.labels → x < length a.tree.labels = λ x h. omega arith in
    let closed : (x : ℕ) → IsClosed s x → IsClosed a x = λ x h. record {
      node_in = within x h.node_in;
      element = same-element (label_of s.tree x) (label_of a.tree x) (f.labels x h.node_in) h.element;
      not_head = ap (λ g. is_same g tag.Head) (same-tag_in (label_of s.tree x) (label_of a.tree x) (f.labels x h.node_in)) ∙ h.not_head;
      off = f.off x h;
    } in
    let none : (x : ℕ) → IsClosed s x → HoldsNoElement s.tree x → HoldsNoElement a.tree x =
    λ x h n c i e. (let j = subst (λ v. has c v ≡ true) (f.children x h n) i in n c j (subst IsElement (f.texts x c h n j) e)) in
    record {
      first = λ x h. g.first x (f.first x h);
      no_fewer = omega arith;
      tokens = omega arith;
      labels = λ x b. g.labels x (within x b) ∙ f.labels x b;
      off = λ x h. g.off x (closed x h);
      children = λ x h n. g.children x (closed x h) (none x h n) ∙ f.children x h n;
      texts = λ x y h n i. g.texts x y (closed x h) (none x h n) (subst (λ v. has y v ≡ true) (sym (f.children x h n)) i) ∙ f.texts x y h n i;
      linked = λ x i p. elim (g.linked x i p) [
        | inl c ↦ inl c
        | inr q ↦ elim q [
          | inl d ↦ inr (inl d)
          | inr r ↦ elim (f.linked x r.0 r.1) [
            | inl c ↦ inl (c.0, same-host_in (label_of a.tree x) (label_of b.tree x) (g.labels x r.0) ∙ c.1)
            | inr w ↦ elim w [
              | inl d ↦ inr (inl (g.detached x d))
              | inr v ↦ inr (inr v)
            ]
          ]
        ]
      ];
      root = λ h. g.root (f.root h);
      detached = λ x h. g.detached x (f.detached x h);
      replaced = λ x h. elim (g.replaced x h) [ inl d ↦ elim (f.replaced x d) [ inl e ↦ inl e | inr e ↦ inr (left e) ] | inr d ↦ inr (right d) ];
      proper = λ x p l. g.proper x (λ h. f.proper x p h) l;
      steps = omega arith;
    }

pub since-since : (s a b : State) → Since s a → Since a b → Since s b
since-since s a b f g = since-by (HasFrameset a.tree) (HasFrameset b.tree) (HasFrameset b.tree) s a b (frameset-later (HasFrameset b.tree) a b g) (λ h. h) f g

pub keeps-since : (a b : State) → Since a b → Keeps a b
keeps-since a b h = λ s k. since-since s a b k h

named-later : (t u : Tree) (g : Tag) (o : Option ℕ) → length t.labels ≤ length u.labels → ((x : ℕ) → x < length t.labels → essence (label_of u x) ≡ essence (label_of t x)) → IsNamed t g o → IsNamed u g o
named-later t u g o le e h = λ x i. (let b = h x i in let k = b.0 in (omega arith, ap (λ v. is_same v g) (same-tag_in (label_of t x) (label_of u x) (e x b.0)) ∙ b.1))

module _ (s s' : List ℕ) (l l' : List Entry) (t u : Tree) (n m : ℕ) (h f d : Option ℕ) where
  -- of a later state: its first element is given, all else follows
  pub later-under_way : IsUnderWay s l t n h f d → IsOpen (open_at s' l' u) → IsNamed u tag.Html (first_of s') → (IsElement (label_of u 0) → first_of s' ≡ Some 0)
      → length t.labels ≤ length u.labels → ((x : ℕ) → x < length t.labels → essence (label_of u x) ≡ essence (label_of t x)) → ((x i : ℕ) → origin_at u x ≡ Token i → i < m) → IsUnderWay s' l' u m h f d
  later-under_way p o first root le e tokens = (let some = p.some_node in record {
    is_open = o;
    some_node = omega arith;
    first = first;
    root = root;
    tokens = tokens;
    head = named-later t u tag.Head h le e p.head;
    form = named-later t u tag.Form f le e p.form;
    detached = named-later t u tag.Body d le e p.detached;
  })

  -- the first element is the same
  pub same-first-under_way : IsUnderWay s l t n h f d → IsOpen (open_at s' l' u) → first_of s' ≡ first_of s
      → length t.labels ≤ length u.labels → ((x : ℕ) → x < length t.labels → essence (label_of u x) ≡ essence (label_of t x)) → ((x i : ℕ) → origin_at u x ≡ Token i → i < m) → IsUnderWay s' l' u m h f d
  same-first-under_way p o j le e tokens =
      later-under_way p o (λ x i. named-later t u tag.Html (first_of s) le e p.first x (sym j ∙ i))
      (λ i. j ∙ p.root (same-element (label_of u 0) (label_of t 0) (sym (e 0 p.some_node)) i)) le e tokens

-- the labels are the same
pub same-under_way : (s s' : List ℕ) (l l' : List Entry) (t u : Tree) (n : ℕ) (h f d : Option ℕ) → u.labels ≡ t.labels → first_of s' ≡ first_of s → IsOpen (open_at s' l' u) → IsUnderWay s l t n h f d → IsUnderWay s' l' u n h f d
same-under_way s s' l l' t u n h f d e j o p =
    let k : length u.labels ≡ length t.labels = ap length e in
    same-first-under_way s s' l l' t u n n h f d p o j (omega arith) (λ x b. ap (λ v. essence (label_in v x)) e) (λ x i w. p.tokens x i (sym (ap (λ v. origin_in (label_in v x)) e) ∙ w))

-- only steps are counted
pub charged-under_way : (s : List ℕ) (l : List Entry) (t u : Tree) (n k : ℕ) (h f d : Option ℕ) → u ≡ charged t k → IsOpen (open_at s l u) → IsUnderWay s l t n h f d → IsUnderWay s l u n h f d
charged-under_way s l t u n k h f d e o p = same-under_way s s l l t u n h f d (ap (λ (v : Tree). v.labels) e) refl o p

pub charged-bare : (t u : Tree) (k : ℕ) → u ≡ charged t k → bare u ≡ bare t
charged-bare t u k e = ap bare e

-- the tree is the same, and no element is opened
pub fewer-since : (a b : State) → b.tree ≡ a.tree → b.tokens ≡ a.tokens → b.detached ≡ a.detached → ((x : ℕ) → first_of a.stack ≡ Some x → first_of b.stack ≡ Some x) → ((x : ℕ) → has x a.stack ≡ false → has x b.stack ≡ false) → more a.steps 0 ≤ b.steps → Since a b
fewer-since a b e n d f o k =
    let fewer : length b.tree.labels ≡ length a.tree.labels = ap (λ (v : Tree). length v.labels) e in
    record {
      first = f;
      no_fewer = omega arith;
      tokens = omega arith;
      labels = λ x b. ap (λ (v : Tree). essence (label_of v x)) e;
      off = λ x h. o x h.off;
      children = λ x h n. ap (λ (v : Tree). children_of v x) e;
      texts = λ x y h n i. ap (λ (v : Tree). label_of v y) e;
      linked = λ x b h. inr (inr (omega arith, sym (ap (λ (v : Tree). parent_of v x) e) ∙ h));
      root = λ h. ap (λ (v : Tree). parent_of v 0) e ∙ h;
      detached = λ x h. d ∙ h;
      replaced = λ x h. inl (sym d ∙ h);
      proper = λ x p l. (let q : x < length a.tree.labels = omega arith in
          old-proper a b (λ y b. ap (λ (v : Tree). essence (label_of v y)) e) (λ y h. o y h.off) (λ y h n. ap (λ (v : Tree). children_of v y) e) x q (p q));
      steps = k;
    }

pub same-keeps : (a b : State) → b ≡ record a { steps = b.steps } → more a.steps 0 ≤ b.steps → Keeps a b
same-keeps a b e k = keeps-since a b (fewer-since a b (ap (λ (v : State). v.tree) e) (ap (λ (v : State). v.tokens) e) (ap (λ (v : State). v.detached) e)
    (λ x h. ap (λ (v : State). first_of v.stack) e ∙ h) (λ x h. ap (λ (v : State). has x v.stack) e ∙ h) k)

-- steps
pub looked-most : {X : Type 0} (p : X → Bool) (xs : List X) → looked p xs ≤ length xs
looked-most p xs = elim (cases_bool (list_any p xs)) [
  | inl e ↦ let k = split-last p xs e in (let l : length xs ≡ length (below p xs) + suc (length (above p xs)) = ap length k.1 ∙ length-append (below p xs) (k.0 ∷ above p xs) in rw e (omega arith))
  | inr e ↦ rw e (let l = above-most p xs in omega arith)
]
  where
    above-most : {X : Type 0} (p : X → Bool) (xs : List X) → length (above p xs) ≤ length xs
    above-most p [] = omega arith
    above-most p (x ∷ xs) = let r = above-most p xs in elim (cases_bool (list_any p xs)) [
      | inl e ↦ rw e (omega arith)
      | inr e ↦ rw e (elim (cases_bool (p x)) [ inl f ↦ rw f (omega arith) | inr f ↦ rw f (omega arith) ])
    ]

pub more-most : (n k : ℕ) → more n k ≤ n + k
more-most n k = omega arith

pub charged-steps : (t u : Tree) (k m : ℕ) → u ≡ charged t k → k ≤ m → u.steps ≤ t.steps + m
charged-steps t u k m e h = let f : u.steps ≡ more t.steps k = ap (λ (v : Tree). v.steps) e in let g = more-most t.steps k in omega arith

pub all_unmarked-steps : (t : Tree) (m : Mark) (xs : List ℕ) → (all_unmarked t m xs).steps ≡ t.steps
all_unmarked-steps t m [] = refl
all_unmarked-steps t m (x ∷ xs) = all_unmarked-steps t m xs

-- states by their parts
abbrev pub state : List ℕ → List Entry → Tree → ℕ → ℕ → Option ℕ → Option ℕ → Option ℕ → State
state s l t k n h f d = record { stack = s; list = l; tree = t; steps = k; tokens = n; head = h; form = f; detached = d }

pub same-state : (s s' : List ℕ) (l l' : List Entry) (t t' : Tree) (k n : ℕ) (h f d : Option ℕ) → s' ≡ s → l' ≡ l → t' ≡ t → state s' l' t' k n h f d ≡ state s l t k n h f d
same-state s s' l l' t t' k n h f d e i g = ap (λ v. state v l' t' k n h f d) e ∙ ap (λ v. state s v t' k n h f d) i ∙ ap (λ v. state s l v k n h f d) g

-- the first elements of the stack
pub has-take : (x k : ℕ) (s : List ℕ) → has x s ≡ false → has x (take k s) ≡ false
has-take x zero s h = refl
has-take x (suc k) [] h = refl
has-take x (suc k) (y ∷ s) h = (let t = has-tail x y s h in rw t.0 (has-take x k s t.1))

pub first-taken : (k : ℕ) (s : List ℕ) → (0 < length s → 0 < k) → first_of (take k s) ≡ first_of s
first-taken zero [] h = refl
first-taken (suc k) [] h = refl
first-taken zero (x ∷ s) h = absurd (let q : 0 < 0 = h (omega arith) in omega arith)
first-taken (suc k) (x ∷ s) h = refl

pub first-few : (k : ℕ) (s : List ℕ) → first_of (first_few k s) ≡ first_of s
first-few k s = first-taken (kept_to (length s) k) s (λ h. omega arith)

pub few-length : (k : ℕ) (s : List ℕ) → length (first_few k s) ≡ kept_to (length s) k
few-length k s = length-take (kept_to (length s) k) s ∙ omega arith

-- elements are closed, and nothing else changes
pub closed-keeps : (a b : State) (s : List ℕ) → b ≡ record a { stack = s; steps = b.steps } → first_of s ≡ first_of a.stack → ((x : ℕ) → has x a.stack ≡ false → has x s ≡ false) → more a.steps 0 ≤ b.steps → Keeps a b
closed-keeps a b s e f o k = keeps-since a b (fewer-since a b (ap (λ (v : State). v.tree) e) (ap (λ (v : State). v.tokens) e) (ap (λ (v : State). v.detached) e)
    (λ x h. ap (λ (v : State). first_of v.stack) e ∙ f ∙ h)
    (λ x h. ap (λ (v : State). has x v.stack) e ∙ o x h) k)

pub some-first : (s s' : List ℕ) → first_of s' ≡ first_of s → min 1 (length s) ≤ length s'
some-first [] s' e = omega arith
some-first (x ∷ s) [] e = absurd (let k = e in cc)
some-first (x ∷ s) (y ∷ s') e = omega arith

pub closed-grown : (a b : State) (s : List ℕ) → b ≡ record a { stack = s; steps = b.steps } → first_of s ≡ first_of a.stack → length s ≤ length a.stack → Grown 0 0 0 0 a b
closed-grown a b s e f o =
    let x : length b.tree.labels ≡ length a.tree.labels = ap (λ (v : State). length v.tree.labels) e in
    let y : length b.stack ≡ length s = ap (λ (v : State). length v.stack) e in
    let z : length b.list ≡ length a.list = ap (λ (v : State). length v.list) e in
    let w : b.tree.held ≡ a.tree.held = ap (λ (v : State). v.tree.held) e in
    let q = some-first a.stack s f in
    record { nodes_least = omega arith; nodes_most = omega arith; open_most = omega arith; entries_most = omega arith; held_most = omega arith; open_least = omega arith }

pub popped-keeps : (a b : State) (k : ℕ) → b ≡ record a { stack = first_few k a.stack; steps = b.steps } → more a.steps 0 ≤ b.steps → Keeps a b
popped-keeps a b k e m = closed-keeps a b (first_few k a.stack) e (first-few k a.stack) (λ x h. has-take x (kept_to (length a.stack) k) a.stack h) m

pub popped-grown : (a b : State) (k : ℕ) → b ≡ record a { stack = first_few k a.stack; steps = b.steps } → Grown 0 0 0 0 a b
popped-grown a b k e = closed-grown a b (first_few k a.stack) e (first-few k a.stack) (let y = few-length k a.stack in omega arith)

-- a read
pub read-rest : (a : State) (s : List ℕ) (l : List Entry) (t u : Tree) (n k : ℕ) (h f d : Option ℕ) → state_of s l t n h f d ≡ a → u ≡ charged t k → state_of s l u n h f d ≡ record a { steps = u.steps }
read-rest a s l t u n k h f d e g =
    subst (λ (v : State). state_of s l u n h f d ≡ record v { steps = u.steps }) e (same-state s s l l (bare t) (bare u) u.steps n h f d refl refl (ap bare g))

pub read-keeps : (a : State) (s : List ℕ) (l : List Entry) (t u : Tree) (n k : ℕ) (h f d : Option ℕ) → state_of s l t n h f d ≡ a → u ≡ charged t k → Keeps a (state_of s l u n h f d)
read-keeps a s l t u n k h f d e g =
    let x : u.steps ≡ more t.steps k = ap (λ (v : Tree). v.steps) g in
    let y : t.steps ≡ a.steps = ap (λ (v : State). v.steps) e in
    same-keeps a (state_of s l u n h f d) (read-rest a s l t u n k h f d e g) (omega (arith, x, y))

pub same-grown : (a b : State) → b ≡ record a { steps = b.steps } → Grown 0 0 0 0 a b
same-grown a b e =
    let x : length b.tree.labels ≡ length a.tree.labels = ap (λ (v : State). length v.tree.labels) e in
    let y : length b.stack ≡ length a.stack = ap (λ (v : State). length v.stack) e in
    let z : length b.list ≡ length a.list = ap (λ (v : State). length v.list) e in
    let w : b.tree.held ≡ a.tree.held = ap (λ (v : State). v.tree.held) e in
    record { nodes_least = omega arith; nodes_most = omega arith; open_most = omega arith; entries_most = omega arith; held_most = omega arith; open_least = omega arith }

pub read-grown : (a : State) (s : List ℕ) (l : List Entry) (t u : Tree) (n k : ℕ) (h f d : Option ℕ) → state_of s l t n h f d ≡ a → u ≡ charged t k → Grown 0 0 0 0 a (state_of s l u n h f d)
read-grown a s l t u n k h f d e g = same-grown a (state_of s l u n h f d) (read-rest a s l t u n k h f d e g)

pub ruleset kept_rules = (charged-under_way, charged-bare, same-keeps, same-grown)
