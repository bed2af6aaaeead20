-- Open elements, as nodes and texts are added, and as they are closed.
use Rattle.std.proofs.Common.{◌≡◌, ℕ, ◌+◌, ◌<◌, Bool, false, cond, List, [], ◌∷◌, ◌++◌, length, reverse, get_or, append-nil, Option, Some, None, refl, sym, ap, ◌∙◌, subst, arith}
use Rattle.std.proofs.lemmas.List.{reverse-append}
use Rattle.html_arena.specs.Data.{contents_in, is_text}
use Rattle.html_arena.specs.Forest.{Forest}
use Rattle.html_arena.specs.Forest.Forest.{empty, tree}
use Rattle.html_arena.specs.Siblings.{first_of, last_of, or_else}
use Rattle.html_arena.specs.Tree.{Tree, label_of, texted_run}
use Rattle.html_arena.specs.Walking.{IsRoot}
use Rattle.html_arena.specs.declared.data.NewNode.TheVariants.{Text}
use Rattle.html_arena.specs.declared.data.NodeData.{NodeData}
use Rattle.html_arena.specs.declared.data.NodeData.TheVariants as node
use Rattle.html_tokens.specs.declared.attributes.Attr.{Attr}
use Rattle.html_open.specs.Marking.{bare}
use Rattle.html_open.proofs.Closing.{last-pushed}
use Rattle.html_open.specs.Placing.{get, inside}
use Rattle.html_open.specs.declared.places.Place.{Place}
use Rattle.html_open.specs.declared.places.Place.TheVariants.{Last}
use Rattle.html_tree.specs.Inserting.{with_new}
use Rattle.html_tree.specs.States.{State as Nodes}
use Rattle.html_tree.specs.Texts.{before_place, if_text, node_or_next, place_here, tree_or_new, with_text}
use Rattle.html_page.specs.Begun.{ends_after, is_text_label}
use Rattle.html_page.specs.Forest.{join, single}
use Rattle.html_page.specs.Label.{Label, label_for}
use Rattle.html_page.specs.Label.Label.{document, element, text}
use Rattle.html_page.specs.Open.{Before, IsAdded, IsFilled, IsLabelled, IsOpenAt, ShowsIn}
use Rattle.html_page.proofs.Added.{added-filled}
use Rattle.html_page.proofs.Opens.{Added-same, IsSame, OpenAt-added, OpenAt-closed, OpenAt-new, OpenAt-same}
use Rattle.html_builder.specs.Plain.{AreOpen, AreOpenWith, IsEven}
use Rattle.html_builder.proofs.Adding.{new-added, new-even, new-label, run-even, run-filled}

-- the innermost open element, or the document, and its label
abbrev pub top : List ℕ → ℕ
top [] = 0
top (x ∷ ids) = x

abbrev pub top_label : List Before → Label
top_label [] = document
top_label ((n, attrs, before) ∷ outer) = element n attrs

-- trees, and then a text, if it is not empty
abbrev pub and_text : Forest Label → List ℕ → Forest Label
and_text d [] = d
and_text d (c ∷ s) = join d (single (text (c ∷ s)) empty)

pub open-top : (t : Tree) (high : ℕ) (tail ids : List ℕ) (d : Forest Label) (outer : List Before) → AreOpen t high tail ids d outer → IsOpenAt t high tail (top ids) (top_label outer) d
open-top t high tail [] d [] h = h.0
open-top t high tail [] d ((n, attrs, before) ∷ outer) h = absurd h
open-top t high tail (x ∷ ids) d [] h = absurd h
open-top t high tail (x ∷ ids) d ((n, attrs, before) ∷ outer) h = h.0

pub open-root : (t : Tree) (high : ℕ) (tail ids : List ℕ) (d : Forest Label) (outer : List Before) → AreOpen t high tail ids d outer → IsRoot t 0
open-root t high tail [] d [] h = h.1
open-root t high tail [] d ((n, attrs, before) ∷ outer) h = absurd h
open-root t high tail (x ∷ ids) d [] h = absurd h
open-root t high tail (x ∷ ids) d ((n, attrs, before) ∷ outer) h = open-root t x (x ∷ []) ids before outer h.1

-- open as before, where the nodes below are the same
pub open-same : (old new : Tree) (high : ℕ) (tail ids : List ℕ) (d : Forest Label) (outer : List Before) → ((k : ℕ) → k < high → IsSame old new k) → AreOpen old high tail ids d outer → AreOpen new high tail ids d outer
open-same old new high tail [] d [] same h = (OpenAt-same old new high tail 0 document d same h.0, (same 0 h.0.within).root h.1)
open-same old new high tail [] d ((n, attrs, before) ∷ outer) same h = absurd h
open-same old new high tail (x ∷ ids) d [] same h = absurd h
open-same old new high tail (x ∷ ids) d ((n, attrs, before) ∷ outer) same h =
    (OpenAt-same old new high tail x (element n attrs) d same h.0, open-same old new x (x ∷ []) ids before outer (λ k l. same k (omega (arith, l, h.0.within))) h.1)

-- a node was added to the innermost
pub open-added : (old new : Tree) (l : Label) (ids : List ℕ) (d : Forest Label) (outer : List Before) → IsAdded old new (top ids) l → AreOpen old (length old.labels) [] ids d outer
    → AreOpen new (length old.labels) (length old.labels ∷ []) ids d outer
open-added old new l [] d [] added h = (OpenAt-added old new 0 document l d added h.0, added.roots 0 h.1)
open-added old new l [] d ((n, attrs, before) ∷ outer) added h = absurd h
open-added old new l (x ∷ ids) d [] added h = absurd h
open-added old new l (x ∷ ids) d ((n, attrs, before) ∷ outer) added h =
    (OpenAt-added old new x (element n attrs) l d added h.0, open-same old new x (x ∷ []) ids before outer (Added-same old new x l added h.0.within) h.1)

-- and it is closed
pub open-closed : (t : Tree) (high x : ℕ) (label : Label) (ids : List ℕ) (d f : Forest Label) (outer : List Before) → AreOpen t x (x ∷ []) ids d outer → IsOpenAt t high [] x label f → AreOpen t high [] ids (join d (single label f)) outer
open-closed t high x label [] d f [] h i = (OpenAt-closed t high 0 x document label d f h.0 i, h.1)
open-closed t high x label [] d f ((n, attrs, before) ∷ outer) h i = absurd h
open-closed t high x label (y ∷ ids) d f [] h i = absurd h
open-closed t high x label (y ∷ ids) d f ((n, attrs, before) ∷ outer) h i = (OpenAt-closed t high y x (element n attrs) label d f h.0 i, h.1)

-- a node that was added and stays empty
pub open-leaf : (old new : Tree) (l : Label) (ids : List ℕ) (d : Forest Label) (outer : List Before) → IsAdded old new (top ids) l → AreOpen old (length old.labels) [] ids d outer
    → AreOpen new (length new.labels) [] ids (join d (single l empty)) outer
open-leaf old new l ids d outer added h =
    open-closed new (length new.labels) (length old.labels) l ids d empty outer (open-added old new l ids d outer added h) (OpenAt-new old new (top ids) l added)

-- an element that was added and is open
pub open-start : (old new : Tree) (n : List ℕ) (attrs : List Attr) (ids : List ℕ) (d : Forest Label) (outer : List Before) → IsAdded old new (top ids) (element n attrs) → AreOpen old (length old.labels) [] ids d outer
    → AreOpen new (length new.labels) [] (length old.labels ∷ ids) empty ((n, attrs, d) ∷ outer)
open-start old new n attrs ids d outer added h = (OpenAt-new old new (top ids) (element n attrs) added, open-added old new (element n attrs) ids d outer added h)

-- the innermost element is closed
pub open-end : (t : Tree) (n : List ℕ) (attrs : List Attr) (before : Forest Label) (x : ℕ) (ids : List ℕ) (d : Forest Label) (outer : List Before) → AreOpen t (length t.labels) [] (x ∷ ids) d ((n, attrs, before) ∷ outer)
    → AreOpen t (length t.labels) [] ids (join before (single (element n attrs) d)) outer
open-end t n attrs before x ids d outer h = open-closed t (length t.labels) x (element n attrs) ids before d outer h.1 h.0

-- TEXTS

-- the text is one tree more
pub text-closed : (s : List ℕ) (t : Tree) (ids : List ℕ) (d : Forest Label) (outer : List Before) → AreOpenWith s t ids d outer → AreOpen t (length t.labels) [] ids (and_text d s) outer
text-closed [] t ids d outer h = h
text-closed (c ∷ s) t ids d outer h =
    open-closed t (length t.labels) h.0 (text (c ∷ s)) ids d empty outer h.4
    (record { within = omega (arith, h.1); label_is = h.2; ids = []; children_are = h.3; shows = tt })

-- a text that was added
pub text-begun : (old new : Tree) (c : ℕ) (s : List ℕ) (ids : List ℕ) (d : Forest Label) (outer : List Before) → IsAdded old new (top ids) (text (c ∷ s)) → AreOpen old (length old.labels) [] ids d outer → AreOpenWith (c ∷ s) new ids d outer
text-begun old new c s ids d outer added h = (length old.labels, added.longer, added.new_label, added.new_children, open-added old new (text (c ∷ s)) ids d outer added h)

abbrev text_in_label : Label → List ℕ
text_in_label (text s) = s
text_in_label _ = []

pub text-data : (d : NodeData) (s : List ℕ) → label_for d ≡ text s → d ≡ node.Text s
text-data (node.Text r) s e = ap (λ (l : Label). node.Text (text_in_label l)) e
text-data node.Document s e = absurd (let k : document ≡ text s = e in cc)
text-data (node.Contents h) s e = absurd (let k : document ≡ text s = e in cc)
text-data (node.Element x) s e = absurd (let k : element x.name x.attrs ≡ text s = e in cc)
text-data (node.Comment r i) s e = absurd (let k : Label.comment r ≡ text s = e in cc)
text-data (node.Doctype n p r i) s e = absurd (let k : Label.doctype n p r ≡ text s = e in cc)

-- the text has more
pub text-more : (old new : Tree) (c : ℕ) (s run : List ℕ) (ids : List ℕ) (d : Forest Label) (outer : List Before) (h : AreOpenWith (c ∷ s) old ids d outer) → IsFilled old new h.0 run → AreOpenWith ((c ∷ s) ++ run) new ids d outer
text-more old new c s run ids d outer h f =
    let x : ℕ = h.0 in
    let is : label_of new x ≡ node.Text ((c ∷ s) ++ run) = f.label_is (c ∷ s) (text-data (label_of old x) (c ∷ s) h.2.label_is) in (
      x,
      f.same_length ∙ h.1,
      record { label_is = ap label_for is; no_contents = ap contents_in is },
      ap (λ (l : List (List ℕ)). get_or l x []) f.same_children ∙ h.3,
      open-same old new x (x ∷ []) ids d outer
          (λ k l. record { label_is = f.others k (λ e. absurd (omega (arith, l, e))); children_are = ap (λ (q : List (List ℕ)). get_or q k []) f.same_children; root = f.roots k }) h.4,
    )

is-text : (d : NodeData) → is_text d ≡ is_text_label (label_for d)
is-text (node.Text s) = refl
is-text node.Document = refl
is-text (node.Contents h) = refl
is-text (node.Element e) = refl
is-text (node.Comment s i) = refl
is-text (node.Doctype n p s i) = refl

no-text : (t : Tree) (x : ℕ) (l : Label) → IsLabelled t x l → is_text_label l ≡ false → if_text t (Some x) ≡ None
no-text t x l h e = ap (λ (b : Bool). cond b (Some x) None) (is-text (label_of t x) ∙ ap is_text_label h.label_is ∙ e)

or-some : (o p : Option ℕ) (x : ℕ) → or_else (or_else o (Some x)) p ≡ or_else o (Some x)
or-some None p x = refl
or-some (Some y) p x = refl

last-apart : (t : Tree) (low high : ℕ) (ids : List ℕ) (d : Forest Label) (b : Bool) (last : Option ℕ) → ShowsIn t low high ids d → ends_after b d ≡ false → (b ≡ false → if_text t last ≡ None) → if_text t (or_else (last_of ids) last) ≡ None
last-apart t low high [] empty b last h e f = f e
last-apart t low high [] (tree l below after) b last h e f = absurd h
last-apart t low high (x ∷ ids) empty b last h e f = absurd h
last-apart t low high (x ∷ ids) (tree l below after) b last h e f =
    ap (if_text t) (or-some (last_of ids) last x) ∙ last-apart t low high ids after (is_text_label l) (Some x) h.4 e (no-text t x l h.2)

or-none : (o : Option ℕ) → or_else o None ≡ o
or-none None = refl
or-none (Some x) = refl

-- no text stands last in the innermost
pub none-last : (t : Tree) (ids : List ℕ) (d : Forest Label) (outer : List Before) → AreOpen t (length t.labels) [] ids d outer → ends_after false d ≡ false → if_text t (before_place t (Last (top ids))) ≡ None
none-last t ids d outer h e =
    let o = open-top t (length t.labels) [] ids d outer h in
    ap (λ (l : List ℕ). if_text t (last_of l)) (o.children_are ∙ append-nil o.ids) ∙ ap (if_text t) (sym (or-none (last_of o.ids)))
    ∙ last-apart t (top ids + 1) (length t.labels) o.ids d false None o.shows e (λ k. refl)

-- the text stands last
pub text-last : (t : Tree) (c : ℕ) (s : List ℕ) (ids : List ℕ) (d : Forest Label) (outer : List Before) (h : AreOpenWith (c ∷ s) t ids d outer) → if_text t (before_place t (Last (top ids))) ≡ Some h.0
text-last t c s ids d outer h =
    let o = open-top t h.0 (h.0 ∷ []) ids d outer h.4 in
    ap (λ (l : List ℕ). if_text t (last_of l)) o.children_are ∙ ap (if_text t) (last-pushed o.ids h.0)
    ∙ ap (λ (b : Bool). cond b (Some h.0) None) (ap is_text (text-data (label_of t h.0) (c ∷ s) h.2.label_is))

-- WHERE IT IS PUT

first-pushed : (xs : List ℕ) (x : ℕ) → first_of (xs ++ x ∷ []) ≡ or_else (first_of xs) (Some x)
first-pushed [] x = refl
first-pushed (y ∷ xs) x = refl

last-first : (xs : List ℕ) → last_of xs ≡ first_of (reverse xs)
last-first [] = refl
last-first (x ∷ xs) = ap (λ (o : Option ℕ). or_else o (Some x)) (last-first xs) ∙ sym (first-pushed (reverse xs) x) ∙ ap first_of (sym (reverse-append (x ∷ []) xs))

get-first : (ids : List ℕ) → get (first_of ids) 0 ≡ top ids
get-first [] = refl
get-first (x ∷ ids) = refl

pub last-top : (stack : List ℕ) → get (last_of stack) 0 ≡ top (reverse stack)
last-top stack = ap (λ (o : Option ℕ). get o 0) (last-first stack) ∙ get-first (reverse stack)

-- the place for the current node
pub place-is : (a : Nodes) (high : ℕ) (tail : List ℕ) (d : Forest Label) (outer : List Before) → AreOpen a.tree high tail (reverse a.stack) d outer → place_here a false ≡ Last (top (reverse a.stack))
place-is a high tail d outer h =
    let o = open-top a.tree high tail (reverse a.stack) d outer h in
    ap (λ (x : ℕ). Last (inside a.tree x)) (last-top a.stack) ∙ ap (λ (q : Option ℕ). Last (get q (top (reverse a.stack)))) o.label_is.no_contents

-- the tree with a text, by the place and the text before it
text-at : (a : Nodes) (run : List ℕ) (at : Place) (o : Option ℕ) → place_here a false ≡ at → if_text a.tree (before_place a.tree at) ≡ o → with_text a false run ≡ bare (texted_run (tree_or_new a.tree at o) (node_or_next a.tree o) run)
text-at a run at o p e =
    ap (λ (q : Place). bare (texted_run (tree_or_new a.tree q (if_text a.tree (before_place a.tree q))) (node_or_next a.tree (if_text a.tree (before_place a.tree q))) run)) p
    ∙ ap (λ (q : Option ℕ). bare (texted_run (tree_or_new a.tree at q) (node_or_next a.tree q) run)) e

module _ (a : Nodes) (d : Forest Label) (outer : List Before) (even : IsEven a.tree) where
  abbrev ids : List ℕ
  ids = reverse a.stack

  abbrev x : ℕ
  x = length a.tree.labels

  new-text : (c : ℕ) (run : List ℕ) → AreOpenWith [] a.tree ids d outer → ends_after false d ≡ false → AreOpenWith (c ∷ run) (with_text a false (c ∷ run)) ids d outer × IsEven (with_text a false (c ∷ run))
  new-text c run h e =
      let p : ℕ = top ids in
      let within : p < x = (open-top a.tree x [] ids d outer h).within in
      let mid : Tree = with_new a.tree (Last p) Text in
      let added : IsAdded a.tree mid p (text []) = new-added a.tree p Text within even refl in
      let blank : label_of mid x ≡ node.Text [] = new-label a.tree p Text within even refl in
      let inside : x < length mid.labels = omega (arith, added.longer) in
      let new : Tree = bare (texted_run mid x (c ∷ run)) in
      let is : with_text a false (c ∷ run) ≡ new = text-at a (c ∷ run) (Last p) None (place-is a x [] d outer h) (none-last a.tree ids d outer h e) in
      let whole : IsAdded a.tree new p (text (c ∷ run)) = added-filled a.tree mid new p (c ∷ run) added blank (run-filled mid x [] (c ∷ run) inside blank) in (
        subst (λ (u : Tree). AreOpenWith (c ∷ run) u ids d outer) (sym is) (text-begun a.tree new c run ids d outer whole h),
        subst IsEven (sym is) (run-even mid x [] (c ∷ run) inside blank (new-even a.tree p Text within even refl)),
      )

  more-text : (b : ℕ) (s run : List ℕ) → AreOpenWith (b ∷ s) a.tree ids d outer → AreOpenWith ((b ∷ s) ++ run) (with_text a false run) ids d outer × IsEven (with_text a false run)
  more-text b s run h =
      let p : ℕ = top ids in
      let new : Tree = bare (texted_run a.tree h.0 run) in
      let is : with_text a false run ≡ new = text-at a run (Last p) (Some h.0) (place-is a h.0 (h.0 ∷ []) d outer h.4) (text-last a.tree b s ids d outer h) in
      let inside : h.0 < x = omega (arith, h.1) in
      let blank : label_of a.tree h.0 ≡ node.Text (b ∷ s) = text-data (label_of a.tree h.0) (b ∷ s) h.2.label_is in (
        subst (λ (u : Tree). AreOpenWith ((b ∷ s) ++ run) u ids d outer) (sym is) (text-more a.tree new b s run ids d outer h (run-filled a.tree h.0 (b ∷ s) run inside blank)),
        subst IsEven (sym is) (run-even a.tree h.0 (b ∷ s) run inside blank even),
      )

  -- more text in the innermost
  pub open-text : (s : List ℕ) (c : ℕ) (run : List ℕ) → AreOpenWith s a.tree ids d outer → ends_after false d ≡ false → AreOpenWith (s ++ c ∷ run) (with_text a false (c ∷ run)) ids d outer × IsEven (with_text a false (c ∷ run))
  open-text [] c run h e = new-text c run h e
  open-text (b ∷ s) c run h e = more-text b s (c ∷ run) h
