-- An adoption keeps what is true of a page under way: the nodes it makes come from the tokens of their originals.
use Rattle.std.proofs.Common.{◌≡◌, ℕ, ◌<◌, ◌++◌, Bool, false, List, [], ◌∷◌, map, get_or, slice_index, Option, Some, None, sym, ◌∙◌, ap, subst}
use Rattle.html_names.specs.declared.tag.Tag.{Tag}
use Rattle.html_arena.specs.declared.data.NodeData.{NodeData}
use Rattle.html_arena.specs.declared.data.NodeData.TheVariants as node
use Rattle.html_arena.specs.declared.data.Origin.TheVariants.{Token}
use Rattle.html_arena.specs.declared.marks.Mark.TheVariants.{InList}
use Rattle.html_arena.specs.Data.{cloned, label_in, origin_in}
use Rattle.html_arena.specs.Siblings.{first_of}
use Rattle.html_arena.specs.Tree.{Tree, label_of, marked}
use Rattle.html_open.specs.declared.adoption.AdoptEnd.{AdoptEnd}
use Rattle.html_open.specs.declared.entry.Entry.{Entry}
use Rattle.html_open.specs.Adopting.{Adopted, Ends, IsFirstFree, Rounds, closes, eight, fewer, forgets, no_entry, no_round, one_more, out_of_scope, popped}
use Rattle.html_open.specs.Marking.{IsSameTree}
use Rattle.html_open.specs.Opened.{IsOpen, Open, open_at}
use Rattle.html_open.specs.Placing.{CanPlace}
use Rattle.test_open.specs.Pages.{IsPage}
use Rattle.test_open.proofs.UnderWay.{both, cloned-origin, of-map}

-- nodes with these labels come from the first n tokens
abbrev Early : ℕ → List NodeData → Type 0
Early n ds = (x i : ℕ) → origin_in (label_in ds x) ≡ Token i → i < n

-- clones come from the tokens of their originals
with-clones : (n : ℕ) (t : Tree) (ds : List NodeData) (xs : List ℕ) → ds ≡ t.labels ++ map (λ x. cloned (label_of t x)) xs → Early n t.labels → Early n ds
with-clones n t ds xs e h = λ x. subst (λ (es : List NodeData). Is (get_or es x node.Document)) (sym e)
    (both Is node.Document t.labels (map (λ y. cloned (label_of t y)) xs) h
    (of-map Is node.Document (λ y. cloned (label_of t y)) xs (λ i g. absurd (let q = g in cc)) (λ y i g. h y i (sym (cloned-origin (label_of t y)) ∙ g))) x)
  where
    Is : NodeData → Type 0
    Is d = (i : ℕ) → origin_in d ≡ Token i → i < n

same-early : (n : ℕ) (o p : Tree) → IsSameTree o p → Early n o.labels → Early n p.labels
same-early n o p e h = subst (Early n) (sym (ap (λ (v : Tree). v.labels) e)) h

rounds-early : (n : ℕ) (s : Tag) (foster : Bool) (k : ℕ) (o p : Open) → Rounds s foster k o p → Early n o.tree.labels → Early n p.tree.labels
rounds-early n s foster _ _ _ (no_round o) h = h
rounds-early n s foster _ _ _ (one_more k o p q rs r) h = with-clones n p.tree q.tree.labels (r.cloned_elements ++ r.formatting_element ∷ []) r.labels_are (rounds-early n s foster k o p rs h)

ends-early : (n : ℕ) (s : Tag) (end : AdoptEnd) (o p : Open) → Ends s end o p → Early n o.tree.labels → Early n p.tree.labels
ends-early n s _ _ _ (closes o p r) h = same-early n o.tree p.tree r.tree_is h
ends-early n s _ _ _ (forgets o p r) h = same-early n o.tree p.tree r.tree_is h
ends-early n s _ _ _ (out_of_scope o p r) h = same-early n o.tree p.tree r.unchanged.tree_is h
ends-early n s _ _ _ (no_entry o p r) h = same-early n o.tree p.tree r.unchanged.tree_is h

adopted-early : (n : ℕ) (s : Tag) (foster : Bool) (end : AdoptEnd) (o p : Open) → Adopted s foster end o p → Early n o.tree.labels → Early n p.tree.labels
adopted-early n s foster _ _ _ (popped o p r) h = same-early n o.tree p.tree r.tree_is h
adopted-early n s foster _ _ _ (eight o p a rs) h = rounds-early n s foster 8 o p rs h
adopted-early n s foster _ _ _ (fewer end k o p q a l rs e) h = ends-early n s end p q e (rounds-early n s foster k o p rs h)

pub page-adopted : (name : Tag) (foster : Bool) (end : AdoptEnd) (s s' : List ℕ) (l l' : List Entry) (t u : Tree) (n : ℕ) (w : Option ℕ)
    → Adopted name foster end (open_at s l t) (open_at s' l' u) → IsOpen (open_at s' l' u) → IsPage s l t n w → IsPage s' l' u n None
page-adopted name foster end s s' l l' t u n w a k p = record {
  is_open = k;
  tokens = adopted-early n name foster end (open_at s l t) (open_at s' l' u) a p.tokens;
  alone = tt;
}

-- the first element is not listed
pub first-unlisted : (t : Tree) (s : List ℕ) → marked t InList (slice_index s 0) ≡ false → (x : ℕ) → first_of s ≡ Some x → marked t InList x ≡ false
first-unlisted t [] h x e = absurd (let q = e in cc)
first-unlisted t (y ∷ s) h x e = subst (λ v. marked t InList v ≡ false) (let a : Some y ≡ Some x = e in cc) h

pub first-free : (s : List ℕ) (l : List Entry) (t : Tree) (n : ℕ) (w : Option ℕ) → ((x : ℕ) → first_of s ≡ Some x → marked t InList x ≡ false) → IsPage s l t n w → IsFirstFree s l
first-free s l t n w h p = λ x e. sym (p.is_open.in_list x) ∙ h x e

-- counted steps change no place
pub can-still-place : (s : List ℕ) (t u : Tree) (k : ℕ) → u ≡ record t { steps = k } → CanPlace t s → CanPlace u s
can-still-place s t u k e h = subst (λ (v : Tree). CanPlace v s) (sym e) (by s h)
  where
    by : (s : List ℕ) → CanPlace t s → CanPlace (record t { steps = k }) s
    by [] h = h
    by (x ∷ xs) h = h
