-- What a code point counts that comes after another one: its place is the same, its text is there, and no formatting element is left to be reconstructed.
use Rattle.std.proofs.Common.{◌≡◌, ℕ, zero, suc, ◌+◌, ◌-◌, ◌*◌, ◌<◌, Bool, true, false, cond, ◌&&◌, List, [], ◌∷◌, ◌++◌, length, get_or, Option, Some, None, inl, inr, refl, sym, ◌∙◌, ap, subst, arith, length-append}
use Rattle.std.specs.Prelude.{slice_get}
use Rattle.std.specs.List.{list_any}
use Rattle.std.proofs.lemmas.Bool.{false≢true}
use Rattle.std.proofs.lemmas.List.{length-set}
use Rattle.std.proofs.Math.Path.{fun_ext}
use Rattle.html_names.specs.Sets.{is_fostering}
use Rattle.html_names.specs.Tags.{is_same}
use Rattle.html_names.specs.declared.tag.Tag.TheVariants as tag
use Rattle.html_arena.specs.declared.data.NewNode.TheVariants as new
use Rattle.html_arena.specs.declared.data.NodeData.{NodeData}
use Rattle.html_arena.specs.declared.data.NodeData.TheVariants as node
use Rattle.html_arena.specs.Data.{is_text, with_run}
use Rattle.html_arena.specs.Make.{made}
use Rattle.html_arena.specs.Tree.{Tree as Nodes, inserted, label_of, more, parent_of, tag_at}
use Rattle.html_open.specs.declared.entry.Entry.{Entry}
use Rattle.html_open.specs.declared.places.Place.{Place}
use Rattle.html_open.specs.declared.places.Place.TheVariants.{Before, Last}
use Rattle.html_open.specs.Entries.{nodes_of}
use Rattle.html_open.specs.Lists.{above, last_where, looked}
use Rattle.html_open.specs.Opened.{open_at}
use Rattle.html_open.specs.Placing.{place_steps, table, target_of}
use Rattle.html_open.specs.Reopening.{clone_steps, end_steps, look_steps, reopen_steps, stands}
use Rattle.html_open.proofs.Keeps.{cases_bool}
use Rattle.html_tree.specs.Inserting.{with_new}
use Rattle.html_tree.specs.States.{State as Tree}
use Rattle.html_tree.specs.Steps.{here_steps, new_text_steps, text_steps}
use Rattle.html_tree.specs.Texts.{TextGoesOn, if_text, node_or_next, place_here, text_before, text_node, tree_or_new, with_text, with_text_node}

-- THE TEXT IS THERE

text-inside : (ls : List NodeData) (x : ℕ) → is_text (get_or ls x node.Document) ≡ true → x < length ls
text-inside [] x e = absurd (false≢true e)
text-inside (l ∷ ls) zero e = omega arith
text-inside (l ∷ ls) (suc x) e = let k = text-inside ls x e in omega (arith, k)

if-inside : (t : Nodes) (o : Option ℕ) (x : ℕ) → if_text t o ≡ Some x → x < length t.labels
if-inside t None x e = absurd (let q : None ≡ Some x = e in cc)
if-inside t (Some y) x e = by (is_text (label_of t y)) refl
  where
    by : (b : Bool) → is_text (label_of t y) ≡ b → x < length t.labels
    by true h =
        let q : Some y ≡ Some x = sym (ap (λ c. cond c (Some y) None) h) ∙ e in
        let r : y ≡ x = cc in
        subst (λ z. z < length t.labels) r (text-inside t.labels y h)
    by false h = absurd (let q : None ≡ Some x = sym (ap (λ c. cond c (Some y) None) h) ∙ e in cc)

-- a new text is one node more
new-labels : (t : Nodes) (at : Place) → (with_new t at new.Text).labels ≡ t.labels ++ node.Text [] ∷ []
new-labels t (Last p) = refl
new-labels t (Before b) = by (parent_of (made t new.Text) b)
  where
    by : (o : Option ℕ) → (inserted (made t new.Text) (length t.labels) b o).labels ≡ t.labels ++ node.Text [] ∷ []
    by None = refl
    by (Some q) = refl

node-inside : (t : Nodes) (at : Place) (o : Option ℕ) → text_before t at ≡ o → node_or_next t o < length (tree_or_new t at o).labels
node-inside t at None e = (let k = ap length (new-labels t at) ∙ length-append t.labels (node.Text [] ∷ []) in omega (arith, k))
node-inside t at (Some x) e = if-inside t _ x e

-- a state with that code point more, after so many steps
abbrev pub one_more : ℕ → ℕ → Tree → Bool → Tree
one_more c k u foster = record u { tree = with_text u foster (c ∷ []); steps = k }

still-inside : (c k : ℕ) (u : Tree) (foster : Bool) → text_node u foster < length (one_more c k u foster).tree.labels
still-inside c k u foster =
    let n = node-inside u.tree (place_here u foster) (text_before u.tree (place_here u foster)) refl in
    let l = length-set (with_text_node u foster).labels (text_node u foster) (with_run (label_of (with_text_node u foster) (text_node u foster)) (c ∷ [])) in omega (arith, n, l)

text-there : (c k : ℕ) (u : Tree) (foster : Bool) → TextGoesOn u foster → text_before (one_more c k u foster).tree (place_here (one_more c k u foster) foster) ≡ Some (text_node u foster)
text-there c k u foster g = by (one_more c k u foster) refl (text_before (one_more c k u foster).tree (place_here (one_more c k u foster) foster)) refl
  where
    by : (v : Tree) → v ≡ one_more c k u foster → (o : Option ℕ) → text_before v.tree (place_here v foster) ≡ o → o ≡ Some (text_node u foster)
    by v q None e =
        let same : length v.tree.labels ≡ text_node u foster = sym (ap (node_or_next v.tree) e) ∙ ap (λ (w : Tree). text_node w foster) q ∙ g.node_same (c ∷ []) in
        let l = still-inside c k u foster in
        let n : length v.tree.labels ≡ length (one_more c k u foster).tree.labels = ap (λ (w : Tree). length w.tree.labels) q in absurd (omega (arith, same, l, n))
    by v q (Some x) e = ap Some (sym (ap (node_or_next v.tree) e) ∙ ap (λ (w : Tree). text_node w foster) q ∙ g.node_same (c ∷ []))

-- AT THE SAME PLACE

place-same : (t v : Nodes) (s : List ℕ) (foster : Bool) → ((x : ℕ) → tag_at v x ≡ tag_at t x) → place_steps v s None foster ≡ place_steps t s None foster
place-same t v s foster tags =
    ap (λ g. 1 + cond (foster && is_fostering g) (looked (table v) s) 0) (tags (target_of s None))
    ∙ ap (λ (q : ℕ → Bool). 1 + cond (foster && is_fostering (tag_at t (target_of s None))) (looked q s) 0) (fun_ext (λ x. ap (λ g. is_same g tag.Table) (tags x)))

here-same : (c k : ℕ) (u : Tree) (foster : Bool) → TextGoesOn u foster → here_steps (one_more c k u foster) foster ≡ here_steps u foster
here-same c k u foster g = place-same u.tree (one_more c k u foster).tree u.stack foster (g.tags_same (c ∷ []))

-- so each code point after the first counts its place, and one
later-steps : (c k n : ℕ) (u : Tree) (foster : Bool) → TextGoesOn u foster → text_steps (one_more c k u foster) foster n ≡ n * (here_steps u foster + 1)
later-steps c k n u foster g =
    ap (λ h. n * (h + 1) + new_text_steps (text_before (one_more c k u foster).tree (place_here (one_more c k u foster) foster)) h) (here-same c k u foster g)
    ∙ ap (λ o. n * (here_steps u foster + 1) + new_text_steps o (here_steps u foster)) (text-there c k u foster g) ∙ plus-none (n * (here_steps u foster + 1))
  where
    plus-none : (n : ℕ) → n + 0 ≡ n
    plus-none n = omega arith

-- A RECONSTRUCTION THAT FINDS NOTHING

pub one-less : (n : ℕ) → suc n - 1 ≡ n
one-less n = omega arith

last-is : (p : Entry → Bool) (l : List Entry) → above p l ≡ [] → last_where p l ≡ slice_get l (length l - 1)
last-is p [] e = refl
last-is p (x ∷ []) e = by (p x) refl
  where
    by : (b : Bool) → p x ≡ b → last_where p (x ∷ []) ≡ Some x
    by true h = rw (h) refl
    by false h = absurd (let q : x ∷ [] ≡ [] = sym (ap (λ b. cond b [] (x ∷ [])) h) ∙ e in cc)
last-is p (x ∷ y ∷ ys) e = elim (cases_bool (list_any p (y ∷ ys))) [
  | inl h ↦ rw (h) (last-is p (y ∷ ys) (sym (ap (λ b. cond b (above p (y ∷ ys)) (cond (p x) (y ∷ ys) (x ∷ y ∷ ys))) h) ∙ e) ∙ ap (slice_get (y ∷ ys)) (one-less (length ys))
      ∙ ap (slice_get (x ∷ y ∷ ys)) (sym (one-less (suc (length ys)))))
  | inr h ↦ absurd (none (p x) (sym (ap (λ b. cond b (above p (y ∷ ys)) (cond (p x) (y ∷ ys) (x ∷ y ∷ ys))) h) ∙ e))
]
  where
    none : (b : Bool) → cond b (y ∷ ys) (x ∷ y ∷ ys) ≡ [] → ⊥
    none true q = (let r = q in cc)
    none false q = (let r = q in cc)

pub look-alone : (foster : Bool) (s : List ℕ) (l : List Entry) (t : Nodes) → above (stands s) l ≡ [] → reopen_steps (open_at s l t) foster ≡ look_steps l
look-alone foster s l t e =
    ap (λ v. (2 * length v + end_steps (last_where (stands s) l)) + clone_steps t s foster (nodes_of v)) e ∙ plus-none (end_steps (last_where (stands s) l)) ∙ ap end_steps (last-is (stands s) l e)
  where
    plus-none : (n : ℕ) → (2 * 0 + n) + 0 ≡ n
    plus-none n = omega arith

-- THE SUM

-- raw text: the first code point, and the others after it
pub raw-sum : (c k m : ℕ) (u : Tree) (foster : Bool) → TextGoesOn u foster
    → more u.steps (text_steps u foster (suc (suc m)) + suc (suc m)) ≡ more (more u.steps (text_steps u foster 1 + 1)) (text_steps (one_more c k u foster) foster (suc m) + suc m)
raw-sum c k m u foster g =
    let h : ℕ = here_steps u foster in
    let e : ℕ = new_text_steps (text_before u.tree (place_here u foster)) h in
    by u.steps h e (suc m) ∙ ap (λ i. more (more u.steps (text_steps u foster 1 + 1)) (i + suc m)) (sym (later-steps c k (suc m) u foster g))
  where
    by : (s h e n : ℕ) → more s ((suc n * (h + 1) + e) + suc n) ≡ more (more s ((1 * (h + 1) + e) + 1)) (n * (h + 1) + n)
    by s h e n =
        let q : suc n * (h + 1) ≡ 1 * (h + 1) + n * (h + 1) = grind arith in omega (arith, q)

-- in the body each other one looks at the list besides
pub body-sum : (c k m l : ℕ) (u : Tree) (foster : Bool) → TextGoesOn u foster
    → more u.steps (text_steps u foster (suc (suc m)) + suc (suc m) + suc m * l)
    ≡ more (more (more u.steps (text_steps u foster 1 + 1)) l) (text_steps (one_more c k u foster) foster (suc m) + suc m + m * l)
body-sum c k m l u foster g =
    let h : ℕ = here_steps u foster in
    let e : ℕ = new_text_steps (text_before u.tree (place_here u foster)) h in
    by u.steps h e m ∙ ap (λ i. more (more (more u.steps (text_steps u foster 1 + 1)) l) (i + suc m + m * l)) (sym (later-steps c k (suc m) u foster g))
  where
    by : (s h e m : ℕ) → more s ((suc (suc m) * (h + 1) + e) + suc (suc m) + suc m * l) ≡ more (more (more s ((1 * (h + 1) + e) + 1)) l) (suc m * (h + 1) + suc m + m * l)
    by s h e m =
        let q : suc (suc m) * (h + 1) ≡ 1 * (h + 1) + suc m * (h + 1) = grind arith in
        let r : suc m * l ≡ l + m * l = grind arith in omega (arith, q, r)
