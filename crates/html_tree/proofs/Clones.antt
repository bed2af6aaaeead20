-- Reopening and adoption: the nodes that are made are clones.
use Rattle.std.proofs.Common.{◌≡◌, ℕ, zero, suc, ◌+◌, ◌<◌, ◌≤◌, false, List, [], ◌∷◌, ◌++◌, length, map, get_or, Option, Some, None, ◌⊎◌, inl, inr, sym, ◌∙◌, ap, subst, arith, length-append}
use Rattle.html_arena.specs.declared.data.NodeData.{NodeData}
use Rattle.html_arena.specs.declared.data.NodeData.TheVariants as node
use Rattle.html_arena.specs.declared.data.Origin.TheVariants.{Nothing, Token}
use Rattle.html_arena.specs.Data.{cloned, label_in, origin_in}
use Rattle.html_arena.specs.Siblings.{first_of, has}
use Rattle.html_arena.specs.Tree.{Tree, WellFormed, label_of, parent_of, more, tag_at}
use Rattle.html_open.specs.declared.entry.Entry.{Entry}
use Rattle.html_open.specs.Adopting.{MadeClones}
use Rattle.html_open.specs.Opened.{IsOpen, open_at}
use Rattle.html_open.specs.Reopening.{KeepsClosed}
use Rattle.html_open.proofs.Inserted.{cloned-origin, get-before}
use Rattle.html_tree.specs.Listing.{HasCloned}
use Rattle.html_tree.specs.Since.{Grown, Since, essence}
use Rattle.html_tree.specs.States.{State, IsUnderWay, state_of}
use Rattle.html_tree.proofs.Kept.{formatting-opens, old-proper, proper-opened, same-first-under_way, some-first}
use Rattle.html_tree.proofs.OpenTags.{clone-formatting}

-- what holds of two lists holds of one after the other
both : (P : NodeData → Type 0) (d : NodeData) (xs ys : List NodeData) → ((y : ℕ) → P (get_or xs y d)) → ((y : ℕ) → P (get_or ys y d)) → (y : ℕ) → P (get_or (xs ++ ys) y d)
both P d [] ys h k y = k y
both P d (x ∷ xs) ys h k zero = h 0
both P d (x ∷ xs) ys h k (suc y) = both P d xs ys (λ z. h (suc z)) k y

of-map : (P : NodeData → Type 0) (d : NodeData) (f : ℕ → NodeData) (xs : List ℕ) → P d → ((x : ℕ) → P (f x)) → (y : ℕ) → P (get_or (map f xs) y d)
of-map P d f [] h k y = h
of-map P d f (x ∷ xs) h k zero = k x
of-map P d f (x ∷ xs) h k (suc y) = of-map P d f xs h k y

order : (a b : ℕ) → (a < b) ⊎ (b ≤ a)
order a b = grind arith

none-token : {i : ℕ} → Nothing ≡ Token i → ⊥
none-token e = absurd (let q : Nothing ≡ Token _ = e in cc)

module _ (s s' : List ℕ) (l l' : List Entry) (t u : Tree) (n : ℕ) (h f d : Option ℕ) (c : MadeClones (open_at s l t) u) where
  clones-label : (x : ℕ) → x < length t.labels → label_of u x ≡ label_of t x
  clones-label x b = ap (λ ds. label_in ds x) c.labels_are ∙ get-before t.labels (map (λ y. cloned (label_of t y)) c.elements) x node.Document b

  clones-more : length t.labels ≤ length u.labels
  clones-more = let e = ap length c.labels_are ∙ length-append t.labels (map (λ y. cloned (label_of t y)) c.elements) in omega arith

  pub clones-under_way : IsOpen (open_at s' l' u) → first_of s' ≡ first_of s → IsUnderWay s l t n h f d → IsUnderWay s' l' u n h f d
  clones-under_way o j p =
      same-first-under_way s s' l l' t u n n h f d p o j clones-more (λ x b. ap essence (clones-label x b))
      (λ x. subst (λ (ds : List NodeData). Is (get_or ds x node.Document)) (sym c.labels_are)
      (both Is node.Document t.labels (map (λ y. cloned (label_of t y)) c.elements) p.tokens
      (of-map Is node.Document (λ y. cloned (label_of t y)) c.elements (λ i g. absurd (none-token g)) (λ y i g. p.tokens y i (sym (cloned-origin (label_of t y)) ∙ g))) x))
    where
      Is : NodeData → Type 0
      Is d = (i : ℕ) → origin_in d ≡ Token i → i < n

  pub clones-since : WellFormed t → KeepsClosed (open_at s l t) u → ((x : ℕ) → first_of s ≡ Some x → first_of s' ≡ Some x) → ((x : ℕ) → x < length t.labels → has x s ≡ false → has x s' ≡ false)
      → ((x : ℕ) → x < length u.labels → parent_of u x ≡ None → (x < length t.labels) × (parent_of t x ≡ None)) → (parent_of t 0 ≡ None → parent_of u 0 ≡ None) → more t.steps 0 ≤ u.steps
      → IsOpen (open_at s l t) → Since (state_of s l t n h f d) (state_of s' l' u n h f d)
  clones-since w k first off linked root steps opened = record {
    first = first;
    no_fewer = clones-more;
    tokens = omega arith;
    labels = λ x b. ap essence (clones-label x b);
    off = λ x i. off x i.node_in i.off;
    children = λ x i none. k x i.element i.off none;
    texts = λ x y i none b. clones-label y (w.child_in x y b);
    linked = λ x b p. inr (inr (linked x b p));
    root = root;
    steps = steps;
    detached = λ x i. i;
    replaced = λ x i. inl i;
    proper = λ x p b. elim (order x (length t.labels)) [
      | inl q ↦ old-proper (state_of s l t n h f d) (state_of s' l' u n h f d) (λ y b. ap essence (clones-label y b)) (λ y i. off y i.node_in i.off) (λ y i none. k y i.element i.off none) x q (p q)
      | inr q ↦ proper-opened (state_of s' l' u n h f d) x (formatting-opens (tag_at u x) (clone-formatting s l t u c opened x q b))
    ];
  }

  pub clones-grown : (a : State) (k m e w : ℕ) → state_of s l t n h f d ≡ a → first_of s' ≡ first_of s → length u.labels ≤ length t.labels + k → length s' ≤ length s + m → length l' ≤ length l + e → u.held ≤ t.held + w
      → Grown k m e w a (state_of s' l' u n h f d)
  clones-grown a k m e w i j p q r v =
      let more_nodes = clones-more in
      let o = some-first s s' j in
      subst (λ (b : State). Grown k m e w b (state_of s' l' u n h f d)) i (record { nodes_least = omega arith; nodes_most = omega arith; open_most = omega arith; entries_most = omega arith; held_most = omega arith; open_least = omega arith })

  -- what is told of it
  pub has-cloned : (a : State) → state_of s l t n h f d ≡ a → IsOpen (open_at s l t) → u.limits ≡ t.limits → HasCloned a (state_of s' l' u n h f d)
  has-cloned a i o e = subst (λ (b : State). HasCloned b (state_of s' l' u n h f d)) i (record {
    elements = c.elements;
    listed = c.listed;
    node_in = λ x b. o.list_in x (c.listed x b);
    formatting = λ x b. o.formatting x (c.listed x b);
    labels_are = c.labels_are;
    limits_are = e;
  })
