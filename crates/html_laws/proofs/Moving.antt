-- What reopening, adoption and the closing of a link make of a tree under construction.
use Rattle.std.proofs.Common.{◌≡◌, ◌⊎◌, ◌<◌, ◌≤◌, ℕ, zero, suc, ◌+◌, Bool, true, false, cond, drop, eqb, List, [], ◌∷◌, ◌++◌, length, map, Option, Some, None, inl, inr, refl, sym, ◌∙◌, ap, subst, append_assoc, append-nil, length-append, arith}
use Rattle.std.specs.Cmp.Lexicographic.{same_text}
use Rattle.std.specs.List.{list_all, list_any, range_with_len}
use Rattle.std.proofs.Math.ListN.{get_or-append}
use Rattle.std.proofs.lemmas.Bool.{false≢true}
use Rattle.std.proofs.lemmas.List.Folds.{list_all-append}
use Rattle.html_names.specs.declared.tag.Tag.{Tag}
use Rattle.html_names.specs.declared.tag.Tag.TheVariants as tag
use Rattle.html_names.specs.Names.{name_of, tag_of}
use Rattle.html_names.specs.Sets.{is_formatting, is_special}
use Rattle.html_arena.specs.declared.data.NewNode.TheVariants.{CloneOf}
use Rattle.html_arena.specs.declared.data.NodeData.{NodeData}
use Rattle.html_arena.specs.declared.data.NodeData.TheVariants.{Document}
use Rattle.html_arena.specs.Data.{cloned, label_in, name_in, tag_in}
use Rattle.html_arena.specs.Make.{made}
use Rattle.html_arena.specs.Siblings.{first_of, has, is_in}
use Rattle.html_arena.specs.Tree.{Tree as Nodes, label_of, tag_at}
use Rattle.html_open.specs.declared.adoption.AdoptEnd.{AdoptEnd}
use Rattle.html_open.specs.declared.adoption.AdoptEnd.TheVariants.{Done, OtherEndTag}
use Rattle.html_open.specs.declared.entry.Entry.{Entry}
use Rattle.html_open.specs.declared.entry.Entry.TheVariants.{Node}
use Rattle.html_open.specs.Entries.{has_node, last_named, nodes_of, without_node}
use Rattle.html_open.specs.Lists.{above, below, up_to}
use Rattle.html_open.specs.Opened.{Open, open_at}
use Rattle.html_open.specs.Placing.{place_of}
use Rattle.html_open.specs.Reopening.{Reopened, closed, fresh, stands, with_clone, with_clones}
use Rattle.html_open.proofs.Keeps.{cases_eqb, nodes-append}
use Rattle.html_open.proofs.Lasting.{entries-without}
use Rattle.html_open.proofs.Members.{named-member}
use Rattle.html_open.proofs.Ordering.{has-either}
use Rattle.html_tree.specs.Closing.{before_index, kept_to, remaining}
use Rattle.html_tree.specs.Listing.{IsAdopted, IsReopened}
use Rattle.html_tree.specs.OpenTags.{open_tags, tags_down}
use Rattle.html_tree.specs.Searching.{found_name, has_name, is_special_at}
use Rattle.html_tree.specs.States.{State as Tree}
use Rattle.html_tree.proofs.Inserted.{made-labels, put-labels}
use Rattle.html_tree.proofs.OpenTags.{append-tags, same-tags}
use Rattle.html_construction.specs.Calls.{HasEnded, IsLinkClosed}
use Rattle.html_laws.proofs.Stacks.{part-both, part-up_to, part-before, part-remaining}
use Rattle.html_construction.proofs.Weighing.{same-tag}
use Rattle.html_laws.proofs.Chains.{both, cases, formatting-plain, is_plain, join, left, neither, plain-light}
use Rattle.html_laws.proofs.Cuts.{HasCut, any-tags, before-cut, last-of, split-tags}
use Rattle.html_laws.proofs.Faces.{Adds, adds-none, clone-none, clone-tagged, clone_faces, clones-adds, face, faces, is_tagged, kept-tag, kept-tags, longer, tagged-at}
use Rattle.html_laws.proofs.Insides.{Anything, Footing, IsInside, Need, on_body, inside-common, inside-drop, inside-more, plain-foot}
use Rattle.html_laws.proofs.Moved.{drop-in, AreLow, IsHeld, IsMade, adopted-low, adopted-made, formatting-low, is_outermost, take-low, all-formatting, back, clones-formatting, has-here, has-left, has-right, has-there, held-same, made-then}

abbrev pub opened : Tree → Open
opened u = open_at u.stack u.list u.tree

-- REOPENING

label-old : (ls ms : List NodeData) (x : ℕ) → x < length ls → label_in (ls ++ ms) x ≡ label_in ls x
label-old ls ms x l = get_or-append ls ms Document x l

clone-labels : (t : Nodes) (s : List ℕ) (f : Bool) (x : ℕ) → (with_clone t s f x).labels ≡ t.labels ++ cloned (label_of t x) ∷ []
clone-labels t s f x = put-labels (made t (CloneOf x)) (place_of t s None f) (length t.labels) ∙ made-labels t (CloneOf x)

map-same : (f g : ℕ → NodeData) (xs : List ℕ) → ((x : ℕ) → has x xs ≡ true → f x ≡ g x) → map f xs ≡ map g xs
map-same f g [] h = refl
map-same f g (x ∷ xs) h = ap (λ d. d ∷ map f xs) (h x (has-here x xs)) ∙ ap (λ ds. g x ∷ ds) (map-same f g xs (λ y k. h y (has-there y x xs k)))

clones-labels : (xs : List ℕ) (t : Nodes) (s : List ℕ) (f : Bool) → ((x : ℕ) → has x xs ≡ true → x < length t.labels) → (with_clones t s f xs).labels ≡ t.labels ++ map (λ x. cloned (label_of t x)) xs
clones-labels [] t s f h = sym (append-nil t.labels)
clones-labels (x ∷ xs) t s f h =
    clones-labels xs (with_clone t s f x) (s ++ length t.labels ∷ []) f
    (λ y k. let a = ap length (clone-labels t s f x) in let b = length-append t.labels (cloned (label_of t x) ∷ []) in let c = h y (has-there y x xs k) in omega (arith, a, b, c))
    ∙ ap (λ ls. ls ++ map (λ y. cloned (label_of (with_clone t s f x) y)) xs) (clone-labels t s f x)
    ∙ append_assoc t.labels (cloned (label_of t x) ∷ []) (map (λ y. cloned (label_of (with_clone t s f x) y)) xs)
    ∙ ap (λ ms. t.labels ++ cloned (label_of t x) ∷ ms)
    (map-same (λ y. cloned (label_of (with_clone t s f x) y)) (λ y. cloned (label_of t y)) xs
    (λ y k. ap cloned (ap (λ ls. label_in ls y) (clone-labels t s f x) ∙ label-old t.labels (cloned (label_of t x) ∷ []) y (h y (has-there y x xs k)))))

split-above : (p : Entry → Bool) (l : List Entry) → l ≡ up_to p l ++ above p l
split-above p [] = refl
split-above p (e ∷ l) = by (cases (list_any p l)) (cases (p e)) (split-above p l)
  where
    none : (l : List Entry) → list_any p l ≡ false → up_to p l ≡ []
    none [] h = refl
    none (d ∷ l) h = (let c = neither (p d) (list_any p l) h in rw (c.1, c.0) refl)

    by : ((list_any p l ≡ true) ⊎ (list_any p l ≡ false)) → ((p e ≡ true) ⊎ (p e ≡ false)) → l ≡ up_to p l ++ above p l → e ∷ l ≡ up_to p (e ∷ l) ++ above p (e ∷ l)
    by (inl a) b i = rw a (ap (λ v. e ∷ v) i)
    by (inr a) (inl b) i = rw (a, b) refl
    by (inr a) (inr b) i = rw (a, b) refl

nodes-map : (xs : List ℕ) → nodes_of (map Node xs) ≡ xs
nodes-map [] = refl
nodes-map (x ∷ xs) = ap (λ v. x ∷ v) (nodes-map xs)

in-range : (n k x : ℕ) → has x (range_with_len n k) ≡ true → (n ≤ x) × (x < n + k)
in-range n zero x h = absurd (false≢true h)
in-range n (suc k) x h = elim (cases_eqb x n) [
  | inl q ↦ (let e = q.1 in (omega (arith, e), omega (arith, e)))
  | inr q ↦ (let r = in-range (n + 1) k x (sym (ap (λ b. cond b true (has x (range_with_len (n + 1) k))) q.0) ∙ h) in (let a = r.0 in omega (arith, a), let b = r.1 in omega (arith, b)))
]

nodes-of-both : (o : Open) → nodes_of o.list ≡ nodes_of (up_to (stands o.stack) o.list) ++ closed o
nodes-of-both o = ap nodes_of (split-above (stands o.stack) o.list) ∙ nodes-append (up_to (stands o.stack) o.list) (above (stands o.stack) o.list)

module _ (f : Need) (hook : Tag) (low : List Tag) (foot : Footing hook low) where
  module _ (foster : Bool) (o p : Open) (h : IsHeld o) (r : Reopened foster o p) where
    closed-listed : (x : ℕ) → has x (closed o) ≡ true → has_node x o.list ≡ true
    closed-listed x k = ap (has x) (nodes-of-both o) ∙ has-right x (nodes_of (up_to (stands o.stack) o.list)) (closed o) k

    adds : Adds o.tree p.tree (clone_faces o.tree (closed o))
    adds = clones-adds o.tree p.tree (closed o) (ap (λ (v : Nodes). v.labels) r.tree_is ∙ clones-labels (closed o) o.tree o.stack foster (λ x k. (h.listed x (closed-listed x k)).0))

    long : length p.tree.labels ≡ length o.tree.labels + length (closed o)
    long = longer o.tree p.tree (clone_faces o.tree (closed o)) adds ∙ ap (λ n. length o.tree.labels + n) (many (closed o))
      where
        many : (xs : List ℕ) → length (clone_faces o.tree xs) ≡ length xs
        many [] = refl
        many (x ∷ xs) = ap suc (many xs)

    in-fresh : (x : ℕ) → has x (fresh o.tree (length (closed o))) ≡ true → (x < length p.tree.labels) × (is_formatting (tag_at p.tree x) ≡ true)
    in-fresh x k =
        let c = in-range (length o.tree.labels) (length (closed o)) x k in
        ((let a = c.1 in let l = long in omega (arith, a, l)), clones-formatting o.tree p.tree (closed o) adds (λ e m. (h.listed e (closed-listed e m)).1) x c.0 c.1)

    old-in : (x : ℕ) → x < length o.tree.labels → x < length p.tree.labels
    old-in x k = (let l = long in omega (arith, k, l))

    front : (s fs : List ℕ) (y : ℕ) → has y (drop 1 (s ++ fs)) ≡ true → (has y (drop 1 s) ≡ true) ⊎ (has y fs ≡ true)
    front [] fs y b = inr (inside fs b)
      where
        inside : (us : List ℕ) → has y (drop 1 us) ≡ true → has y us ≡ true
        inside [] b = b
        inside (w ∷ us) b = has-there y w us b
    front (z ∷ s) fs y b = has-either y s fs b

    pub reopened-low : AreLow o.tree o.stack → AreLow p.tree p.stack
    reopened-low l x k = elim (front o.stack (fresh o.tree (length (closed o))) x (sym (ap (λ v. has x (drop 1 v)) r.stack_is) ∙ k)) [
      | inl a ↦ ap is_outermost (kept-tag o.tree p.tree (clone_faces o.tree (closed o)) x adds (h.stacked x (drop-in x o.stack a))) ∙ l x a
      | inr a ↦ formatting-low (tag_at p.tree x) (in-fresh x a).1
    ]

    pub reopened-made : IsMade f hook low o p
    reopened-made = record {
      added = clone_faces o.tree (closed o);
      adds = adds;
      none = clone-none o.tree (closed o);
      held = record {
        stacked = λ x k. elim (has-either x o.stack (fresh o.tree (length (closed o))) (sym (ap (has x) r.stack_is) ∙ k)) [ inl a ↦ old-in x (h.stacked x a) | inr a ↦ (in-fresh x a).0 ];
        listed = λ x k. elim (has-either x (nodes_of (up_to (stands o.stack) o.list)) (fresh o.tree (length (closed o))) (sym (ap (has x) (ap nodes_of r.list_is ∙ nodes-append (up_to (stands o.stack) o.list) (map Node (fresh o.tree (length (closed o)))) ∙ ap (λ v. nodes_of (up_to (stands o.stack) o.list) ++ v) (nodes-map (fresh o.tree (length (closed o)))))) ∙ k)) [
          | inl a ↦ (let c = h.listed x (ap (has x) (nodes-of-both o) ∙ has-left x (nodes_of (up_to (stands o.stack) o.list)) (closed o) a) in (old-in x c.0, ap is_formatting (kept-tag o.tree p.tree (clone_faces o.tree (closed o)) x adds c.0) ∙ c.1))
          | inr a ↦ in-fresh x a
        ];
        tagged = ap (list_all is_tagged) adds.are ∙ list_all-append is_tagged (faces o.tree) (clone_faces o.tree (closed o)) ∙ join (list_all is_tagged (faces o.tree)) (list_all is_tagged (clone_faces o.tree (closed o))) h.tagged (clone-tagged o.tree (closed o) h.tagged);
      };
      inside = λ i. subst (IsInside f hook low) (sym (ap (tags_down p.tree) r.stack_is ∙ append-tags p.tree o.stack (fresh o.tree (length (closed o))) ∙ ap (λ v. tags_down p.tree (fresh o.tree (length (closed o))) ++ v) (kept-tags o.tree p.tree (clone_faces o.tree (closed o)) o.stack adds h.stacked)))
          (mores (tags_down p.tree (fresh o.tree (length (closed o)))) (tags_down o.tree o.stack) (all-formatting p.tree (fresh o.tree (length (closed o))) (λ x k. (in-fresh x k).1)) i);
    }
      where
        mores : (gs ts : List Tag) → list_all is_formatting gs ≡ true → IsInside f hook low ts → IsInside f hook low (gs ++ ts)
        mores [] ts k i = i
        mores (g ∷ gs) ts k i = (let c = both (is_formatting g) (list_all is_formatting gs) k in inside-more f hook low foot g (gs ++ ts) (left (is_formatting g) _ c.0) (mores gs ts c.1 i))

  -- TREES

  held-bare : (u : Tree) (t : Nodes) → t.labels ≡ u.tree.labels → IsHeld (opened u) → IsHeld (open_at u.stack u.list t)
  held-bare u t e h = held-same (opened u) (open_at u.stack u.list t) h e (λ x k. k) (λ x k. k)

  -- the same of other trees with these nodes
  pub made-as : (u v : Tree) (old new : Nodes) → old.labels ≡ u.tree.labels → new.labels ≡ v.tree.labels → IsMade f hook low (open_at u.stack u.list old) (open_at v.stack v.list new) → IsMade f hook low (opened u) (opened v)
  made-as u v old new e d m = record {
    added = m.added;
    adds = record { are = sym (ap (map face) d) ∙ m.adds.are ∙ ap (λ ls. map face ls ++ m.added) e };
    none = m.none;
    held = held-same (open_at v.stack v.list new) (opened v) m.held (sym d) (λ x k. k) (λ x k. k);
    inside = λ i. subst (IsInside f hook low) (sym (same-tags new v.tree v.stack (λ x k. ap (λ ls. tag_in (label_in ls x)) (sym d)))) (m.inside (subst (IsInside f hook low) (sym (same-tags u.tree old u.stack (λ x k. ap (λ ls. tag_in (label_in ls x)) e))) i));
  }

  pub reopening-made : (foster : Bool) (u v : Tree) → IsHeld (opened u) → IsReopened foster u v → IsMade f hook low (opened u) (opened v)
  reopening-made foster u v h k =
      let e = ap (λ (t : Nodes). t.labels) k.old_is in
      made-as u v k.old k.new e (ap (λ (t : Nodes). t.labels) k.new_is) (reopened-made foster (open_at u.stack u.list k.old) (open_at v.stack v.list k.new) (held-bare u k.old e h) k.reopened)

  module _ (g : Tag) (gf : is_formatting g ≡ true) where
    pub adoption-made : (foster : Bool) (end : AdoptEnd) (u v : Tree) → IsHeld (opened u) → IsAdopted g foster end u v → IsMade f hook low (opened u) (opened v)
    adoption-made foster end u v h k =
        let e = ap (λ (t : Nodes). t.labels) k.old_is in
        made-as u v k.old k.new e (ap (λ (t : Nodes). t.labels) k.new_is) (adopted-made f hook low foot g gf foster end (open_at u.stack u.list k.old) (open_at v.stack v.list k.new) (held-bare u k.old e h) k.adopted)

    -- the same nodes and entries, and another stack
    pub restacked : (u v : Tree) → v.tree.labels ≡ u.tree.labels → ((x : ℕ) → has_node x v.list ≡ true → has_node x u.list ≡ true) → ((x : ℕ) → has x v.stack ≡ true → has x u.stack ≡ true) → IsHeld (opened u)
        → (IsInside f hook low (open_tags u) → IsInside f hook low (open_tags v)) → IsMade f hook low (opened u) (opened v)
    restacked u v e l s h i = record {
      added = [];
      adds = adds-none u.tree v.tree e;
      none = refl;
      held = held-same (opened u) (opened v) h e s l;
      inside = i;
    }

-- something is open there
pub record HasTop (ts : List Tag) : Type 0 where
  pub top : Tag
  pub rest : List Tag
  pub tags_are : ts ≡ top ∷ rest

pub inside-top : (f : Need) (hook : Tag) (low ts : List Tag) → IsInside f hook low ts → HasTop ts
inside-top f hook low ts i = by i.upper i.tags_are
  where
    by : (us : List Tag) → ts ≡ us ++ hook ∷ low → HasTop ts
    by [] e = record { top = hook; rest = low; tags_are = e }
    by (u ∷ us) e = record { top = u; rest = us ++ hook ∷ low; tags_are = e }

-- what is left of a cut
pub cut-left : (f : Need) (hook : Tag) (low : List Tag) (t : Nodes) (p e : ℕ → Bool) (s s' : List ℕ) (c : HasCut t p e s s') → IsInside f hook low c.under → IsInside f hook low (tags_down t s')
cut-left f hook low t p e s s' c i = (let k = inside-top f hook low c.under i in subst (IsInside f hook low) (sym (c.left k.top k.rest k.tags_are)) i)

name-formatting : (g : Tag) → is_formatting g ≡ true → is_formatting (tag_of (name_of g)) ≡ true
unfolding tag_of
name-formatting tag.A h = refl
name-formatting tag.B h = refl
name-formatting tag.Big h = refl
name-formatting tag.Code h = refl
name-formatting tag.Em h = refl
name-formatting tag.Font h = refl
name-formatting tag.I h = refl
name-formatting tag.Nobr h = refl
name-formatting tag.S h = refl
name-formatting tag.Small h = refl
name-formatting tag.Strike h = refl
name-formatting tag.Strong h = refl
name-formatting tag.Tt h = refl
name-formatting tag.U h = refl
name-formatting g h = absurd (false≢true h)

-- an element of a name has the tag of the name
pub named-tag : (t : Nodes) (name : List ℕ) (x : ℕ) → list_all is_tagged (faces t) ≡ true → has_name t name x ≡ true → tag_at t x ≡ tag_of name
named-tag t name x h k = same-tag (tag_at t x) (tag_of (name_in (label_of t x))) (tagged-at t x h) ∙ ap tag_of (same_text (name_in (label_of t x)) name (sym k))

module _ (f : Need) (hook : Tag) (low : List Tag) (foot : Footing hook low) where
  module _ (g : Tag) (gf : is_formatting g ≡ true) where
    -- any other end tag
    other-made : (u v : Tree) → IsHeld (opened u) → opened v ≡ record (opened u) { stack = before_index (found_name u (name_of g)) u.stack } → IsMade f hook low (opened u) (opened v)
    other-made u v h e = subst (IsMade f hook low (opened u)) (sym e) (record {
      added = [];
      adds = adds-none u.tree u.tree refl;
      none = refl;
      held = held-same (opened u) (record (opened u) { stack = before_index (found_name u (name_of g)) u.stack }) h refl (λ x k. (part-before (found_name u (name_of g)) u.stack).there x k) (λ x k. k);
      inside = λ i. elim (before-cut u.tree (has_name u.tree (name_of g)) (is_special_at u.tree) u.stack) [
        | inl n ↦ subst (λ o. IsInside f hook low (tags_down u.tree (before_index o u.stack))) (sym n) i
        | inr c ↦ cut-left f hook low u.tree (has_name u.tree (name_of g)) (is_special_at u.tree) u.stack (before_index (found_name u (name_of g)) u.stack) c
            (inside-common f hook low foot (tags_down u.tree c.over) (tag_at u.tree c.node) c.under (open_tags u) c.tags_are
            (formatting-plain (tag_at u.tree c.node) (ap is_formatting (named-tag u.tree (name_of g) c.node h.tagged c.passes) ∙ name-formatting g gf))
            (any-tags u.tree is_special c.over ∙ c.no_end) i)
      ];
    })

    pub ended-made : (foster : Bool) (u z : Tree) → IsHeld (opened u) → HasEnded g foster u z → IsMade f hook low (opened u) (opened z)
    ended-made foster u z h k = by k.end refl
      where
        m : IsMade f hook low (opened u) (opened k.middle)
        m = adoption-made f hook low foot g gf foster k.end u k.middle h k.adopted

        by : (e : AdoptEnd) → k.end ≡ e → IsMade f hook low (opened u) (opened z)
        by Done e = subst (IsMade f hook low (opened u)) (sym (ap opened (k.done e))) m
        by OtherEndTag e = made-then f hook low (opened u) (opened k.middle) (opened z) m (other-made k.middle z m.held (ap opened (k.other e)))

  -- a formatting element is taken off the stack
  pub inside-remaining : (u : Tree) (x : ℕ) → is_plain (tag_at u.tree x) ≡ true → IsInside f hook low (open_tags u) → IsInside f hook low (tags_down u.tree (remaining x u.stack))
  inside-remaining u x p i = by (cases (is_in x (first_of u.stack))) (cases (list_any (eqb x) u.stack))
    where
      by : ((is_in x (first_of u.stack) ≡ true) ⊎ (is_in x (first_of u.stack) ≡ false)) → ((list_any (eqb x) u.stack ≡ true) ⊎ (list_any (eqb x) u.stack ≡ false)) → IsInside f hook low (tags_down u.tree (remaining x u.stack))
      by (inl a) b = rw a i
      by (inr a) (inr b) = rw (a, b) i
      by (inr a) (inl b) =
          let l = last-of (eqb x) u.stack b in
          let same : l.node ≡ x = elim (cases_eqb x l.node) [ inl q ↦ sym q.1 | inr q ↦ absurd (false≢true (sym q.0 ∙ l.passes)) ] in
          let n : is_plain (tag_at u.tree l.node) ≡ true = subst (λ y. is_plain (tag_at u.tree y) ≡ true) (sym same) p in
          rw (a, b) (subst (IsInside f hook low) (sym (append-tags u.tree (below (eqb x) u.stack) (above (eqb x) u.stack)))
          (inside-drop f hook low foot (tags_down u.tree (above (eqb x) u.stack)) (tag_at u.tree l.node) (tags_down u.tree (below (eqb x) u.stack)) (plain-light (tag_at u.tree l.node) n) (plain-foot (tag_at u.tree l.node) n)
          (subst (IsInside f hook low) (ap (tags_down u.tree) l.stack_is ∙ split-tags u.tree (below (eqb x) u.stack) (above (eqb x) u.stack) l.node) i)))

  pub link-made : (foster : Bool) (u z : Tree) → IsHeld (opened u) → IsLinkClosed foster u z → IsMade f hook low (opened u) (opened z)
  link-made foster u z h k = by (last_named u.tree tag.A u.list) refl
    where
      by : (l : Option ℕ) → last_named u.tree tag.A u.list ≡ l → IsMade f hook low (opened u) (opened z)
      by None i = subst (IsMade f hook low (opened u)) (sym (ap opened (k.none i))) (record { added = []; adds = adds-none u.tree u.tree refl; none = refl; held = h; inside = λ j. j })
      by (Some x) i =
          let s = k.some x i in
          let m = ended-made tag.A refl foster u (s.0) h s.1 in
          let c = h.listed x (named-member u.tree tag.A u.list (Some x) (sym i)) in
          let a : is_formatting (tag_at (s.0).tree x) ≡ true = ap is_formatting (kept-tag u.tree (s.0).tree m.added x m.adds c.0) ∙ c.1 in
          subst (IsMade f hook low (opened u)) (sym (ap opened s.2)) (made-then f hook low (opened u) (opened (s.0)) (record (opened (s.0)) { list = without_node x (s.0).list; stack = remaining x (s.0).stack }) m (record {
            added = [];
            adds = adds-none (s.0).tree (s.0).tree refl;
            none = refl;
            held = held-same (opened (s.0)) (record (opened (s.0)) { list = without_node x (s.0).list; stack = remaining x (s.0).stack }) m.held refl (λ y q. (part-remaining x (s.0).stack).there y q)
                (λ y q. back (has_node y (s.0).list) (has_node y (without_node x (s.0).list)) (entries-without _ (s.0).list y) q);
            inside = inside-remaining (s.0) x (formatting-plain (tag_at (s.0).tree x) a);
          }))

-- WHAT STANDS ABOVE THE FIRST OPEN ELEMENT

low-as : (t u : Nodes) (s : List ℕ) → u.labels ≡ t.labels → AreLow t s → AreLow u s
low-as t u s e l x k = ap (λ ls. is_outermost (tag_in (label_in ls x))) e ∙ l x k

pub before-low : (o : Option ℕ) (s : List ℕ) (x : ℕ) → has x (drop 1 (before_index o s)) ≡ true → has x (drop 1 s) ≡ true
before-low None s x h = h
before-low (Some i) s x h = take-low (kept_to (length s) i) s x h

module _ (g : Tag) (gf : is_formatting g ≡ true) where
  pub adoption-low : (foster : Bool) (end : AdoptEnd) (u v : Tree) → IsHeld (opened u) → IsAdopted g foster end u v → AreLow u.tree u.stack → AreLow v.tree v.stack
  adoption-low foster end u v h k l =
      let e = ap (λ (t : Nodes). t.labels) k.old_is in
      low-as k.new v.tree v.stack (sym (ap (λ (t : Nodes). t.labels) k.new_is))
      (adopted-low Anything tag.Body (tag.Html ∷ []) on_body g gf foster end (open_at u.stack u.list k.old) (open_at v.stack v.list k.new) (held-same (opened u) (open_at u.stack u.list k.old) h e (λ x q. q) (λ x q. q)) k.adopted (low-as u.tree k.old u.stack e l))

  pub ended-low : (foster : Bool) (u z : Tree) → IsHeld (opened u) → HasEnded g foster u z → AreLow u.tree u.stack → AreLow z.tree z.stack
  ended-low foster u z h k l = by k.end refl
    where
      m : AreLow (k.middle).tree (k.middle).stack
      m = adoption-low foster k.end u k.middle h k.adopted l

      by : (e : AdoptEnd) → k.end ≡ e → AreLow z.tree z.stack
      by Done e = subst (λ (v : Tree). AreLow v.tree v.stack) (sym (k.done e)) m
      by OtherEndTag e = subst (λ (v : Tree). AreLow v.tree v.stack) (sym (k.other e)) (λ x q. m x (before-low (found_name k.middle (name_of g)) (k.middle).stack x q))

-- without an element that is not the first
pub remaining-low : (y : ℕ) (s : List ℕ) (x : ℕ) → has x (drop 1 (remaining y s)) ≡ true → has x (drop 1 s) ≡ true
remaining-low y [] x h = h
remaining-low y (z ∷ s) x h = elim (cases (eqb y z)) [
  | inl a ↦ (let k : has x s ≡ true = rw a at h in k)
  | inr a ↦ elim (cases (list_any (eqb y) s)) [
    | inl b ↦ (let k : has x (below (eqb y) s ++ above (eqb y) s) ≡ true = rw (a, b) at h in (part-both (eqb y) s).there x k)
    | inr b ↦ (let k : has x s ≡ true = rw (a, b) at h in k)
  ]
]

pub up-to-low : (p : ℕ → Bool) (s : List ℕ) (x : ℕ) → has x (drop 1 (up_to p s)) ≡ true → has x (drop 1 s) ≡ true
up-to-low p [] x h = h
up-to-low p (y ∷ s) x h = by (list_any p s) (p y) h
  where
    by : (b c : Bool) → has x (drop 1 (cond b (y ∷ up_to p s) (cond c (y ∷ []) []))) ≡ true → has x s ≡ true
    by true c h = (part-up_to p s).there x h
    by false true h = absurd (false≢true h)
    by false false h = absurd (false≢true h)

pub link-low : (foster : Bool) (u z : Tree) → IsHeld (opened u) → IsLinkClosed foster u z → AreLow u.tree u.stack → AreLow z.tree z.stack
link-low foster u z h k l = by (last_named u.tree tag.A u.list) refl
  where
    by : (o : Option ℕ) → last_named u.tree tag.A u.list ≡ o → AreLow z.tree z.stack
    by None i = subst (λ (v : Tree). AreLow v.tree v.stack) (sym (k.none i)) l
    by (Some x) i =
        let s = k.some x i in
        let m = ended-low tag.A refl foster u (s.0) h s.1 l in
        subst (λ (v : Tree). AreLow v.tree v.stack) (sym s.2) (λ y q. m y (remaining-low x (s.0).stack y q))

pub reopening-low : (foster : Bool) (u v : Tree) → IsHeld (opened u) → IsReopened foster u v → AreLow u.tree u.stack → AreLow v.tree v.stack
reopening-low foster u v h k l =
    let e = ap (λ (t : Nodes). t.labels) k.old_is in
    low-as k.new v.tree v.stack (sym (ap (λ (t : Nodes). t.labels) k.new_is))
    (reopened-low Anything tag.Body (tag.Html ∷ []) on_body foster (open_at u.stack u.list k.old) (open_at v.stack v.list k.new) (held-same (opened u) (open_at u.stack u.list k.old) h e (λ x q. q) (λ x q. q)) k.reopened (low-as u.tree k.old u.stack e l))
