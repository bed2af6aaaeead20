-- A round, by the indices of the formatting element and of the special element after it.
use Rattle.std.proofs.Common.{◌≡◌, ◌≢◌, ℕ, zero, suc, ◌+◌, ◌-◌, ◌<◌, ◌≤◌, Bool, true, false, cond, nat_le, nat_lt, ◌&&◌, not, List, [], ◌∷◌, ◌++◌, length, length-append, take, drop, get_or, inl, inr, refl, sym, ◌∙◌, ap, subst, arith}
use Rattle.std.specs.List.{flat_map}
use Rattle.html_names.specs.declared.tag.Tag.{Tag}
use Rattle.html_arena.specs.declared.data.NodeData.{NodeData}
use Rattle.html_arena.specs.declared.marks.Mark.TheVariants.{InList}
use Rattle.html_arena.specs.declared.marks.Marks.{Marks}
use Rattle.html_arena.specs.Marks.{has_mark, no_marks}
use Rattle.html_arena.specs.Data.{IsElement, is_linkable, label_in, tag_in}
use Rattle.html_arena.specs.Siblings.{has, Distinct}
use Rattle.html_arena.specs.Tree.{Tree, WellFormed, children_of, label_of, marked, parent_of}
use Rattle.html_open.specs.declared.entry.Entry.{Entry}
use Rattle.html_arena.specs.declared.arena.ArenaError.{ArenaError}
use Rattle.html_open.specs.declared.places.Place.{Place}
use Rattle.html_open.specs.AdoptFinding.{IsBlock}
use Rattle.html_open.specs.Adopting.{IsKept, IsRegrouped, clones_down, heirs, originals, relisted, round_originals}
use Rattle.html_open.specs.Cloning.{AreCloned, AreFormatting, HaveEntered, HaveLeft, IsCut}
use Rattle.html_open.specs.Entries.{has_node, nodes_of}
use Rattle.html_open.specs.Hanging.{Hung, StandAlone, hung_parent}
use Rattle.html_open.specs.Opened.{AreNodes, IsOpen, IsOrdered, open_at}
use Rattle.html_open.specs.Placing.{IsPlace, way_up}
use Rattle.html_open.proofs.Clones.{cloned-length}
use Rattle.html_open.proofs.Finding.{last_named-in, nodes-drop}
use Rattle.html_open.proofs.Keeps.{Core, cases_bool, cases_eqb, core, whole_by}
use Rattle.html_open.proofs.Numbering.{originals-distinct, originals-in, originals-same}
use Rattle.html_open.proofs.Ordering.{front-parent, distinct-left, distinct-right, has-either, has-head, has-left, has-right, ordered-after}
use Rattle.html_open.proofs.Readied.{Readied, label-same, children-after, fresh, linkable-old, longer, parents-after, place-same, way-same}
use Rattle.html_open.proofs.Rounding.{core-after, still-unlisted, relisted-nodes, relisted-same}
use Rattle.html_open.proofs.Splitting.{left-is, rest-of, split}
use Rattle.html_open.proofs.Upwards.{has-first, has-more}

pub index-is : (s : List ℕ) (i x : ℕ) → i < length s → x ≡ get_or s i x → x ≡ get_or s i 0
index-is s i x h e = e ∙ same s i h
  where
    same : (s : List ℕ) (i : ℕ) → i < length s → get_or s i x ≡ get_or s i 0
    same [] i h = absurd (omega arith)
    same (y ∷ ys) zero h = refl
    same (y ∷ ys) (suc i) h = same ys i (omega arith)

pub new-stack : (nodes new : List ℕ) (at b first clone n c : ℕ) → first ≡ n → clone ≡ n + c
    → new ≡ take at nodes ++ (clones_down first (clone - first) ++ (get_or nodes b 0 ∷ clone ∷ drop (b + 1) nodes))
    → new ≡ take at nodes ++ (clones_down n c ++ (get_or nodes b 0 ∷ ((n + c) ∷ drop (b + 1) nodes)))
new-stack nodes new at b first clone n c e f h =
    let g : clone - first ≡ c = omega arith in
    h ∙ ap (λ (i : ℕ). take at nodes ++ (clones_down first i ++ (get_or nodes b 0 ∷ clone ∷ drop (b + 1) nodes))) g
    ∙ ap (λ (i : ℕ). take at nodes ++ (clones_down i c ++ (get_or nodes b 0 ∷ clone ∷ drop (b + 1) nodes))) e
    ∙ ap (λ (i : ℕ). take at nodes ++ (clones_down n c ++ (get_or nodes b 0 ∷ i ∷ drop (b + 1) nodes))) f

pub new-list : (f' : ℕ) (p : ℕ → Bool) (cs' cs : List ℕ) (first clone n k f : ℕ) (es : List Entry) → f' ≡ f → cs' ≡ cs → first ≡ n → clone ≡ k
    → flat_map (relisted f' p cs' first clone) es ≡ flat_map (relisted f p cs n k) es
new-list f' p cs' cs first clone n k f es a b c d =
    ap (λ (i : ℕ). flat_map (relisted i p cs' first clone) es) a ∙ ap (λ (v : List ℕ). flat_map (relisted f p v first clone) es) b
    ∙ ap (λ (i : ℕ). flat_map (relisted f p cs i clone) es) c ∙ ap (λ (i : ℕ). flat_map (relisted f p cs n i) es) d

module _ (nodes : List ℕ) (entries : List Entry) (t : Tree) (at b : ℕ) (w : WellFormed t) (opened : IsOpen (open_at nodes entries t)) (s : Tag) (blk : IsBlock s (open_at nodes entries t) at b) where
  abbrev f : ℕ
  f = get_or nodes at 0

  abbrev g : ℕ
  g = get_or nodes b 0

  abbrev inner : List ℕ
  inner = take (b - (at + 1)) (drop (at + 1) nodes)

  abbrev upper : List ℕ
  upper = drop (b + 1) nodes

  abbrev X : List ℕ
  X = take at nodes

  abbrev n : ℕ
  n = length t.labels

  pub lt : at < b
  lt = (let a = blk.block.after in omega arith)

  pub within : b < length nodes
  within = blk.block.within

  pub at-within : at < length nodes
  at-within = (let a = lt in let c = within in omega arith)

  split-is : nodes ≡ X ++ (f ∷ (inner ++ (g ∷ upper)))
  split-is = split nodes at b lt within

  f-listed : has f (nodes_of entries) ≡ true
  f-listed = last_named-in t s entries f blk.formatting.entry

  split-core : Core (X ++ (f ∷ (inner ++ (g ∷ upper)))) (nodes_of entries) t
  split-core = subst (λ (v : List ℕ). Core v (nodes_of entries) t) split-is (core (open_at nodes entries t) opened)

  pub inner-in : AreNodes t inner
  inner-in = nodes-drop t nodes (at + 1) (b - (at + 1)) opened.stack_in

  pub f-formatting : (x : ℕ) → x ≡ f → AreFormatting t (x ∷ [])
  f-formatting x e = λ y h. elim (has-head y x [] h) [
    | inl q ↦ (let r : y ≡ f = q ∙ e in (opened.list_in y (subst (λ (z : ℕ). has z (nodes_of entries) ≡ true) (sym r) f-listed), opened.formatting y (subst (λ (z : ℕ). has z (nodes_of entries) ≡ true) (sym r) f-listed)))
    | inr q ↦ absurd (let k = q in cc)
  ]

  inner-once : Distinct inner
  inner-once = distinct-left inner (g ∷ upper) (distinct-right X (f ∷ (inner ++ (g ∷ upper))) split-core.stack_once).1

  module _ (cs : List ℕ) (cs-is : cs ≡ originals (marked t InList) inner) where
    pub cs-in : (x : ℕ) → has x cs ≡ true → (has x inner ≡ true) × (has x (nodes_of entries) ≡ true)
    cs-in x h =
        let r = originals-in (marked t InList) inner x (subst (λ (v : List ℕ). has x v ≡ true) cs-is h) in
        (r.0, sym (opened.in_list x) ∙ r.1)

    cs-once : Distinct cs
    cs-once = subst Distinct (sym cs-is) (originals-distinct (marked t InList) inner inner-once)

    pub cs-listed : cs ≡ originals (λ x. has_node x entries) inner
    cs-listed = cs-is ∙ originals-same (marked t InList) (λ x. has_node x entries) inner opened.in_list

    -- what was cloned of these was cloned of the elements of the round
    pub cut-after : (ys : List ℕ) (x : ℕ) (v : Tree) (e : ArenaError) → ys ≡ cs → x ≡ f → IsCut t v (ys ++ x ∷ []) e → IsCut t v (round_originals (open_at nodes entries t) at b) e
    cut-after ys x v e a q k =
        subst (λ (zs : List ℕ). IsCut t v zs e) (ap (λ (zs : List ℕ). zs ++ x ∷ []) a ∙ ap (λ (y : ℕ). cs ++ y ∷ []) q ∙ ap (λ (zs : List ℕ). zs ++ f ∷ []) cs-listed) k

    pub cs-formatting : AreFormatting t cs
    cs-formatting = λ x h. (opened.list_in x (cs-in x h).1, opened.formatting x (cs-in x h).1)

    xs-elements : (x : ℕ) → has x (cs ++ f ∷ []) ≡ true → IsElement (label_of t x)
    xs-elements x h = elim (has-either x cs (f ∷ []) h) [
      | inl q ↦ split-core.elements x (has-right x X (f ∷ (inner ++ (g ∷ upper))) (has-more x f (inner ++ (g ∷ upper)) (has-left x inner (g ∷ upper) (cs-in x q).0)))
      | inr q ↦ elim (has-head x f [] q) [
        | inl r ↦ split-core.elements x (subst (λ (y : ℕ). has y (X ++ (f ∷ (inner ++ (g ∷ upper)))) ≡ true) (sym r) (has-right f X (f ∷ (inner ++ (g ∷ upper))) (has-first f (inner ++ (g ∷ upper)))))
        | inr r ↦ absurd (let k = r in cc)
      ]
    ]

    abbrev k : ℕ
    k = length t.labels + length cs

    module _ (u : Tree) (cl : AreCloned t u (cs ++ f ∷ [])) where
      pub length-is : length u.labels ≡ k + 1
      length-is = (let a = cloned-length t u (cs ++ f ∷ []) cl in let c = length-append cs (f ∷ []) in omega (arith, a, c))

      pub left-in : AreNodes u (take (b - at) (drop at nodes))
      left-in = λ x h. (let a = nodes-drop t nodes at (b - at) opened.stack_in x h in let l = length-is in omega (arith, l))

      module _ (u2 : Tree) (same2 : u2 ≡ record u { marks = u2.marks }) (left : HaveLeft u u2 (take (b - at) (drop at nodes))) where
        pub entries-in : AreNodes u2 (nodes_of entries)
        entries-in = λ x h. (let a = opened.list_in x h in let l = length-is in let e = ap (λ (v : Tree). length v.labels) same2 in omega (arith, l, e))

        pub end-in : k + 1 ≤ length u2.labels
        end-in = (let l = length-is in let e = ap (λ (v : Tree). length v.labels) same2 in omega (arith, l, e))

        left-all : HaveLeft u u2 (f ∷ inner)
        left-all = subst (HaveLeft u u2) (left-is nodes at b lt within) left

        -- the code looks at the marks of those that stay
        pub list-is : flat_map (relisted f (marked u2 InList) cs n k) entries ≡ flat_map (relisted f (λ x. not (has x inner)) cs n k) entries
        list-is = relisted-same f (marked u2 InList) (λ x. not (has x inner)) cs n k entries (λ x h ne.
            left-all InList x ∙ ap (cond (has x (f ∷ inner)) false) (cl.same_marks InList x ∙ opened.in_list x ∙ h) ∙ plain x ne)
          where
            plain : (x : ℕ) → x ≢ f → cond (has x (f ∷ inner)) false true ≡ not (has x inner)
            plain x ne = elim (cases_eqb x f) [
              | inl q ↦ absurd (ne q.1)
              | inr q ↦ elim (cases_bool (has x inner)) [ inl e ↦ rw (q.0, e) refl | inr e ↦ rw (q.0, e) refl ]
            ]

        module _ (u3 : Tree) (same3 : u3 ≡ record u2 { marks = u3.marks }) (entered : HaveEntered u2 u3 n (k + 1)) (target : Place) (place-in : IsPlace t target)
            (way-in : (y : ℕ) → has y (way_up t target) ≡ true → y < length t.labels) (apart : (y : ℕ) → has y (drop at nodes) ≡ true → has y (way_up t target) ≡ false) where
          readied : Readied t u3 (cs ++ f ∷ []) (f ∷ inner) n (k + 1)
          readied = record {
            labels_are = ap (λ (v : Tree). v.labels) same3 ∙ ap (λ (v : Tree). v.labels) same2 ∙ cl.labels_are;
            marks_are = λ m x. entered m x ∙ ap (cond (nat_le n x && nat_lt x (k + 1)) true) (left-all m x ∙ ap (cond (has x (f ∷ inner)) false) (cl.same_marks m x));
            same_parents = λ x. ap (λ (v : Tree). parent_of v x) same3 ∙ ap (λ (v : Tree). parent_of v x) same2 ∙ cl.same_parents x;
            same_children = λ x. ap (λ (v : Tree). children_of v x) same3 ∙ ap (λ (v : Tree). children_of v x) same2 ∙ cl.same_children x;
            limits_are = ap (λ (v : Tree). v.limits) same3 ∙ ap (λ (v : Tree). v.limits) same2 ∙ cl.limits_are;
          }

          g-stack : has g (X ++ (f ∷ (inner ++ (g ∷ upper)))) ≡ true
          g-stack = has-right g X (f ∷ (inner ++ (g ∷ upper))) (has-more g f (inner ++ (g ∷ upper)) (has-right g inner (g ∷ upper) (has-first g upper)))

          rest-is : drop at nodes ≡ f ∷ (inner ++ (g ∷ upper))
          rest-is = rest-of nodes at b lt within

          safe : (y : ℕ) → has y (f ∷ (inner ++ (g ∷ upper))) ≡ true → has y (way_up t target) ≡ false
          safe y h = apart y (subst (λ (v : List ℕ). has y v ≡ true) (sym rest-is) h)

          pub g-below : g < n
          g-below = split-core.stack_in g g-stack

          pub g-linkable : is_linkable (label_of u3 g) ≡ true
          g-linkable = linkable-old t u3 w (cs ++ f ∷ []) (f ∷ inner) (k + 1) readied xs-elements g g-below (split-core.elements g g-stack)

          pub clone-in : k < length u3.labels
          clone-in = (let l = longer t u3 w (cs ++ f ∷ []) (f ∷ inner) (k + 1) readied xs-elements in let c = length-append cs (f ∷ []) in omega (arith, l, c))

          pub fresh-clones : StandAlone u3 n (k + 1)
          fresh-clones =
              subst (StandAlone u3 n) (let c = length-append cs (f ∷ []) in let e : n + length (cs ++ f ∷ []) ≡ k + 1 = omega (arith, c) in e)
              (fresh t u3 w (cs ++ f ∷ []) (f ∷ inner) (k + 1) readied xs-elements)

          pub place-there : IsPlace u3 target
          place-there = place-same t u3 w (cs ++ f ∷ []) (f ∷ inner) (k + 1) readied xs-elements target place-in

          pub older : (y : ℕ) → has y (way_up u3 target) ≡ true → (y < n) × (y ≢ g)
          older y h =
              let e : has y (way_up t target) ≡ true = subst (λ (v : List ℕ). has y v ≡ true) (way-same t u3 w (cs ++ f ∷ []) (f ∷ inner) (k + 1) readied xs-elements target way-in) h in
              (way-in y e, λ q. (let m = safe g (has-more g f (inner ++ (g ∷ upper)) (has-right g inner (g ∷ upper) (has-first g upper))) in let z : has g (way_up t target) ≡ true = subst (λ (v : ℕ). has v (way_up t target) ≡ true) q e in cc))

          module _ (v : Tree) (h : Hung u3 v g n k target) where
            parents : (x : ℕ) → parent_of v x ≡ hung_parent t g n k target x
            parents = parents-after t u3 w (cs ++ f ∷ []) (f ∷ inner) (k + 1) readied xs-elements v g k target h

            ordered : IsOrdered v (X ++ (clones_down n (length cs) ++ (g ∷ (k ∷ upper))))
            ordered = ordered-after t v w X inner upper f g (length cs) target split-core.stack_once split-core.ordered split-core.stack_in way-in safe parents

            pub open-after : (new : List ℕ) (list : List Entry) → new ≡ X ++ (clones_down n (length cs) ++ (g ∷ (k ∷ upper))) → list ≡ flat_map (relisted f (marked u2 InList) cs n k) entries
                → IsOpen (open_at new list v)
            open-after new list e q =
                whole_by new (flat_map (heirs f (λ x. not (has x inner)) cs n k) (nodes_of entries)) list v
                (ap nodes_of (q ∙ list-is) ∙ relisted-nodes f (λ x. not (has x inner)) cs n k entries)
                (subst (λ (z : List ℕ). Core z (flat_map (heirs f (λ x. not (has x inner)) cs n k) (nodes_of entries)) v) (sym e)
                (core-after t v X inner upper cs (nodes_of entries) f g split-core f-listed cs-in cs-once (h.nodes.labels_are ∙ readied.labels_are)
                (λ m x. ap (λ (ms : List Marks). has_mark m (get_or ms x no_marks)) h.nodes.marks_are ∙ readied.marks_are m x) ordered))

            -- what stands before the formatting element keeps its parent, its tag and its absence from the list
            pub front-kept : (list : List Entry) → list ≡ flat_map (relisted f (marked u2 InList) cs n k) entries → (x : ℕ) → has x (take at nodes) ≡ true → IsKept t v entries list x
            front-kept list q x m =
                let b = split-core.stack_in x (has-left x X (f ∷ (inner ++ (g ∷ upper))) m) in
                record {
                  parent_is = front-parent t v w X inner upper f g (length cs) target split-core.stack_once split-core.ordered split-core.stack_in way-in safe parents x m;
                  tag_is = ap (λ (ls : List NodeData). tag_in (label_in ls x)) h.nodes.labels_are ∙ ap tag_in (label-same t u3 w (cs ++ f ∷ []) (f ∷ inner) (k + 1) readied xs-elements x b);
                  unlisted = λ e.
                      ap (has x) (ap nodes_of (q ∙ list-is) ∙ relisted-nodes f (λ x. not (has x inner)) cs n k entries)
                      ∙ still-unlisted t v X inner upper cs (nodes_of entries) f g split-core f-listed cs-in cs-once (h.nodes.labels_are ∙ readied.labels_are)
                      (λ m x. ap (λ (ms : List Marks). has_mark m (get_or ms x no_marks)) h.nodes.marks_are ∙ readied.marks_are m x) ordered x b e;
                }

            pub regrouped : (new : List ℕ) (list : List Entry) → new ≡ X ++ (clones_down n (length cs) ++ (g ∷ (k ∷ upper))) → list ≡ flat_map (relisted f (marked u2 InList) cs n k) entries
                → IsRegrouped at b target (open_at nodes entries t) (open_at new list v)
            regrouped new list e q = record {
              cloned_elements = cs;
              cloned_are = cs-listed;
              stack_is = e;
              list_is = q ∙ list-is;
              labels_are = h.nodes.labels_are ∙ readied.labels_are;
              parents_are = parents;
              children_are = children-after t u3 w (cs ++ f ∷ []) (f ∷ inner) (k + 1) readied xs-elements v g k target h;
              limits_are = h.nodes.limits_are ∙ readied.limits_are;
            }
