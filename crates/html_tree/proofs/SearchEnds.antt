-- The open elements at which a search for a p in button scope ends.
use Rattle.std.proofs.Common.{◌≡◌, ℕ, zero, suc, ◌+◌, ◌-◌, ◌<◌, ◌≤◌, Bool, true, false, cond, eqb, ◌||◌, ◌&&◌, List, [], ◌∷◌, ◌++◌, length, take, drop, map, get_or, Some, None, inl, inr, refl, sym, ◌∙◌, ap, subst, arith, length-append}
use Rattle.std.specs.Prelude.{count_by, filter}
use Rattle.std.specs.List.{list_any}
use Rattle.std.proofs.lemmas.Bool.{false≢true}
use Rattle.std.proofs.lemmas.List.{append-nil, take-append-drop, take_at}
use Rattle.std.proofs.lemmas.List.Elements.{filter-append}
use Rattle.std.proofs.lemmas.List.Sums.{length-filter}
use Rattle.html_names.specs.declared.sets.Scope.TheVariants as scope
use Rattle.html_names.specs.declared.tag.Tag.{Tag}
use Rattle.html_names.specs.declared.tag.Tag.TheVariants as tag
use Rattle.html_names.specs.Sets.{is_special}
use Rattle.html_names.specs.Tags.{is_same}
use Rattle.html_arena.specs.declared.data.NodeData.{NodeData}
use Rattle.html_arena.specs.declared.data.NodeData.TheVariants as node
use Rattle.html_arena.specs.declared.data.NewNode.{NewNode}
use Rattle.html_arena.specs.Data.{cloned, label_in, tag_in}
use Rattle.html_arena.specs.Laws.{IsRelabelled}
use Rattle.html_arena.specs.Siblings.{first_of, has, is_in, last_of, or_else}
use Rattle.html_arena.specs.Tree.{Tree, label_of, named, tag_at}
use Rattle.html_open.specs.declared.entry.Entry.{Entry}
use Rattle.html_open.specs.declared.places.Place.{Place}
use Rattle.html_open.specs.AdoptFinding.{special}
use Rattle.html_open.specs.Adopting.{MadeClones, Survives}
use Rattle.html_open.specs.Lists.{above, below, last_index, last_where, without_last}
use Rattle.html_open.specs.Opened.{AreNodes, open_at}
use Rattle.html_open.proofs.Finding.{has-drop}
use Rattle.html_open.proofs.Inserted.{get-before}
use Rattle.html_open.proofs.Keeps.{cases_bool, cases_eqb, eqb-self, split-last}
use Rattle.html_open.proofs.Lists.{last_where-at}
use Rattle.html_open.proofs.Numbering.{has-filter}
use Rattle.html_open.proofs.Reopened.{none-above}
use Rattle.html_open.proofs.SafePlaces.{same-tag}
use Rattle.html_open.proofs.Staying.{filter-same}
use Rattle.html_tree.specs.declared.groups.Group.{Group}
use Rattle.html_tree.specs.declared.groups.Group.TheVariants as group
use Rattle.html_tree.specs.declared.groups.Stop.{Stop}
use Rattle.html_tree.specs.declared.groups.Stop.TheVariants as stop
use Rattle.html_tree.specs.Inserting.{IsNew}
use Rattle.html_tree.specs.Paragraphs.{ends_p_search, is_button_stop, is_p, is_p_end, p_ends_of, seeks_p}
use Rattle.html_tree.specs.Searching.{index_before, is_member, stops}
use Rattle.html_tree.specs.Since.{essence}
use Rattle.html_tree.specs.States.{IsNamed}
use Rattle.html_tree.proofs.Kept.{same-tag_in}
use Rattle.html_tree.proofs.Searches.{before-other, before-some}

-- the tags are the same
pub ends-labels : (s es : List ℕ) (t u : Tree) → es ≡ p_ends_of t s → u.labels ≡ t.labels → es ≡ p_ends_of u s
ends-labels s es t u e h = e ∙ ap (λ ls. filter (λ x. ends_p_search (tag_in (label_in ls x))) (drop 1 s)) (sym h)

pub ends-tags : (s es : List ℕ) (t u : Tree) → es ≡ p_ends_of t s → ((x : ℕ) → has x s ≡ true → tag_at u x ≡ tag_at t x) → es ≡ p_ends_of u s
ends-tags s es t u e h = e ∙ filter-same (is_p_end t) (is_p_end u) (drop 1 s) (λ x b. ap ends_p_search (sym (h x (has-drop x 1 s b))))

pub ends-made : (s es : List ℕ) (t u : Tree) (at : Place) (new : NewNode) (k : ℕ) → es ≡ p_ends_of t s → AreNodes t s → IsNew t u at new k → es ≡ p_ends_of u s
ends-made s es t u at new k e n i = ends-tags s es t u e (λ x b. ap tag_in (i.laws.same_labels x (n x b)))

pub ends-relabelled : (s es : List ℕ) (t u : Tree) (x : ℕ) (d : NodeData) → es ≡ p_ends_of t s → IsRelabelled t u x d → essence d ≡ essence (label_of t x) → es ≡ p_ends_of u s
ends-relabelled s es t u x d e r i = ends-tags s es t u e (λ y b. elim (cases_eqb y x) [
  | inl q ↦ subst (λ z. tag_at u z ≡ tag_at t z) (sym q.1) (ap tag_in r.label_is ∙ same-tag_in (label_of t x) d i)
  | inr q ↦ ap tag_in (r.other_labels y q.1)
])

-- an element is opened
pub ends-pushed : (s s' es es' : List ℕ) (t u : Tree) (x : ℕ) (first : Bool) → (first ≡ true → s ≡ []) → (first ≡ false → 0 < length s) → s' ≡ s ++ x ∷ [] → u.labels ≡ t.labels
    → es' ≡ es ++ cond first [] (cond (is_p_end u x) (x ∷ []) []) → es ≡ p_ends_of t s → es' ≡ p_ends_of u s'
ends-pushed [] s' es es' t u x true none some i l h e = h ∙ append-nil es ∙ e ∙ sym (ap (p_ends_of u) i)
ends-pushed (y ∷ s) s' es es' t u x true none some i l h e = absurd (let k = none refl in cc)
ends-pushed [] s' es es' t u x false none some i l h e = absurd (let k : 0 < 0 = some refl in omega (arith, k))
ends-pushed (y ∷ s) s' es es' t u x false none some i l h e =
    h ∙ ap (λ v. v ++ filter (is_p_end u) (x ∷ [])) (ends-labels (y ∷ s) es t u e l) ∙ sym (filter-append (is_p_end u) s (x ∷ [])) ∙ sym (ap (p_ends_of u) i)

-- elements are closed
pub ends-cut : (s es es' : List ℕ) (t : Tree) (k n : ℕ) → k ≤ length s → (0 < length s → 0 < k) → es ≡ p_ends_of t s → n ≡ count_by (is_p_end t) (drop k s) → es' ≡ take (length es - n) es → es' ≡ p_ends_of t (take k s)
ends-cut [] es es' t zero n b f e c h = h ∙ ap (λ v. take (length v - n) v) e ∙ none (0 - n)
  where
    none : (m : ℕ) → take {A = ℕ} m [] ≡ []
    none zero = refl
    none (suc m) = refl
ends-cut [] es es' t (suc k) n b f e c h = absurd (omega (arith, b))
ends-cut (y ∷ s) es es' t zero n b f e c h = absurd (let q : 0 < 0 = f (omega arith) in omega (arith, q))
ends-cut (y ∷ s) es es' t (suc k) n b f e c h =
    let q = is_p_end t in
    let split : es ≡ filter q (take k s) ++ filter q (drop k s) = e ∙ ap (filter q) (sym (take-append-drop k s)) ∙ filter-append q (take k s) (drop k s) in
    let l : length es ≡ length (filter q (take k s)) + length (filter q (drop k s)) = ap length split ∙ length-append (filter q (take k s)) (filter q (drop k s)) in
    let m = length-filter q (drop k s) in
    let left : length es - n ≡ length (filter q (take k s)) = omega (arith, l, m, c) in
    h ∙ ap (λ v. take v es) left ∙ ap (take (length (filter q (take k s)))) split ∙ take_at (filter q (take k s)) (filter q (drop k s)) (length (filter q (take k s))) refl

-- an element is taken out
or-true : (b : Bool) → (b || true) ≡ true
or-true true = refl
or-true false = refl

pub any-mid : (p : ℕ → Bool) (xs : List ℕ) (k : ℕ) (ys : List ℕ) → p k ≡ true → list_any p (xs ++ k ∷ ys) ≡ true
any-mid p [] k ys h = rw h refl
any-mid p (x ∷ xs) k ys h = rw (any-mid p xs k ys h) (or-true (p x))

out-at : (p : ℕ → Bool) (xs : List ℕ) (k : ℕ) (ys : List ℕ) → p k ≡ true → list_any p ys ≡ false → without_last p (xs ++ k ∷ ys) ≡ xs ++ ys
out-at p [] k ys h n = rw (h, n) refl
out-at p (x ∷ xs) k ys h n =
    let a = any-mid p xs k ys h in
    let i : below p (xs ++ k ∷ ys) ++ above p (xs ++ k ∷ ys) ≡ xs ++ ys = rw a at (out-at p xs k ys h n) in
    rw (any-mid p (x ∷ xs) k ys h, a) (ap (λ v. x ∷ v) i)

any-filter : (p q : ℕ → Bool) (xs : List ℕ) → list_any p xs ≡ false → list_any p (filter q xs) ≡ false
any-filter p q [] h = refl
any-filter p q (x ∷ xs) h = elim (cases_bool (p x)) [
  | inl a ↦ absurd (let k : true ≡ false = rw a at h in cc)
  | inr a ↦ (let r = any-filter p q xs (rw a at h) in elim (cases_bool (q x)) [ inl b ↦ rw (b, a) r | inr b ↦ rw b r ])
]

eqb-is : (x y : ℕ) → eqb x y ≡ true → x ≡ y
eqb-is x y h = elim (cases_eqb x y) [ inl q ↦ q.1 | inr q ↦ absurd (false≢true (sym q.0 ∙ h)) ]

filter-without : (q : ℕ → Bool) (x : ℕ) (r : List ℕ) → filter q (without_last (eqb x) r) ≡ cond (q x) (without_last (eqb x) (filter q r)) (filter q r)
filter-without q x r = elim (cases_bool (list_any (eqb x) r)) [ inl e ↦ there e | inr e ↦ absent e ]
  where
    absent : list_any (eqb x) r ≡ false → filter q (without_last (eqb x) r) ≡ cond (q x) (without_last (eqb x) (filter q r)) (filter q r)
    absent e = rw (e, any-filter (eqb x) q r e) (same (q x))
      where
        same : (b : Bool) → filter q r ≡ cond b (filter q r) (filter q r)
        same true = refl
        same false = refl

    there : list_any (eqb x) r ≡ true → filter q (without_last (eqb x) r) ≡ cond (q x) (without_last (eqb x) (filter q r)) (filter q r)
    there e =
        let k = split-last (eqb x) r e in
        let i : r ≡ below (eqb x) r ++ x ∷ above (eqb x) r = k.1 ∙ ap (λ v. below (eqb x) r ++ v ∷ above (eqb x) r) (sym (eqb-is x k.0 k.2)) in
        rw e (filter-append q (below (eqb x) r) (above (eqb x) r) ∙ by (below (eqb x) r) (above (eqb x) r) i (none-above (eqb x) r))
      where
        by : (B A : List ℕ) → r ≡ B ++ x ∷ A → list_any (eqb x) A ≡ false → filter q B ++ filter q A ≡ cond (q x) (without_last (eqb x) (filter q r)) (filter q r)
        by B A i n =
            let j : filter q r ≡ filter q B ++ cond (q x) (x ∷ filter q A) (filter q A) = ap (filter q) i ∙ filter-append q B (x ∷ A) in
            elim (cases_bool (q x)) [
              | inl a ↦ (let m : filter q r ≡ filter q B ++ x ∷ filter q A = rw a at j in rw a (sym (ap (without_last (eqb x)) m ∙ out-at (eqb x) (filter q B) x (filter q A) (eqb-self x) (any-filter (eqb x) q A n))))
              | inr a ↦ (let m : filter q r ≡ filter q B ++ filter q A = rw a at j in rw a (sym m))
            ]

drop-without : (x y : ℕ) (r : List ℕ) → eqb x y ≡ false → without_last (eqb x) (y ∷ r) ≡ y ∷ without_last (eqb x) r
drop-without x y r h = elim (cases_bool (list_any (eqb x) r)) [ inl e ↦ rw (h, e) refl | inr e ↦ rw (h, e) refl ]

pub ends-removed : (s s' es es' : List ℕ) (t u : Tree) (x : ℕ) → is_in x (first_of s) ≡ false → s' ≡ without_last (eqb x) s → u.labels ≡ t.labels
    → es' ≡ cond (is_p_end t x) (without_last (eqb x) es) es → es ≡ p_ends_of t s → es' ≡ p_ends_of u s'
ends-removed [] s' es es' t u x off i l h e = ends-labels s' es' t u (h ∙ ap (λ v. cond (is_p_end t x) (without_last (eqb x) v) v) e ∙ same (is_p_end t x) ∙ sym (ap (p_ends_of t) i)) l
  where
    same : (b : Bool) → cond {A = List ℕ} b [] [] ≡ []
    same true = refl
    same false = refl
ends-removed (y ∷ r) s' es es' t u x off i l h e =
    ends-labels s' es' t u (h ∙ ap (λ v. cond (is_p_end t x) (without_last (eqb x) v) v) e ∙ sym (filter-without (is_p_end t) x r) ∙ sym (ap (p_ends_of t) (i ∙ drop-without x y r off))) l

-- special elements stay
p-special : (g : Tag) → ends_p_search g ≡ true → is_special g ≡ true
p-special tag.Applet h = refl
p-special tag.Button h = refl
p-special tag.Caption h = refl
p-special tag.Html h = refl
p-special tag.Marquee h = refl
p-special tag.Object h = refl
p-special tag.P h = refl
p-special tag.Table h = refl
p-special tag.Td h = refl
p-special tag.Template h = refl
p-special tag.Th h = refl
p-special tag.SvgDesc h = refl
p-special tag.SvgForeignObject h = refl
p-special tag.SvgTitle h = refl
p-special tag.MathAnnotationXml h = refl
p-special tag.MathMi h = refl
p-special tag.MathMn h = refl
p-special tag.MathMo h = refl
p-special tag.MathMs h = refl
p-special tag.MathMtext h = refl
p-special _ h = absurd (let k = h in cc)

filter-filter : (p q : ℕ → Bool) (xs : List ℕ) → ((x : ℕ) → q x ≡ true → p x ≡ true) → filter q (filter p xs) ≡ filter q xs
filter-filter p q [] h = refl
filter-filter p q (x ∷ xs) h = elim (cases_bool (q x)) [
  | inl a ↦ rw (h x a, a) (ap (λ v. x ∷ v) (filter-filter p q xs h))
  | inr a ↦ elim (cases_bool (p x)) [ inl b ↦ rw (b, a) (filter-filter p q xs h) | inr b ↦ rw (b, a) (filter-filter p q xs h) ]
]

module _ (s s' : List ℕ) (l l' : List Entry) (t u : Tree) (m : MadeClones (open_at s l t) u) (v : Survives (open_at s l t) (open_at s' l' u)) (n : AreNodes t s) where
  old-tag : (x : ℕ) → has x s ≡ true → tag_at u x ≡ tag_at t x
  old-tag x b = ap (λ ds. tag_in (label_in ds x)) m.labels_are ∙ ap tag_in (get-before t.labels (map (λ y. cloned (label_of t y)) m.elements) x node.Document (n x b))

  whole : filter (is_p_end u) s' ≡ filter (is_p_end t) s
  whole =
      sym (filter-filter (special u) (is_p_end u) s' (λ x h. p-special (tag_at u x) h)) ∙ ap (filter (is_p_end u)) v.special_are
      ∙ filter-same (is_p_end u) (is_p_end t) (filter (special t) s) (λ x b. ap ends_p_search (old-tag x (has-filter (special t) x s b).0))
      ∙ filter-filter (special t) (is_p_end t) s (λ x h. p-special (tag_at t x) h)

  pub ends-survived : (es : List ℕ) → 0 < length s → first_of s' ≡ first_of s → es ≡ p_ends_of t s → es ≡ p_ends_of u s'
  ends-survived es b f e = e ∙ by s s' b f (λ x h. old-tag x h) whole
    where
      by : (xs ys : List ℕ) → 0 < length xs → first_of ys ≡ first_of xs → ((x : ℕ) → has x xs ≡ true → tag_at u x ≡ tag_at t x) → filter (is_p_end u) ys ≡ filter (is_p_end t) xs → p_ends_of t xs ≡ p_ends_of u ys
      by [] ys b f o w = absurd (omega (arith, b))
      by (x ∷ xs) [] b f o w = absurd (let k = f in cc)
      by (x ∷ xs) (y ∷ ys) b f o w =
          let i : y ≡ x = (let c : Some y ≡ Some x = f in cc) in
          let g : is_p_end u y ≡ is_p_end t x = ap (is_p_end u) i ∙ ap ends_p_search (o x (rw (eqb-self x) refl)) in
          elim (cases_bool (is_p_end t x)) [
            | inl a ↦ (let k : y ∷ filter (is_p_end u) ys ≡ x ∷ filter (is_p_end t) xs = rw (g, a) at w in let c : filter (is_p_end u) ys ≡ filter (is_p_end t) xs = ap (drop 1) k in sym c)
            | inr a ↦ (let k : filter (is_p_end u) ys ≡ filter (is_p_end t) xs = rw (g, a) at w in sym k)
          ]

-- the ends are nodes
pub ends-in : (s es : List ℕ) (t : Tree) → es ≡ p_ends_of t s → AreNodes t s → AreNodes t es
ends-in s es t e n x h = n x (has-drop x 1 s (has-filter (is_p_end t) x (drop 1 s) (subst (λ v. has x v ≡ true) e h)).0)

-- the search
last-filter : (q : ℕ → Bool) (xs : List ℕ) → last_of (filter q xs) ≡ last_where q xs
last-filter q [] = refl
last-filter q (x ∷ xs) = elim (cases_bool (list_any q xs)) [
  | inl a ↦ elim (cases_bool (q x)) [
    | inl b ↦ rw (a, b) (ap (λ o. or_else o (Some x)) (last-filter q xs) ∙ there q xs x a)
    | inr b ↦ rw (a, b) (last-filter q xs)
  ]
  | inr a ↦ (let k = filter-empty q xs a in elim (cases_bool (q x)) [ inl b ↦ rw (a, b, k) refl | inr b ↦ rw (a, b, k) refl ])
]
  where
    filter-empty : (q : ℕ → Bool) (xs : List ℕ) → list_any q xs ≡ false → filter q xs ≡ []
    filter-empty q [] h = refl
    filter-empty q (y ∷ ys) h = elim (cases_bool (q y)) [
      | inl b ↦ absurd (let k : true ≡ false = rw b at h in cc)
      | inr b ↦ rw b (filter-empty q ys (rw b at h))
    ]

    there : (q : ℕ → Bool) (xs : List ℕ) (x : ℕ) → list_any q xs ≡ true → or_else (last_where q xs) (Some x) ≡ last_where q xs
    there q xs x h = (let i : last_index q xs ≡ Some (length (below q xs)) = rw h refl in let w = last_where-at q xs (length (below q xs)) 0 i in ap (λ o. or_else o (Some x)) w ∙ sym w)

module _ (s es : List ℕ) (t : Tree) (e : es ≡ p_ends_of t s) (first : IsNamed t tag.Html (first_of s)) (some : 0 < length s) where
  -- where the search ends, and whether at a p
  at-end : (i : ℕ) × (Some i ≡ last_index (is_p_end t) s) × (named t tag.P (get_or s i 0) ≡ is_p t (last_of es))
  at-end = by s e first some
    where
      by : (xs : List ℕ) → es ≡ p_ends_of t xs → IsNamed t tag.Html (first_of xs) → 0 < length xs → (i : ℕ) × (Some i ≡ last_index (is_p_end t) xs) × (named t tag.P (get_or xs i 0) ≡ is_p t (last_of es))
      by [] k f b = absurd (omega (arith, b))
      by (y ∷ r) k f b =
          let html : tag_at t y ≡ tag.Html = same-tag (tag_at t y) tag.Html (f y refl).1 in
          let ends : is_p_end t y ≡ true = ap ends_p_search html in
          let last : last_of es ≡ last_where (is_p_end t) r = ap last_of k ∙ last-filter (is_p_end t) r in
          elim (cases_bool (list_any (is_p_end t) r)) [
            | inl a ↦ (
                let i : last_index (is_p_end t) (y ∷ r) ≡ Some (length (below (is_p_end t) (y ∷ r))) = rw (any-later y r a) refl in
                let w : last_where (is_p_end t) (y ∷ r) ≡ Some (get_or (y ∷ r) (length (below (is_p_end t) (y ∷ r))) 0) = last_where-at (is_p_end t) (y ∷ r) (length (below (is_p_end t) (y ∷ r))) 0 i in
                let v : last_where (is_p_end t) (y ∷ r) ≡ last_where (is_p_end t) r = rw a refl in
                (length (below (is_p_end t) (y ∷ r)), sym i, sym (ap (is_p t) (last ∙ sym v ∙ w))))
            | inr a ↦ (0, zero-index y r a ends, ap (λ g. is_same g tag.P) html ∙ sym (ap (is_p t) (last ∙ none-where r a)))
          ]
        where
          any-later : (x : ℕ) (xs : List ℕ) → list_any (is_p_end t) xs ≡ true → list_any (is_p_end t) (x ∷ xs) ≡ true
          any-later x xs h = rw h (or-true (is_p_end t x))

          zero-index : (x : ℕ) (xs : List ℕ) → list_any (is_p_end t) xs ≡ false → is_p_end t x ≡ true → Some 0 ≡ last_index (is_p_end t) (x ∷ xs)
          zero-index x xs h q = rw (q, h) refl

          none-where : (xs : List ℕ) → list_any (is_p_end t) xs ≡ false → last_where (is_p_end t) xs ≡ None
          none-where [] h = refl
          none-where (x ∷ xs) h = elim (cases_bool (is_p_end t x)) [
            | inl q ↦ absurd (let k : true ≡ false = rw q at h in cc)
            | inr q ↦ (let n : list_any (is_p_end t) xs ≡ false = rw q at h in rw (n, q) refl)
          ]

  pub lacks-p : is_p t (last_of es) ≡ false → index_before (is_member t (group.Named tag.P)) (stops t (stop.EndOf scope.Button)) s ≡ None
  lacks-p h = (let k = at-end in sym (before-other (is_member t (group.Named tag.P)) (stops t (stop.EndOf scope.Button)) s k.0 k.1 (k.2 ∙ h)))

  pub finds-p : is_p t (last_of es) ≡ true → (i : ℕ) × (index_before (is_member t (group.Named tag.P)) (stops t (stop.EndOf scope.Button)) s ≡ Some i)
  finds-p h = (let k = at-end in (k.0, sym (before-some (is_member t (group.Named tag.P)) (stops t (stop.EndOf scope.Button)) s k.0 k.1 (k.2 ∙ h))))

and-true : (a b : Bool) → a && b ≡ true → (a ≡ true) × (b ≡ true)
and-true true b h = (refl, h)
and-true false b h = absurd (false≢true h)

button-is : (e : Stop) → is_button_stop e ≡ true → e ≡ stop.EndOf scope.Button
button-is (stop.EndOf scope.Button) h = refl
button-is (stop.EndOf scope.Default) h = absurd (false≢true h)
button-is (stop.EndOf scope.ListItem) h = absurd (false≢true h)
button-is (stop.EndOf scope.Table) h = absurd (false≢true h)
button-is (stop.EndOf scope.Select) h = absurd (false≢true h)
button-is stop.Never h = absurd (false≢true h)
button-is stop.PastItem h = absurd (false≢true h)

pub seeks-is : (g : Group) (e : Stop) → seeks_p g e ≡ true → (g ≡ group.Named tag.P) × (e ≡ stop.EndOf scope.Button)
seeks-is (group.Named h) e k = (let w = and-true (is_same h tag.P) (is_button_stop e) k in (ap group.Named (same-tag h tag.P w.0), button-is e w.1))
seeks-is group.Heading e k = absurd (false≢true k)
seeks-is group.Section e k = absurd (false≢true k)
seeks-is group.Cell e k = absurd (false≢true k)
seeks-is group.Definition e k = absurd (false≢true k)
