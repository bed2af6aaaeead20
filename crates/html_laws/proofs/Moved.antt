-- What adoption and reopening leave of what stands above the body.
use Rattle.std.proofs.Common.{◌≡◌, ◌<◌, ◌≤◌, ℕ, zero, suc, ◌+◌, ◌-◌, Bool, true, false, not, cond, drop, eqb, take, ◌&&◌, ◌||◌, List, [], ◌∷◌, ◌++◌, get_or, length, map, nat_le, nat_lt, Some, inl, inr, refl, sym, ◌∙◌, ap, subst, append_assoc, length-append, arith}
use Rattle.std.proofs.lemmas.Bool.Decides.{nat_tests}
use Rattle.std.specs.List.{list_all, list_any}
use Rattle.std.proofs.lemmas.Bool.{false≢true}
use Rattle.std.proofs.lemmas.List.Folds.{list_all-append}
use Rattle.html_names.specs.declared.tag.Tag.{Tag}
use Rattle.html_names.specs.declared.tag.Tag.TheVariants as tag
use Rattle.html_names.specs.Sets.{is_formatting, is_special}
use Rattle.html_arena.specs.Data.{label_in, tag_in}
use Rattle.html_arena.specs.Siblings.{has}
use Rattle.html_arena.specs.Tree.{Tree as Nodes, label_of, tag_at}
use Rattle.html_open.specs.declared.adoption.AdoptEnd.{AdoptEnd}
use Rattle.html_open.specs.declared.entry.Entry.{Entry}
use Rattle.html_open.specs.Adopting.{Adopted, Ends, Round, Rounds, clones_down, closes, eight, fewer, forgets, no_entry, no_round, one_more, out_of_scope, popped}
use Rattle.html_open.specs.Entries.{has_node, without_node}
use Rattle.html_open.specs.Lists.{above, below}
use Rattle.html_open.specs.Opened.{Open}
use Rattle.html_open.proofs.Keeps.{cases_bool, cases_eqb, eqb-self, has-append}
use Rattle.html_open.proofs.Lasting.{entries-without}
use Rattle.html_open.proofs.Lists.{any-has}
use Rattle.html_open.proofs.Members.{named-member}
use Rattle.html_open.proofs.Numbering.{has-down, originals-in}
use Rattle.html_open.proofs.Ordering.{has-either, has-head}
use Rattle.html_tree.specs.OpenTags.{tags_down}
use Rattle.html_tree.proofs.OpenTags.{cons-tags, push-tags, same-tags}
use Rattle.html_construction.proofs.Weighing.{same-tag}
use Rattle.html_laws.proofs.Chains.{is_plain, both, formatting-plain, join, not-true, plain-light}
use Rattle.html_laws.proofs.Stacks.{part-below, part-take}
use Rattle.html_laws.proofs.Tags.{of-all}
use Rattle.html_names.specs.Tags.{is_same}
use Rattle.html_laws.proofs.Cuts.{any-tags, last-of, split-tags}
use Rattle.html_laws.proofs.Faces.{Adds, blank, later-face, adds-none, adds-then, clone-none, clone-tag, clone-tagged, clone_faces, clones-adds, Face, face, faces, is_tagged, kept-tag, tally, tally-append}
use Rattle.html_laws.proofs.Insides.{Footing, IsInside, Need, inside-common, inside-drop, inside-round, plain-foot}

-- WHAT IS HELD

abbrev pub AreIn : Nodes → List ℕ → Type 0
AreIn t s = (x : ℕ) → has x s ≡ true → x < length t.labels

abbrev pub AreListed : Nodes → List Entry → Type 0
AreListed t l = (x : ℕ) → has_node x l ≡ true → (x < length t.labels) × (is_formatting (tag_at t x) ≡ true)

-- the open elements and the entries are nodes, the entries formatting elements, and each tag is that of its name
pub record IsHeld (o : Open) : Type 0 where
  pub stacked : AreIn o.tree o.stack
  pub listed : AreListed o.tree o.list
  pub tagged : list_all is_tagged (faces o.tree) ≡ true

-- LISTS

pub has-left : (x : ℕ) (us vs : List ℕ) → has x us ≡ true → has x (us ++ vs) ≡ true
has-left x us vs h = has-append x us vs ∙ rw h refl

pub has-right : (x : ℕ) (us vs : List ℕ) → has x vs ≡ true → has x (us ++ vs) ≡ true
has-right x us vs h = has-append x us vs ∙ by (has x us)
  where
    by : (b : Bool) → cond b true (has x vs) ≡ true
    by true = refl
    by false = h

pub has-here : (x : ℕ) (us : List ℕ) → has x (x ∷ us) ≡ true
has-here x us = rw (eqb-self x) refl

pub has-there : (x y : ℕ) (us : List ℕ) → has x us ≡ true → has x (y ∷ us) ≡ true
has-there x y us h = elim (cases_bool (eqb x y)) [ inl e ↦ rw e refl | inr e ↦ rw e h ]

pub back : (b c : Bool) → (b ≡ false → c ≡ false) → c ≡ true → b ≡ true
back true c f h = refl
back false c f h = absurd (false≢true (sym (f refl) ∙ h))

-- an html or a head
abbrev pub is_outermost : Tag → Bool
is_outermost g = is_same g tag.Html || is_same g tag.Head

-- none of the elements but the first is one
abbrev pub AreLow : Nodes → List ℕ → Type 0
AreLow t s = (x : ℕ) → has x (drop 1 s) ≡ true → is_outermost (tag_at t x) ≡ false

pub formatting-low : (g : Tag) → is_formatting g ≡ true → is_outermost g ≡ false
formatting-low g h = not-true (is_outermost g) (imply (is_formatting g) (not (is_outermost g)) (of-all (λ v. not (is_formatting v) || not (is_outermost v)) refl g) h)
  where
    imply : (a b : Bool) → (not a || b) ≡ true → a ≡ true → b ≡ true
    imply true b e h = e
    imply false b e h = absurd (false≢true h)

pub drop-in : (x : ℕ) (s : List ℕ) → has x (drop 1 s) ≡ true → has x s ≡ true
drop-in x [] h = h
drop-in x (y ∷ s) h = has-there x y s h

-- CLONES

-- the clones of formatting elements are such
clone-at : (t : Nodes) (es : List ℕ) (k : ℕ) → ((e : ℕ) → has e es ≡ true → is_formatting (tag_at t e) ≡ true) → k < length es → is_formatting (get_or (clone_faces t es) k blank).tag ≡ true
clone-at t [] k f l = absurd (omega (arith, l))
clone-at t (e ∷ es) zero f l = ap is_formatting (clone-tag (label_of t e)) ∙ f e (has-here e es)
clone-at t (e ∷ es) (suc k) f l = clone-at t es k (λ d h. f d (has-there d e es h)) (omega (arith, l))

pub clones-formatting : (t u : Nodes) (es : List ℕ) → Adds t u (clone_faces t es) → ((e : ℕ) → has e es ≡ true → is_formatting (tag_at t e) ≡ true) → (x : ℕ) → length t.labels ≤ x → x < length t.labels + length es
    → is_formatting (tag_at u x) ≡ true
clones-formatting t u es a f x l m = subst (λ y. is_formatting (tag_at u y) ≡ true) here (ap (λ (v : Face). is_formatting v.tag) (later-face t u (clone_faces t es) (x - length t.labels) a) ∙ clone-at t es (x - length t.labels) f (omega (arith, l, m)))
  where
    here : length t.labels + (x - length t.labels) ≡ x
    here = omega (arith, l)

pub all-formatting : (t : Nodes) (s : List ℕ) → ((x : ℕ) → has x s ≡ true → is_formatting (tag_at t x) ≡ true) → list_all is_formatting (tags_down t s) ≡ true
all-formatting t [] f = refl
all-formatting t (x ∷ s) f =
    ap (list_all is_formatting) (cons-tags t x s) ∙ list_all-append is_formatting (tags_down t s) (tag_at t x ∷ [])
    ∙ join (list_all is_formatting (tags_down t s)) (is_formatting (tag_at t x) && true) (all-formatting t s (λ y h. f y (has-there y x s h))) (join (is_formatting (tag_at t x)) true (f x (has-here x s)) refl)

-- fronts of a list, above its first
pub take-low : (n : ℕ) (s : List ℕ) (x : ℕ) → has x (drop 1 (take n s)) ≡ true → has x (drop 1 s) ≡ true
take-low zero s x h = absurd (false≢true h)
take-low (suc n) [] x h = h
take-low (suc n) (y ∷ s) x h = (part-take n s).there x h

pub below-low : (p : ℕ → Bool) (s : List ℕ) (x : ℕ) → has x (drop 1 (below p s)) ≡ true → has x (drop 1 s) ≡ true
below-low p [] x h = h
below-low p (y ∷ s) x h = by (list_any p s) h
  where
    by : (b : Bool) → has x (drop 1 (cond b (y ∷ below p s) [])) ≡ true → has x s ≡ true
    by true h = (part-below p s).there x h
    by false h = absurd (false≢true h)

-- the same nodes
pub held-same : (o p : Open) → IsHeld o → p.tree.labels ≡ o.tree.labels → ((x : ℕ) → has x p.stack ≡ true → has x o.stack ≡ true) → ((x : ℕ) → has_node x p.list ≡ true → has_node x o.list ≡ true) → IsHeld p
held-same o p h e i j = record {
  stacked = λ x k. subst (λ ls. x < length ls) (sym e) (h.stacked x (i x k));
  listed = λ x k. (let c = h.listed x (j x k) in (subst (λ ls. x < length ls) (sym e) c.0, ap is_formatting (kept-tag o.tree p.tree [] x (adds-none o.tree p.tree e) c.0) ∙ c.1));
  tagged = ap (λ ls. list_all is_tagged (map face ls)) e ∙ h.tagged;
}

-- what adoption makes
pub record IsMade (f : Need) (hook : Tag) (low : List Tag) (o p : Open) : Type 0 where
  pub added : List Face
  pub adds : Adds o.tree p.tree added
  pub none : tally tag.Body added ≡ 0
  pub held : IsHeld p
  pub inside : IsInside f hook low (tags_down o.tree o.stack) → IsInside f hook low (tags_down p.tree p.stack)

pub made-then : (f : Need) (hook : Tag) (low : List Tag) (o p q : Open) → IsMade f hook low o p → IsMade f hook low p q → IsMade f hook low o q
made-then f hook low o p q a b = record {
  added = a.added ++ b.added;
  adds = adds-then o.tree p.tree q.tree a.added b.added a.adds b.adds;
  none = (let t = tally-append tag.Body a.added b.added in let m = a.none in let n = b.none in omega (arith, t, m, n));
  held = b.held;
  inside = λ i. b.inside (a.inside i);
}

pub made-none : (f : Need) (hook : Tag) (low : List Tag) (o : Open) → IsHeld o → IsMade f hook low o o
made-none f hook low o h = record { added = []; adds = adds-none o.tree o.tree refl; none = refl; held = h; inside = λ i. i }

pub same-stack : (f : Need) (hook : Tag) (low : List Tag) (o p : Open) → p.tree.labels ≡ o.tree.labels → p.stack ≡ o.stack → IsInside f hook low (tags_down o.tree o.stack) → IsInside f hook low (tags_down p.tree p.stack)
same-stack f hook low o p e k i = subst (IsInside f hook low) (sym (ap (tags_down p.tree) k ∙ tags-same o.stack)) i
  where
    tags-same : (s : List ℕ) → tags_down p.tree s ≡ tags_down o.tree s
    tags-same s = same-tags o.tree p.tree s (λ x b. ap (λ ls. tag_in (label_in ls x)) e)

module _ (f : Need) (hook : Tag) (low : List Tag) (foot : Footing hook low) (s : Tag) (sf : is_formatting s ≡ true) where
  -- one round
  module _ (o p : Open) (h : IsHeld o) (foster : Bool) (r : Round s foster o p) where
    abbrev es : List ℕ
    es = r.cloned_elements ++ r.formatting_element ∷ []

    listed : (x : ℕ) → has x es ≡ true → has_node x o.list ≡ true
    listed x k = elim (has-either x r.cloned_elements (r.formatting_element ∷ []) k) [
      | inl a ↦ (originals-in (λ y. has_node y o.list) r.inner x (sym (ap (has x) r.cloned_are) ∙ a)).1
      | inr a ↦ elim (has-head x r.formatting_element [] a) [ inl e ↦ subst (λ y. has_node y o.list ≡ true) (sym e) (named-member o.tree s o.list (Some r.formatting_element) (sym r.formatting)) | inr e ↦ absurd (false≢true e) ]
    ]

    adds : Adds o.tree p.tree (clone_faces o.tree es)
    adds = clones-adds o.tree p.tree es r.labels_are

    old : (x : ℕ) → has x (r.lower ++ (r.common_ancestor ∷ r.formatting_element ∷ (r.inner ++ (r.furthest_block ∷ r.upper)))) ≡ true → tag_at p.tree x ≡ tag_at o.tree x
    old x k = kept-tag o.tree p.tree (clone_faces o.tree es) x adds (h.stacked x (ap (has x) r.stack_was ∙ k))

    from-lower : (x : ℕ) → has x r.lower ≡ true → tag_at p.tree x ≡ tag_at o.tree x
    from-lower x k = old x (has-left x r.lower (r.common_ancestor ∷ r.formatting_element ∷ (r.inner ++ (r.furthest_block ∷ r.upper))) k)

    from-rest : (x : ℕ) → has x (r.common_ancestor ∷ r.formatting_element ∷ (r.inner ++ (r.furthest_block ∷ r.upper))) ≡ true → tag_at p.tree x ≡ tag_at o.tree x
    from-rest x k = old x (has-right x r.lower (r.common_ancestor ∷ r.formatting_element ∷ (r.inner ++ (r.furthest_block ∷ r.upper))) k)

    from-block : (x : ℕ) → has x (r.furthest_block ∷ r.upper) ≡ true → tag_at p.tree x ≡ tag_at o.tree x
    from-block x k = from-rest x (has-there x r.common_ancestor (r.formatting_element ∷ (r.inner ++ (r.furthest_block ∷ r.upper))) (has-there x r.formatting_element (r.inner ++ (r.furthest_block ∷ r.upper)) (has-right x r.inner (r.furthest_block ∷ r.upper) k)))

    new-formatting : (x : ℕ) → length o.tree.labels ≤ x → x < length o.tree.labels + length es → is_formatting (tag_at p.tree x) ≡ true
    new-formatting x l m = clones-formatting o.tree p.tree es adds (λ e k. (h.listed e (listed e k)).1) x l m

    long : length es ≡ length r.cloned_elements + 1
    long = length-append r.cloned_elements (r.formatting_element ∷ [])

    down-formatting : (x : ℕ) → has x (clones_down (length o.tree.labels) (length r.cloned_elements)) ≡ true → is_formatting (tag_at p.tree x) ≡ true
    down-formatting x k =
        let c = both (nat_le (length o.tree.labels) x) (nat_lt x (length o.tree.labels + length r.cloned_elements)) (sym (has-down (length o.tree.labels) (length r.cloned_elements) x) ∙ k) in
        new-formatting x (grind (arith, nat_tests)) (let l = long in let m : x < length o.tree.labels + length r.cloned_elements = grind (arith, nat_tests) in omega (arith, l, m))

    abbrev ls : List Tag
    ls = tag_at o.tree r.common_ancestor ∷ tags_down o.tree r.lower

    before : tags_down o.tree o.stack ≡ tags_down o.tree r.upper ++ tag_at o.tree r.furthest_block ∷ (tags_down o.tree r.inner ++ tag_at o.tree r.formatting_element ∷ ls)
    before =
        ap (tags_down o.tree) r.stack_was
        ∙ split-tags o.tree r.lower (r.formatting_element ∷ (r.inner ++ (r.furthest_block ∷ r.upper))) r.common_ancestor
        ∙ ap (λ v. v ++ ls) (cons-tags o.tree r.formatting_element (r.inner ++ (r.furthest_block ∷ r.upper)) ∙ ap (λ v. v ++ tag_at o.tree r.formatting_element ∷ []) (split-tags o.tree r.inner r.upper r.furthest_block))
        ∙ append_assoc (tags_down o.tree r.upper ++ tag_at o.tree r.furthest_block ∷ tags_down o.tree r.inner) (tag_at o.tree r.formatting_element ∷ []) ls
        ∙ append_assoc (tags_down o.tree r.upper) (tag_at o.tree r.furthest_block ∷ tags_down o.tree r.inner) (tag_at o.tree r.formatting_element ∷ ls)

    abbrev cs : List Tag
    cs = tags_down p.tree (clones_down (length o.tree.labels) (length r.cloned_elements))

    after : tags_down p.tree p.stack ≡ tags_down o.tree r.upper ++ tag_at p.tree r.new_element ∷ tag_at o.tree r.furthest_block ∷ (cs ++ ls)
    after =
        ap (tags_down p.tree) r.stack_is
        ∙ split-tags p.tree r.lower (clones_down (length o.tree.labels) (length r.cloned_elements) ++ (r.furthest_block ∷ r.new_element ∷ r.upper)) r.common_ancestor
        ∙ ap (λ v. v ++ tag_at p.tree r.common_ancestor ∷ tags_down p.tree r.lower) (split-tags p.tree (clones_down (length o.tree.labels) (length r.cloned_elements)) (r.new_element ∷ r.upper) r.furthest_block ∙ ap (λ v. v ++ tag_at p.tree r.furthest_block ∷ cs) (cons-tags p.tree r.new_element r.upper))
        ∙ ap (λ v. ((tags_down p.tree r.upper ++ tag_at p.tree r.new_element ∷ []) ++ tag_at p.tree r.furthest_block ∷ cs) ++ v) same-ls
        ∙ ap (λ v. ((v ++ tag_at p.tree r.new_element ∷ []) ++ tag_at p.tree r.furthest_block ∷ cs) ++ ls) (same-tags o.tree p.tree r.upper (λ x k. from-block x (has-there x r.furthest_block r.upper k)))
        ∙ ap (λ v. ((tags_down o.tree r.upper ++ tag_at p.tree r.new_element ∷ []) ++ v ∷ cs) ++ ls) (from-block r.furthest_block (has-here r.furthest_block r.upper))
        ∙ append_assoc (tags_down o.tree r.upper ++ tag_at p.tree r.new_element ∷ []) (tag_at o.tree r.furthest_block ∷ cs) ls
        ∙ append_assoc (tags_down o.tree r.upper) (tag_at p.tree r.new_element ∷ []) (tag_at o.tree r.furthest_block ∷ (cs ++ ls))
      where
        same-ls : tag_at p.tree r.common_ancestor ∷ tags_down p.tree r.lower ≡ ls
        same-ls =
            ap (λ v. v ∷ tags_down p.tree r.lower) (from-rest r.common_ancestor (has-here r.common_ancestor (r.formatting_element ∷ (r.inner ++ (r.furthest_block ∷ r.upper)))))
            ∙ ap (λ v. tag_at o.tree r.common_ancestor ∷ v) (same-tags o.tree p.tree r.lower from-lower)

    -- what stands on the common ancestor
    abbrev new_rest : List ℕ
    new_rest = clones_down (length o.tree.labels) (length r.cloned_elements) ++ (r.furthest_block ∷ r.new_element ∷ r.upper)

    abbrev old_rest : List ℕ
    old_rest = r.formatting_element ∷ (r.inner ++ (r.furthest_block ∷ r.upper))

    -- what is above the first stays so
    round-low : AreLow o.tree o.stack → AreLow p.tree p.stack
    round-low l x k = at r.lower (sym (ap (λ v. has x (drop 1 v)) r.stack_is) ∙ k) (λ h. l x (ap (λ v. has x (drop 1 v)) r.stack_was ∙ h)) (λ h. old x h)
      where
        kept : has x old_rest ≡ true → (has x old_rest ≡ true → is_outermost (tag_at o.tree x) ≡ false) → (has x old_rest ≡ true → tag_at p.tree x ≡ tag_at o.tree x) → is_outermost (tag_at p.tree x) ≡ false
        kept h f g = ap is_outermost (g h) ∙ f h

        in-rest : has x new_rest ≡ true → (has x old_rest ≡ true → is_outermost (tag_at o.tree x) ≡ false) → (has x old_rest ≡ true → tag_at p.tree x ≡ tag_at o.tree x) → is_outermost (tag_at p.tree x) ≡ false
        in-rest h f g = elim (has-either x (clones_down (length o.tree.labels) (length r.cloned_elements)) (r.furthest_block ∷ r.new_element ∷ r.upper) h) [
          | inl a ↦ formatting-low (tag_at p.tree x) (down-formatting x a)
          | inr a ↦ elim (has-head x r.furthest_block (r.new_element ∷ r.upper) a) [
            | inl e ↦ kept (has-there x r.formatting_element (r.inner ++ (r.furthest_block ∷ r.upper)) (has-right x r.inner (r.furthest_block ∷ r.upper) (subst (λ v. has v (r.furthest_block ∷ r.upper) ≡ true) (sym e) (has-here r.furthest_block r.upper)))) f g
            | inr b ↦ elim (has-head x r.new_element r.upper b) [
              | inl e ↦ formatting-low (tag_at p.tree x) (subst (λ v. is_formatting (tag_at p.tree v) ≡ true) (sym (e ∙ r.new_element_is)) (new-formatting (length o.tree.labels + length r.cloned_elements) (omega arith) (let l = long in omega (arith, l))))
              | inr c ↦ kept (has-there x r.formatting_element (r.inner ++ (r.furthest_block ∷ r.upper)) (has-right x r.inner (r.furthest_block ∷ r.upper) (has-there x r.furthest_block r.upper c))) f g
            ]
          ]
        ]

        at : (us : List ℕ) → has x (drop 1 (us ++ (r.common_ancestor ∷ new_rest))) ≡ true → (has x (drop 1 (us ++ (r.common_ancestor ∷ old_rest))) ≡ true → is_outermost (tag_at o.tree x) ≡ false) → (has x (us ++ (r.common_ancestor ∷ old_rest)) ≡ true → tag_at p.tree x ≡ tag_at o.tree x) → is_outermost (tag_at p.tree x) ≡ false
        at [] h f g = in-rest h f (λ q. g (has-there x r.common_ancestor old_rest q))
        at (u ∷ us) h f g = elim (has-either x us (r.common_ancestor ∷ new_rest) h) [
          | inl a ↦ ap is_outermost (g (has-there x u (us ++ (r.common_ancestor ∷ old_rest)) (has-left x us (r.common_ancestor ∷ old_rest) a))) ∙ f (has-left x us (r.common_ancestor ∷ old_rest) a)
          | inr a ↦ elim (has-head x r.common_ancestor new_rest a) [
            | inl e ↦ (let q : has x (r.common_ancestor ∷ old_rest) ≡ true = subst (λ v. has v (r.common_ancestor ∷ old_rest) ≡ true) (sym e) (has-here r.common_ancestor old_rest) in ap is_outermost (g (has-there x u (us ++ (r.common_ancestor ∷ old_rest)) (has-right x us (r.common_ancestor ∷ old_rest) q))) ∙ f (has-right x us (r.common_ancestor ∷ old_rest) q))
            | inr b ↦ in-rest b (λ q. f (has-right x us (r.common_ancestor ∷ old_rest) (has-there x r.common_ancestor old_rest q))) (λ q. g (has-there x u (us ++ (r.common_ancestor ∷ old_rest)) (has-right x us (r.common_ancestor ∷ old_rest) (has-there x r.common_ancestor old_rest q))))
          ]
        ]

    round-made : IsMade f hook low o p
    round-made = record {
      added = clone_faces o.tree es;
      adds = adds;
      none = clone-none o.tree es;
      held = record {
        stacked = r.is_open.stack_in;
        listed = λ x k. (r.is_open.list_in x k, r.is_open.formatting x k);
        tagged = ap (list_all is_tagged) adds.are ∙ list_all-append is_tagged (faces o.tree) (clone_faces o.tree es) ∙ join (list_all is_tagged (faces o.tree)) (list_all is_tagged (clone_faces o.tree es)) h.tagged (clone-tagged o.tree es h.tagged);
      };
      inside = λ i. subst (IsInside f hook low) (sym after) (inside-round f hook low foot (tags_down o.tree r.upper) (tag_at o.tree r.furthest_block) (tags_down o.tree r.inner) (tag_at o.tree r.formatting_element) ls cs (tag_at p.tree r.new_element)
          (h.listed r.formatting_element (listed r.formatting_element (has-right r.formatting_element r.cloned_elements (r.formatting_element ∷ []) (has-here r.formatting_element [])))).1
          (any-tags o.tree is_special r.inner ∙ r.none_between)
          (all-formatting p.tree (clones_down (length o.tree.labels) (length r.cloned_elements)) down-formatting)
          (subst (λ x. is_formatting (tag_at p.tree x) ≡ true) (sym r.new_element_is) (new-formatting (length o.tree.labels + length r.cloned_elements) (omega arith) (let l = long in omega (arith, l))))
          (subst (IsInside f hook low) before i));
    }

  rounds-made : (foster : Bool) (n : ℕ) (o p : Open) → IsHeld o → Rounds s foster n o p → IsMade f hook low o p
  rounds-made foster _ _ _ h (no_round o) = made-none f hook low o h
  rounds-made foster _ _ _ h (one_more n o p q rs r) = (let m = rounds-made foster n o p h rs in made-then f hook low o p q m (round-made p q m.held foster r))

  -- the end
  ends-made : (end : AdoptEnd) (o p : Open) → IsHeld o → Ends s end o p → IsMade f hook low o p
  ends-made _ _ _ h (closes o p k) =
      let e = ap (λ (v : Nodes). v.labels) k.tree_is in
      let l = last-of (eqb k.formatting_element) o.stack (any-has k.formatting_element o.stack ∙ k.on_stack) in
      let same : l.node ≡ k.formatting_element = elim (cases_eqb k.formatting_element l.node) [ inl q ↦ sym q.1 | inr q ↦ absurd (false≢true (sym q.0 ∙ l.passes)) ] in
      let member = named-member o.tree s o.list (Some k.formatting_element) (sym k.formatting) in
      let fmt : is_formatting (tag_at o.tree l.node) ≡ true = subst (λ x. is_formatting (tag_at o.tree x) ≡ true) (sym same) (h.listed k.formatting_element member).1 in
      record {
        added = [];
        adds = adds-none o.tree p.tree e;
        none = refl;
        held = held-same o p h e
            (λ x b. subst (λ v. has x v ≡ true) (sym l.stack_is) (has-left x (below (eqb k.formatting_element) o.stack) _ (sym (ap (has x) k.stack_is) ∙ b)))
            (λ x b. back (has_node x o.list) (has_node x (without_node k.formatting_element o.list)) (entries-without _ o.list x) (sym (ap (has_node x) k.list_is) ∙ b));
        inside = λ i. subst (IsInside f hook low) (sym (ap (tags_down p.tree) k.stack_is ∙ same-tags o.tree p.tree (below (eqb k.formatting_element) o.stack) (λ x b. ap (λ ls. tag_in (label_in ls x)) e)))
            (inside-common f hook low foot (tags_down o.tree (above (eqb k.formatting_element) o.stack)) (tag_at o.tree l.node) (tags_down o.tree (below (eqb k.formatting_element) o.stack)) (tags_down o.tree o.stack)
            (ap (tags_down o.tree) l.stack_is ∙ split-tags o.tree (below (eqb k.formatting_element) o.stack) (above (eqb k.formatting_element) o.stack) l.node)
            (formatting-plain (tag_at o.tree l.node) fmt)
            (any-tags o.tree is_special (above (eqb k.formatting_element) o.stack) ∙ k.no_special) i);
      }
  ends-made _ _ _ h (forgets o p k) =
      let e = ap (λ (v : Nodes). v.labels) k.tree_is in
      record {
        added = [];
        adds = adds-none o.tree p.tree e;
        none = refl;
        held = held-same o p h e (λ x b. sym (ap (has x) k.stack_is) ∙ b) (λ x b. back (has_node x o.list) (has_node x (without_node k.formatting_element o.list)) (entries-without _ o.list x) (sym (ap (has_node x) k.list_is) ∙ b));
        inside = same-stack f hook low o p e k.stack_is;
      }
  ends-made _ _ _ h (out_of_scope o p k) =
      let e = ap (λ (v : Nodes). v.labels) k.unchanged.tree_is in
      record {
        added = [];
        adds = adds-none o.tree p.tree e;
        none = refl;
        held = held-same o p h e (λ x b. sym (ap (has x) k.unchanged.stack_is) ∙ b) (λ x b. sym (ap (has_node x) k.unchanged.list_is) ∙ b);
        inside = same-stack f hook low o p e k.unchanged.stack_is;
      }
  ends-made _ _ _ h (no_entry o p k) =
      let e = ap (λ (v : Nodes). v.labels) k.unchanged.tree_is in
      record {
        added = [];
        adds = adds-none o.tree p.tree e;
        none = refl;
        held = held-same o p h e (λ x b. sym (ap (has x) k.unchanged.stack_is) ∙ b) (λ x b. sym (ap (has_node x) k.unchanged.list_is) ∙ b);
        inside = same-stack f hook low o p e k.unchanged.stack_is;
      }

  pub adopted-made : (foster : Bool) (end : AdoptEnd) (o p : Open) → IsHeld o → Adopted s foster end o p → IsMade f hook low o p
  adopted-made foster _ _ _ h (popped o p k) =
      let e = ap (λ (v : Nodes). v.labels) k.tree_is in
      let g : tag_at o.tree k.current ≡ s = same-tag (tag_at o.tree k.current) s k.is_named in
      record {
        added = [];
        adds = adds-none o.tree p.tree e;
        none = refl;
        held = held-same o p h e (λ x b. ap (has x) k.stack_was ∙ has-left x p.stack (k.current ∷ []) b) (λ x b. sym (ap (has_node x) k.list_is) ∙ b);
        inside = λ i. subst (IsInside f hook low) (sym (same-tags o.tree p.tree p.stack (λ x b. ap (λ ls. tag_in (label_in ls x)) e)))
            (inside-drop f hook low foot [] (tag_at o.tree k.current) (tags_down o.tree p.stack)
            (plain-light (tag_at o.tree k.current) (ap is_plain g ∙ formatting-plain s sf))
            (plain-foot (tag_at o.tree k.current) (ap is_plain g ∙ formatting-plain s sf))
            (subst (IsInside f hook low) (ap (tags_down o.tree) k.stack_was ∙ push-tags o.tree p.stack k.current) i));
      }
  adopted-made foster _ _ _ h (eight o p c r) = rounds-made foster 8 o p h r
  adopted-made foster _ _ _ h (fewer end n o p q c b r i) = (let m = rounds-made foster n o p h r in made-then f hook low o p q m (ends-made end p q m.held i))

  rounds-low : (foster : Bool) (n : ℕ) (o p : Open) → IsHeld o → Rounds s foster n o p → AreLow o.tree o.stack → AreLow p.tree p.stack
  rounds-low foster _ _ _ h (no_round o) l = l
  rounds-low foster _ _ _ h (one_more n o p q rs r) l = round-low p q (rounds-made foster n o p h rs).held foster r (rounds-low foster n o p h rs l)

  -- the same nodes, and a front of the stack
  low-part : (o p : Open) → p.tree.labels ≡ o.tree.labels → ((x : ℕ) → has x (drop 1 p.stack) ≡ true → has x (drop 1 o.stack) ≡ true) → AreLow o.tree o.stack → AreLow p.tree p.stack
  low-part o p e i l x k = ap (λ ls. is_outermost (tag_in (label_in ls x))) e ∙ l x (i x k)

  ends-low : (end : AdoptEnd) (o p : Open) → Ends s end o p → AreLow o.tree o.stack → AreLow p.tree p.stack
  ends-low _ _ _ (closes o p k) l = low-part o p (ap (λ (v : Nodes). v.labels) k.tree_is) (λ x b. below-low (eqb k.formatting_element) o.stack x (sym (ap (λ v. has x (drop 1 v)) k.stack_is) ∙ b)) l
  ends-low _ _ _ (forgets o p k) l = low-part o p (ap (λ (v : Nodes). v.labels) k.tree_is) (λ x b. sym (ap (λ v. has x (drop 1 v)) k.stack_is) ∙ b) l
  ends-low _ _ _ (out_of_scope o p k) l = low-part o p (ap (λ (v : Nodes). v.labels) k.unchanged.tree_is) (λ x b. sym (ap (λ v. has x (drop 1 v)) k.unchanged.stack_is) ∙ b) l
  ends-low _ _ _ (no_entry o p k) l = low-part o p (ap (λ (v : Nodes). v.labels) k.unchanged.tree_is) (λ x b. sym (ap (λ v. has x (drop 1 v)) k.unchanged.stack_is) ∙ b) l

  pub adopted-low : (foster : Bool) (end : AdoptEnd) (o p : Open) → IsHeld o → Adopted s foster end o p → AreLow o.tree o.stack → AreLow p.tree p.stack
  adopted-low foster _ _ _ h (popped o p k) l = low-part o p (ap (λ (v : Nodes). v.labels) k.tree_is) (λ x b. ap (λ v. has x (drop 1 v)) k.stack_was ∙ front p.stack x b) l
    where
      front : (us : List ℕ) (x : ℕ) → has x (drop 1 us) ≡ true → has x (drop 1 (us ++ k.current ∷ [])) ≡ true
      front [] x b = absurd (false≢true b)
      front (u ∷ us) x b = has-left x us (k.current ∷ []) b
  adopted-low foster _ _ _ h (eight o p c r) l = rounds-low foster 8 o p h r l
  adopted-low foster _ _ _ h (fewer end n o p q c b r i) l = ends-low end p q i (rounds-low foster n o p h r l)
