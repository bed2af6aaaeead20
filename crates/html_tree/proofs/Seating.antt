-- Parts of tables keep what they stand on.
use Rattle.std.proofs.Common.{◌≡◌, ℕ, zero, suc, ◌+◌, ◌≤◌, Bool, true, false, cond, eqb, not, ◌||◌, ◌&&◌, List, [], ◌∷◌, ◌++◌, length, drop, map, Some, None, inl, inr, refl, sym, ◌∙◌, ap, subst, arith, Result, Ok, Err, IfOk, IfErr}
use Rattle.std.specs.List.{list_all, list_any}
use Rattle.std.proofs.lemmas.Bool.{false≢true}
use Rattle.std.proofs.lemmas.Grind.{reverse_onto}
use Rattle.std.proofs.lemmas.List.{append_assoc}
use Rattle.html_names.specs.declared.sets.Scope.TheVariants as scope
use Rattle.html_names.specs.declared.tag.Tag.{Tag}
use Rattle.html_names.specs.declared.tag.Tag.TheVariants as tag
use Rattle.html_names.specs.Groups.{is_table_part}
use Rattle.html_names.specs.Sets.{ends_default_scope, is_cell, is_formatting, is_row_context, is_section_context, is_special, is_table_context}
use Rattle.html_names.specs.Tags.{is_same}
use Rattle.html_arena.specs.declared.data.NodeData.TheVariants as node
use Rattle.html_arena.specs.Data.{cloned, label_in, tag_in}
use Rattle.html_arena.specs.Siblings.{Distinct, first_of, has, is_in}
use Rattle.html_arena.specs.Tree.{Tree, label_of, tag_at}
use Rattle.html_open.specs.declared.adoption.AdoptEnd.{AdoptEnd}
use Rattle.html_arena.specs.declared.arena.ArenaError.{ArenaError}
use Rattle.html_open.specs.AdoptFinding.{element_in_scope, special}
use Rattle.html_open.specs.Adopting.{Adopted, Ends, IsRefusal, MadeClones, Round, Rounds, clones_down, closes, eight, fewer, forgets, no_entry, no_round, one_more, out_of_scope, popped}
use Rattle.html_open.specs.Lists.{above, below, without_last}
use Rattle.html_open.specs.Opened.{IsOpen, Open}
use Rattle.html_open.specs.Scopes.{ends}
use Rattle.html_open.proofs.Descending.{label-kept, round-made}
use Rattle.html_open.proofs.Keeps.{Distinct-remove, cases_bool, cases_eqb, eqb-self, split-last}
use Rattle.html_tree.specs.Closing.{remaining}
use Rattle.html_tree.specs.OpenTags.{HasFewer, HasReopened, open_tags, tags_down}
use Rattle.html_tree.specs.Seats.{AreSeated, IsSeated, carries_part, is_part, sits_on}
use Rattle.html_tree.specs.States.{State}
use Rattle.html_tree.proofs.Adopted.{formatting-plain as formatting-ordinary}
use Rattle.html_open.proofs.Inserted.{get-before}
use Rattle.html_open.proofs.Lists.{any-has}
use Rattle.html_open.proofs.Members.{named-member}
use Rattle.html_tree.proofs.SearchEnds.{any-mid}
use Rattle.html_tree.proofs.OpenTags.{same-tags, clone-tag}

-- what stands on what
pub plain-sits : (g h : Tag) → is_part g ≡ false → sits_on g h ≡ true
plain-sits g h = by (is_cell g) (is_same g tag.Tr) (is_table_part g) (is_row_context h) (is_section_context h) (is_table_context h)
  where
    by : (a b c x y z : Bool) → a || (b || c) ≡ false → cond a x (cond b y (cond c z true)) ≡ true
    by true b c x y z e = absurd (false≢true (sym e))
    by false true c x y z e = absurd (false≢true (sym e))
    by false false true x y z e = absurd (false≢true (sym e))
    by false false false x y z e = refl

or-false : (a b : Bool) → a || b ≡ false → (a ≡ false) × (b ≡ false)
or-false true b h = absurd (false≢true (sym h))
or-false false b h = (refl, h)

pub not-part : (g h : Tag) → sits_on g h ≡ true → carries_part h ≡ false → is_part g ≡ false
not-part g h e n = by (is_cell g) (is_same g tag.Tr) (is_table_part g) (is_row_context h) (is_section_context h) (is_table_context h) e n
  where
    go : (a b c : Bool) → cond a false (cond b false (cond c false true)) ≡ true → a || (b || c) ≡ false
    go true b c k = absurd (false≢true k)
    go false true c k = absurd (false≢true k)
    go false false true k = absurd (false≢true k)
    go false false false k = refl

    by : (a b c x y z : Bool) → cond a x (cond b y (cond c z true)) ≡ true → x || (y || z) ≡ false → a || (b || c) ≡ false
    by a b c x y z k m = (let p = or-false x (y || z) m in let q = or-false y z p.1 in go a b c (rw (p.0, q.0, q.1) at k))

pub formatting-plain : (g : Tag) → is_formatting g ≡ true → is_part g ≡ false
formatting-plain tag.A h = refl
formatting-plain tag.B h = refl
formatting-plain tag.Big h = refl
formatting-plain tag.Code h = refl
formatting-plain tag.Em h = refl
formatting-plain tag.Font h = refl
formatting-plain tag.I h = refl
formatting-plain tag.Nobr h = refl
formatting-plain tag.S h = refl
formatting-plain tag.Small h = refl
formatting-plain tag.Strike h = refl
formatting-plain tag.Strong h = refl
formatting-plain tag.Tt h = refl
formatting-plain tag.U h = refl
formatting-plain _ h = absurd (let k = h in cc)

carrier-special : (g : Tag) → carries_part g ≡ true → is_special g ≡ true
carrier-special tag.Html h = refl
carrier-special tag.Table h = refl
carrier-special tag.Tbody h = refl
carrier-special tag.Template h = refl
carrier-special tag.Tfoot h = refl
carrier-special tag.Thead h = refl
carrier-special tag.Tr h = refl
carrier-special _ h = absurd (let k = h in cc)

carrier-ends : (g : Tag) → carries_part g ≡ true → is_part g ≡ false → ends_default_scope g ≡ true
carrier-ends tag.Html h n = refl
carrier-ends tag.Table h n = refl
carrier-ends tag.Template h n = refl
carrier-ends tag.Tbody h n = absurd (let k = n in cc)
carrier-ends tag.Tfoot h n = absurd (let k = n in cc)
carrier-ends tag.Thead h n = absurd (let k = n in cc)
carrier-ends tag.Tr h n = absurd (let k = n in cc)
carrier-ends _ h n = absurd (let k = h in cc)

plain-carries : (g : Tag) → is_special g ≡ false → carries_part g ≡ false
plain-carries g h = elim (cases_bool (carries_part g)) [ inl a ↦ absurd (false≢true (sym h ∙ carrier-special g a)) | inr a ↦ a ]

pub formatting-carries : (g : Tag) → is_formatting g ≡ true → carries_part g ≡ false
formatting-carries g h = plain-carries g (formatting-ordinary g h)

-- the elements from the first on
abbrev pub OnTop : Tree → ℕ → List ℕ → Type 0
OnTop t x [] = Unit {0}
OnTop t x (y ∷ ys) = sits_on (tag_at t y) (tag_at t x) ≡ true

abbrev pub Up : Tree → List ℕ → Type 0
Up t [] = Unit {0}
Up t (x ∷ xs) = OnTop t x xs × Up t xs

seated-cut : (xs : List Tag) (g : Tag) (ys : List Tag) → AreSeated (xs ++ g ∷ ys) → AreSeated (xs ++ g ∷ []) × AreSeated (g ∷ ys)
seated-cut [] g ys h = ((tt, tt), h)
seated-cut (x ∷ []) g ys h = ((h.0, (tt, tt)), h.1)
seated-cut (x ∷ z ∷ xs) g ys h = (let r = seated-cut (z ∷ xs) g ys h.1 in ((h.0, r.0), r.1))

seated-join : (xs : List Tag) (g : Tag) (ys : List Tag) → AreSeated (xs ++ g ∷ []) → AreSeated (g ∷ ys) → AreSeated (xs ++ g ∷ ys)
seated-join [] g ys h k = k
seated-join (x ∷ []) g ys h k = (h.0, k)
seated-join (x ∷ z ∷ xs) g ys h k = (h.0, seated-join (z ∷ xs) g ys h.1 k)

cons-tags : (t : Tree) (x : ℕ) (s : List ℕ) → tags_down t (x ∷ s) ≡ tags_down t s ++ tag_at t x ∷ []
cons-tags t x s = reverse_onto (map (tag_at t) s) (tag_at t x) []

two-tags : (t : Tree) (x y : ℕ) (s : List ℕ) → tags_down t (x ∷ y ∷ s) ≡ tags_down t s ++ tag_at t y ∷ tag_at t x ∷ []
two-tags t x y s = cons-tags t x (y ∷ s) ∙ ap (λ v. v ++ tag_at t x ∷ []) (cons-tags t y s) ∙ append_assoc (tags_down t s) (tag_at t y ∷ []) (tag_at t x ∷ [])

pub up-of : (t : Tree) (s : List ℕ) → AreSeated (tags_down t s) → Up t s
up-of t [] h = tt
up-of t (x ∷ []) h = (tt, tt)
up-of t (x ∷ y ∷ s) h =
    (let c = seated-cut (tags_down t s) (tag_at t y) (tag_at t x ∷ []) (subst AreSeated (two-tags t x y s) h) in
    (c.1.0, up-of t (y ∷ s) (subst AreSeated (sym (cons-tags t y s)) c.0)))

pub of-up : (t : Tree) (s : List ℕ) → Up t s → AreSeated (tags_down t s)
of-up t [] h = tt
of-up t (x ∷ []) h = (tt, tt)
of-up t (x ∷ y ∷ s) h =
    subst AreSeated (sym (two-tags t x y s))
    (seated-join (tags_down t s) (tag_at t y) (tag_at t x ∷ []) (subst AreSeated (cons-tags t y s) (of-up t (y ∷ s) h.1)) (h.0, (tt, tt)))

up-same : (t u : Tree) (s : List ℕ) → ((x : ℕ) → has x s ≡ true → tag_at u x ≡ tag_at t x) → Up t s → Up u s
up-same t u s h k = up-of u s (subst AreSeated (sym (same-tags t u s h)) (of-up t s k))

up-front : (t : Tree) (xs : List ℕ) (a : ℕ) (ys : List ℕ) → Up t (xs ++ a ∷ ys) → Up t (xs ++ a ∷ [])
up-front t [] a ys h = (tt, tt)
up-front t (x ∷ []) a ys h = (h.0, (tt, tt))
up-front t (x ∷ z ∷ xs) a ys h = (h.0, up-front t (z ∷ xs) a ys h.1)

up-tail : (t : Tree) (xs ys : List ℕ) → Up t (xs ++ ys) → Up t ys
up-tail t [] ys h = h
up-tail t (x ∷ xs) ys h = up-tail t xs ys h.1

up-join : (t : Tree) (xs : List ℕ) (a : ℕ) (ys : List ℕ) → Up t (xs ++ a ∷ []) → Up t (a ∷ ys) → Up t (xs ++ a ∷ ys)
up-join t [] a ys h k = k
up-join t (x ∷ []) a ys h k = (h.0, k)
up-join t (x ∷ z ∷ xs) a ys h k = (h.0, up-join t (z ∷ xs) a ys h.1 k)

-- no part stands on what carries none
part-over : (t : Tree) (x y : ℕ) (ys : List ℕ) → Up t (x ∷ y ∷ ys) → carries_part (tag_at t x) ≡ false → is_part (tag_at t y) ≡ false
part-over t x y ys h n = not-part (tag_at t y) (tag_at t x) h.0 n

up-under : (t : Tree) (m : ℕ) (xs : List ℕ) (g : ℕ) (ys : List ℕ) → Up t (m ∷ (xs ++ g ∷ ys)) → ((x : ℕ) → has x (m ∷ xs) ≡ true → carries_part (tag_at t x) ≡ false) → is_part (tag_at t g) ≡ false
up-under t m [] g ys h n = part-over t m g ys h (n m (rw (eqb-self m) refl))
up-under t m (x ∷ xs) g ys h n = up-under t x xs g ys h.1 (λ z b. n z (elim (cases_eqb z m) [ inl q ↦ rw q.0 refl | inr q ↦ rw q.0 b ]))

-- what is no part may stand on anything
up-plain : (t : Tree) (x : ℕ) (xs : List ℕ) (z : ℕ) (zs : List ℕ) → ((y : ℕ) → has y xs ≡ true → is_part (tag_at t y) ≡ false) → is_part (tag_at t z) ≡ false → Up t (z ∷ zs) → Up t (x ∷ (xs ++ z ∷ zs))
up-plain t x [] z zs n p h = (plain-sits (tag_at t z) (tag_at t x) p, h)
up-plain t x (y ∷ xs) z zs n p h =
    (plain-sits (tag_at t y) (tag_at t x) (n y (rw (eqb-self y) refl)), up-plain t y xs z zs (λ v b. n v (elim (cases_eqb v y) [ inl q ↦ rw q.0 refl | inr q ↦ rw q.0 b ])) p h)

up-instead : (t : Tree) (g k : ℕ) (ys : List ℕ) → Up t (g ∷ ys) → carries_part (tag_at t g) ≡ false → Up t (k ∷ ys)
up-instead t g k [] h n = (tt, tt)
up-instead t g k (y ∷ ys) h n = (plain-sits (tag_at t y) (tag_at t k) (part-over t g y ys h n), h.1)

up-out : (t : Tree) (xs : List ℕ) (x : ℕ) (ys : List ℕ) → Up t (xs ++ x ∷ ys) → carries_part (tag_at t x) ≡ false → Up t (xs ++ ys)
up-out t [] x ys h n = h.1
up-out t (b ∷ []) x [] h n = (tt, tt)
up-out t (b ∷ []) x (y ∷ ys) h n = (plain-sits (tag_at t y) (tag_at t b) (part-over t x y ys h.1 n), h.1.1)
up-out t (b ∷ c ∷ xs) x ys h n = (h.0, up-out t (c ∷ xs) x ys h.1 n)

-- elements are closed
seated-drop : (k : ℕ) (xs : List Tag) → AreSeated xs → AreSeated (drop k xs)
seated-drop zero xs h = h
seated-drop (suc k) [] h = h
seated-drop (suc k) (x ∷ xs) h = seated-drop k xs h.1

pub few-seated : (a b : State) → HasFewer a b → AreSeated (open_tags a) → AreSeated (open_tags b)
few-seated a b f h = subst AreSeated (sym f.1) (seated-drop f.0 (open_tags a) h)

-- formatting elements are opened
seated-more : (gs xs : List Tag) → list_all is_formatting gs ≡ true → AreSeated xs → AreSeated (gs ++ xs)
seated-more [] xs e h = h
seated-more (g ∷ gs) xs e h = elim (cases_bool (is_formatting g)) [
  | inl a ↦ (on g (gs ++ xs) (formatting-plain g a), seated-more gs xs (rw a at e) h)
  | inr a ↦ absurd (let k : false ≡ true = rw a at e in false≢true k)
]
  where
    on : (g : Tag) (ys : List Tag) → is_part g ≡ false → IsSeated g ys
    on g [] n = tt
    on g (y ∷ ys) n = plain-sits g y n

pub reopened-seated : (a b : State) → HasReopened a b → AreSeated (open_tags a) → AreSeated (open_tags b)
reopened-seated a b r h = subst AreSeated (sym r.tags_are) (seated-more r.opened (open_tags a) r.formatting h)

-- an element is taken out
eqb-is : (x y : ℕ) → eqb x y ≡ true → x ≡ y
eqb-is x y h = elim (cases_eqb x y) [ inl q ↦ q.1 | inr q ↦ absurd (false≢true (sym q.0 ∙ h)) ]

pub removed-seated : (a b : State) (x : ℕ) → b ≡ record a { stack = remaining x a.stack; steps = b.steps } → carries_part (tag_at a.tree x) ≡ false → AreSeated (open_tags a) → AreSeated (open_tags b)
removed-seated a b x e n h = subst (λ (v : State). AreSeated (open_tags v)) (sym e) (of-up a.tree (remaining x a.stack) (by (is_in x (first_of a.stack))))
  where
    up : Up a.tree a.stack
    up = up-of a.tree a.stack h

    by : (c : Bool) → Up a.tree (cond c a.stack (without_last (eqb x) a.stack))
    by true = up
    by false = elim (cases_bool (list_any (eqb x) a.stack)) [
      | inl i ↦ (let k = split-last (eqb x) a.stack i in let q : x ≡ k.0 = eqb-is x k.0 k.2 in
          rw i (up-out a.tree (below (eqb x) a.stack) k.0 (above (eqb x) a.stack) (subst (Up a.tree) k.1 up) (subst (λ v. carries_part (tag_at a.tree v) ≡ false) q n)))
      | inr i ↦ rw i up
    ]

-- a round of the adoption agency
down-later : (n c x : ℕ) → has x (clones_down n c) ≡ true → n ≤ x
down-later n zero x h = absurd (false≢true h)
down-later n (suc c) x h = elim (cases_eqb x (n + c)) [
  | inl q ↦ (let e = q.1 in omega (arith, e))
  | inr q ↦ down-later n c x (sym (ap (λ b. cond b true (has x (clones_down n c))) q.0) ∙ h)
]

in-right : (x : ℕ) (xs ys : List ℕ) → has x ys ≡ true → has x (xs ++ ys) ≡ true
in-right x [] ys h = h
in-right x (y ∷ xs) ys h = elim (cases_eqb x y) [ inl q ↦ rw q.0 refl | inr q ↦ rw q.0 (in-right x xs ys h) ]

in-left : (x : ℕ) (xs ys : List ℕ) → has x xs ≡ true → has x (xs ++ ys) ≡ true
in-left x [] ys h = absurd (false≢true h)
in-left x (y ∷ xs) ys h = elim (cases_eqb x y) [ inl q ↦ rw q.0 refl | inr q ↦ rw q.0 (in-left x xs ys (sym (ap (λ b. cond b true (has x xs)) q.0) ∙ h)) ]

in-later : (x y : ℕ) (ys : List ℕ) → has x ys ≡ true → has x (y ∷ ys) ≡ true
in-later x y ys h = elim (cases_eqb x y) [ inl q ↦ rw q.0 refl | inr q ↦ rw q.0 h ]

in-first : (x : ℕ) (ys : List ℕ) → has x (x ∷ ys) ≡ true
in-first x ys = rw (eqb-self x) refl

out-right : (x : ℕ) (xs ys : List ℕ) → has x (xs ++ ys) ≡ false → has x ys ≡ false
out-right x xs ys h = elim (cases_bool (has x ys)) [ inl a ↦ absurd (false≢true (sym h ∙ in-right x xs ys a)) | inr a ↦ a ]

any-none : (p : ℕ → Bool) (xs : List ℕ) → list_any p xs ≡ false → (x : ℕ) → has x xs ≡ true → p x ≡ false
any-none p [] h x b = absurd (false≢true b)
any-none p (y ∷ ys) h x b = (let o = or-false (p y) (list_any p ys) h in elim (cases_eqb x y) [
  | inl q ↦ subst (λ v. p v ≡ false) (sym q.1) o.0
  | inr q ↦ any-none p ys o.1 x (sym (ap (λ c. cond c true (has x ys)) q.0) ∙ b)
])

above-here : (p : ℕ → Bool) (xs : List ℕ) (k : ℕ) (ys : List ℕ) → p k ≡ true → list_any p ys ≡ false → above p (xs ++ k ∷ ys) ≡ ys
above-here p [] k ys h n = rw (n, h) refl
above-here p (x ∷ xs) k ys h n = rw (any-mid p xs k ys h) (above-here p xs k ys h n)

pub up-before : (t : Tree) (xs ys : List ℕ) → Up t (xs ++ ys) → Up t xs
up-before t [] ys h = tt
up-before t (x ∷ []) ys h = (tt, tt)
up-before t (x ∷ z ∷ xs) ys h = (h.0, up-before t (z ∷ xs) ys h.1)

in-scope : (t : Tree) (f : ℕ) (X Y : List ℕ) → Distinct (X ++ f ∷ Y) → element_in_scope t f (X ++ f ∷ Y) ≡ true → list_any (ends t scope.Default) Y ≡ false
in-scope t f X Y d h = sym (ap (list_any (ends t scope.Default)) here) ∙ not-true (list_any (ends t scope.Default) (above (eqb f) (X ++ f ∷ Y))) (and-right (list_any (eqb f) (X ++ f ∷ Y)) (not (list_any (ends t scope.Default) (above (eqb f) (X ++ f ∷ Y)))) h)
  where
    here : above (eqb f) (X ++ f ∷ Y) ≡ Y
    here = above-here (eqb f) X f Y (eqb-self f) (any-has f Y ∙ out-right f X Y (Distinct-remove f X Y d).1)

    not-true : (b : Bool) → not b ≡ true → b ≡ false
    not-true true k = sym k
    not-true false k = refl

    and-right : (a b : Bool) → a && b ≡ true → b ≡ true
    and-right true b k = k
    and-right false b k = absurd (false≢true k)

module _ (s : Tag) (foster : Bool) (o p : Open) (i : IsOpen o) (r : Round s foster o p) where
  pub made : MadeClones o p.tree
  made = round-made s foster o p r i

  old-tag : (x : ℕ) → has x o.stack ≡ true → tag_at p.tree x ≡ tag_at o.tree x
  old-tag x b = ap tag_in (label-kept o p.tree made x (i.stack_in x b))

  new-formatting : (x : ℕ) → length o.tree.labels ≤ x → has x p.stack ≡ true → is_formatting (tag_at p.tree x) ≡ true
  new-formatting x b c = clone-tag o.stack p.stack o.list p.list o.tree p.tree 0 None None None made i r.is_open.stack_in x b (r.is_open.stack_in x c)

  in-old : (x : ℕ) → has x (r.lower ++ (r.common_ancestor ∷ r.formatting_element ∷ (r.inner ++ (r.furthest_block ∷ r.upper)))) ≡ true → has x o.stack ≡ true
  in-old x b = subst (λ v. has x v ≡ true) (sym r.stack_was) b

  in-new : (x : ℕ) → has x (r.lower ++ (r.common_ancestor ∷ (clones_down (length o.tree.labels) (length r.cloned_elements) ++ (r.furthest_block ∷ r.new_element ∷ r.upper)))) ≡ true → has x p.stack ≡ true
  in-new x b = subst (λ v. has x v ≡ true) (sym r.stack_is) b

  f-formatting : is_formatting (tag_at o.tree r.formatting_element) ≡ true
  f-formatting = i.formatting r.formatting_element (named-member o.tree s o.list (Some r.formatting_element) (sym r.formatting))

  down-plain : (x : ℕ) → has x (clones_down (length o.tree.labels) (length r.cloned_elements)) ≡ true → is_part (tag_at p.tree x) ≡ false
  down-plain x b = formatting-plain (tag_at p.tree x) (new-formatting x (down-later (length o.tree.labels) (length r.cloned_elements) x b)
      (in-new x (in-right x r.lower (r.common_ancestor ∷ (clones_down (length o.tree.labels) (length r.cloned_elements) ++ (r.furthest_block ∷ r.new_element ∷ r.upper))) (in-later x r.common_ancestor (clones_down (length o.tree.labels) (length r.cloned_elements) ++ (r.furthest_block ∷ r.new_element ∷ r.upper)) (in-left x (clones_down (length o.tree.labels) (length r.cloned_elements)) (r.furthest_block ∷ r.new_element ∷ r.upper) b)))))

  k-plain : is_part (tag_at p.tree r.new_element) ≡ false
  k-plain = formatting-plain (tag_at p.tree r.new_element) (new-formatting r.new_element (let e = r.new_element_is in omega (arith, e))
      (in-new r.new_element (in-right r.new_element r.lower (r.common_ancestor ∷ (clones_down (length o.tree.labels) (length r.cloned_elements) ++ (r.furthest_block ∷ r.new_element ∷ r.upper))) (in-later r.new_element r.common_ancestor (clones_down (length o.tree.labels) (length r.cloned_elements) ++ (r.furthest_block ∷ r.new_element ∷ r.upper)) (in-right r.new_element (clones_down (length o.tree.labels) (length r.cloned_elements)) (r.furthest_block ∷ r.new_element ∷ r.upper) (in-later r.new_element r.furthest_block (r.new_element ∷ r.upper) (in-first r.new_element r.upper)))))))

  -- what stands from f to before g carries no part
  carries-none : (x : ℕ) → has x (r.formatting_element ∷ r.inner) ≡ true → carries_part (tag_at p.tree x) ≡ false
  carries-none x b = ap carries_part (old-tag x (in-old x (in-right x r.lower (r.common_ancestor ∷ r.formatting_element ∷ (r.inner ++ (r.furthest_block ∷ r.upper))) (in-later x r.common_ancestor (r.formatting_element ∷ (r.inner ++ (r.furthest_block ∷ r.upper))) (in-left x (r.formatting_element ∷ r.inner) (r.furthest_block ∷ r.upper) b))))) ∙ elim (cases_eqb x r.formatting_element) [
    | inl q ↦ formatting-carries (tag_at o.tree x) (subst (λ v. is_formatting (tag_at o.tree v) ≡ true) (sym q.1) f-formatting)
    | inr q ↦ plain-carries (tag_at o.tree x) (any-none (special o.tree) r.inner r.none_between x (sym (ap (λ c. cond c true (has x r.inner)) q.0) ∙ b))
  ]

  pub g-in : has r.furthest_block o.stack ≡ true
  g-in = in-old r.furthest_block (in-right r.furthest_block r.lower (r.common_ancestor ∷ r.formatting_element ∷ (r.inner ++ (r.furthest_block ∷ r.upper))) (in-later r.furthest_block r.common_ancestor (r.formatting_element ∷ (r.inner ++ (r.furthest_block ∷ r.upper))) (in-later r.furthest_block r.formatting_element (r.inner ++ (r.furthest_block ∷ r.upper)) (in-right r.furthest_block r.inner (r.furthest_block ∷ r.upper) (in-first r.furthest_block r.upper)))))

  pub g-no-end : ends_default_scope (tag_at o.tree r.furthest_block) ≡ false
  g-no-end =
      let e : o.stack ≡ (r.lower ++ r.common_ancestor ∷ []) ++ r.formatting_element ∷ (r.inner ++ (r.furthest_block ∷ r.upper)) = r.stack_was ∙ sym (append_assoc r.lower (r.common_ancestor ∷ []) (r.formatting_element ∷ (r.inner ++ (r.furthest_block ∷ r.upper)))) in
      any-none (ends o.tree scope.Default) (r.inner ++ (r.furthest_block ∷ r.upper))
      (in-scope o.tree r.formatting_element (r.lower ++ r.common_ancestor ∷ []) (r.inner ++ (r.furthest_block ∷ r.upper)) (subst Distinct e i.stack_once) (subst (λ v. element_in_scope o.tree r.formatting_element v ≡ true) e r.in_scope))
      r.furthest_block (in-right r.furthest_block r.inner (r.furthest_block ∷ r.upper) (in-first r.furthest_block r.upper))

  up : AreSeated (tags_down o.tree o.stack) → Up p.tree (r.lower ++ (r.common_ancestor ∷ r.formatting_element ∷ (r.inner ++ (r.furthest_block ∷ r.upper))))
  up h = up-same o.tree p.tree (r.lower ++ (r.common_ancestor ∷ r.formatting_element ∷ (r.inner ++ (r.furthest_block ∷ r.upper)))) (λ x b. old-tag x (in-old x b)) (up-of o.tree (r.lower ++ (r.common_ancestor ∷ r.formatting_element ∷ (r.inner ++ (r.furthest_block ∷ r.upper)))) (subst (λ v. AreSeated (tags_down o.tree v)) r.stack_was h))

  from-f : AreSeated (tags_down o.tree o.stack) → Up p.tree (r.formatting_element ∷ (r.inner ++ (r.furthest_block ∷ r.upper)))
  from-f h = (up-tail p.tree r.lower (r.common_ancestor ∷ r.formatting_element ∷ (r.inner ++ (r.furthest_block ∷ r.upper))) (up h)).1

  -- g is no part, and carries none
  pub g-plain : AreSeated (tags_down o.tree o.stack) → is_part (tag_at p.tree r.furthest_block) ≡ false
  g-plain h = up-under p.tree r.formatting_element r.inner r.furthest_block r.upper (from-f h) carries-none

  pub g-carries : AreSeated (tags_down o.tree o.stack) → carries_part (tag_at p.tree r.furthest_block) ≡ false
  g-carries h = elim (cases_bool (carries_part (tag_at p.tree r.furthest_block))) [
    | inl c ↦ absurd (false≢true (sym g-no-end ∙ (ap ends_default_scope (sym (old-tag r.furthest_block g-in)) ∙ carrier-ends (tag_at p.tree r.furthest_block) c (g-plain h))))
    | inr c ↦ c
  ]

  round-seated : AreSeated (tags_down o.tree o.stack) → AreSeated (tags_down p.tree p.stack)
  round-seated h =
      let from-g : Up p.tree (r.furthest_block ∷ r.upper) = up-tail p.tree r.inner (r.furthest_block ∷ r.upper) (from-f h).1 in
      let from-k = up-instead p.tree r.furthest_block r.new_element r.upper from-g (g-carries h) in
      let from-a = up-plain p.tree r.common_ancestor (clones_down (length o.tree.labels) (length r.cloned_elements)) r.furthest_block (r.new_element ∷ r.upper) down-plain (g-plain h) (plain-sits (tag_at p.tree r.new_element) (tag_at p.tree r.furthest_block) k-plain, from-k) in
      subst (λ v. AreSeated (tags_down p.tree v)) (sym r.stack_is)
      (of-up p.tree (r.lower ++ (r.common_ancestor ∷ (clones_down (length o.tree.labels) (length r.cloned_elements) ++ (r.furthest_block ∷ r.new_element ∷ r.upper))))
      (up-join p.tree r.lower r.common_ancestor (clones_down (length o.tree.labels) (length r.cloned_elements) ++ (r.furthest_block ∷ r.new_element ∷ r.upper)) (up-front p.tree r.lower r.common_ancestor (r.formatting_element ∷ (r.inner ++ (r.furthest_block ∷ r.upper))) (up h)) from-a))

-- rounds, and how they end
pub rounds-open : (s : Tag) (foster : Bool) (n : ℕ) (o p : Open) → IsOpen o → Rounds s foster n o p → IsOpen p
rounds-open s foster n o p i (no_round q) = i
rounds-open s foster n o p i (one_more m a b c rs r) = r.is_open

pub rounds-seated : (s : Tag) (foster : Bool) (n : ℕ) (o p : Open) → IsOpen o → Rounds s foster n o p → AreSeated (tags_down o.tree o.stack) → AreSeated (tags_down p.tree p.stack)
rounds-seated s foster n o p i (no_round q) h = h
rounds-seated s foster n o p i (one_more m a b c rs r) h = round-seated s foster b c (rounds-open s foster m a b i rs) r (rounds-seated s foster m a b i rs h)

seated-as : (o p : Open) → p.stack ≡ o.stack → p.tree.labels ≡ o.tree.labels → AreSeated (tags_down o.tree o.stack) → AreSeated (tags_down p.tree p.stack)
seated-as o p e l h = subst (λ v. AreSeated (tags_down p.tree v)) (sym e) (subst AreSeated (sym (same-tags o.tree p.tree o.stack (λ x b. ap (λ ls. tag_in (label_in ls x)) l))) h)

seated-before : (o p : Open) (ys : List ℕ) → o.stack ≡ p.stack ++ ys → p.tree.labels ≡ o.tree.labels → AreSeated (tags_down o.tree o.stack) → AreSeated (tags_down p.tree p.stack)
seated-before o p ys e l h =
    of-up p.tree p.stack (up-before p.tree p.stack ys (subst (Up p.tree) e (up-same o.tree p.tree o.stack (λ x b. ap (λ ls. tag_in (label_in ls x)) l) (up-of o.tree o.stack h))))

ends-seated : (s : Tag) (end : AdoptEnd) (o p : Open) → Ends s end o p → AreSeated (tags_down o.tree o.stack) → AreSeated (tags_down p.tree p.stack)
ends-seated s end o p (closes a b k) h =
    (let i : list_any (eqb k.formatting_element) a.stack ≡ true = any-has k.formatting_element a.stack ∙ k.on_stack in
    let q = split-last (eqb k.formatting_element) a.stack i in
    seated-before a b (q.0 ∷ above (eqb k.formatting_element) a.stack) (q.1 ∙ ap (λ v. v ++ q.0 ∷ above (eqb k.formatting_element) a.stack) (sym k.stack_is)) (ap (λ (v : Tree). v.labels) k.tree_is) h)
ends-seated s end o p (forgets a b k) h = seated-as a b k.stack_is (ap (λ (v : Tree). v.labels) k.tree_is) h
ends-seated s end o p (out_of_scope a b k) h = seated-as a b k.unchanged.stack_is (ap (λ (v : Tree). v.labels) k.unchanged.tree_is) h
ends-seated s end o p (no_entry a b k) h = seated-as a b k.unchanged.stack_is (ap (λ (v : Tree). v.labels) k.unchanged.tree_is) h

adopted-ok : (s : Tag) (foster : Bool) (end : AdoptEnd) (o q : Open) → IsOpen o → Adopted s foster end o q → AreSeated (tags_down o.tree o.stack) → AreSeated (tags_down q.tree q.stack)
adopted-ok s foster end o q i (popped a b k) h = seated-before a b (k.current ∷ []) k.stack_was (ap (λ (v : Tree). v.labels) k.tree_is) h
adopted-ok s foster end o q i (eight a b e rs) h = rounds-seated s foster 8 a b i rs h
adopted-ok s foster end o q i (fewer d n a b c e few rs en) h = ends-seated s d b c en (rounds-seated s foster n a b i rs h)

adopted-err : (s : Tag) (foster : Bool) (e : ArenaError) (o q : Open) → IsOpen o → IsRefusal s foster o q e → AreSeated (tags_down o.tree o.stack) → AreSeated (tags_down q.tree q.stack)
adopted-err s foster e o q i k h =
    let open_p = rounds-open s foster k.n o k.p i k.rounds in
    let seated = rounds-seated s foster k.n o k.p i k.rounds h in
    subst (λ v. AreSeated (tags_down q.tree v)) (sym k.stopped.stack_is)
    (subst AreSeated (sym (same-tags k.p.tree q.tree k.p.stack (λ x b. ap (λ ls. tag_in (label_in ls x)) k.stopped.cut.labels_are ∙ ap tag_in (get-before k.p.tree.labels (map (λ y. cloned (label_of k.p.tree y)) k.stopped.cut.done) x node.Document (open_p.stack_in x b))))) seated)

pub adopted-seated : (s : Tag) (foster : Bool) (r : Result AdoptEnd ArenaError) (o q : Open) → IsOpen o → IfOk r (λ end. Adopted s foster end o q) → IfErr r (λ e. IsRefusal s foster o q e) → AreSeated (tags_down o.tree o.stack) → AreSeated (tags_down q.tree q.stack)
adopted-seated s foster (Ok end) o q i a b h = adopted-ok s foster end o q i a h
adopted-seated s foster (Err e) o q i a b h = adopted-err s foster e o q i b h
