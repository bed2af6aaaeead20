-- The ancestors of every node after an edit.
use Rattle.std.proofs.Common.{◌≡◌, ◌≢◌, ℕ, zero, suc, ◌+◌, ◌<◌, ◌≤◌, Bool, true, false, cond, eqb, List, [], ◌∷◌, ◌++◌, length, get_or, set, Option, Some, None, inl, inr, refl, sym, ◌∙◌, ap, subst, arith}
use Rattle.std.specs.Prelude.{Err, IfOk, IfSome, Ok, OnErr, OnOk, Result}
use Rattle.html_names.specs.Names.{tag_of}
use Rattle.html_names.specs.Sets.{is_template}
use Rattle.html_tokens.specs.declared.attributes.Attr.{Attr}
use Rattle.std.proofs.lemmas.List.{length-append, length-set, length_push, get_or_append_left, get_or_at, get_or-set_other, get_or-set_same}
use Rattle.html_arena.specs.declared.data.NodeData.{NodeData}
use Rattle.html_arena.specs.declared.data.NodeData.TheVariants.{Document, Contents, Element, Text, Comment, Doctype}
use Rattle.html_arena.specs.declared.data.NewNode.{NewNode}
use Rattle.html_arena.specs.declared.data.NewNode.TheVariants as new
use Rattle.html_arena.specs.Data.{IsElement, IsText, attrs_in, cloned, is_linkable, with_attrs, with_char, with_run}
use Rattle.html_arena.specs.Make.{CanMake, has_contents, label_for, made, made_weight, makes_child, nodes_made}
use Rattle.html_arena.specs.Merge.{merged}
use Rattle.html_arena.specs.Laws.{IsGrown, IsLinked, IsMoved, IsRelabelled, IsUnlinked}
use Rattle.html_arena.specs.Marks.{has_mark, no_marks}
use Rattle.html_arena.specs.Siblings.{has, put_before}
use Rattle.html_arena.specs.Tree.{Tree, WellFormed, Climbs, added, added_template, ancestors, ancestors_within, appended, children_of, detached, inserted, label_of, moved, parent_of, texted, texted_run, with_merged, with_replaced}
use Rattle.html_arena.proofs.Labels.{formatting-element}
use Rattle.html_arena.proofs.Made.{get_or-default_push}
use Rattle.html_arena.proofs.Siblings.{cases_bool, cases_eqb, eqb-apart, eqb-self, has-tail}
use Rattle.html_arena.proofs.Laws.{added-children, added-parent, ancestors-climb, ancestors-frame, ancestors-root, appended-children, appended-parent, climbs-closed, detached-children, detached-labels, detached-parent, moved-children, moved-parent, no_children, no_parent, put_children}

-- there is one chain
climbs-same : (t : Tree) (x : ℕ) (us vs : List ℕ) → Climbs t x us → Climbs t x vs → us ≡ vs
climbs-same t x [] [] a b = refl
climbs-same t x [] (v ∷ vs) a b = absurd (let k = b.0 in cc)
climbs-same t x (u ∷ us) [] a b = absurd (let k = a.0 in cc)
climbs-same t x (u ∷ us) (v ∷ vs) a b =
    let e : u ≡ v = (let k = a.0 in let m = b.0 in cc) in
    let f : Climbs t v us = subst (λ (w : ℕ). Climbs t w us) e a.1 in
    ap (λ w. w ∷ us) e ∙ ap (λ w. v ∷ w) (climbs-same t v us vs f b.1)

-- a chain is the list of ancestors
ancestors-are : (t : Tree) → WellFormed t → (x : ℕ) → x < length t.labels → (us : List ℕ) → Climbs t x us → ancestors t x ≡ us
ancestors-are t w x b us c = climbs-same t x (ancestors t x) us (ancestors-climb t w x b).0 c

-- one parent has changed, and c was or is the top of its chain
module _ (t u : Tree) (c : ℕ) (o : Option ℕ) (up : (x : ℕ) → parent_of u x ≡ cond (eqb x c) o (parent_of t x)) where
  elsewhere : (x : ℕ) → x ≢ c → parent_of u x ≡ parent_of t x
  elsewhere x n = up x ∙ rw (eqb-apart x c n) refl

  at_c : parent_of u c ≡ o
  at_c = up c ∙ rw (eqb-self c) refl

  off_chain : (x : ℕ) (us : List ℕ) → has c (x ∷ us) ≡ false → (y : ℕ) → has y (x ∷ us) ≡ true → parent_of u y ≡ parent_of t y
  off_chain x us h y k = elsewhere y (λ e. (let m : has c (x ∷ us) ≡ true = subst (λ (v : ℕ). has v (x ∷ us) ≡ true) e k in cc))

  others : WellFormed t → length u.labels ≡ length t.labels → (x : ℕ) → x < length t.labels → has c (x ∷ ancestors t x) ≡ false → ancestors u x ≡ ancestors t x
  others w l x b h = ancestors-frame t u w x b (omega arith) (off_chain x (ancestors t x) h)

-- c, whose chain ended with it, hangs below p
module _ (t u : Tree) (c p : ℕ) (up : (x : ℕ) → parent_of u x ≡ cond (eqb x c) (Some p) (parent_of t x)) (alone : parent_of t c ≡ None) where
  longer : (vs : List ℕ) → Climbs u p vs → (x : ℕ) (us : List ℕ) → Climbs t x us → has c (x ∷ us) ≡ true → Climbs u x (us ++ p ∷ vs)
  longer vs k x [] a h = elim (cases_eqb c x) [
    | inl e ↦ (subst (λ (v : ℕ). parent_of u v ≡ Some p) e.1 (at_c t u c (Some p) up), k)
    | inr e ↦ absurd (let q : eqb c x ≡ false = e.0 in let z : false ≡ true = rw q at h in cc)
  ]
  longer vs k x (y ∷ us) a h = elim (cases_eqb c x) [
    | inl e ↦ absurd (let z : parent_of t x ≡ None = subst (λ (v : ℕ). parent_of t v ≡ None) e.1 alone in let q = a.0 in cc)
    | inr e ↦
        let q : eqb c x ≡ false = e.0 in
        (elsewhere t u c (Some p) up x (λ f. e.1 (sym f)) ∙ a.0, longer vs k y us a.1 (rw q at h))
  ]

  pub linked-above : WellFormed t → WellFormed u → length u.labels ≡ length t.labels → p < length t.labels → has c (p ∷ ancestors t p) ≡ false
      → (x : ℕ) → x < length t.labels → has c (x ∷ ancestors t x) ≡ true → ancestors u x ≡ ancestors t x ++ p ∷ ancestors t p
  linked-above w v l b n x xb h =
      let same = others t u c (Some p) up w l p b n in
      let k : Climbs u p (ancestors t p) = subst (Climbs u p) same (ancestors-climb u v p (omega arith)).0 in
      ancestors-are u v x (omega arith) _ (longer (ancestors t p) k x (ancestors t x) (ancestors-climb t w x xb).0 h)

-- c's chain ends with it
module _ (t u : Tree) (c : ℕ) (up : (x : ℕ) → parent_of u x ≡ cond (eqb x c) None (parent_of t x)) where
  -- at c itself nothing is left
  here : (x : ℕ) (us cs : List ℕ) → Climbs t x us → Climbs t c cs → c ≡ x → (ws : List ℕ) × Climbs u x ws × (us ≡ ws ++ cs)
  here x us cs a k e = (
    [],
    subst (λ (v : ℕ). parent_of u v ≡ None) e (at_c t u c None up),
    climbs-same t x us cs a (subst (λ (v : ℕ). Climbs t v cs) e k),
  )

  shorter : (x : ℕ) (us cs : List ℕ) → Climbs t x us → Climbs t c cs → has c (x ∷ us) ≡ true → (ws : List ℕ) × Climbs u x ws × (us ≡ ws ++ cs)
  shorter x [] cs a k h = elim (cases_eqb c x) [
    | inl e ↦ here x [] cs a k e.1
    | inr e ↦ absurd (let q : eqb c x ≡ false = e.0 in let z : false ≡ true = rw q at h in cc)
  ]
  shorter x (y ∷ us) cs a k h = elim (cases_eqb c x) [
    | inl e ↦ here x (y ∷ us) cs a k e.1
    | inr e ↦
        let q : eqb c x ≡ false = e.0 in
        let r = shorter y us cs a.1 k (rw q at h) in
        (y ∷ r.0, (elsewhere t u c None up x (λ f. e.1 (sym f)) ∙ a.0, r.1), ap (λ (l : List ℕ). y ∷ l) r.2)
  ]

  pub unlinked-above : WellFormed t → WellFormed u → length u.labels ≡ length t.labels → c < length t.labels
      → (x : ℕ) → x < length t.labels → has c (x ∷ ancestors t x) ≡ true → ancestors t x ≡ ancestors u x ++ ancestors t c
  unlinked-above w v l b x xb h =
      let r = shorter x (ancestors t x) (ancestors t c) (ancestors-climb t w x xb).0 (ancestors-climb t w c b).0 h in
      r.2 ∙ ap (λ (us : List ℕ). us ++ ancestors t c) (sym (ancestors-are u v x (omega arith) r.0 r.1))

pub append_laws : (t : Tree) (p c : ℕ) → WellFormed t → WellFormed (appended t p c) → p < length t.labels → c < length t.labels → parent_of t c ≡ None → has c (p ∷ ancestors t p) ≡ false
    → IsLinked t (appended t p c) c p (children_of t p ++ c ∷ [])
append_laws t p c w v pb cb a n =
    let up = appended-parent t w p c cb in
    record {
      well_formed = v;
      parent_is = up;
      children_are = appended-children t w p c pb;
      above_others = others t (appended t p c) c (Some p) up w refl;
      above_child = linked-above t (appended t p c) c p up a w v refl pb n;
      same_labels = refl;
      same_marks = refl;
    }

put_parent : (t : Tree) → WellFormed t → (c n p : ℕ) → c < length t.labels → (x : ℕ) → parent_of (inserted t c n (Some p)) x ≡ cond (eqb x c) (Some p) (parent_of t x)
put_parent t w c n p b x = appended-parent t w p c b x

insert_some : (t : Tree) (c n p : ℕ) → parent_of t n ≡ Some p → WellFormed t → WellFormed (inserted t c n (Some p)) → n < length t.labels → c < length t.labels → parent_of t c ≡ None → has c (n ∷ ancestors t n) ≡ false
    → IsLinked t (inserted t c n (Some p)) c p (put_before c n (children_of t p))
insert_some t c n p e w v nb cb a h =
    let up = put_parent t w c n p cb in
    let pb = w.parent_in p n e in
    let chain : ancestors t n ≡ p ∷ ancestors t p = ancestors-are t w n nb (p ∷ ancestors t p) (e, (ancestors-climb t w p pb).0) in
    let above = subst (λ (l : List ℕ). has c l ≡ false) chain (has-tail c n (ancestors t n) h).1 in
    record {
      well_formed = v;
      parent_is = up;
      children_are = put_children t w c n p pb;
      above_others = others t (inserted t c n (Some p)) c (Some p) up w refl;
      above_child = linked-above t (inserted t c n (Some p)) c p up a w v refl pb above;
      same_labels = refl;
      same_marks = refl;
    }

pub insert_laws : (t : Tree) (c n : ℕ) (o : Option ℕ) → parent_of t n ≡ o → WellFormed t → WellFormed (inserted t c n o) → n < length t.labels → c < length t.labels → parent_of t c ≡ None → has c (n ∷ ancestors t n) ≡ false
    → IfSome o (λ p. IsLinked t (inserted t c n o) c p (put_before c n (children_of t p)))
insert_laws t c n None e w v nb cb a h = tt
insert_laws t c n (Some p) e w v nb cb a h = insert_some t c n p e w v nb cb a h

detached-marks : (t : Tree) (c : ℕ) (o : Option ℕ) → (detached t c o).marks ≡ t.marks
detached-marks t c None = refl
detached-marks t c (Some p) = refl

pub detach_laws : (t : Tree) (c : ℕ) → WellFormed t → WellFormed (detached t c (parent_of t c)) → c < length t.labels → IsUnlinked t (detached t c (parent_of t c)) c
detach_laws t c w v b =
    let up = detached-parent t w c b in
    let same = detached-labels t c (parent_of t c) in
    let l = ap length same in
    record {
      well_formed = v;
      parent_is = up;
      children_are = detached-children t w c;
      above_others = others t (detached t c (parent_of t c)) c None up w l;
      above_child = unlinked-above t (detached t c (parent_of t c)) c up w v l b;
      same_labels = same;
      same_marks = detached-marks t c (parent_of t c);
    }

pub move_laws : (t : Tree) (from to : ℕ) → WellFormed t → WellFormed (moved t from to) → from < length t.labels → to < length t.labels → IsMoved t (moved t from to) from to
move_laws t from to w v fb tb = record {
  well_formed = v;
  parent_is = moved-parent t w from to;
  children_are = moved-children t w from to fb tb;
  above_others = λ x b h. ancestors-frame t (moved t from to) w x b (omega arith) (λ y k. moved-parent t w from to y ∙ elim (cases_bool (has y (children_of t from))) as (λ _. cond (has y (children_of t from)) (Some to) (parent_of t y) ≡ parent_of t y) [
    | inl e ↦ absurd (let c = ancestors-climb t w x b in let m = has_up x (ancestors t x) y c.0 k (w.child_has_parent from y e) in cc)
    | inr e ↦ rw e refl
  ]);
  same_labels = refl;
  same_marks = refl;
}
  where
    -- with a node on the chain, its parent is above
    has_up : (x : ℕ) (us : List ℕ) (y : ℕ) → Climbs t x us → has y (x ∷ us) ≡ true → parent_of t y ≡ Some from → has from us ≡ true
    has_up x us y c k e = climbs-closed t y from x us c k e

-- a node that there isn't is above none
chain-below : (t : Tree) → WellFormed t → (x : ℕ) (us : List ℕ) → Climbs t x us → (y : ℕ) → has y us ≡ true → y < length t.labels
chain-below t w x [] c y h = absurd cc
chain-below t w x (u ∷ us) c y h = elim (cases_eqb y u) [
  | inl e ↦ (let k = e.1 in let b = w.parent_in u x c.0 in omega arith)
  | inr e ↦ (let q : eqb y u ≡ false = e.0 in chain-below t w u us c.1 y (rw q at h))
]

far : (t : Tree) → WellFormed t → (x y : ℕ) → x < length t.labels → length t.labels ≤ y → has y (x ∷ ancestors t x) ≡ false
far t w x y b f = elim (cases_bool (has y (x ∷ ancestors t x))) [
  | inl e ↦ absurd (elim (cases_eqb y x) [
    | inl g ↦ (let k = g.1 in omega arith)
    | inr g ↦ (
        let q : eqb y x ≡ false = g.0 in
        let l = chain-below t w x (ancestors t x) (ancestors-climb t w x b).0 y (rw q at e) in
        omega arith)
  ])
  | inr e ↦ e
]

-- the look-ups of the new columns
pub added_laws : (t : Tree) (d : NodeData) (h : ℕ) → WellFormed t → WellFormed (added t d h) → IsGrown t (added t d h) 1
added_laws t d h w v =
    let l = length_push t.labels d in
    record {
      well_formed = v;
      longer = l;
      no_parent = λ x b. added-parent t d h x ∙ no_parent t w x b;
      no_children = λ x b. added-children t d h x ∙ no_children t w x b;
      no_ancestors = λ x b. ancestors-root (added t d h) x (added-parent t d h x ∙ no_parent t w x b);
      not_above = λ x y b f. ap (has y) (ap (λ (us : List ℕ). x ∷ us) (ancestors-frame t (added t d h) w x b (omega arith) (λ z k. added-parent t d h z))) ∙ far t w x y b f;
      same_label = λ x b. get_or_append_left t.labels (d ∷ []) Document x b;
      same_parent = added-parent t d h;
      same_children = added-children t d h;
      same_ancestors = λ x b. ancestors-frame t (added t d h) w x b (omega arith) (λ y k. added-parent t d h y);
      same_marks = λ m x. ap (has_mark m) (get_or-default_push t.marks no_marks x);
    }

get_or-default_pair : {X : Type 0} (xs : List X) (d : X) (i : ℕ) → get_or (xs ++ d ∷ d ∷ []) i d ≡ get_or xs i d
get_or-default_pair [] d zero = refl
get_or-default_pair [] d (suc zero) = refl
get_or-default_pair [] d (suc (suc i)) = refl
get_or-default_pair (x ∷ xs) d zero = refl
get_or-default_pair (x ∷ xs) d (suc i) = get_or-default_pair xs d i

length-pair : {X : Type 0} (xs : List X) (a b : X) → length (xs ++ a ∷ b ∷ []) ≡ length xs + 2
length-pair xs a b = length-append xs (a ∷ b ∷ [])

template_laws : (t : Tree) (d : NodeData) (h : ℕ) → WellFormed t → WellFormed (added_template t d h) → IsGrown t (added_template t d h) 2
template_laws t d h w v =
    let l = length-pair t.labels d (Contents (length t.labels)) in
    let up = λ (x : ℕ). get_or-default_pair t.parents None x in
    let kids = λ (x : ℕ). get_or-default_pair t.children [] x in
    record {
      well_formed = v;
      longer = l;
      no_parent = λ x b. up x ∙ no_parent t w x b;
      no_children = λ x b. kids x ∙ no_children t w x b;
      no_ancestors = λ x b. ancestors-root (added_template t d h) x (up x ∙ no_parent t w x b);
      not_above = λ x y b f. ap (has y) (ap (λ (us : List ℕ). x ∷ us) (ancestors-frame t (added_template t d h) w x b (omega arith) (λ z k. up z))) ∙ far t w x y b f;
      same_label = λ x b. get_or_append_left t.labels (d ∷ Contents (length t.labels) ∷ []) Document x b;
      same_parent = up;
      same_children = kids;
      same_ancestors = λ x b. ancestors-frame t (added_template t d h) w x b (omega arith) (λ y k. up y);
      same_marks = λ m x. ap (has_mark m) (get_or-default_pair t.marks no_marks x);
    }

made_by : (t : Tree) (d : NodeData) (h : ℕ) (b : Bool) → WellFormed t → WellFormed (cond b (added_template t d h) (added t d h)) → IsGrown t (cond b (added_template t d h) (added t d h)) (cond b 2 1)
made_by t d h true w v = template_laws t d h w v
made_by t d h false w v = added_laws t d h w v

pub made_laws : (t : Tree) (n : NewNode) → WellFormed t → WellFormed (made t n) → IsGrown t (made t n) (nodes_made n)
made_laws t n w v = made_by t (label_for t n) (made_weight t n) (has_contents n) w v

label_by : (t : Tree) (d : NodeData) (h : ℕ) (b : Bool) → label_of (cond b (added_template t d h) (added t d h)) (length t.labels) ≡ d
label_by t d h true = get_or_at t.labels d (Contents (length t.labels) ∷ []) Document (length t.labels) refl
label_by t d h false = get_or_at t.labels d [] Document (length t.labels) refl

pub made_label : (t : Tree) (n : NewNode) → label_of (made t n) (length t.labels) ≡ label_for t n
made_label t n = label_by t (label_for t n) (made_weight t n) (has_contents n)

either-linkable : (b : Bool) (d e : NodeData) → is_linkable d ≡ true → is_linkable e ≡ true → is_linkable (cond b d e) ≡ true
either-linkable true d e h k = h
either-linkable false d e h k = k

clone-linkable : (d : NodeData) → IsElement d → is_linkable (cloned d) ≡ true
clone-linkable (Element e) i = refl
clone-linkable Document i = absurd i
clone-linkable (Contents h) i = absurd i
clone-linkable (Text s) i = absurd i
clone-linkable (Comment s j) i = absurd i
clone-linkable (Doctype n p s j) i = absurd i

pub made_child : (t : Tree) (n : NewNode) → CanMake t n → is_linkable (label_for t n) ≡ makes_child n
made_child t new.Document h = refl
made_child t (new.Element n a o) h = either-linkable (is_template (tag_of n)) _ _ refl refl
made_child t (new.CloneOf x) h = clone-linkable (label_of t x) (formatting-element (label_of t x) h.1)
made_child t new.Text h = refl
made_child t (new.Comment s i) h = refl
made_child t (new.Doctype n p s i) h = refl

-- the node of a successful call
pub made_label_at : {E : Type 0} (r : Result ℕ E) (t u : Tree) (n : NewNode) → IfOk r (λ id. id ≡ length t.labels) → OnOk r (u ≡ made t n) → IfOk r (λ id. label_of u id ≡ label_for t n)
made_label_at (Ok id) t u n i e = ap (label_of u) i ∙ ap (λ (v : Tree). label_of v (length t.labels)) e ∙ made_label t n
made_label_at (Err x) t u n i e = tt

pub made_child_at : {E : Type 0} (r : Result ℕ E) (t u : Tree) (n : NewNode) → CanMake t n → IfOk r (λ id. id ≡ length t.labels) → OnOk r (u ≡ made t n) → IfOk r (λ id. is_linkable (label_of u id) ≡ makes_child n)
made_child_at (Ok id) t u n h i e = ap is_linkable (ap (label_of u) i ∙ ap (λ (v : Tree). label_of v (length t.labels)) e ∙ made_label t n) ∙ made_child t n h
made_child_at (Err x) t u n h i e = tt

relabel_laws : (t u : Tree) (x : ℕ) (d : NodeData) → x < length t.labels → u.labels ≡ set t.labels x d → u.parents ≡ t.parents → u.children ≡ t.children → u.marks ≡ t.marks → IsRelabelled t u x d
relabel_laws t u x d b e p k m = record {
  same_length = ap length e ∙ length-set t.labels x d;
  label_is = ap (λ (ds : List NodeData). get_or ds x Document) e ∙ get_or-set_same t.labels x d Document b;
  other_labels = λ y n. ap (λ (ds : List NodeData). get_or ds y Document) e ∙ get_or-set_other t.labels x y d Document n;
  same_parents = p;
  same_lists = k;
  same_ancestors = λ y.
      ap (λ (ps : List (Option ℕ)). ancestors_within (length u.labels) ps (get_or ps y None)) p
      ∙ ap (λ n. ancestors_within n t.parents (parent_of t y)) (ap length e ∙ length-set t.labels x d);
  same_marks = m;
}

pub texted_laws : (t : Tree) (x c : ℕ) → x < length t.labels → IsRelabelled t (texted t x c) x (with_char (label_of t x) c)
texted_laws t x c b = relabel_laws t (texted t x c) x (with_char (label_of t x) c) b refl refl refl refl

pub run_laws : (t : Tree) (x : ℕ) (run : List ℕ) → x < length t.labels → IsRelabelled t (texted_run t x run) x (with_run (label_of t x) run)
run_laws t x run b = relabel_laws t (texted_run t x run) x (with_run (label_of t x) run) b refl refl refl refl

pub merged_laws : (t : Tree) (x : ℕ) (later : List Attr) → x < length t.labels → IsRelabelled t (with_merged t x later) x (with_attrs (label_of t x) (merged (attrs_in (label_of t x)) later))
merged_laws t x later b = relabel_laws t (with_merged t x later) x (with_attrs (label_of t x) (merged (attrs_in (label_of t x)) later)) b refl refl refl refl

pub replaced_laws : (t : Tree) (x : ℕ) (attrs : List Attr) → x < length t.labels → IsRelabelled t (with_replaced t x attrs) x (with_attrs (label_of t x) attrs)
replaced_laws t x attrs b = relabel_laws t (with_replaced t x attrs) x (with_attrs (label_of t x) attrs) b refl refl refl refl

pub with_char-text : (d : NodeData) (c : ℕ) → IsText d → IsText (with_char d c)
with_char-text (Text s) c i = tt
with_char-text Document c i = absurd i
with_char-text (Contents h) c i = absurd i
with_char-text (Element e) c i = absurd i
with_char-text (Comment s j) c i = absurd i
with_char-text (Doctype n p s j) c i = absurd i

-- it is a text whether or not it grew
pub texted_text : {E : Type 0} (r : Result (Unit {0}) E) (t u : Tree) (x c : ℕ) → x < length t.labels → IsText (label_of t x) → OnOk r (u ≡ texted t x c) → OnErr r (u ≡ t) → IsText (label_of u x)
texted_text (Ok v) t u x c b i a e =
    subst IsText (sym (ap (λ (v : Tree). label_of v x) a ∙ get_or-set_same t.labels x (with_char (label_of t x) c) Document b)) (with_char-text (label_of t x) c i)
texted_text (Err v) t u x c b i a e = subst IsText (sym (ap (λ (v : Tree). label_of v x) e)) i
