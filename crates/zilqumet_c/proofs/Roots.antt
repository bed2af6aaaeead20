-- An edit keeps the root of a page: nothing is above it, whatever becomes of the other nodes.
use Rattle.std.proofs.Common.{◌≡◌, ◌≢◌, ℕ, ◌<◌, Bool, true, false, cond, eqb, not, List, [], ◌∷◌, ◌++◌, length, get_or, set, Option, Some, None, Result, Ok, Err, inl, inr, refl, sym, ◌∙◌, ap, subst, arith, append_assoc}
use Rattle.std.specs.Prelude.{IfErr, IfSome, OnErr, OnOk}
use Rattle.std.proofs.lemmas.List.{get_or-set_other, get_or-set_same, get_or_append_left, length-append, length-set}
use Rattle.html_tokens.specs.declared.attributes.Attr.{Attr}
use Rattle.html_arena.specs.Below.{or_self}
use Rattle.html_arena.specs.Data.{contents_in, host_in, label_in, with_attrs}
use Rattle.html_arena.specs.Laws.{IsUnlinked}
use Rattle.html_arena.specs.Make.{has_contents, label_for, made, made_weight}
use Rattle.html_arena.specs.Siblings.{has}
use Rattle.html_arena.specs.Tree.{Tree, WellFormed, added, added_template, appended, children_of, detached, inserted, label_of, moved, parent_of, with_replaced}
use Rattle.html_arena.specs.Walking.{IsRoot}
use Rattle.html_arena.specs.declared.data.NewNode.{NewNode}
use Rattle.html_arena.specs.declared.data.NodeData.{NodeData}
use Rattle.html_arena.specs.declared.data.NodeData.TheVariants.{Document, Contents, Element, Text, Comment, Doctype}
use Rattle.html_arena.proofs.Laws.{added-parent, detached-labels, moved-parent, not_child}
use Rattle.html_arena.proofs.Made.{get_or-default_push}
use Rattle.html_arena.proofs.Siblings.{cases_bool, cases_eqb, eqb-self, has-append}
use Rattle.html_dom.specs.Edits.{IsCause, IsUnwrapped, appended_to, gathered, has_parent, or_fault, outcome, put_to, unless}
use Rattle.html_dom.specs.declared.error.EditError.{EditError}
use Rattle.html_dom.specs.declared.error.EditError.TheVariants.{NoParent, NotLinkable}

-- ANSWERS OF A CALL THAT HAS ONE OUTCOME

pub good_by : (r : Result (Unit {0}) EditError) (f : Option EditError) → r ≡ outcome f → OnOk r (f ≡ None)
good_by r None e = subst (λ x. OnOk x (◌≡◌ {A = Option EditError} None None)) (sym e) refl
good_by r (Some f) e = subst (λ x. OnOk x (Some f ≡ None)) (sym e) tt

pub cause_by : (r : Result (Unit {0}) EditError) (f : Option EditError) → r ≡ outcome f → IfErr r (IsCause f)
cause_by r None e = subst (λ x. IfErr x (IsCause None)) (sym e) tt
cause_by r (Some f) e = subst (λ x. IfErr x (IsCause (Some f))) (sym e) refl

-- THE ROOT

-- an edit that is refused keeps it
rooted : {T E : Type 0} (res : Result T E) (t u : Tree) (r : ℕ) → OnErr res (u ≡ t) → OnOk res (IsRoot t r → IsRoot u r) → IsRoot t r → IsRoot u r
rooted (Ok x) t u r kept done h = done h
rooted (Err e) t u r kept done h = subst (λ v. IsRoot v r) (sym kept) h

mapped : {T E P Q : Type 0} (res : Result T E) → (P → Q) → OnOk res P → OnOk res Q
mapped (Ok x) f p = f p
mapped (Err e) f p = tt

-- an edit that keeps the labels, and puts nothing above it
root-same : (t u : Tree) (r : ℕ) → u.labels ≡ t.labels → parent_of u r ≡ None → IsRoot t r → IsRoot u r
root-same t u r same up h =
    record { inside = subst (λ ls. r < length ls) (sym same) h.inside; alone = up; no_host = ap (λ ls. host_in (label_in ls r)) same ∙ h.no_host }

none-either : (b : Bool) (o : Option ℕ) → o ≡ None → cond b None o ≡ None
none-either true o e = refl
none-either false o e = e

-- SETTING AND REMOVING ATTRIBUTES

host-attrs : (d : NodeData) (attrs : List Attr) → host_in (with_attrs d attrs) ≡ host_in d
host-attrs Document attrs = refl
host-attrs (Contents h) attrs = refl
host-attrs (Element e) attrs = refl
host-attrs (Text s) attrs = refl
host-attrs (Comment s i) attrs = refl
host-attrs (Doctype n p s i) attrs = refl

host-set : (ls : List NodeData) (x r : ℕ) (attrs : List Attr) → r < length ls → host_in (label_in (set ls x (with_attrs (label_in ls x) attrs)) r) ≡ host_in (label_in ls r)
host-set ls x r attrs b = elim (cases_eqb r x) as (λ _. host_in (label_in (set ls x (with_attrs (label_in ls x) attrs)) r) ≡ host_in (label_in ls r)) [
  | inl e ↦ subst (λ y. host_in (label_in (set ls y (with_attrs (label_in ls y) attrs)) r) ≡ host_in (label_in ls r)) e.1
      (ap host_in (get_or-set_same ls r (with_attrs (label_in ls r) attrs) Document b) ∙ host-attrs (label_in ls r) attrs)
  | inr e ↦ ap host_in (get_or-set_other ls x r (with_attrs (label_in ls x) attrs) Document e.1)
]

root-replaced : (t : Tree) (x r : ℕ) (attrs : List Attr) → IsRoot t r → IsRoot (with_replaced t x attrs) r
root-replaced t x r attrs h =
    let l = length-set t.labels x (with_attrs (label_of t x) attrs) in
    let b = h.inside in
    record { inside = omega arith; alone = h.alone; no_host = host-set t.labels x r attrs h.inside ∙ h.no_host }

pub root-set : {T E : Type 0} (res : Result T E) (t u : Tree) (x r : ℕ) (attrs : List Attr) → OnErr res (u ≡ t) → OnOk res (u ≡ with_replaced t x attrs) → IsRoot t r → IsRoot u r
root-set res t u x r attrs kept done = rooted res t u r kept (mapped res (λ e h. subst (λ v. IsRoot v r) (sym e) (root-replaced t x r attrs h)) done)

-- REMOVING

root-detached : (t u : Tree) (c r : ℕ) → IsUnlinked t u c → IsRoot t r → IsRoot u r
root-detached t u c r is h = root-same t u r is.same_labels (is.parent_is r ∙ none-either (eqb r c) (parent_of t r) h.alone) h

pub root-removed : {T E : Type 0} (res : Result T E) (t u : Tree) (c r : ℕ) → OnErr res (u ≡ t) → OnOk res (IsUnlinked t u c) → IsRoot t r → IsRoot u r
root-removed res t u c r kept done = rooted res t u r kept (mapped res (λ is. root-detached t u c r is) done)

-- LINKING

detached-other : (t : Tree) (c : ℕ) (o : Option ℕ) (r : ℕ) → r ≢ c → parent_of (detached t c o) r ≡ parent_of t r
detached-other t c None r n = refl
detached-other t c (Some p) r n = get_or-set_other t.parents c r None None n

inserted-other : (t : Tree) (c n : ℕ) (o : Option ℕ) (r : ℕ) → r ≢ c → parent_of (inserted t c n o) r ≡ parent_of t r
inserted-other t c n None r ne = refl
inserted-other t c n (Some p) r ne = get_or-set_other t.parents c r (Some p) None ne

inserted-labels : (t : Tree) (c n : ℕ) (o : Option ℕ) → (inserted t c n o).labels ≡ t.labels
inserted-labels t c n None = refl
inserted-labels t c n (Some p) = refl

root-appended : (t : Tree) (p c r : ℕ) → r ≢ c → IsRoot t r → IsRoot (appended_to t p c) r
root-appended t p c r n h =
    root-same t (appended_to t p c) r (detached-labels t c (parent_of t c))
    (get_or-set_other (detached t c (parent_of t c)).parents c r (Some (or_self p (contents_in (label_of t p)))) None n ∙ (detached-other t c (parent_of t c) r n ∙ h.alone)) h

root-put : (t : Tree) (c n r : ℕ) → r ≢ c → IsRoot t r → IsRoot (put_to t c n) r
root-put t c n r ne h =
    root-same t (put_to t c n) r (inserted-labels (detached t c (parent_of t c)) c n (parent_of t n) ∙ detached-labels t c (parent_of t c))
    (inserted-other (detached t c (parent_of t c)) c n (parent_of t n) r ne ∙ (detached-other t c (parent_of t c) r ne ∙ h.alone)) h

pub root-appended_by : {T E : Type 0} (res : Result T E) (t u : Tree) (p c r : ℕ) → r ≢ c → OnErr res (u ≡ t) → OnOk res (u ≡ appended_to t p c) → IsRoot t r → IsRoot u r
root-appended_by res t u p c r n kept done = rooted res t u r kept (mapped res (λ e h. subst (λ v. IsRoot v r) (sym e) (root-appended t p c r n h)) done)

pub root-put_by : {T E : Type 0} (res : Result T E) (t u : Tree) (c n r : ℕ) → r ≢ c → OnErr res (u ≡ t) → OnOk res (u ≡ put_to t c n) → IsRoot t r → IsRoot u r
root-put_by res t u c n r ne kept done = rooted res t u r kept (mapped res (λ e h. subst (λ v. IsRoot v r) (sym e) (root-put t c n r ne h)) done)

-- MAKING

label-kept : (ls more : List NodeData) (r : ℕ) → r < length ls → label_in (ls ++ more) r ≡ label_in ls r
label-kept ls more r b = get_or_append_left ls more Document r b

inside-more : (ls more : List NodeData) (r : ℕ) → r < length ls → r < length (ls ++ more)
inside-more ls more r b = (let l = length-append ls more in omega arith)

root-added : (t : Tree) (d : NodeData) (k r : ℕ) → IsRoot t r → IsRoot (added t d k) r
root-added t d k r h = record {
  inside = inside-more t.labels (d ∷ []) r h.inside;
  alone = added-parent t d k r ∙ h.alone;
  no_host = ap host_in (label-kept t.labels (d ∷ []) r h.inside) ∙ h.no_host;
}

none-pushed : (ps : List (Option ℕ)) (r : ℕ) → get_or (ps ++ None ∷ None ∷ []) r None ≡ get_or ps r None
none-pushed ps r =
    ap (λ (qs : List (Option ℕ)). get_or qs r None) (sym (append_assoc ps (None ∷ []) (None ∷ []))) ∙ (get_or-default_push (ps ++ None ∷ []) None r ∙ get_or-default_push ps None r)

root-template : (t : Tree) (d : NodeData) (k r : ℕ) → IsRoot t r → IsRoot (added_template t d k) r
root-template t d k r h = record {
  inside = inside-more t.labels (d ∷ Contents (length t.labels) ∷ []) r h.inside;
  alone = none-pushed t.parents r ∙ h.alone;
  no_host = ap host_in (label-kept t.labels (d ∷ Contents (length t.labels) ∷ []) r h.inside) ∙ h.no_host;
}

root-either : (b : Bool) (t u : Tree) (r : ℕ) → IsRoot t r → IsRoot u r → IsRoot (cond b t u) r
root-either true t u r a b = a
root-either false t u r a b = b

pub root-made : (t : Tree) (n : NewNode) (r : ℕ) → IsRoot t r → IsRoot (made t n) r
root-made t n r h =
    root-either (has_contents n) (added_template t (label_for t n) (made_weight t n)) (added t (label_for t n) (made_weight t n)) r (root-template t (label_for t n) (made_weight t n) r h)
    (root-added t (label_for t n) (made_weight t n) r h)

pub root-made_by : {T E : Type 0} (res : Result T E) (t u : Tree) (n : NewNode) (r : ℕ) → OnErr res (u ≡ t) → OnOk res (u ≡ made t n) → IsRoot t r → IsRoot u r
root-made_by res t u n r kept done = rooted res t u r kept (mapped res (λ e h. subst (λ v. IsRoot v r) (sym e) (root-made t n r h)) done)

pub root-added_by : {T E : Type 0} (res : Result T E) (t u : Tree) (d : NodeData) (k r : ℕ) → OnErr res (u ≡ t) → OnOk res (u ≡ added t d k) → IsRoot t r → IsRoot u r
root-added_by res t u d k r kept done = rooted res t u r kept (mapped res (λ e h. subst (λ v. IsRoot v r) (sym e) (root-added t d k r h)) done)

-- UNWRAPPING

some-none : (p : ℕ) (o : Option ℕ) → o ≡ None → o ≡ Some p → ⊥
some-none p o a b = cc

parent-there : (f g : Option EditError) (o : Option ℕ) → or_fault f (or_fault (unless (has_parent o) NoParent) g) ≡ None → (p : ℕ) × (o ≡ Some p)
parent-there None g None e = absurd cc
parent-there (Some f) g None e = absurd cc
parent-there f g (Some p) e = (p, refl)

module _ (t : Tree) (w : WellFormed t) (r : ℕ) (h : IsRoot t r) where
  -- the root is no child
  no_child : (p : ℕ) → has r (children_of t p) ≡ false
  no_child p = not_child t w r p (λ e. some-none p (parent_of t r) h.alone e)

  no_child_of-moved : (c x : ℕ) → x < length t.labels → has r (children_of (moved t c x) x) ≡ false
  no_child_of-moved c x b =
      let n = w.as_many_lists in
      let l = length-set t.children c [] in
      let here : children_of (moved t c x) x ≡ children_of t x ++ children_of t c = get_or-set_same (set t.children c []) x (children_of t x ++ children_of t c) [] (omega arith) in
      ap (has r) here ∙ (has-append r (children_of t x) (children_of t c) ∙ rw (no_child x) (no_child c))

  gathered-root : (x : ℕ) (o : Option ℕ) → x < length t.labels → IsRoot (gathered t x o) r × (has r (children_of (gathered t x o) x) ≡ false)
  gathered-root x None b = (h, no_child x)
  gathered-root x (Some c) b = (root-same t (moved t c x) r refl (moved-parent t w c x r ∙ rw (no_child c) h.alone) h, no_child_of-moved c x b)

  root-unwrapped : (u : Tree) (x p : ℕ) (o : Option ℕ) → x < length t.labels → IsUnwrapped (gathered t x o) u x p → IsRoot u r
  root-unwrapped u x p o b is =
      let g = gathered-root x o b in
      root-same (gathered t x o) u r is.same_labels (is.parent_is r ∙ rw g.1 (none-either (eqb r x) (parent_of (gathered t x o) r) g.0.alone)) g.0

  parent-in : (x p : ℕ) → parent_of t x ≡ Some p → x < length t.labels
  parent-in x p e = w.child_in p x (w.parent_has_child p x e)

  unwrapped-some : (u : Tree) (x : ℕ) (o q : Option ℕ) → parent_of t x ≡ q → (p : ℕ) → q ≡ Some p → IfSome q (λ p. IsUnwrapped (gathered t x o) u x p) → IsRoot u r
  unwrapped-some u x o None e p s is = absurd cc
  unwrapped-some u x o (Some q) e p s is = root-unwrapped u x q o (parent-in x q e) is

pub root-unwrapped_by : {T E : Type 0} (res : Result T E) (t u : Tree) (x r : ℕ) (o : Option ℕ) (f g : Option EditError) → WellFormed t → OnErr res (u ≡ t)
    → OnOk res (or_fault f (or_fault (unless (has_parent (parent_of t x)) NoParent) g) ≡ None) → OnOk res (IfSome (parent_of t x) (λ p. IsUnwrapped (gathered t x o) u x p))
    → IsRoot t r → IsRoot u r
root-unwrapped_by (Ok y) t u x r o f g w kept good done h = (let p = parent-there f g (parent_of t x) good in unwrapped-some t w r h u x o (parent_of t x) refl p.0 p.1 done)
root-unwrapped_by (Err e) t u x r o f g w kept good done h = subst (λ v. IsRoot v r) (sym kept) h
