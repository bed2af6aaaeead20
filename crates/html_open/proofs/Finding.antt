-- What the adoption agency looks for, by indices of the stack.
use Rattle.std.proofs.Common.{◌≡◌, ℕ, zero, suc, ◌+◌, ◌<◌, Bool, true, false, eqb, not, take, List, [], ◌∷◌, length, drop, get_or, Option, Some, None, inl, inr, refl, sym, ◌∙◌, ap, subst}
use Rattle.std.specs.List.{list_any}
use Rattle.html_names.specs.declared.tag.Tag.{Tag}
use Rattle.html_names.specs.declared.sets.Scope.TheVariants as scope
use Rattle.html_names.specs.Sets.{ends_scope, is_special}
use Rattle.html_arena.specs.declared.data.NodeData.{NodeData}
use Rattle.html_arena.specs.Data.{label_in, tag_in}
use Rattle.html_arena.specs.Siblings.{has}
use Rattle.html_arena.specs.Tree.{Tree}
use Rattle.html_open.specs.declared.entry.Entry.{Entry}
use Rattle.html_open.specs.declared.entry.Entry.TheVariants.{Marker, Node}
use Rattle.html_open.specs.AdoptFinding.{IsBlock, IsFirstFrom, IsFirstIndex, IsFormatting, IsOffStack, IsOutOfScope, IsPlain, element_in_scope, special}
use Rattle.html_open.specs.Entries.{entry_named, is_marker, last_named, node_in, nodes_of}
use Rattle.html_open.specs.Lists.{above, last_index, last_where}
use Rattle.html_open.specs.Opened.{AreNodes, Open}
use Rattle.html_open.specs.Scopes.{ends}
use Rattle.html_open.proofs.Keeps.{cases_bool, cases_eqb, eqb-true}
use Rattle.html_open.proofs.Lists.{after-above, any-has, last_index-any, last_where-at, looked-some, not_any}

-- the last entry of a name is in the list
pub above-node : (p : Entry → Bool) (es : List Entry) (x : ℕ) → has x (nodes_of (above p es)) ≡ true → has x (nodes_of es) ≡ true
above-node p [] x h = h
above-node p (e ∷ es) x h = elim (cases_bool (list_any p es)) [
  | inl a ↦ more e (above-node p es x (rw a at h))
  | inr a ↦ elim (cases_bool (p e)) [
    | inl b ↦ more e (rw (a, b) at h)
    | inr b ↦ rw (a, b) at h
  ]
]
  where
    more : (e : Entry) → has x (nodes_of es) ≡ true → has x (nodes_of (e ∷ es)) ≡ true
    more Marker k = k
    more (Node y) k = elim (cases_eqb x y) [ inl q ↦ rw q.0 refl | inr q ↦ rw q.0 k ]

last-node : (p : Entry → Bool) (es : List Entry) (x : ℕ) → node_in (last_where p es) ≡ Some x → has x (nodes_of es) ≡ true
last-node p [] x h = absurd (let k = h in cc)
last-node p (e ∷ es) x h = elim (cases_bool (list_any p es)) [
  | inl a ↦ more e (last-node p es x (rw a at h))
  | inr a ↦ elim (cases_bool (p e)) [
    | inl b ↦ here e (rw (a, b) at h)
    | inr b ↦ absurd (let k = rw (a, b) at h in cc)
  ]
]
  where
    more : (e : Entry) → has x (nodes_of es) ≡ true → has x (nodes_of (e ∷ es)) ≡ true
    more Marker k = k
    more (Node y) k = elim (cases_eqb x y) [ inl q ↦ rw q.0 refl | inr q ↦ rw q.0 k ]

    here : (e : Entry) → node_in (Some e) ≡ Some x → has x (nodes_of (e ∷ es)) ≡ true
    here Marker k = absurd (let j = k in cc)
    here (Node y) k = (let q : y ≡ x = (let j = k in cc) in elim (cases_eqb x y) [ inl r ↦ rw r.0 refl | inr r ↦ absurd (r.1 (sym q)) ])

pub last_named-in : (t : Tree) (s : Tag) (es : List Entry) (x : ℕ) → last_named t s es ≡ Some x → has x (nodes_of es) ≡ true
last_named-in t s es x h = above-node is_marker es x (last-node (entry_named t s) (above is_marker es) x h)

pub last_where-passes : {X : Type 0} (p : X → Bool) (xs : List X) (y : X) → last_where p xs ≡ Some y → p y ≡ true
last_where-passes p [] y h = absurd (let k = h in cc)
last_where-passes p (x ∷ xs) y h = elim (cases_bool (list_any p xs)) [
  | inl e ↦ last_where-passes p xs y (rw e at h)
  | inr e ↦ elim (cases_bool (p x)) [
    | inl f ↦ (let q : x ≡ y = (let k = rw (e, f) at h in cc) in subst (λ v. p v ≡ true) q f)
    | inr f ↦ absurd (let k = rw (e, f) at h in cc)
  ]
]

pub same-ends : (t u : Tree) (xs : List ℕ) → u.labels ≡ t.labels → list_any (ends u scope.Default) xs ≡ list_any (ends t scope.Default) xs
same-ends t u xs e = ap (λ (ls : List NodeData). list_any (λ x. ends_scope scope.Default (tag_in (label_in ls x))) xs) e

pub same-first : (t u : Tree) (xs : List ℕ) (from : ℕ) (o : Option ℕ) → u.labels ≡ t.labels → IsFirstIndex (special u) xs from o → IsFirstIndex (special t) xs from o
same-first t u xs from o e h = subst (λ (ls : List NodeData). IsFirstIndex (λ x. is_special (tag_in (label_in ls x))) xs from o) e h

module _ (s : Tag) (o : Open) (f : ℕ) (entry : last_named o.tree s o.list ≡ Some f) where
  pub off-stack : last_index (eqb f) o.stack ≡ None → IsOffStack s o f
  off-stack h = record { entry = entry; off_stack = sym (any-has f o.stack) ∙ not_any (eqb f) o.stack h }

  module _ (at : ℕ) (h : last_index (eqb f) o.stack ≡ Some at) where
    above-is : above (eqb f) o.stack ≡ drop (at + 1) o.stack
    above-is = sym (after-above (eqb f) o.stack (Some at) (sym h))

    any : list_any (eqb f) o.stack ≡ true
    any = (last_index-any (eqb f) o.stack at h).0

    here : has f o.stack ≡ true
    here = sym (any-has f o.stack) ∙ any

    scope-is : (b : Bool) → list_any (ends o.tree scope.Default) (drop (at + 1) o.stack) ≡ b → element_in_scope o.tree f o.stack ≡ not b
    scope-is b e = rw (any, above-is, e) refl

    pub within : at < length o.stack
    within = (looked-some (eqb f) o.stack at h).1

    pub out : list_any (ends o.tree scope.Default) (drop (at + 1) o.stack) ≡ true → IsOutOfScope s o f
    out e = record { entry = entry; on_stack = here; not_in_scope = scope-is true e }

    pub formatting : list_any (ends o.tree scope.Default) (drop (at + 1) o.stack) ≡ false → IsFormatting s o f at
    formatting e = record {
      entry = entry;
      on_stack = here;
      index_is = h;
      within = within;
      element_is = sym (eqb-true f (get_or o.stack at 0) (last_where-passes (eqb f) o.stack (get_or o.stack at 0) (last_where-at (eqb f) o.stack at 0 h)));
      in_scope = scope-is false e;
    }

    pub plain : list_any (ends o.tree scope.Default) (drop (at + 1) o.stack) ≡ false → list_any (special o.tree) (drop (at + 1) o.stack) ≡ false → IsPlain s o f at
    plain e n = record { formatting = formatting e; no_special = ap (list_any (special o.tree)) above-is ∙ n }

    pub block : list_any (ends o.tree scope.Default) (drop (at + 1) o.stack) ≡ false → (b : ℕ) → IsFirstFrom (special o.tree) o.stack (at + 1) b → IsBlock s o at b
    block e b n = (let k = formatting e in record { formatting = subst (λ (v : ℕ). IsFormatting s o v at) (sym k.element_is) k; block = n })

-- what is taken from a list was in it
pub has-take : (x n : ℕ) (xs : List ℕ) → has x (take n xs) ≡ true → has x xs ≡ true
has-take x zero [] h = h
has-take x (suc n) [] h = h
has-take x zero (y ∷ ys) h = absurd (let k = h in cc)
has-take x (suc n) (y ∷ ys) h = elim (cases_eqb x y) [ inl q ↦ rw q.0 refl | inr q ↦ rw q.0 (has-take x n ys (rw q.0 at h)) ]

pub has-drop : (x n : ℕ) (xs : List ℕ) → has x (drop n xs) ≡ true → has x xs ≡ true
has-drop x zero xs h = h
has-drop x (suc n) [] h = h
has-drop x (suc n) (y ∷ ys) h = (let k = has-drop x n ys h in elim (cases_eqb x y) [ inl q ↦ rw q.0 refl | inr q ↦ rw q.0 k ])

pub nodes-drop : (t : Tree) (xs : List ℕ) (n m : ℕ) → AreNodes t xs → AreNodes t (take m (drop n xs))
nodes-drop t xs n m h x e = h x (has-drop x n xs (has-take x m (drop n xs) e))
