-- What stands below what among the open elements: the contents of the last template, or node 0.
use Rattle.std.proofs.Common.{◌≡◌, ◌<◌, ◌⊎◌, ℕ, Bool, true, false, cond, ◌||◌, List, [], ◌∷◌, ◌++◌, length, Option, Some, None, is_some, inl, inr, refl, sym, ◌∙◌, ap, subst, append_assoc}
use Rattle.std.specs.List.{list_any}
use Rattle.std.proofs.lemmas.Bool.{false≢true}
use Rattle.html_names.specs.declared.tag.Tag.{Tag}
use Rattle.html_names.specs.declared.tag.Tag.TheVariants as tag
use Rattle.html_names.specs.Sets.{is_special, is_template}
use Rattle.html_names.specs.Tags.{is_same}
use Rattle.html_arena.specs.declared.data.NodeData.{NodeData}
use Rattle.html_arena.specs.declared.data.NodeData.TheVariants.{Comment, Contents, Doctype, Document, Element, Text}
use Rattle.html_arena.specs.Data.{host_in, tag_in}
use Rattle.html_arena.specs.Siblings.{first_of, has, last_of, or_else}
use Rattle.html_arena.specs.Tree.{Tree as Nodes, contents_at, host_at, label_of, parent_of, tag_at}
use Rattle.html_open.specs.declared.places.Place.TheVariants.{Last}
use Rattle.html_open.specs.Lists.{above, below, last_where, up_to}
use Rattle.html_open.specs.Placing.{by_table, fostered, fosters, get, inside, outside_table, parent_at, place_at, table, template}
use Rattle.html_open.proofs.Keeps.{cases_bool, cases_eqb, eqb-self}
use Rattle.html_open.proofs.Reopened.{none-above, split-above}
use Rattle.html_laws.specs.Contents.{IsOver, above as upon, itself}
use Rattle.html_laws.proofs.Hosts.{AreBased, IsLaid, IsTied, base}

-- TAGS

pub template-same : (g : Tag) → is_template g ≡ is_same g tag.Template
template-same tag.Template = refl
template-same g = refl

-- WHAT STANDS ABOVE

pub over-then : (t : Nodes) (r x y : ℕ) → IsOver t r x → IsOver t x y → IsOver t r y
over-then t r x _ o itself = o
over-then t r x _ o (upon y p e q) = upon y p e (over-then t r x p o q)

-- what is over a node that has a parent, and has none itself, is over that parent
pub over-parent : (t : Nodes) (r x p : ℕ) → IsOver t r x → parent_of t x ≡ Some p → parent_of t r ≡ None → IsOver t r p
over-parent t r _ p itself e n = absurd (let k = sym n ∙ e in cc)
over-parent t r _ p (upon x q f o) e n = (let k : q ≡ p = (let m = sym f ∙ e in cc) in subst (IsOver t r) k o)

-- what is over a node without a parent is that node
pub over-root : (t : Nodes) (r x : ℕ) → IsOver t r x → parent_of t x ≡ None → r ≡ x
over-root t r _ itself n = refl
over-root t r _ (upon x q f o) n = absurd (let k = sym n ∙ f in cc)

-- two that are over one node and have no parents are one
pub root-one : (t : Nodes) (r s x : ℕ) → IsOver t r x → IsOver t s x → parent_of t r ≡ None → parent_of t s ≡ None → r ≡ s
root-one t r s _ itself o n m = sym (over-root t s r o n)
root-one t r s _ (upon x p e q) o n m = root-one t r s p q (over-parent t s x p o e m) n m

-- LISTS

pub base-append : (t : Nodes) (r : ℕ) (xs ys : List ℕ) → base t r (xs ++ ys) ≡ base t (base t r xs) ys
base-append t r [] ys = refl
base-append t r (x ∷ xs) ys = base-append t (get (contents_at t x) r) xs ys

pub based-both : (t : Nodes) (r : ℕ) (xs ys : List ℕ) → AreBased t r (xs ++ ys) → AreBased t r xs × AreBased t (base t r xs) ys
based-both t r [] ys b = (tt, b)
based-both t r (x ∷ xs) ys b = (let k = based-both t (get (contents_at t x) r) xs ys b.1 in ((b.0, k.0), k.1))

pub based-join : (t : Nodes) (r : ℕ) (xs ys : List ℕ) → AreBased t r xs → AreBased t (base t r xs) ys → AreBased t r (xs ++ ys)
based-join t r [] ys b c = c
based-join t r (x ∷ xs) ys b c = (b.0, based-join t (get (contents_at t x) r) xs ys b.1 c)

pub any-append : (p : ℕ → Bool) (xs ys : List ℕ) → list_any p (xs ++ ys) ≡ false → (list_any p xs ≡ false) × (list_any p ys ≡ false)
any-append p [] ys h = (refl, h)
any-append p (x ∷ xs) ys h = elim (cases_bool (p x)) [
  | inl e ↦ absurd (let k = rw e at h in cc)
  | inr e ↦ (let k = any-append p xs ys (rw e at h) in (rw e k.0, k.1))
]

pub not-passing : (p : ℕ → Bool) (x : ℕ) (xs : List ℕ) → list_any p xs ≡ false → has x xs ≡ true → p x ≡ false
not-passing p x [] h k = absurd (false≢true k)
not-passing p x (y ∷ ys) h k = elim (cases_bool (p y)) [
  | inl e ↦ absurd (let m = rw e at h in cc)
  | inr e ↦ elim (cases_eqb x y) [
    | inl f ↦ subst (λ (v : ℕ). p v ≡ false) (sym f.1) e
    | inr f ↦ not-passing p x ys (rw e at h) (rw f.0 at k)
  ]
]

-- the last one that passes
pub last-split : (p : ℕ → Bool) (xs : List ℕ) → list_any p xs ≡ true → (x : ℕ) × (last_where p xs ≡ Some x) × (p x ≡ true) × (xs ≡ below p xs ++ x ∷ above p xs)
last-split p [] h = absurd (false≢true h)
last-split p (x ∷ xs) h = elim (cases_bool (list_any p xs)) [
  | inl e ↦ (let k = last-split p xs e in (k.0, rw e k.1, k.2, rw e (ap (λ ys. x ∷ ys) k.3)))
  | inr e ↦ elim (cases_bool (p x)) [
    | inl f ↦ (x, rw (e, f) refl, f, rw (e, f) refl)
    | inr f ↦ absurd (let g : list_any p (x ∷ xs) ≡ false = rw (f, e) refl in cc)
  ]
]

pub last_where-none : (p : ℕ → Bool) (xs : List ℕ) → list_any p xs ≡ false → last_where p xs ≡ None
last_where-none p [] h = refl
last_where-none p (x ∷ xs) h = elim (cases_bool (p x)) [
  | inl e ↦ absurd (let k = rw e at h in cc)
  | inr e ↦ (let k : list_any p xs ≡ false = rw e at h in rw (k, e) refl)
]

pub none-passing : (p : ℕ → Bool) (xs : List ℕ) → list_any p xs ≡ false → above p xs ≡ xs
none-passing p [] h = refl
none-passing p (x ∷ xs) h = elim (cases_bool (p x)) [
  | inl e ↦ absurd (let k = rw e at h in cc)
  | inr e ↦ (let k : list_any p xs ≡ false = rw e at h in rw (k, e) refl)
]

pub any-weaker : (p q : ℕ → Bool) (xs : List ℕ) → list_any (λ x. p x || q x) xs ≡ false → list_any p xs ≡ false
any-weaker p q [] h = refl
any-weaker p q (x ∷ xs) h = elim (cases_bool (p x)) [
  | inl e ↦ absurd (let k = rw e at h in cc)
  | inr e ↦ elim (cases_bool (q x)) [
    | inl f ↦ absurd (let k = rw (e, f) at h in cc)
    | inr f ↦ rw e (any-weaker p q xs (rw (e, f) at h))
  ]
]

-- the last of a list, and those before it
pub last_of-split : (xs : List ℕ) (x : ℕ) → last_of xs ≡ Some x → (ys : List ℕ) × (xs ≡ ys ++ x ∷ [])
last_of-split [] x h = absurd (let k = h in cc)
last_of-split (y ∷ []) x h = ([], (let k : y ≡ x = (let m = h in cc) in ap (λ v. v ∷ []) k))
last_of-split (y ∷ z ∷ zs) x h = (let k = last_of-split (z ∷ zs) x (by (last_of zs) h) in (y ∷ k.0, ap (λ v. y ∷ v) k.1))
  where
    by : (o : Option ℕ) → or_else (or_else o (Some z)) (Some y) ≡ Some x → or_else o (Some z) ≡ Some x
    by None e = e
    by (Some v) e = e

pub has-mid : (x : ℕ) (xs ys : List ℕ) → has x (xs ++ x ∷ ys) ≡ true
has-mid x [] ys = rw (eqb-self x) refl
has-mid x (y ∷ xs) ys = elim (cases_eqb x y) [ inl e ↦ rw e.0 refl | inr e ↦ rw e.0 (has-mid x xs ys) ]

-- TEMPLATES AND OTHERS

pub host-tag : (d : NodeData) (h : ℕ) → host_in d ≡ Some h → tag_in d ≡ tag.Other
host-tag (Contents k) h e = refl
host-tag Document h e = absurd (let k = e in cc)
host-tag (Element x) h e = absurd (let k = e in cc)
host-tag (Text s) h e = absurd (let k = e in cc)
host-tag (Comment s i) h e = absurd (let k = e in cc)
host-tag (Doctype n p s i) h e = absurd (let k = e in cc)

module _ (t : Nodes) (l : IsLaid t) where
  pub no-contents : (x : ℕ) → template t x ≡ false → contents_at t x ≡ None
  no-contents x h = by (contents_at t x) (l.hosts x ∙ template-same (tag_at t x) ∙ h)
    where
      by : (o : Option ℕ) → is_some o ≡ false → o ≡ None
      by None e = refl
      by (Some c) e = absurd (false≢true (sym e))

  pub some-contents : (x : ℕ) → template t x ≡ true → (c : ℕ) × (contents_at t x ≡ Some c)
  some-contents x h = by (contents_at t x) refl (l.hosts x ∙ template-same (tag_at t x) ∙ h)
    where
      by : (o : Option ℕ) → contents_at t x ≡ o → is_some o ≡ true → (c : ℕ) × (contents_at t x ≡ Some c)
      by None f e = absurd (false≢true e)
      by (Some c) f e = (c, f)

  pub html-plain : (x : ℕ) → tag_at t x ≡ tag.Html → contents_at t x ≡ None
  html-plain x h = no-contents x (ap (λ g. is_same g tag.Template) h)

  -- the base is node 0, or the contents of a template
  pub base-is : (r : ℕ) (xs : List ℕ) → (r ≡ 0) ⊎ ((h : ℕ) × (host_at t r ≡ Some h)) → (base t r xs ≡ 0) ⊎ ((h : ℕ) × (host_at t (base t r xs) ≡ Some h))
  base-is r [] h = h
  base-is r (x ∷ xs) h = base-is (get (contents_at t x) r) xs (by (contents_at t x) refl)
    where
      by : (o : Option ℕ) → contents_at t x ≡ o → (get o r ≡ 0) ⊎ ((h : ℕ) × (host_at t (get o r) ≡ Some h))
      by None e = h
      by (Some c) e = inr (x, (l.contents_is x c e).1)

  pub base-alone : (xs : List ℕ) → parent_of t (base t 0 xs) ≡ None
  base-alone xs = elim (base-is 0 xs (inl refl)) [
    | inl e ↦ subst (λ (v : ℕ). parent_of t v ≡ None) (sym e) l.root_alone
    | inr k ↦ l.alone (base t 0 xs) k.0 k.1
  ]

  pub base-no_table : (xs : List ℕ) → table t (base t 0 xs) ≡ false
  base-no_table xs = elim (base-is 0 xs (inl refl)) [
    | inl e ↦ subst (λ (v : ℕ). table t v ≡ false) (sym e) root
    | inr k ↦ ap (λ g. is_same g tag.Table) (host-tag (label_of t (base t 0 xs)) k.0 k.1)
  ]
    where
      by : (g : Tag) → (is_special g ≡ true → g ≡ tag.Html) → is_same g tag.Table ≡ false
      by tag.Table h = absurd (let k = h refl in cc)
      by g h = refl

      root : table t 0 ≡ false
      root = by (tag_at t 0) l.root_tag

  -- elements that are no templates
  pub base-plain : (r : ℕ) (xs : List ℕ) → list_any (template t) xs ≡ false → base t r xs ≡ r
  base-plain r [] h = refl
  base-plain r (x ∷ xs) h = elim (cases_bool (template t x)) [
    | inl e ↦ absurd (let k = rw e at h in cc)
    | inr e ↦ rw (no-contents x e) (base-plain r xs (rw e at h))
  ]

  pub based-plain : (r x : ℕ) (xs : List ℕ) → list_any (template t) xs ≡ false → AreBased t r xs → has x xs ≡ true → IsOver t r x
  based-plain r x [] h b k = absurd (false≢true k)
  based-plain r x (y ∷ xs) h b k = elim (cases_bool (template t y)) [
    | inl e ↦ absurd (let m = rw e at h in cc)
    | inr e ↦ elim (cases_eqb x y) [
      | inl f ↦ subst (IsOver t r) (sym f.1) (b.0 (no-contents y e))
      | inr f ↦ based-plain r x xs (rw e at h) (subst (λ v. AreBased t (get v r) xs) (no-contents y e) b.1) (rw f.0 at k)
    ]
  ]

-- THE PLACE

abbrev pub IsPlaced : Nodes → List ℕ → Option ℕ → Type 0
IsPlaced t s o = (q : ℕ) × (o ≡ Some q) × (q < length t.labels) × IsOver t (base t 0 s) q

module _ (t : Nodes) (s : List ℕ) (k : IsTied t s) where
  abbrev l : IsLaid t
  l = k.laid

  -- in the element, or in its contents
  pub inside-placed : (low high : List ℕ) (x : ℕ) → s ≡ low ++ x ∷ high → list_any (template t) high ≡ false → IsPlaced t s (Some (inside t x))
  inside-placed low high x e h = by (contents_at t x) refl
    where
      there : has x s ≡ true
      there = subst (λ (v : List ℕ). has x v ≡ true) (sym e) (has-mid x low high)

      based : AreBased t (base t 0 low) (x ∷ high)
      based = (based-both t 0 low (x ∷ high) (subst (AreBased t 0) e k.based)).1

      base-here : base t 0 s ≡ get (contents_at t x) (base t 0 low)
      base-here = ap (base t 0) e ∙ base-append t 0 low (x ∷ high) ∙ base-plain t l (get (contents_at t x) (base t 0 low)) high h

      by : (o : Option ℕ) → contents_at t x ≡ o → IsPlaced t s (Some (inside t x))
      by None f = (x, ap (λ v. Some (get v x)) f, k.inside x there, subst (λ (v : ℕ). IsOver t v x) (sym (base-here ∙ ap (λ v. get v (base t 0 low)) f)) (based.0 f))
      by (Some c) f = (c, ap (λ v. Some (get v x)) f, (l.contents_is x c f).0, subst (λ (v : ℕ). IsOver t v c) (sym (base-here ∙ ap (λ v. get v (base t 0 low)) f)) itself)

  first-placed : (x : ℕ) (xs : List ℕ) → s ≡ x ∷ xs → list_any (template t) s ≡ false → IsPlaced t s (Some x)
  first-placed x xs e h =
      let there : has x s ≡ true = subst (λ (v : List ℕ). has x v ≡ true) (sym e) (has-mid x [] xs) in
      (x, refl, k.inside x there, subst (λ (v : ℕ). IsOver t v x) (sym (base-plain t l 0 s h)) (based-plain t l 0 x s h k.based there))

  table-placed : (b : ℕ) → table t b ≡ true → s ≡ below (table t) s ++ b ∷ above (table t) s → list_any (template t) (above (table t) s) ≡ false
      → IsPlaced t s (parent_at t (by_table t (below (table t) s) b (parent_of t b)))
  table-placed b g e h = by (parent_of t b) refl
    where
      no_template : template t b ≡ false
      no_template = other (tag_at t b) g
        where
          other : (v : Tag) → is_same v tag.Table ≡ true → is_same v tag.Template ≡ false
          other tag.Template m = absurd (false≢true m)
          other v m = refl

      based : AreBased t (base t 0 (below (table t) s)) (b ∷ above (table t) s)
      based = (based-both t 0 (below (table t) s) (b ∷ above (table t) s) (subst (AreBased t 0) e k.based)).1

      base-here : base t 0 s ≡ base t 0 (below (table t) s)
      base-here = ap (base t 0) e ∙ base-append t 0 (below (table t) s) (b ∷ above (table t) s)
          ∙ base-plain t l (get (contents_at t b) (base t 0 (below (table t) s))) (above (table t) s) h ∙ ap (λ v. get v (base t 0 (below (table t) s))) (no-contents t l b no_template)

      over : IsOver t (base t 0 s) b
      over = subst (λ (v : ℕ). IsOver t v b) (sym base-here) (based.0 (no-contents t l b no_template))

      by : (o : Option ℕ) → parent_of t b ≡ o → IsPlaced t s (parent_at t (by_table t (below (table t) s) b o))
      by None f = absurd (let m = over-root t (base t 0 s) b over f in let n = base-no_table t l s in let w : table t (base t 0 s) ≡ true = ap (table t) m ∙ g in cc)
      by (Some p) f = (p, f, l.parent_in b p f, over-parent t (base t 0 s) b p over f (base-alone t l s))

  -- the foster parent, where something is open
  pub fostered-placed : (x : ℕ) (xs : List ℕ) → s ≡ x ∷ xs → IsPlaced t s (parent_at t (fostered t s))
  fostered-placed x xs e = elim (cases_bool (list_any (template t) (above (table t) s))) [
    | inl h ↦
        let c = last-split (template t) (above (table t) s) h in
        let split : s ≡ (up_to (table t) s ++ below (template t) (above (table t) s)) ++ c.0 ∷ above (template t) (above (table t) s) =
        split-above (table t) s ∙ ap (λ v. up_to (table t) s ++ v) c.3 ∙ sym (append_assoc (up_to (table t) s) (below (template t) (above (table t) s)) (c.0 ∷ above (template t) (above (table t) s))) in
        let k = inside-placed (up_to (table t) s ++ below (template t) (above (table t) s)) (above (template t) (above (table t) s)) c.0 split (none-above (template t) (above (table t) s)) in
        rw (h, c.1) k
    | inr h ↦ rw h (outside h)
  ]
    where
      outside : list_any (template t) (above (table t) s) ≡ false → IsPlaced t s (parent_at t (outside_table t s (last_where (table t) s)))
      outside h = elim (cases_bool (list_any (table t) s)) [
        | inl a ↦ (let c = last-split (table t) s a in rw c.1 (table-placed c.0 c.2 c.3 h))
        | inr a ↦
            let f : first_of s ≡ Some x = ap first_of e in
            let n : list_any (template t) s ≡ false = subst (λ (v : List ℕ). list_any (template t) v ≡ false) (none-passing (table t) s a) h in
            rw (last_where-none (table t) s a, f) (first-placed x xs e n)
      ]

-- the place for a node by an element of the stack after which there is no template
pub target-placed : (t : Nodes) (s : List ℕ) → IsTied t s → (low high : List ℕ) (x : ℕ) → s ≡ low ++ x ∷ high → list_any (template t) high ≡ false → (foster : Bool) → IsPlaced t s (parent_at t (place_at t s x foster))
target-placed t s k low high x e h foster = by (fosters t x foster)
  where
    begins : (low : List ℕ) → s ≡ low ++ x ∷ high → IsPlaced t s (parent_at t (fostered t s))
    begins [] f = fostered-placed t s k x high f
    begins (y ∷ ys) f = fostered-placed t s k y (ys ++ x ∷ high) f

    by : (b : Bool) → IsPlaced t s (parent_at t (cond b (fostered t s) (Last (inside t x))))
    by true = begins low e
    by false = inside-placed t s k low high x e h

pub place-based : (t : Nodes) (low high : List ℕ) (target : ℕ) (foster : Bool) → IsTied t (low ++ high) → list_any (λ x. template t x || table t x) high ≡ false → last_of low ≡ Some target
    → (q : ℕ) × (parent_at t (place_at t (low ++ high) target foster) ≡ Some q) × (q < length t.labels) × IsOver t (base t 0 low) q
place-based t low high target foster k h e =
    let c = last_of-split low target e in
    let n = any-weaker (template t) (table t) high h in
    let f : low ++ high ≡ c.0 ++ target ∷ high = ap (λ (v : List ℕ). v ++ high) c.1 ∙ append_assoc c.0 (target ∷ []) high in
    let p = target-placed t (low ++ high) k c.0 high target f n foster in
    (p.0, p.1, p.2, subst (λ (v : ℕ). IsOver t v p.0) (base-append t 0 low high ∙ base-plain t k.laid (base t 0 low) high n) p.3)
