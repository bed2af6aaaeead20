-- An adoption keeps what is always true, and what was closed.
use Rattle.std.proofs.Common.{◌≡◌, ℕ, ◌<◌, ◌≤◌, true, false, List, [], ◌∷◌, drop, length, Option, Some, None, Result, Ok, Err, IfOk, OnOk, ◌⊎◌, inl, inr, refl, sym, ◌∙◌, ap, subst, arith}
use Rattle.std.proofs.lemmas.Bool.{false≢true}
use Rattle.html_names.specs.Sets.{is_formatting, is_special}
use Rattle.html_names.specs.Tags.{is_same}
use Rattle.html_names.specs.declared.tag.Tag.{Tag}
use Rattle.html_names.specs.declared.tag.Tag.TheVariants as tag
use Rattle.html_arena.specs.Data.{IsElement, tag_in}
use Rattle.html_arena.specs.Siblings.{Distinct, first_of, has}
use Rattle.html_arena.specs.Tree.{Tree, WellFormed, label_of, named, parent_of, more}
use Rattle.html_open.specs.declared.entry.Entry.{Entry}
use Rattle.html_open.specs.Adopting.{IsFirstFree, MadeClones, Survives}
use Rattle.html_open.specs.Entries.{has_node}
use Rattle.html_open.specs.Opened.{IsOpen, open_at}
use Rattle.html_open.specs.Reopening.{KeepsClosed}
use Rattle.html_open.specs.Rooting.{KeepsParents, KeepsRoots}
use Rattle.html_open.proofs.Keeps.{cases_bool, cases_eqb}
use Rattle.html_open.proofs.SafePlaces.{same-tag}
use Rattle.html_tree.specs.Since.{Keeps}
use Rattle.html_tree.specs.States.{State, IsUnderWay, state_of}
use Rattle.html_tree.proofs.Kept.{keeps-since}
use Rattle.html_tree.proofs.Clones.{clones-since, clones-under_way}

pub formatting-plain : (g : Tag) → is_formatting g ≡ true → is_special g ≡ false
formatting-plain tag.A e = refl
formatting-plain tag.B e = refl
formatting-plain tag.Big e = refl
formatting-plain tag.Code e = refl
formatting-plain tag.Em e = refl
formatting-plain tag.Font e = refl
formatting-plain tag.I e = refl
formatting-plain tag.Nobr e = refl
formatting-plain tag.S e = refl
formatting-plain tag.Small e = refl
formatting-plain tag.Strike e = refl
formatting-plain tag.Strong e = refl
formatting-plain tag.Tt e = refl
formatting-plain tag.U e = refl
formatting-plain _ e = absurd (false≢true e)

not-html : (g h : Tag) → is_same g tag.Html ≡ true → is_formatting h ≡ true → is_same g h ≡ false
not-html g h e f = elim (cases_bool (is_same g h)) [
  | inl a ↦ absurd (false≢true (ap is_formatting (sym (same-tag g tag.Html e) ∙ same-tag g h a) ∙ f))
  | inr a ↦ a
]

module _ (s : List ℕ) (l : List Entry) (t : Tree) (n : ℕ) (hd fm dt : Option ℕ) (h : IsUnderWay s l t n hd fm dt) where
  pub first-free : IsFirstFree s l
  first-free x e = elim (cases_bool (has_node x l)) [
    | inl a ↦ absurd (false≢true (ap is_formatting (sym (same-tag (tag_in (label_of t x)) tag.Html (h.first x e).1)) ∙ h.is_open.formatting x a))
    | inr a ↦ a
  ]

  module _ (name : Tag) (f : is_formatting name ≡ true) (s' : List ℕ) (l' : List Entry) (u : Tree)
      (first : (x : ℕ) → first_of s ≡ Some x → named t name x ≡ false → first_of s' ≡ Some x) where
    first-stays : (x : ℕ) → first_of s ≡ Some x → first_of s' ≡ Some x
    first-stays x e = first x e (not-html (tag_in (label_of t x)) name (h.first x e).1 f)

    pub first-equal : 0 < length s → first_of s' ≡ first_of s
    first-equal b = by s refl b
      where
        by : (z : List ℕ) → s ≡ z → 0 < length s → first_of s' ≡ first_of s
        by [] e c = absurd (let k : length s ≡ 0 = ap length e in omega (arith, k, c))
        by (x ∷ z) e c = (let k : first_of s ≡ Some x = ap first_of e in first-stays x k ∙ sym k)

    pub adopted-opened : 0 < length s → 0 < length s'
    adopted-opened b = by s' (λ x e. first-stays x e) s b
      where
        by : (ys : List ℕ) → ((x : ℕ) → first_of s ≡ Some x → first_of ys ≡ Some x) → (xs : List ℕ) → 0 < length s → 0 < length ys
        by [] k xs c = absurd (let w = some s c in let z = k w.0 w.1 in cc)
          where
            some : (zs : List ℕ) → 0 < length zs → (y : ℕ) × (first_of zs ≡ Some y)
            some [] c = absurd (omega arith)
            some (y ∷ zs) c = (y, refl)
        by (y ∷ ys) k xs c = omega arith

    pub adopted-under_way : 0 < length s → IsOpen (open_at s' l' u) → MadeClones (open_at s l t) u → IsUnderWay s' l' u n hd fm dt
    adopted-under_way b o m = clones-under_way s s' l l' t u n hd fm dt m o (first-equal b) h

    pub adopted-keeps : (a : State) → state_of s l t n hd fm dt ≡ a → WellFormed t → MadeClones (open_at s l t) u → KeepsClosed (open_at s l t) u → KeepsRoots (open_at s l t) u
        → (is_special name ≡ false → Survives (open_at s l t) (open_at s' l' u)) → more t.steps 0 ≤ u.steps → Keeps a (state_of s' l' u n hd fm dt)
    adopted-keeps a w wf m k r v steps = subst (λ (b : State). Keeps b (state_of s' l' u n hd fm dt)) w (keeps-since (state_of s l t n hd fm dt) (state_of s' l' u n hd fm dt)
        (clones-since s s' l l' t u n hd fm dt m wf k first-stays off r.linked (λ p. r.roots 0 h.some_node p zero-off) steps h.is_open))
      where
        off : (x : ℕ) → x < length t.labels → has x s ≡ false → has x s' ≡ false
        off x b c = elim (cases_bool (has x s')) [
          | inl d ↦ absurd (false≢true (sym c ∙ (v (formatting-plain name f)).on_stack x b d))
          | inr d ↦ d
        ]

        -- node 0 is no open element but the first
        zero-off : has 0 (drop 1 s) ≡ false
        zero-off = by s h.is_open.stack_once (λ x b. h.is_open.elements x b) h.root
          where
            has-later : (x y : ℕ) (z : List ℕ) → has x z ≡ true → has x (y ∷ z) ≡ true
            has-later x y z b = elim (cases_eqb x y) [ inl q ↦ rw q.0 refl | inr q ↦ rw q.0 b ]

            by : (z : List ℕ) → Distinct z → ((x : ℕ) → has x z ≡ true → IsElement (label_of t x)) → (IsElement (label_of t 0) → first_of z ≡ Some 0) → has 0 (drop 1 z) ≡ false
            by [] q e g = refl
            by (y ∷ z) q e g = elim (cases_bool (has 0 z)) [
              | inl b ↦ absurd (let i = e 0 (has-later 0 y z b) in let k : y ≡ 0 = (let c : Some y ≡ Some 0 = g i in cc) in false≢true (sym q.0 ∙ subst (λ v. has v z ≡ true) (sym k) b))
              | inr b ↦ b
            ]

pub parents-linked : (t u : Tree) → KeepsParents t u → (x : ℕ) → x < length u.labels → parent_of u x ≡ None → (x < length t.labels) × (parent_of t x ≡ None)
parents-linked t u k x b e = elim (order x (length t.labels)) [
  | inl q ↦ (q, sym (k.same x q) ∙ e)
  | inr q ↦ absurd (k.linked x q b e)
]
  where
    order : (a b : ℕ) → (a < b) ⊎ (b ≤ a)
    order a b = grind arith

pub if-ok : {A E : Type 0} {P Q : A → Type 0} (r : Result A E) → IfOk r P → ((x : A) → P x → Q x) → IfOk r Q
if-ok (Ok x) p f = f x p
if-ok (Err e) p f = tt

pub on-if-ok : {A E Q : Type 0} {P : A → Type 0} (r : Result A E) → IfOk r P → ((x : A) → P x → Q) → OnOk r Q
on-if-ok (Ok x) p f = f x p
on-if-ok (Err e) p f = tt

pub always : {A E P : Type 0} (r : Result A E) → P → OnOk r P
always (Ok x) p = p
always (Err e) p = tt

pub off : (s s' : List ℕ) (l l' : List Entry) (t u : Tree) → Survives (open_at s l t) (open_at s' l' u) → (x : ℕ) → x < length t.labels → has x s ≡ false → has x s' ≡ false
off s s' l l' t u v x b c = elim (cases_bool (has x s')) [
  | inl d ↦ absurd (false≢true (sym c ∙ v.on_stack x b d))
  | inr d ↦ d
]
