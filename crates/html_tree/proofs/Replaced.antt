-- A frameset that takes the place of a body.
use Rattle.std.proofs.Common.{◌≡◌, ℕ, ◌+◌, ◌-◌, ◌<◌, Bool, true, false, List, [], ◌∷◌, length, Some, Result, Ok, Err, IfOk, OnOk, refl, sym, ◌∙◌, ap, subst, arith}
use Rattle.std.specs.Prelude.{reverse, slice_get, slice_index}
use Rattle.html_names.specs.Names.{tag_of}
use Rattle.html_names.specs.Sets.{is_template}
use Rattle.html_names.specs.Tags.{is_same}
use Rattle.html_names.specs.declared.tag.Tag.{Tag}
use Rattle.html_names.specs.declared.tag.Tag.TheVariants as tag
use Rattle.html_arena.specs.declared.data.NewNode.{NewNode}
use Rattle.html_arena.specs.declared.data.NewNode.TheVariants as new
use Rattle.html_arena.specs.declared.data.Origin.{Origin}
use Rattle.html_arena.specs.Make.{label_for}
use Rattle.html_arena.specs.Tree.{Tree, detached, more, parent_of, tag_at}
use Rattle.html_arena.specs.Weight.{weight}
use Rattle.html_tokens.specs.declared.attributes.Attr.{Attr}
use Rattle.html_open.specs.Marking.{bare}
use Rattle.html_open.proofs.SafePlaces.{same-tag}
use Rattle.html_tree.specs.declared.groups.Target.TheVariants as target
use Rattle.html_tree.specs.Closing.{bodiless, first_few}
use Rattle.html_tree.specs.Inserting.{with_new, with_open}
use Rattle.html_tree.specs.Proper.{opens}
use Rattle.html_tree.specs.Seats.{is_part}
use Rattle.html_tree.specs.Since.{Grown, HasFrameset}
use Rattle.html_tree.specs.States.{State}
use Rattle.html_tree.specs.Targets.{place_for}
use Rattle.html_tree.proofs.Kept.{few-length}

-- the names of framesets
pub frameset-opens : (g : Tag) → is_same g tag.Frameset ≡ true → opens g ≡ true
frameset-opens g e = subst (λ h. opens h ≡ true) (sym (same-tag g tag.Frameset e)) refl

pub frameset-plain : (g : Tag) → is_same g tag.Frameset ≡ true → is_part g ≡ false
frameset-plain g e = subst (λ h. is_part h ≡ false) (sym (same-tag g tag.Frameset e)) refl

pub a-frameset : (t : Tree) (x : ℕ) (g : Tag) → is_same g tag.Frameset ≡ true → (x < length t.labels) × (tag_at t x ≡ g) → HasFrameset t
a-frameset t x g e k = (x, k.0, ap (λ h. is_same h tag.Frameset) k.1 ∙ e)

pub on-both : {A E Q R : Type 0} {P : A → Type 0} (r : Result A E) → IfOk r P → OnOk r Q → ((x : A) → P x → Q → R) → OnOk r R
on-both (Ok x) p q f = f x p q
on-both (Err e) p q f = tt

-- one element is open, an html
pub one-tag : (gs : List Tag) → length gs ≡ 1 → slice_get (reverse gs) 0 ≡ Some tag.Html → gs ≡ tag.Html ∷ []
one-tag [] e h = absurd (omega (arith, e))
one-tag (g ∷ []) e h = (let k : Some g ≡ Some tag.Html = h in let j : g ≡ tag.Html = cc in ap (λ x. x ∷ []) j)
one-tag (g ∷ k ∷ gs) e h = absurd (omega (arith, e))

module _ (a m n : State) (e : m ≡ record a { tree = bare (detached a.tree (slice_index a.stack 1) (parent_of a.tree (slice_index a.stack 1))); steps = m.steps; detached = Some (slice_index a.stack 1) })
    (f : n ≡ record m { stack = first_few 1 m.stack; steps = n.steps }) where
  pub bodiless-is : n ≡ record (bodiless a) { steps = n.steps }
  bodiless-is = f ∙ ap (λ (v : State). record v { stack = first_few 1 v.stack; steps = n.steps }) e

  pub replaced-exact : (z : State) (d : NewNode) (k : ℕ) → z ≡ record n { stack = with_open n; tree = with_new n.tree (place_for n target.First) d; steps = z.steps; tokens = k }
      → z ≡ record (bodiless a) { stack = with_open (bodiless a); tree = with_new (bodiless a).tree (place_for (bodiless a) target.First) d; steps = z.steps; tokens = k }
  replaced-exact z d k g = g ∙ ap (λ (v : State). record v { stack = with_open v; tree = with_new v.tree (place_for v target.First) d; steps = z.steps; tokens = k }) bodiless-is

  pub one-open : 1 < length a.stack → length n.stack ≡ 1
  one-open b =
      let k : length n.stack ≡ length (first_few 1 a.stack) = ap (λ (v : State). length v.stack) bodiless-is in
      let l = few-length 1 a.stack in
      omega (arith, b, k, l)

  pub same-size : length n.tree.labels ≡ length m.tree.labels
  same-size = ap (λ (v : State). length v.tree.labels) f

  pub same-rest : (z : State) → z ≡ record n { stack = z.stack; tree = z.tree; steps = z.steps; tokens = z.tokens } → z ≡ record a { stack = z.stack; tree = z.tree; steps = z.steps; tokens = z.tokens; detached = z.detached }
  same-rest z g =
      let d : z.detached ≡ n.detached = ap (λ (v : State). v.detached) g in
      g ∙ ap (λ (v : State). record v { stack = z.stack; tree = z.tree; steps = z.steps; tokens = z.tokens }) bodiless-is
      ∙ ap (λ o. record a { stack = z.stack; tree = z.tree; steps = z.steps; tokens = z.tokens; detached = o }) (sym (d ∙ ap (λ (v : State). v.detached) bodiless-is))

  pub replaced-counted : (z : State) → 1 < length a.stack → m.steps ≡ more a.steps 2 → n.steps ≡ more m.steps (length m.stack - length n.stack) → z.steps ≡ more n.steps 4 → z.steps ≡ more a.steps (length a.stack + 5)
  replaced-counted z b x y w =
      let k = one-open b in
      let l : length m.stack ≡ length a.stack = ap (λ (v : State). length v.stack) e in
      omega (arith, b, x, y, w, k, l)

pub element-weight : (t u : Tree) (name : List ℕ) (attrs : List Attr) (o : Origin) → weight (label_for t (new.Element name attrs o)) ≡ weight (label_for u (new.Element name attrs o))
element-weight t u name attrs o = by (is_template (tag_of name)) refl
  where
    by : (b : Bool) → is_template (tag_of name) ≡ b → weight (label_for t (new.Element name attrs o)) ≡ weight (label_for u (new.Element name attrs o))
    by true h = rw h refl
    by false h = rw h refl

pub replaced-grown : (a m n z : State) (w v : ℕ) → v ≡ w → Grown 0 0 0 0 a m → Grown 0 0 0 0 m n → Grown 2 1 0 w n z → 1 < length a.stack → Grown 2 1 0 v a z
replaced-grown a m n z w v e g h k b = record {
  nodes_least = (let x = g.nodes_least in let y = h.nodes_least in let q = k.nodes_least in omega (arith, x, y, q));
  nodes_most = (let x = g.nodes_most in let y = h.nodes_most in let q = k.nodes_most in omega (arith, x, y, q));
  open_most = (let x = g.open_most in let y = h.open_most in let q = k.open_most in omega (arith, x, y, q));
  entries_most = (let x = g.entries_most in let y = h.entries_most in let q = k.entries_most in omega (arith, x, y, q));
  held_most = (let x = g.held_most in let y = h.held_most in let q = k.held_most in omega (arith, x, y, q, e));
  open_least = (let x = g.open_least in let y = h.open_least in let q = k.open_least in omega (arith, x, y, q, b));
}
