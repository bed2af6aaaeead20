-- What stands just below a node.
use Rattle.std.proofs.Common.{◌≡◌, ◌≢◌, ℕ, ◌<◌, Bool, true, false, eqb, List, length, Option, Some, None, ◌⊎◌, inl, inr, refl, ◌∙◌, ap, arith}
use Rattle.std.proofs.lemmas.Bool.Decides.{nat_tests}
use Rattle.html_names.specs.declared.tag.Tag.{Tag}
use Rattle.html_names.specs.Foreign.{is_foreign}
use Rattle.html_names.specs.Names.{tag_of}
use Rattle.html_names.specs.Sets.{is_void as void, holds_literal_text}
use Rattle.html_arena.specs.Below.{above, above_of, hides, kids, or_self}
use Rattle.html_arena.specs.Data.{contents_in, host_in, name_in, tag_in}
use Rattle.html_arena.specs.Siblings.{has}
use Rattle.html_arena.specs.Tree.{Tree, WellFormed, children_of, label_of}
use Rattle.html_arena.specs.declared.data.NodeData.{NodeData}
use Rattle.html_arena.specs.declared.data.NodeData.TheVariants as node
use Rattle.html_arena.specs.declared.walk.Show.{Show}
use Rattle.html_arena.specs.declared.walk.Show.TheVariants.{Written}
use Rattle.html_page.specs.Html.{is_foreign_name, is_raw, is_raw_name, is_void, is_void_name}
use Rattle.html_page.specs.Label.{label_for}
use Rattle.html_page.specs.Shows.{label_at}

pub cases_bool : (b : Bool) → (b ≡ true) ⊎ (b ≡ false)
cases_bool true = inl refl
cases_bool false = inr refl

pub cases_eqb : (x y : ℕ) → ((eqb x y ≡ true) × (x ≡ y)) ⊎ ((eqb x y ≡ false) × (x ≢ y))
cases_eqb x y = grind (arith, nat_tests)

pub eqb-self : (x : ℕ) → eqb x x ≡ true
eqb-self x = grind (arith, nat_tests)

cases_option : (o : Option ℕ) → (o ≡ None) ⊎ ((x : ℕ) × (o ≡ Some x))
cases_option None = inl refl
cases_option (Some x) = inr (x, refl)

pub void_name : (g : Tag) (n : List ℕ) → g ≡ tag_of n → void g ≡ is_void_name n
unfolding is_void_name
void_name g n h = ap void h

pub foreign_name : (g : Tag) (n : List ℕ) → g ≡ tag_of n → is_foreign g ≡ is_foreign_name n
unfolding is_foreign_name
foreign_name g n h = ap is_foreign h

-- the code tells a void element, and one with raw text, by its tag
pub void_is : (d : NodeData) → tag_in d ≡ tag_of (name_in d) → void (tag_in d) ≡ is_void (label_for d)
unfolding is_void_name
void_is node.Document h = refl
void_is (node.Contents x) h = refl
void_is (node.Element e) h = ap void h
void_is (node.Text s) h = refl
void_is (node.Comment s i) h = refl
void_is (node.Doctype n p s i) h = refl

pub raw_is : (d : NodeData) → tag_in d ≡ tag_of (name_in d) → holds_literal_text (tag_in d) ≡ is_raw (label_for d)
unfolding is_raw_name
raw_is node.Document h = refl
raw_is (node.Contents x) h = refl
raw_is (node.Element e) h = ap holds_literal_text h
raw_is (node.Text s) h = refl
raw_is (node.Comment s i) h = refl
raw_is (node.Doctype n p s i) h = refl

pub hides_is : (t : Tree) → WellFormed t → (x : ℕ) → hides Written (label_of t x) ≡ is_void (label_at t x)
hides_is t w x = void_is (label_of t x) (w.tagged x)

module _ (s : Show) (t : Tree) (w : WellFormed t) where
  -- no Contents node
  abbrev pub IsLone : ℕ → Type 0
  IsLone x = host_in (label_of t x) ≡ None

  pub record IsKid (p x : ℕ) : Type 0 where
    pub inside : x < length t.labels
    pub up : above t x ≡ Some p
    pub lone : IsLone x

  shown : (p x : ℕ) → has x (kids s t p) ≡ true → has x (children_of t (or_self p (contents_in (label_of t p)))) ≡ true
  shown p x h = elim (cases_bool (hides s (label_of t p))) [
    | inl e ↦ absurd (let k : hides s (label_of t p) ≡ true = e in let b = rw k at h in cc)
    | inr e ↦ (let k : hides s (label_of t p) ≡ false = e in rw k at h)
  ]

  home_of : (p : ℕ) → IsLone p → or_self (or_self p (contents_in (label_of t p))) (host_in (label_of t (or_self p (contents_in (label_of t p))))) ≡ p
  home_of p n = elim (cases_option (contents_in (label_of t p))) [
    | inl e ↦ rw (e, n) refl
    | inr e ↦ (let k = (w.templates.contents_is p e.0 e.1).1 in rw (e.1, k) refl)
  ]

  pub kid : (p x : ℕ) → IsLone p → has x (kids s t p) ≡ true → IsKid p x
  kid p x n h =
      let q = or_self p (contents_in (label_of t p)) in
      let c = shown p x h in
      let o = w.child_has_parent q x c in
      record {
        inside = w.child_in q x c;
        up = ap (above_of t) o ∙ ap Some (home_of p n);
        lone = elim (cases_option (host_in (label_of t x))) [
          | inl e ↦ e
          | inr e ↦ absurd (let k = w.contents_alone x e.0 e.1 in cc)
        ];
      }
