-- What is written for a forest is no more than its nodes cost, and no node stands in it twice.
use Rattle.std.proofs.Common.{◌≡◌, ◌≢◌, ℕ, zero, suc, ◌+◌, ◌*◌, ◌<◌, ◌≤◌, Bool, true, false, cond, eqb, List, [], ◌∷◌, ◌++◌, take, get_or, length, Option, Some, None, inl, inr, refl, sym, ◌∙◌, ap, arith, add-one}
use Rattle.std.specs.Prelude.{codes, drop, ◌==◌, if◌then◌else◌}
use Rattle.std.specs.List.{AllByRecursion, flat_map, sum_by}
use Rattle.std.proofs.lemmas.Bool.Decides.{nat_tests}
use Rattle.std.proofs.lemmas.List.{length-append, length-drop}
use Rattle.html_names.specs.Names.{begins_with, math_prefix, svg_prefix}
use Rattle.std.proofs.lemmas.List.Sums.{sum_by-append, sum_by-cons, sum_by_more}
use Rattle.std.proofs.Math.Seq.{take-length}
use Rattle.html_tokens.specs.declared.attributes.Attr.{Attr}
use Rattle.html_arena.specs.Below.{below}
use Rattle.html_arena.specs.Data.{attrs_in}
use Rattle.html_arena.specs.Forest.{Forest, labels, relabel}
use Rattle.html_arena.specs.Forest.Forest.{empty, tree}
use Rattle.html_arena.specs.Siblings.{Distinct, has}
use Rattle.html_arena.specs.Tree.{Tree, label_of}
use Rattle.html_arena.specs.Weight.{attr_weight, attrs_weight, optional_weight, weight}
use Rattle.html_arena.specs.declared.data.NodeData.{NodeData}
use Rattle.html_arena.specs.declared.data.NodeData.TheVariants as node
use Rattle.html_arena.specs.declared.walk.Show.TheVariants.{All}
use Rattle.html_page.specs.declared.profile.Profile.{Profile}
use Rattle.html_page.specs.declared.profile.Profile.TheVariants.{One, Two}
use Rattle.html_page.specs.Html.{attribute, attribute_name, closing, end_tag, escaped_in_text, escaped_in_value, html_of, is_foreign_name, is_raw, is_void, is_void_name, opening, qualified, start_tag, text_or_empty, written_name}
use Rattle.html_page.specs.Label.{label_for}
use Rattle.html_page.specs.Serialised.{HasNames, IsNamed, html_below, most_written}
use Rattle.html_page.specs.Shows.{label_at}
use Rattle.html_page.proofs.Kin.{cases_bool, cases_eqb, eqb-self}

-- at most so much is written for a node
abbrev cost : NodeData → ℕ
cost d = 12 * weight d + 16

eqb-apart : (x y : ℕ) → x ≢ y → eqb x y ≡ false
eqb-apart x y h = grind (arith, nat_tests)

has-tail : (x y : ℕ) (ys : List ℕ) → has x (y ∷ ys) ≡ false → (eqb x y ≡ false) × (has x ys ≡ false)
has-tail x y ys h = elim (cases_eqb x y) [ inl e ↦ let t : eqb x y ≡ true = e.0 in absurd (grind arith) | inr e ↦ let t : eqb x y ≡ false = e.0 in (t, rw t at h) ]

choice : (b : Bool) (xs ys : List ℕ) → length xs ≤ 6 → length ys ≤ 6 → length (cond b xs ys) ≤ 6
choice true xs ys h k = h
choice false xs ys h k = k

in_text_6 : (c : ℕ) → length (escaped_in_text c) ≤ 6
unfolding escaped_in_text
in_text_6 c = choice (c == 38) (codes "&amp;") _ (omega arith) (choice (c == 160) (codes "&nbsp;") _ (omega arith) (choice (c == 60) (codes "&lt;") _ (omega arith) (choice (c == 62) (codes "&gt;") (c ∷ []) (omega arith) (omega arith))))

in_value_6 : (p : Profile) (c : ℕ) → length (escaped_in_value p c) ≤ 6
unfolding escaped_in_value
in_value_6 One c = choice (c == 38) (codes "&amp;") _ (omega arith) (choice (c == 160) (codes "&nbsp;") _ (omega arith) (choice (c == 34) (codes "&quot;") (c ∷ []) (omega arith) (omega arith)))
in_value_6 Two c =
    choice (c == 38) (codes "&amp;") _ (omega arith)
    (choice (c == 160) (codes "&nbsp;") _ (omega arith) (choice (c == 34) (codes "&quot;") _ (omega arith) (choice (c == 60) (codes "&lt;") _ (omega arith) (choice (c == 62) (codes "&gt;") (c ∷ []) (omega arith) (omega arith)))))

six_each : (f : ℕ → List ℕ) → ((c : ℕ) → length (f c) ≤ 6) → (s : List ℕ) → length (flat_map f s) ≤ 6 * length s
six_each f h [] = omega arith
six_each f h (c ∷ s) = let a = h c in let b = six_each f h s in let l = length-append (f c) (flat_map f s) in omega arith

qualified_size : (n : List ℕ) → length (qualified n) ≡ length n
unfolding qualified
qualified_size [] = refl
qualified_size (c ∷ cs) = elim (cases_bool (c == 32)) [
  | inl e ↦ rw e refl
  | inr e ↦ rw (e, qualified_size cs) refl
]

attribute_name_size : (f : Bool) (n : List ℕ) → length (attribute_name f n) ≡ length n
attribute_name_size true n = qualified_size n
attribute_name_size false n = refl

less_by : (k : ℕ) (n : List ℕ) → length (drop k n) ≤ length n
less_by k n = rw length-drop (omega arith)

either_size : (b : Bool) (k : ℕ) (n other : List ℕ) → length other ≤ length n → length (if b then drop k n else other) ≤ length n
either_size true k n other h = less_by k n
either_size false k n other h = h

written_name_size : (f : Bool) (n : List ℕ) → length (written_name f n) ≤ length n
written_name_size true n = either_size (begins_with svg_prefix n) 4 n _ (either_size (begins_with math_prefix n) 5 n n (omega arith))
written_name_size false n = omega arith

attribute_size : (p : Profile) (f : Bool) (a : Attr) → 0 < length a.name → length (attribute p f a) ≤ 12 * attr_weight a
attribute_size p f a h =
    let k = attribute_name_size f a.name in
    let v = six_each (escaped_in_value p) (in_value_6 p) a.value in
    let l = length-append (attribute_name f a.name) (codes "=\"" ++ (flat_map (escaped_in_value p) a.value ++ codes "\"")) in
    let m = length-append (flat_map (escaped_in_value p) a.value) (codes "\"") in
    omega arith

one_sum : (a : Attr) → sum_by attr_weight (a ∷ []) ≡ attr_weight a
one_sum a = sum_by-cons attr_weight a [] ∙ omega arith

attributes_size : (p : Profile) (f : Bool) (attrs : List Attr) → AllByRecursion IsNamed attrs → length (flat_map (attribute p f) attrs) ≤ 12 * attrs_weight attrs
attributes_size p f [] h = omega arith
attributes_size p f (a ∷ attrs) h =
    let x = attribute_size p f a h.0 in
    let y = attributes_size p f attrs h.1 in
    let l = length-append (attribute p f a) (flat_map (attribute p f) attrs) in
    let w : attrs_weight (a ∷ attrs) ≡ attr_weight a + attrs_weight attrs = sum_by-append attr_weight (a ∷ []) attrs ∙ ap (λ v. v + attrs_weight attrs) (one_sum a) in
    let z : length (flat_map (attribute p f) (a ∷ attrs)) ≡ length (attribute p f a) + length (flat_map (attribute p f) attrs) = l in
    omega (arith, w, z)

start_size : (p : Profile) (n : List ℕ) (attrs : List Attr) → AllByRecursion IsNamed attrs → length (start_tag p n attrs) ≤ length n + 12 * attrs_weight attrs + 2
start_size p n attrs h =
    let f = is_foreign_name n in
    let x = attributes_size p f attrs h in
    let k = written_name_size f n in
    let l = length-append (written_name f n) (flat_map (attribute p f) attrs ++ codes ">") in
    let m = length-append (flat_map (attribute p f) attrs) (codes ">") in
    omega arith

end_size : (n : List ℕ) (b : Bool) → length (cond b [] (end_tag n)) ≤ length n + 3
end_size n true = omega arith
end_size n false = let k = written_name_size (is_foreign_name n) n in let l = length-append (written_name (is_foreign_name n) n) (codes ">") in omega arith

name_size : (n : Option (List ℕ)) → length (text_or_empty n) ≤ optional_weight n
name_size None = omega arith
name_size (Some s) = omega arith

-- what is written for one node
node_size : (p : Profile) (b : Bool) (d : NodeData) → AllByRecursion IsNamed (attrs_in d) → length (opening p b (label_for d)) + length (closing (label_for d)) ≤ cost d
node_size p b node.Document h = omega arith
node_size p b (node.Contents x) h = omega arith
node_size p b (node.Element e) h = let x = start_size p e.name e.attrs h in let y = end_size e.name (is_void_name e.name) in omega arith
node_size p true (node.Text s) h = omega arith
node_size p false (node.Text s) h = let x = six_each escaped_in_text in_text_6 s in omega arith
node_size p b (node.Comment s i) h = let l = length-append s (codes "-->") in omega arith
node_size p b (node.Doctype n pu sy i) h = let x = name_size n in let l = length-append (text_or_empty n) (codes ">") in omega arith

-- the sum over some nodes
abbrev pub sum_over : List ℕ → (ℕ → ℕ) → ℕ
sum_over [] g = 0
sum_over (x ∷ xs) g = g x + sum_over xs g

sum_over-append : (xs ys : List ℕ) (g : ℕ → ℕ) → sum_over (xs ++ ys) g ≡ sum_over xs g + sum_over ys g
sum_over-append [] ys g = omega arith
sum_over-append (x ∷ xs) ys g = let r = sum_over-append xs ys g in omega arith

hidden_size : (v : Bool) (xs : List ℕ) → length (cond v [] xs) ≤ length xs
hidden_size true xs = omega arith
hidden_size false xs = omega arith

pub forest_size : (p : Profile) (t : Tree) → HasNames t → (b : Bool) (f : Forest ℕ) → length (html_of p b (relabel (label_at t) f)) ≤ sum_over (labels f) (λ x. cost (label_of t x))
forest_size p t a b empty = omega arith
forest_size p t a b (tree x f g) =
    let n = node_size p b (label_of t x) (a x) in
    let i = forest_size p t a (is_raw (label_at t x)) f in
    let j = forest_size p t a b g in
    let s = sum_over-append (labels f) (labels g) (λ y. cost (label_of t y)) in
    let v = hidden_size (is_void (label_at t x)) (html_of p (is_raw (label_at t x)) (relabel (label_at t) f)) in
    let below = cond (is_void (label_at t x)) [] (html_of p (is_raw (label_at t x)) (relabel (label_at t) f)) in
    let after = html_of p b (relabel (label_at t) g) in
    let l = length-append (opening p b (label_at t x)) (below ++ (closing (label_at t x) ++ after)) in
    let m = length-append below (closing (label_at t x) ++ after) in
    let k = length-append (closing (label_at t x)) after in
    omega arith

-- sums over numbers below n
abbrev total : ℕ → (ℕ → ℕ) → ℕ
total zero g = 0
total (suc n) g = total n g + g n

abbrev except : (ℕ → ℕ) → ℕ → ℕ → ℕ
except g y i = cond (eqb i y) 0 (g i)

total_far : (n y : ℕ) (g : ℕ → ℕ) → n ≤ y → total n (except g y) ≡ total n g
total_far zero y g h = refl
total_far (suc n) y g h =
    let d : n ≢ y = λ e. absurd (omega arith) in
    let q : eqb n y ≡ false = eqb-apart n y d in
    let i = total_far n y g (omega arith) in
    rw (q, i) refl

total_split : (n y : ℕ) (g : ℕ → ℕ) → y < n → total n g ≡ g y + total n (except g y)
total_split zero y g h = absurd (omega arith)
total_split (suc n) y g h = elim (cases_eqb n y) [
  | inl k ↦
      let q : eqb n y ≡ true = k.0 in
      let e = k.1 in
      let i = total_far n y g (omega arith) in
      let j : g n ≡ g y = ap g e in
      rw (q, i) (omega arith)
  | inr k ↦
      let q : eqb n y ≡ false = k.0 in
      let d = k.1 in
      let b : y < n = (let o : (n ≡ y → ⊥) = d in grind arith) in
      let i = total_split n y g b in
      rw q (omega arith)
]

sum_except : (ys : List ℕ) (y : ℕ) (g : ℕ → ℕ) → has y ys ≡ false → sum_over ys (except g y) ≡ sum_over ys g
sum_except [] y g h = refl
sum_except (z ∷ ys) y g h =
    let k = has-tail y z ys h in
    let d : z ≢ y = λ e. (let a = k.0 in let b = eqb-self y in let c = ap (λ v. eqb y v) e in cc) in
    let q : eqb z y ≡ false = eqb-apart z y d in
    rw (q, sum_except ys y g k.1) refl

sum_over-le : (ys : List ℕ) (n : ℕ) (g : ℕ → ℕ) → Distinct ys → ((x : ℕ) → has x ys ≡ true → x < n) → sum_over ys g ≤ total n g
sum_over-le [] n g d h = omega arith
sum_over-le (y ∷ ys) n g d h =
    let i = sum_over-le ys n (except g y) d.1 (λ x k. h x (elim (cases_eqb x y) [ inl e ↦ rw e.0 refl | inr e ↦ rw e.0 k ])) in
    let j = sum_except ys y g d.0 in
    let k = total_split n y g (h y (rw (eqb-self y) refl)) in
    omega arith

total_cost : (ds : List NodeData) (n : ℕ) → n ≤ length ds → total n (λ x. cost (get_or ds x node.Document)) ≡ 12 * sum_by weight (take n ds) + 16 * n
total_cost ds zero h = omega arith
total_cost ds (suc n) h =
    let i = total_cost ds n (omega arith) in
    let m = sum_by_more weight ds n node.Document (omega arith) in
    let e : sum_by weight (take (suc n) ds) ≡ sum_by weight (take (n + 1) ds) = ap (λ v. sum_by weight (take v ds)) (sym (add-one n)) in
    omega arith

-- no more is written for all below a root than this
pub html_size : (p : Profile) (t : Tree) (r : ℕ) → Distinct (labels (below All t r)) → ((x : ℕ) → has x (labels (below All t r)) ≡ true → x < length t.labels) → HasNames t
    → length (html_below p t r) ≤ most_written t
html_size p t r d i a =
    let f = below All t r in
    let n = length t.labels in
    let s = sum_over-le (labels f) n (λ x. cost (label_of t x)) d i in
    let q = total_cost t.labels n (omega arith) in
    let z = ap (sum_by weight) (take-length t.labels) in
    let b = forest_size p t a (is_raw (label_at t r)) f in
    let v = hidden_size (is_void (label_at t r)) (html_of p (is_raw (label_at t r)) (relabel (label_at t) f)) in
    omega arith
