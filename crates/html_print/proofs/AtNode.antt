-- What is printed of one node.
use Rattle.std.proofs.Common.{◌≡◌, ◌⊎◌, inl, inr, ℕ, ◌+◌, ◌≤◌, ◌<◌, max, Bool, true, false, cond, List, [], ◌∷◌, ◌++◌, length, refl, sym, ap, ◌∙◌, subst, arith}
use Rattle.std.specs.Prelude.{codes, is_some, Option, Some, None}
use Rattle.std.specs.Str.{encode_utf8_all}
use Rattle.std.proofs.lemmas.Str.{encodes-append}
use Rattle.std.specs.List.{flat_map}
use Rattle.std.specs.List.Sorted.{SwapsInRange, apply_swaps}
use Rattle.std.proofs.lemmas.List.{get_or_past}
use Rattle.std.proofs.lemmas.Bool.Decides.{nat_tests}
use Rattle.html_tokens.specs.declared.attributes.Attr.{Attr}
use Rattle.html_names.specs.Names.{tag_of}
use Rattle.html_names.specs.Foreign.{is_foreign as is_foreign_tag}
use Rattle.html_names.specs.Sets.{is_template}
use Rattle.html_arena.specs.Data.{attrs_in, contents_in, name_in, tag_in}
use Rattle.html_arena.specs.Tree.{Tree, WellFormed, label_of}
use Rattle.html_arena.specs.declared.data.NodeData.{NodeData}
use Rattle.html_arena.specs.declared.data.NodeData.TheVariants as node
use Rattle.html_page.specs.Html.{is_foreign_name}
use Rattle.html_page.specs.Label.{Label, label_for}
use Rattle.html_page.specs.Label.Label.{document, doctype, element, text, comment}
use Rattle.html_page.specs.Shows.{label_at}
use Rattle.html_print.specs.Arranged.{IsOrdered}
use Rattle.html_print.specs.Lines.{has_contents, is_foreign, is_template_name, levels, line, lines_at, shown, shown_attribute}
use Rattle.html_print.specs.Order.{IsInOrder}
use Rattle.html_print.proofs.Sorting.{in_order}

template_is : (d : NodeData) → tag_in d ≡ tag_of (name_in d) → is_template (tag_in d) ≡ has_contents (label_for d)
unfolding is_template_name
template_is node.Document h = refl
template_is (node.Contents x) h = refl
template_is (node.Element e) h = ap is_template h
template_is (node.Text s) h = refl
template_is (node.Comment s i) h = refl
template_is (node.Doctype n p s i) h = refl

foreign_is : (d : NodeData) → tag_in d ≡ tag_of (name_in d) → is_foreign_tag (tag_in d) ≡ is_foreign (label_for d)
unfolding is_foreign_name
foreign_is node.Document h = refl
foreign_is (node.Contents x) h = refl
foreign_is (node.Element e) h = ap is_foreign_tag h
foreign_is (node.Text s) h = refl
foreign_is (node.Comment s i) h = refl
foreign_is (node.Doctype n p s i) h = refl

pub foreign_at : (t : Tree) → WellFormed t → (x : ℕ) → is_foreign_tag (tag_in (label_of t x)) ≡ is_foreign (label_at t x)
foreign_at t w x = foreign_is (label_of t x) (w.tagged x)

module _ (t : Tree) (w : WellFormed t) (x : ℕ) where
  contents_is : is_some (contents_in (label_of t x)) ≡ has_contents (label_at t x)
  contents_is = w.templates.hosts x ∙ template_is (label_of t x) (w.tagged x)

  pub with_contents : (o : Option ℕ) (c : ℕ) → o ≡ contents_in (label_of t x) → o ≡ Some c → has_contents (label_at t x) ≡ true
  with_contents o c e h = sym contents_is ∙ ap is_some (sym e ∙ h)

  pub without_contents : (o : Option ℕ) → o ≡ contents_in (label_of t x) → o ≡ None → has_contents (label_at t x) ≡ false
  without_contents o e h = sym contents_is ∙ ap is_some (sym e ∙ h)

abbrev levels_if : Bool → ℕ
levels_if b = cond b 2 1

pub two_levels : (l : Label) → has_contents l ≡ true → 2 ≡ levels l
two_levels l h = ap levels_if (sym h)

pub one_level : (l : Label) → has_contents l ≡ false → 1 ≡ levels l
one_level l h = ap levels_if (sym h)

few : (b : Bool) → levels_if b ≤ 2
few true = omega arith
few false = omega arith

pub few_levels : (l : Label) → levels l ≤ 2
few_levels l = few (has_contents l)

nothing_in_order : (f : Bool) (xs : List Attr) → IsInOrder f [] xs → xs ≡ []
nothing_in_order f xs o = go o.same.moves o.same.below o.same.is
  where
    go : (ms : List (ℕ × ℕ)) → SwapsInRange 0 ms → xs ≡ apply_swaps [] ms → xs ≡ []
    go [] b e = e
    go (m ∷ ms) b e = absurd (let k : m.0 < 0 = b.0 in omega arith)

abbrev lines_with : ℕ → Label → List Attr → List ℕ
lines_with depth l attrs =
    line depth (shown l) ++ (flat_map (λ a. line (depth + 1) (shown_attribute (is_foreign l) a)) attrs ++ cond (has_contents l) (line (depth + 1) (codes "content")) [])

cases_less : (x n : ℕ) → (x < n) ⊎ (n ≤ x)
cases_less x n = grind (arith, nat_tests)

-- a number past the last node has no attributes
pub each_node : (t : Tree) (most : ℕ) → ((k : ℕ) → k < length t.labels → length (attrs_in (label_of t k)) ≤ most) → (x : ℕ) → length (attrs_in (label_of t x)) ≤ most
each_node t most h x = elim (cases_less x (length t.labels)) [
  | inl l ↦ h x l
  | inr g ↦ (let e : label_of t x ≡ node.Document = get_or_past t.labels x node.Document g in let z : length (attrs_in (label_of t x)) ≡ 0 = ap (λ d. length (attrs_in d)) e in omega arith)
]

pub one_more_node : (t : Tree) (i most n new : ℕ) → ((k : ℕ) → k < i → length (attrs_in (label_of t k)) ≤ most) → n ≡ length (attrs_in (label_of t i)) → new ≡ max most n
    → (k : ℕ) → k < i + 1 → length (attrs_in (label_of t k)) ≤ new
one_more_node t i most n new h e m k l = elim (cases_less k i) [
  | inl b ↦ (let a = h k b in let d : length (attrs_in (label_of t k)) ≤ new = omega arith in d)
  | inr g ↦ (let same : i ≡ k = omega arith in let a : n ≡ length (attrs_in (label_of t k)) = subst (λ (j : ℕ). n ≡ length (attrs_in (label_of t j))) same e in let d : length (attrs_in (label_of t k)) ≤ new = omega arith in d)
]

-- a node with its attributes in this order
pub at_node : (d : NodeData) (xs : List Attr) → IsInOrder (is_foreign (label_for d)) (attrs_in d) xs → (l : Label) × (IsOrdered (label_for d) l × ((depth : ℕ) → lines_at depth l ≡ lines_with depth (label_for d) xs))
at_node node.Document xs o = (document, (refl, λ depth. ap (lines_with depth document) (sym (nothing_in_order false xs o))))
at_node (node.Contents h) xs o = (document, (refl, λ depth. ap (lines_with depth document) (sym (nothing_in_order false xs o))))
at_node (node.Element e) xs o = (element e.name xs, ((xs, o, refl), λ depth. refl))
at_node (node.Text s) xs o = (text s, (refl, λ depth. ap (lines_with depth (text s)) (sym (nothing_in_order false xs o))))
at_node (node.Comment s i) xs o = (comment s, (refl, λ depth. ap (lines_with depth (comment s)) (sym (nothing_in_order false xs o))))
at_node (node.Doctype n p s i) xs o = (doctype n p s, (refl, λ depth. ap (lines_with depth (doctype n p s)) (sym (nothing_in_order false xs o))))

pub some_label : (l : Label) → (m : Label) × IsOrdered l m
some_label document = (document, refl)
some_label (doctype n p s) = (doctype n p s, refl)
some_label (element n attrs) = let (xs, o) = in_order (is_foreign_name n) attrs in (element n xs, (xs, o, refl))
some_label (text s) = (text s, refl)
some_label (comment s) = (comment s, refl)

pub ordered_levels : (l m : Label) → IsOrdered l m → levels m ≡ levels l
ordered_levels document m h = ap levels h
ordered_levels (doctype n p s) m h = ap levels h
ordered_levels (element n attrs) m (xs, o, e) = ap levels e
ordered_levels (text s) m h = ap levels h
ordered_levels (comment s) m h = ap levels h

-- the bytes of a node's lines are those of its parts
abbrev pub own_part : ℕ → Label → List ℕ
own_part depth l = encode_utf8_all (line depth (shown l))

abbrev pub attribute_part : ℕ → Bool → List Attr → List ℕ
attribute_part depth foreign attrs = encode_utf8_all (flat_map (λ a. line depth (shown_attribute foreign a)) attrs)

abbrev pub contents_part : ℕ → Label → List ℕ
contents_part depth l = encode_utf8_all (cond (has_contents l) (line depth (codes "content")) [])

pub node_bytes : (depth : ℕ) (m l : Label) (foreign : Bool) (attrs : List Attr) → foreign ≡ is_foreign l → lines_at depth m ≡ lines_with depth l attrs
    → encode_utf8_all (lines_at depth m) ≡ own_part depth l ++ (attribute_part (depth + 1) foreign attrs ++ contents_part (depth + 1) l)
node_bytes depth m l foreign attrs f e =
    ap encode_utf8_all e
    ∙ encodes-append (line depth (shown l)) (flat_map (λ a. line (depth + 1) (shown_attribute (is_foreign l) a)) attrs ++ cond (has_contents l) (line (depth + 1) (codes "content")) [])
    ∙ ap (λ z. own_part depth l ++ z) (encodes-append (flat_map (λ a. line (depth + 1) (shown_attribute (is_foreign l) a)) attrs) (cond (has_contents l) (line (depth + 1) (codes "content")) []))
    ∙ ap (λ b. own_part depth l ++ (attribute_part (depth + 1) b attrs ++ contents_part (depth + 1) l)) (sym f)
