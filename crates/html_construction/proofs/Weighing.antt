-- What open elements count.
use Rattle.std.proofs.Common.{ℕ, zero, suc, ◌≡◌, ◌+◌, ◌≤◌, true, List, [], ◌∷◌, drop, refl, sym, ap, subst, ◌∙◌, arith}
use Rattle.std.specs.List.{sum_by}
use Rattle.std.specs.Prelude.{Option, None, Some, slice_get}
use Rattle.std.proofs.lemmas.Bool.{false≢true}
use Rattle.std.proofs.lemmas.Bool.Decides.{Decides-eqb}
use Rattle.std.proofs.lemmas.List.Sums.{sum_by-cons}
use Rattle.html_names.specs.declared.tag.Tag.{Tag}
use Rattle.html_names.specs.declared.tag.Tag.TheVariants as tag
use Rattle.html_names.specs.Sets.{is_formatting, is_heading, is_section, is_cell}
use Rattle.html_names.specs.Groups.{is_definition}
use Rattle.html_names.specs.Tags.{is_same, number}
use Rattle.html_tree.specs.declared.groups.Group.{Group}
use Rattle.html_tree.specs.declared.groups.Group.TheVariants as group
use Rattle.html_tree.specs.Groups.{in_group}
use Rattle.html_names.proofs.Numbers.{number_injective}
use Rattle.html_construction.specs.Weights.{group_weight, weight, weight_of}

pub weight-sum : (s : List Tag) → weight s ≡ sum_by weight_of s
weight-sum [] = refl
weight-sum (t ∷ s) = ap (λ n. weight_of t + n) (weight-sum s) ∙ sym (sum_by-cons weight_of t s)

-- formatting elements count nothing
pub weight_of-formatting : (t : Tag) → is_formatting t ≡ true → weight_of t ≡ 0
weight_of-formatting t e = rw e refl

-- sums that are no greater
pub weight-le : (s r : List Tag) → sum_by weight_of r ≤ sum_by weight_of s → weight r ≤ weight s
weight-le s r h = rw (weight-sum s, weight-sum r) h

pub weight-less : (s r : List Tag) (m : ℕ) → sum_by weight_of r + m ≤ sum_by weight_of s → weight r + m ≤ weight s
weight-less s r m h = rw (weight-sum s, weight-sum r) h

pub weight-drop : (k : ℕ) (s : List Tag) → weight (drop k s) ≤ weight s
weight-drop zero s = omega arith
weight-drop (suc k) [] = omega arith
weight-drop (suc k) (t ∷ s) = omega (arith, weight-drop k s)

pub same-tag : (g h : Tag) → is_same g h ≡ true → g ≡ h
same-tag g h e = number_injective g h ((Decides-eqb (number g) (number h)).0 e)

same-name : (g h : Tag) → is_same h g ≡ true → weight_of g ≤ weight_of h
same-name g h e = subst (λ t. weight_of g ≤ weight_of t) (sym (same-tag h g e)) (omega arith)

heading-weighs : (h : Tag) → is_heading h ≡ true → 4 ≤ weight_of h
heading-weighs tag.H1 e = omega arith
heading-weighs tag.H2 e = omega arith
heading-weighs tag.H3 e = omega arith
heading-weighs tag.H4 e = omega arith
heading-weighs tag.H5 e = omega arith
heading-weighs tag.H6 e = omega arith
heading-weighs _ e = absurd (false≢true e)

section-weighs : (h : Tag) → is_section h ≡ true → 4 ≤ weight_of h
section-weighs tag.Tbody e = omega arith
section-weighs tag.Tfoot e = omega arith
section-weighs tag.Thead e = omega arith
section-weighs _ e = absurd (false≢true e)

cell-weighs : (h : Tag) → is_cell h ≡ true → 4 ≤ weight_of h
cell-weighs tag.Td e = omega arith
cell-weighs tag.Th e = omega arith
cell-weighs _ e = absurd (false≢true e)

definition-weighs : (h : Tag) → is_definition h ≡ true → 4 ≤ weight_of h
definition-weighs tag.Dd e = omega arith
definition-weighs tag.Dt e = omega arith
definition-weighs _ e = absurd (false≢true e)

-- each element of a group counts what the group says at least
pub group-weighs : (g : Group) (h : Tag) → in_group g h ≡ true → group_weight g ≤ weight_of h
group-weighs (group.Named n) h e = same-name n h e
group-weighs group.Heading h e = heading-weighs h e
group-weighs group.Section h e = section-weighs h e
group-weighs group.Cell h e = cell-weighs h e
group-weighs group.Definition h e = definition-weighs h e

abbrev tag_or : Option Tag → Tag
tag_or None = tag.Other
tag_or (Some t) = t

some-same : (t h : Tag) → Some t ≡ Some h → t ≡ h
some-same t h i = ap tag_or i

-- what stays where the first of a list goes
pub first-weighs : (g : Group) (h : Tag) (s : List Tag) → in_group g h ≡ true → slice_get s 0 ≡ Some h → weight (drop 1 s) + group_weight g ≤ weight s
first-weighs g h [] e i = absurd cc
first-weighs g h (t ∷ s) e i = let q : t ≡ h = some-same t h i in omega (arith, subst (λ x. group_weight g ≤ weight_of x) (sym q) (group-weighs g h e))
