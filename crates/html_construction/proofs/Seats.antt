-- Parts of tables: what follows from being one.
use Rattle.std.proofs.Common.{◌≡◌, ℕ, Bool, true, false, List, Option, Some, None, IfSome, inl, inr, refl, ◌∙◌, ap, if◌then◌else◌}
use Rattle.html_names.specs.declared.tag.Tag.{Tag}
use Rattle.html_names.specs.declared.tag.Tag.TheVariants as tag
use Rattle.html_names.specs.Groups.{is_placed}
use Rattle.html_names.specs.Tags.{is_same}
use Rattle.html_names.specs.Sets.{is_formatting}
use Rattle.html_arena.specs.Tree.{Tree as Nodes, tag_at}
use Rattle.html_open.specs.declared.entry.Entry.{Entry}
use Rattle.html_open.specs.Entries.{has_node, last_named}
use Rattle.html_open.proofs.Keeps.{cases_bool}
use Rattle.html_open.proofs.Members.{named-member}
use Rattle.html_tree.specs.Seats.{is_part}
use Rattle.html_construction.specs.Tokens.{element_tag, opens_own}
use Rattle.html_tree.specs.Proper.{is_foreign_root, opens}
use Rattle.html_construction.specs.Weights.{weight_of}

pub part-placed : (g : Tag) → is_part g ≡ true → is_placed g ≡ true
part-placed tag.Caption h = refl
part-placed tag.Colgroup h = refl
part-placed tag.Tbody h = refl
part-placed tag.Td h = refl
part-placed tag.Tfoot h = refl
part-placed tag.Th h = refl
part-placed tag.Thead h = refl
part-placed tag.Tr h = refl
part-placed _ h = absurd (let k = h in cc)

pub part-opens : (g : Tag) → is_part g ≡ true → opens_own g ≡ true
part-opens tag.Caption h = refl
part-opens tag.Colgroup h = refl
part-opens tag.Tbody h = refl
part-opens tag.Td h = refl
part-opens tag.Tfoot h = refl
part-opens tag.Th h = refl
part-opens tag.Thead h = refl
part-opens tag.Tr h = refl
part-opens _ h = absurd (let k = h in cc)

pub part-weight : (g : Tag) → is_part g ≡ true → weight_of g ≡ 4
part-weight tag.Caption h = refl
part-weight tag.Colgroup h = refl
part-weight tag.Tbody h = refl
part-weight tag.Td h = refl
part-weight tag.Tfoot h = refl
part-weight tag.Th h = refl
part-weight tag.Thead h = refl
part-weight tag.Tr h = refl
part-weight _ h = absurd (let k = h in cc)

-- an element that a tag of no part asks for is no part
pub plain-element : (g : Tag) → is_part g ≡ false → is_part (element_tag g) ≡ false
plain-element g h = elim (cases_bool (is_same g tag.Image)) [
  | inl a ↦ ap (λ (b : Bool). is_part (if b then tag.Img else g)) a
  | inr a ↦ ap (λ (b : Bool). is_part (if b then tag.Img else g)) a ∙ h
]

pub own-opens : (g : Tag) → opens_own g ≡ true → opens g ≡ true
own-opens g h = by (is_same g tag.Image) h
  where
    by : (b : Bool) → (if b then false else opens g) ≡ true → opens g ≡ true
    by true e = absurd (let k = e in cc)
    by false e = e

pub own-named : (g : Tag) → opens_own g ≡ true → is_same g tag.Image ≡ false
own-named g h = by (is_same g tag.Image) h
  where
    by : (b : Bool) → (if b then false else opens g) ≡ true → b ≡ false
    by true e = absurd (let k = e in cc)
    by false e = refl

pub part-opened : (g : Tag) → is_part g ≡ true → opens g ≡ true
part-opened g h = own-opens g (part-opens g h)

-- an element that a tag of no root of foreign content asks for is none
pub root-element : (g : Tag) → is_foreign_root g ≡ false → is_foreign_root (element_tag g) ≡ false
root-element g h = elim (cases_bool (is_same g tag.Image)) [
  | inl a ↦ ap (λ (b : Bool). is_foreign_root (if b then tag.Img else g)) a
  | inr a ↦ ap (λ (b : Bool). is_foreign_root (if b then tag.Img else g)) a ∙ h
]

-- what is listed is a formatting element
pub listed-formatting : (t u : Nodes) (g : Tag) (l : List Entry) (o : Option ℕ) → o ≡ last_named t g l → ((x : ℕ) → has_node x l ≡ true → is_formatting (tag_at t x) ≡ true) → u ≡ t
    → IfSome o (λ x. is_formatting (tag_at u x) ≡ true)
listed-formatting t u g l None e h i = tt
listed-formatting t u g l (Some x) e h i = ap (λ (v : Nodes). is_formatting (tag_at v x)) i ∙ h x (named-member t g l (Some x) e)
