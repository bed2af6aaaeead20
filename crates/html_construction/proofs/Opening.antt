-- An element of foreign content is opened as others are: it is not void, and has not the name of a root of foreign content, which is an HTML name.
use Rattle.std.proofs.Common.{◌≡◌, List, ℕ, false, true, refl, ◌∙◌, ap}
use Rattle.std.specs.Prelude.{unwrap_or}
use Rattle.html_names.specs.declared.tag.Tag.{Tag}
use Rattle.html_names.specs.declared.tag.Tag.TheVariants as tag
use Rattle.html_names.specs.declared.foreign.Space.{Space}
use Rattle.html_names.specs.Foreign.{adjusted_name, is_html_space, space_of}
use Rattle.html_names.specs.Names.{tag_of}
use Rattle.html_names.proofs.Spaces.{space-of_prefixed}
use Rattle.html_tree.specs.Proper.{is_foreign_root, opens}
use Rattle.html_construction.specs.Tokens.{foreign_name}

space-opens : (g : Tag) → is_html_space (space_of g) ≡ false → opens g ≡ true
space-opens tag.SvgDesc h = refl
space-opens tag.SvgForeignObject h = refl
space-opens tag.SvgTitle h = refl
space-opens tag.SvgOther h = refl
space-opens tag.MathAnnotationXml h = refl
space-opens tag.MathMi h = refl
space-opens tag.MathMn h = refl
space-opens tag.MathMo h = refl
space-opens tag.MathMs h = refl
space-opens tag.MathMtext h = refl
space-opens tag.MathOther h = refl
space-opens _ h = absurd cc

space-root : (g : Tag) → is_html_space (space_of g) ≡ false → is_foreign_root g ≡ false
space-root tag.Svg h = absurd cc
space-root tag.Math h = absurd cc
space-root _ h = refl

foreign-space : (s : Space) (own name : List ℕ) → is_html_space s ≡ false → name ≡ foreign_name s own → is_html_space (space_of (tag_of name)) ≡ false
foreign-space s own name o e = ap (λ n. is_html_space (space_of (tag_of n))) e ∙ ap is_html_space (space-of_prefixed s (unwrap_or (adjusted_name s own) own) o) ∙ o

pub foreign-opens : (s : Space) (own name : List ℕ) → is_html_space s ≡ false → name ≡ foreign_name s own → opens (tag_of name) ≡ true
foreign-opens s own name o e = space-opens (tag_of name) (foreign-space s own name o e)

pub foreign-root : (s : Space) (own name : List ℕ) → is_html_space s ≡ false → name ≡ foreign_name s own → is_foreign_root (tag_of name) ≡ false
foreign-root s own name o e = space-root (tag_of name) (foreign-space s own name o e)
