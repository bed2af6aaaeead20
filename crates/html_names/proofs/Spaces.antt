-- An element whose name begins as those of a namespace is one of that namespace.
use Rattle.std.proofs.Common.{◌≡◌, ℕ, Bool, true, false, List, [], ◌∷◌, ◌++◌, inl, inr, refl, sym, ◌∙◌, ap, subst, if◌then◌else◌}
use Rattle.html_names.specs.declared.tag.Tag.{Tag}
use Rattle.html_names.specs.declared.tag.Tag.TheVariants as tag
use Rattle.html_names.specs.declared.foreign.Space.{Space}
use Rattle.html_names.specs.declared.foreign.Space.TheVariants as space
use Rattle.html_names.specs.Foreign.{is_html_space, prefix_of, space_of}
use Rattle.html_names.specs.Names.{begins_with, is_known, known_tag, math_prefix, name_of, svg_prefix, tag_of, unknown_tag}
use Rattle.html_names.proofs.Begins.{begins}
use Rattle.html_names.proofs.Cases.{cases_bool}
use Rattle.html_names.proofs.Known.{known_tag-known, of_known, of_unknown}

apart : {X : Type 0} → true ≡ false → X
apart e = absurd cc

-- a known name that begins so is one of SVG
svg-named : (t : Tag) → begins_with svg_prefix (name_of t) ≡ true → space_of t ≡ space.Svg
svg-named tag.A e = absurd cc
svg-named tag.Address e = absurd cc
svg-named tag.Applet e = absurd cc
svg-named tag.Area e = absurd cc
svg-named tag.Article e = absurd cc
svg-named tag.Aside e = absurd cc
svg-named tag.B e = absurd cc
svg-named tag.Base e = absurd cc
svg-named tag.Basefont e = absurd cc
svg-named tag.Bgsound e = absurd cc
svg-named tag.Big e = absurd cc
svg-named tag.Blockquote e = absurd cc
svg-named tag.Body e = absurd cc
svg-named tag.Br e = absurd cc
svg-named tag.Button e = absurd cc
svg-named tag.Caption e = absurd cc
svg-named tag.Center e = absurd cc
svg-named tag.Code e = absurd cc
svg-named tag.Col e = absurd cc
svg-named tag.Colgroup e = absurd cc
svg-named tag.Dd e = absurd cc
svg-named tag.Details e = absurd cc
svg-named tag.Dialog e = absurd cc
svg-named tag.Dir e = absurd cc
svg-named tag.Div e = absurd cc
svg-named tag.Dl e = absurd cc
svg-named tag.Dt e = absurd cc
svg-named tag.Em e = absurd cc
svg-named tag.Embed e = absurd cc
svg-named tag.Fieldset e = absurd cc
svg-named tag.Figcaption e = absurd cc
svg-named tag.Figure e = absurd cc
svg-named tag.Font e = absurd cc
svg-named tag.Footer e = absurd cc
svg-named tag.Form e = absurd cc
svg-named tag.Frame e = absurd cc
svg-named tag.Frameset e = absurd cc
svg-named tag.H1 e = absurd cc
svg-named tag.H2 e = absurd cc
svg-named tag.H3 e = absurd cc
svg-named tag.H4 e = absurd cc
svg-named tag.H5 e = absurd cc
svg-named tag.H6 e = absurd cc
svg-named tag.Head e = absurd cc
svg-named tag.Header e = absurd cc
svg-named tag.Hgroup e = absurd cc
svg-named tag.Hr e = absurd cc
svg-named tag.Html e = absurd cc
svg-named tag.I e = absurd cc
svg-named tag.Iframe e = absurd cc
svg-named tag.Image e = absurd cc
svg-named tag.Img e = absurd cc
svg-named tag.Input e = absurd cc
svg-named tag.Keygen e = absurd cc
svg-named tag.Li e = absurd cc
svg-named tag.Link e = absurd cc
svg-named tag.Listing e = absurd cc
svg-named tag.Main e = absurd cc
svg-named tag.Marquee e = absurd cc
svg-named tag.Math e = absurd cc
svg-named tag.Menu e = absurd cc
svg-named tag.Meta e = absurd cc
svg-named tag.Nav e = absurd cc
svg-named tag.Nobr e = absurd cc
svg-named tag.Noembed e = absurd cc
svg-named tag.Noframes e = absurd cc
svg-named tag.Noscript e = absurd cc
svg-named tag.Object e = absurd cc
svg-named tag.Ol e = absurd cc
svg-named tag.Optgroup e = absurd cc
svg-named tag.Option e = absurd cc
svg-named tag.P e = absurd cc
svg-named tag.Param e = absurd cc
svg-named tag.Plaintext e = absurd cc
svg-named tag.Pre e = absurd cc
svg-named tag.Rb e = absurd cc
svg-named tag.Rp e = absurd cc
svg-named tag.Rt e = absurd cc
svg-named tag.Rtc e = absurd cc
svg-named tag.Ruby e = absurd cc
svg-named tag.S e = absurd cc
svg-named tag.Script e = absurd cc
svg-named tag.Search e = absurd cc
svg-named tag.Section e = absurd cc
svg-named tag.Select e = absurd cc
svg-named tag.Small e = absurd cc
svg-named tag.Source e = absurd cc
svg-named tag.Strike e = absurd cc
svg-named tag.Strong e = absurd cc
svg-named tag.Style e = absurd cc
svg-named tag.Summary e = absurd cc
svg-named tag.Svg e = absurd cc
svg-named tag.Table e = absurd cc
svg-named tag.Tbody e = absurd cc
svg-named tag.Td e = absurd cc
svg-named tag.Template e = absurd cc
svg-named tag.Textarea e = absurd cc
svg-named tag.Tfoot e = absurd cc
svg-named tag.Th e = absurd cc
svg-named tag.Thead e = absurd cc
svg-named tag.Title e = absurd cc
svg-named tag.Tr e = absurd cc
svg-named tag.Track e = absurd cc
svg-named tag.Tt e = absurd cc
svg-named tag.U e = absurd cc
svg-named tag.Ul e = absurd cc
svg-named tag.Wbr e = absurd cc
svg-named tag.Xmp e = absurd cc
svg-named tag.Other e = absurd cc
svg-named tag.SvgDesc e = refl
svg-named tag.SvgForeignObject e = refl
svg-named tag.SvgTitle e = refl
svg-named tag.SvgOther e = refl
svg-named tag.MathAnnotationXml e = absurd cc
svg-named tag.MathMi e = absurd cc
svg-named tag.MathMn e = absurd cc
svg-named tag.MathMo e = absurd cc
svg-named tag.MathMs e = absurd cc
svg-named tag.MathMtext e = absurd cc
svg-named tag.MathOther e = absurd cc

math-named : (t : Tag) → begins_with math_prefix (name_of t) ≡ true → space_of t ≡ space.Math
math-named tag.A e = absurd cc
math-named tag.Address e = absurd cc
math-named tag.Applet e = absurd cc
math-named tag.Area e = absurd cc
math-named tag.Article e = absurd cc
math-named tag.Aside e = absurd cc
math-named tag.B e = absurd cc
math-named tag.Base e = absurd cc
math-named tag.Basefont e = absurd cc
math-named tag.Bgsound e = absurd cc
math-named tag.Big e = absurd cc
math-named tag.Blockquote e = absurd cc
math-named tag.Body e = absurd cc
math-named tag.Br e = absurd cc
math-named tag.Button e = absurd cc
math-named tag.Caption e = absurd cc
math-named tag.Center e = absurd cc
math-named tag.Code e = absurd cc
math-named tag.Col e = absurd cc
math-named tag.Colgroup e = absurd cc
math-named tag.Dd e = absurd cc
math-named tag.Details e = absurd cc
math-named tag.Dialog e = absurd cc
math-named tag.Dir e = absurd cc
math-named tag.Div e = absurd cc
math-named tag.Dl e = absurd cc
math-named tag.Dt e = absurd cc
math-named tag.Em e = absurd cc
math-named tag.Embed e = absurd cc
math-named tag.Fieldset e = absurd cc
math-named tag.Figcaption e = absurd cc
math-named tag.Figure e = absurd cc
math-named tag.Font e = absurd cc
math-named tag.Footer e = absurd cc
math-named tag.Form e = absurd cc
math-named tag.Frame e = absurd cc
math-named tag.Frameset e = absurd cc
math-named tag.H1 e = absurd cc
math-named tag.H2 e = absurd cc
math-named tag.H3 e = absurd cc
math-named tag.H4 e = absurd cc
math-named tag.H5 e = absurd cc
math-named tag.H6 e = absurd cc
math-named tag.Head e = absurd cc
math-named tag.Header e = absurd cc
math-named tag.Hgroup e = absurd cc
math-named tag.Hr e = absurd cc
math-named tag.Html e = absurd cc
math-named tag.I e = absurd cc
math-named tag.Iframe e = absurd cc
math-named tag.Image e = absurd cc
math-named tag.Img e = absurd cc
math-named tag.Input e = absurd cc
math-named tag.Keygen e = absurd cc
math-named tag.Li e = absurd cc
math-named tag.Link e = absurd cc
math-named tag.Listing e = absurd cc
math-named tag.Main e = absurd cc
math-named tag.Marquee e = absurd cc
math-named tag.Math e = absurd cc
math-named tag.Menu e = absurd cc
math-named tag.Meta e = absurd cc
math-named tag.Nav e = absurd cc
math-named tag.Nobr e = absurd cc
math-named tag.Noembed e = absurd cc
math-named tag.Noframes e = absurd cc
math-named tag.Noscript e = absurd cc
math-named tag.Object e = absurd cc
math-named tag.Ol e = absurd cc
math-named tag.Optgroup e = absurd cc
math-named tag.Option e = absurd cc
math-named tag.P e = absurd cc
math-named tag.Param e = absurd cc
math-named tag.Plaintext e = absurd cc
math-named tag.Pre e = absurd cc
math-named tag.Rb e = absurd cc
math-named tag.Rp e = absurd cc
math-named tag.Rt e = absurd cc
math-named tag.Rtc e = absurd cc
math-named tag.Ruby e = absurd cc
math-named tag.S e = absurd cc
math-named tag.Script e = absurd cc
math-named tag.Search e = absurd cc
math-named tag.Section e = absurd cc
math-named tag.Select e = absurd cc
math-named tag.Small e = absurd cc
math-named tag.Source e = absurd cc
math-named tag.Strike e = absurd cc
math-named tag.Strong e = absurd cc
math-named tag.Style e = absurd cc
math-named tag.Summary e = absurd cc
math-named tag.Svg e = absurd cc
math-named tag.Table e = absurd cc
math-named tag.Tbody e = absurd cc
math-named tag.Td e = absurd cc
math-named tag.Template e = absurd cc
math-named tag.Textarea e = absurd cc
math-named tag.Tfoot e = absurd cc
math-named tag.Th e = absurd cc
math-named tag.Thead e = absurd cc
math-named tag.Title e = absurd cc
math-named tag.Tr e = absurd cc
math-named tag.Track e = absurd cc
math-named tag.Tt e = absurd cc
math-named tag.U e = absurd cc
math-named tag.Ul e = absurd cc
math-named tag.Wbr e = absurd cc
math-named tag.Xmp e = absurd cc
math-named tag.Other e = absurd cc
math-named tag.SvgDesc e = absurd cc
math-named tag.SvgForeignObject e = absurd cc
math-named tag.SvgTitle e = absurd cc
math-named tag.SvgOther e = absurd cc
math-named tag.MathAnnotationXml e = refl
math-named tag.MathMi e = refl
math-named tag.MathMn e = refl
math-named tag.MathMo e = refl
math-named tag.MathMs e = refl
math-named tag.MathMtext e = refl
math-named tag.MathOther e = refl

svg-known : (name : List ℕ) → begins_with svg_prefix name ≡ true → is_known (known_tag name) ≡ true → space_of (known_tag name) ≡ space.Svg
svg-known name b k = svg-named (known_tag name) (ap (begins_with svg_prefix) (sym (known_tag-known name k)) ∙ b)

math-known : (name : List ℕ) → begins_with math_prefix name ≡ true → is_known (known_tag name) ≡ true → space_of (known_tag name) ≡ space.Math
math-known name b k = math-named (known_tag name) (ap (begins_with math_prefix) (sym (known_tag-known name k)) ∙ b)

svg-unknown : (name : List ℕ) → begins_with svg_prefix name ≡ true → space_of (unknown_tag name) ≡ space.Svg
svg-unknown name b = rw b refl

math-unknown : (rest : List ℕ) → space_of (unknown_tag (math_prefix ++ rest)) ≡ space.Math
math-unknown rest = refl

svg-name : (name : List ℕ) → begins_with svg_prefix name ≡ true → space_of (tag_of name) ≡ space.Svg
svg-name name b = elim (cases_bool (is_known (known_tag name))) [
  | inl k ↦ ap space_of (of_known name k) ∙ svg-known name b k
  | inr k ↦ ap space_of (of_unknown name k) ∙ svg-unknown name b
]

math-name : (rest : List ℕ) → space_of (tag_of (math_prefix ++ rest)) ≡ space.Math
math-name rest = elim (cases_bool (is_known (known_tag (math_prefix ++ rest)))) [
  | inl k ↦ ap space_of (of_known (math_prefix ++ rest) k) ∙ math-known (math_prefix ++ rest) (begins math_prefix rest) k
  | inr k ↦ ap space_of (of_unknown (math_prefix ++ rest) k) ∙ math-unknown rest
]

pub space-of_prefixed : (s : Space) (rest : List ℕ) → is_html_space s ≡ false → space_of (tag_of (prefix_of s ++ rest)) ≡ s
space-of_prefixed space.Html rest h = apart h
space-of_prefixed space.Svg rest h = svg-name (svg_prefix ++ rest) (begins svg_prefix rest)
space-of_prefixed space.Math rest h = math-name rest
