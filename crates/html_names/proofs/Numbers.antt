-- A tag has a number of its own.
use Rattle.std.proofs.Common.{◌≡◌, ℕ, List, [], ◌∷◌, get_or, refl, sym, ◌∙◌, ap}
use Rattle.html_names.specs.declared.tag.Tag.{Tag}
use Rattle.html_names.specs.declared.tag.Tag.TheVariants as tag
use Rattle.html_names.specs.Tags.{number}

abbrev all_tags : List Tag
all_tags = tag.A ∷ tag.Address ∷ tag.Applet ∷ tag.Area ∷ tag.Article ∷ tag.Aside ∷ tag.B ∷ tag.Base ∷ tag.Basefont ∷ tag.Bgsound ∷ tag.Big ∷ tag.Blockquote ∷ tag.Body ∷ tag.Br ∷ tag.Button ∷ tag.Caption ∷ tag.Center ∷ tag.Code ∷ tag.Col ∷ tag.Colgroup ∷ tag.Dd ∷ tag.Details ∷ tag.Dialog ∷ tag.Dir ∷ tag.Div ∷ tag.Dl ∷ tag.Dt ∷ tag.Em ∷ tag.Embed ∷ tag.Fieldset ∷ tag.Figcaption ∷ tag.Figure ∷ tag.Font ∷ tag.Footer ∷ tag.Form ∷ tag.Frame ∷ tag.Frameset ∷ tag.H1 ∷ tag.H2 ∷ tag.H3 ∷ tag.H4 ∷ tag.H5 ∷ tag.H6 ∷ tag.Head ∷ tag.Header ∷ tag.Hgroup ∷ tag.Hr ∷ tag.Html ∷ tag.I ∷ tag.Iframe ∷ tag.Image ∷ tag.Img ∷ tag.Input ∷ tag.Keygen ∷ tag.Li ∷ tag.Link ∷ tag.Listing ∷ tag.Main ∷ tag.Marquee ∷ tag.Math ∷ tag.Menu ∷ tag.Meta ∷ tag.Nav ∷ tag.Nobr ∷ tag.Noembed ∷ tag.Noframes ∷ tag.Noscript ∷ tag.Object ∷ tag.Ol ∷ tag.Optgroup ∷ tag.Option ∷ tag.P ∷ tag.Param ∷ tag.Plaintext ∷ tag.Pre ∷ tag.Rb ∷ tag.Rp ∷ tag.Rt ∷ tag.Rtc ∷ tag.Ruby ∷ tag.S ∷ tag.Script ∷ tag.Search ∷ tag.Section ∷ tag.Select ∷ tag.Small ∷ tag.Source ∷ tag.Strike ∷ tag.Strong ∷ tag.Style ∷ tag.Summary ∷ tag.Svg ∷ tag.Table ∷ tag.Tbody ∷ tag.Td ∷ tag.Template ∷ tag.Textarea ∷ tag.Tfoot ∷ tag.Th ∷ tag.Thead ∷ tag.Title ∷ tag.Tr ∷ tag.Track ∷ tag.Tt ∷ tag.U ∷ tag.Ul ∷ tag.Wbr ∷ tag.Xmp ∷ tag.Other ∷ tag.SvgDesc ∷ tag.SvgForeignObject ∷ tag.SvgTitle ∷ tag.SvgOther ∷ tag.MathAnnotationXml ∷ tag.MathMi ∷ tag.MathMn ∷ tag.MathMo ∷ tag.MathMs ∷ tag.MathMtext ∷ tag.MathOther ∷ []

abbrev tag_at : ℕ → Tag
tag_at n = get_or all_tags n tag.Other

tag_at-number : (t : Tag) → tag_at (number t) ≡ t
tag_at-number tag.A = refl
tag_at-number tag.Address = refl
tag_at-number tag.Applet = refl
tag_at-number tag.Area = refl
tag_at-number tag.Article = refl
tag_at-number tag.Aside = refl
tag_at-number tag.B = refl
tag_at-number tag.Base = refl
tag_at-number tag.Basefont = refl
tag_at-number tag.Bgsound = refl
tag_at-number tag.Big = refl
tag_at-number tag.Blockquote = refl
tag_at-number tag.Body = refl
tag_at-number tag.Br = refl
tag_at-number tag.Button = refl
tag_at-number tag.Caption = refl
tag_at-number tag.Center = refl
tag_at-number tag.Code = refl
tag_at-number tag.Col = refl
tag_at-number tag.Colgroup = refl
tag_at-number tag.Dd = refl
tag_at-number tag.Details = refl
tag_at-number tag.Dialog = refl
tag_at-number tag.Dir = refl
tag_at-number tag.Div = refl
tag_at-number tag.Dl = refl
tag_at-number tag.Dt = refl
tag_at-number tag.Em = refl
tag_at-number tag.Embed = refl
tag_at-number tag.Fieldset = refl
tag_at-number tag.Figcaption = refl
tag_at-number tag.Figure = refl
tag_at-number tag.Font = refl
tag_at-number tag.Footer = refl
tag_at-number tag.Form = refl
tag_at-number tag.Frame = refl
tag_at-number tag.Frameset = refl
tag_at-number tag.H1 = refl
tag_at-number tag.H2 = refl
tag_at-number tag.H3 = refl
tag_at-number tag.H4 = refl
tag_at-number tag.H5 = refl
tag_at-number tag.H6 = refl
tag_at-number tag.Head = refl
tag_at-number tag.Header = refl
tag_at-number tag.Hgroup = refl
tag_at-number tag.Hr = refl
tag_at-number tag.Html = refl
tag_at-number tag.I = refl
tag_at-number tag.Iframe = refl
tag_at-number tag.Image = refl
tag_at-number tag.Img = refl
tag_at-number tag.Input = refl
tag_at-number tag.Keygen = refl
tag_at-number tag.Li = refl
tag_at-number tag.Link = refl
tag_at-number tag.Listing = refl
tag_at-number tag.Main = refl
tag_at-number tag.Marquee = refl
tag_at-number tag.Math = refl
tag_at-number tag.Menu = refl
tag_at-number tag.Meta = refl
tag_at-number tag.Nav = refl
tag_at-number tag.Nobr = refl
tag_at-number tag.Noembed = refl
tag_at-number tag.Noframes = refl
tag_at-number tag.Noscript = refl
tag_at-number tag.Object = refl
tag_at-number tag.Ol = refl
tag_at-number tag.Optgroup = refl
tag_at-number tag.Option = refl
tag_at-number tag.P = refl
tag_at-number tag.Param = refl
tag_at-number tag.Plaintext = refl
tag_at-number tag.Pre = refl
tag_at-number tag.Rb = refl
tag_at-number tag.Rp = refl
tag_at-number tag.Rt = refl
tag_at-number tag.Rtc = refl
tag_at-number tag.Ruby = refl
tag_at-number tag.S = refl
tag_at-number tag.Script = refl
tag_at-number tag.Search = refl
tag_at-number tag.Section = refl
tag_at-number tag.Select = refl
tag_at-number tag.Small = refl
tag_at-number tag.Source = refl
tag_at-number tag.Strike = refl
tag_at-number tag.Strong = refl
tag_at-number tag.Style = refl
tag_at-number tag.Summary = refl
tag_at-number tag.Svg = refl
tag_at-number tag.Table = refl
tag_at-number tag.Tbody = refl
tag_at-number tag.Td = refl
tag_at-number tag.Template = refl
tag_at-number tag.Textarea = refl
tag_at-number tag.Tfoot = refl
tag_at-number tag.Th = refl
tag_at-number tag.Thead = refl
tag_at-number tag.Title = refl
tag_at-number tag.Tr = refl
tag_at-number tag.Track = refl
tag_at-number tag.Tt = refl
tag_at-number tag.U = refl
tag_at-number tag.Ul = refl
tag_at-number tag.Wbr = refl
tag_at-number tag.Xmp = refl
tag_at-number tag.Other = refl
tag_at-number tag.SvgDesc = refl
tag_at-number tag.SvgForeignObject = refl
tag_at-number tag.SvgTitle = refl
tag_at-number tag.SvgOther = refl
tag_at-number tag.MathAnnotationXml = refl
tag_at-number tag.MathMi = refl
tag_at-number tag.MathMn = refl
tag_at-number tag.MathMo = refl
tag_at-number tag.MathMs = refl
tag_at-number tag.MathMtext = refl
tag_at-number tag.MathOther = refl

pub number_injective : (a b : Tag) → number a ≡ number b → a ≡ b
number_injective a b e = sym (tag_at-number a) ∙ ap tag_at e ∙ tag_at-number b
